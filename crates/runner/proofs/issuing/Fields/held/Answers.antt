-- The registers are the first of the fields, a byte for each, so they lie among them.
use Rattle.std.proofs.Common.{arith}
use Rattle.takes.proofs.Rows.{registers-inside}
use Rattle.runner.proofs.issuing.Fields.held.Goals as goal

pub overflow_add-self : goal.overflow_add-self
overflow_add-self c = omega (arith, registers-inside, c.args.self.now.inside)

pub bounds-self-self : goal.bounds-self-self
bounds-self-self c = omega (arith, registers-inside, c.args.self.now.inside)
