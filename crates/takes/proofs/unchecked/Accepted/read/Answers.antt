-- A good record lies in the file, and has an operation.
use native.Mathlib.Omega.{arith}
use Rattle.std.proofs.Common.{sym, ◌∙◌}
use Rattle.takes.proofs.Operations.{known-numbers}
use Rattle.takes.proofs.Readings.{good-fits, good-known}
use Rattle.takes.proofs.unchecked.Accepted.read.Goals as goal

pub bounds-self-self : goal.bounds-self-self
bounds-self-self c = omega (arith, good-fits c.args.self.now.file.now c.args.self.now.at c.args.self.now.good)

pub known-operation-requires : goal.known-operation-requires
known-operation-requires c = sym (known-numbers _) ∙ good-known c.args.self.now.file.now c.args.self.now.at c.args.self.now.good
