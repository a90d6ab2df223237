-- A good record lies in the file, and has an operation.
use Rattle.std.proofs.Common.{arith, sym, ◌∙◌}
use Rattle.takes.proofs.Operations.{known-numbers}
use Rattle.takes.proofs.Readings.{good-fits, good-known}
use Rattle.runner.proofs.issuing.issue.Goals as goal

pub bounds-accepted-accepted : goal.bounds-accepted-accepted
bounds-accepted-accepted c = omega (arith, good-fits c.args.accepted.now.file.now c.args.accepted.now.at c.args.accepted.now.good)

pub known-operation-requires : goal.known-operation-requires
known-operation-requires c = sym (known-numbers _) ∙ good-known c.args.accepted.now.file.now c.args.accepted.now.at c.args.accepted.now.good
