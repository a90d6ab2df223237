-- The arguments refuse the call (`argument-refused`), or they make it ready: what is left is `read`.
use Rattle.std.proofs.Common.{rules}
use Rattle.common.proofs.Numbers.{some-number}
use Rattle.heap.proofs.Judging.{argument-refused}
use Rattle.heap.proofs.unchecked.any_read.Goals as goal

pub returns-in_err-arguments : goal.returns-in_err-arguments
returns-in_err-arguments c =
    let h = argument-refused _ c.requires c.in_err-arguments.ensures (some-number _) in
    search rules
