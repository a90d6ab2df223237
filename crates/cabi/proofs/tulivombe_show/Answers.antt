-- By what left answers for the same p: refused, the part is empty; accepted, it starts at p, which lies above the base (`shown-inside`), with left's length.
use Rattle.std.proofs.Common.{Ok, Err, refl, arith}
use Rattle.heap.specs.Answers.{answer_of}
use Rattle.heap.proofs.Showing.{shown-inside}
use Rattle.common.proofs.Numbers.{some-number}
use Rattle.cabi.proofs.Parts.{refused-part, accepted-part}
use Rattle.cabi.proofs.tulivombe_show.Goals as goal

pub overflow_sub-result : goal.overflow_sub-result
overflow_sub-result c =
    let a = c.args in omega (arith, (shown-inside a.p a.arena.now a.table.now (answer_of (Ok c.in-Ok.length)) c.in-Ok.ensures refl).0)

pub returns-in-Ok : goal.returns-in-Ok
returns-in-Ok c = let a = c.args in accepted-part a.p a.arena.now a.table.now (answer_of (Ok c.in-Ok.length)) c.in-Ok.ensures refl

pub returns-in-Err : goal.returns-in-Err
returns-in-Err c =
    let a = c.args in
    rw c.from.ensures (refused-part a.p a.arena.now a.table.now (answer_of (Err c.in-Err.reason)) c.in-Err.ensures (some-number c.in-Err.reason))
