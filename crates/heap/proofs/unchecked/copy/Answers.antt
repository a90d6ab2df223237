-- Where `locate_plain` finds no block for one of the two pointers, the greater number refuses the call (`both-refused`). Where the first one's block is locked
-- it is refused too (`locked-refused`). Else as many bytes as the lesser part holds lie in the arena at either place (`room`), and what is stored and answered
-- is the call's outcome (`copy_done`).
use Rattle.std.proofs.Common.{sym, ◌∙◌, arith}
use Rattle.heap.specs.declared.Call.TheVariants.{Copy}
use Rattle.common.proofs.Numbers.{some-number}
use Rattle.heap.proofs.Accesses.{Led, led, left-asks, at_base, room, locked-refused, both-refused, copy-last, copy_done}
use Rattle.heap.proofs.unchecked.copy.Goals as goal
use Rattle.heap.proofs.unchecked.copy.Goals.{In-Ok-Ok}

-- where both lead to a block
module _ (c : In-Ok-Ok) where
  to-target : let a = c.args in Led a.t a.m (Copy a.to a.from a.n) a.arena.now a.table.now a.to c.in-Ok-Ok.target.start c.in-Ok-Ok.target.order
  to-target = led c.requires _ c.in-Ok-Ok.ensures

  to-source : let a = c.args in Led a.t a.m (Copy a.to a.from a.n) a.arena.now a.table.now a.from c.in-Ok-Ok.source.start c.in-Ok-Ok.source.order
  to-source = led c.requires _ c.in-Ok-Ok.ensures'

pub returns-in-Err-Err : goal.returns-in-Err-Err
returns-in-Err-Err c =
    both-refused c.requires (rw (← c.in-Err-Err.ensures, ← c.in-Err-Err.ensures') c.first_judged.ensures) (some-number _)

pub returns-in-Err-Ok : goal.returns-in-Err-Ok
returns-in-Err-Ok c = both-refused c.requires (rw (← c.in-Err-Ok.ensures, ← c.in-Err-Ok.ensures') (omega arith)) (some-number _)

pub returns-in-Ok-Err : goal.returns-in-Ok-Err
returns-in-Ok-Err c = both-refused c.requires (rw (← c.in-Ok-Err.ensures, ← c.in-Ok-Err.ensures') (omega arith)) (some-number _)

pub returns-then-is_locked : goal.returns-then-is_locked
returns-then-is_locked c =
    let h = (goal.at.returns-then-is_locked c).In-Ok-Ok in
    locked-refused (to-target h) (copy-last c.requires (to-target h).found (to-source h).found) (sym c.is_locked.ensures ∙ c.if-is_locked.true)

pub left_in-requires : goal.left_in-requires
left_in-requires c = left-asks (to-target (goal.at.left_in-requires c).In-Ok-Ok)

pub left_in-requires-2 : goal.left_in-requires-2
left_in-requires-2 c = left-asks (to-source (goal.at.left_in-requires-2 c).In-Ok-Ok)

pub offset-requires : goal.offset-requires
offset-requires c = at_base (to-target (goal.at.offset-requires c).In-Ok-Ok)

pub offset-requires-2 : goal.offset-requires-2
offset-requires-2 c = at_base (to-source (goal.at.offset-requires-2 c).In-Ok-Ok)

pub copy-requires : goal.copy-requires
copy-requires c =
    let h = (goal.at.copy-requires c).In-Ok-Ok in
    (room (to-target h) c.offset.ensures c.min-count.result (omega arith), room (to-source h) c.offset-2.ensures c.min-count.result (omega arith))

pub returns : goal.returns
returns c =
    let h = (goal.at.returns c).In-Ok-Ok in
    copy_done (to-target h) (to-source h) (sym c.is_locked.ensures ∙ c.if-is_locked.false) (omega arith) c.offset.ensures c.offset-2.ensures c.copy.ensures
