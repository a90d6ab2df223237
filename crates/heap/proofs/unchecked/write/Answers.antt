-- `locate_plain` leads p to a number, which refuses the call (`plain-refused`), or to a block. Where fewer bytes are left in it than the width the call is
-- refused (`short-refused`), where it is locked too (`locked-refused`), and else they lie in the arena (`room`), and v is stored there (`write_done`).
use Rattle.std.proofs.Common.{sym, refl, ◌∙◌, arith, rules}
use Rattle.heap.specs.Rules.{argument_rules, state_rules}
use Rattle.heap.specs.declared.Call.TheVariants.{Write}
use Rattle.heap.proofs.Accesses.{Led, plain-refused, led, left-asks, at_base, room, narrow, short-refused, long-first, locked-refused, write_done}
use Rattle.heap.proofs.unchecked.write.Goals as goal
use Rattle.heap.proofs.unchecked.write.Goals.{In_ok-block}

-- where p leads to a block
module _ (c : In_ok-block) where
  home : let a = c.args in Led a.t a.m (Write a.p a.w a.v) a.arena.now a.table.now a.p c.in_ok-block.block.start c.in_ok-block.block.order
  home = led c.requires _ c.in_ok-block.ensures

pub returns-in_err-block : goal.returns-in_err-block
unfolding state_rules
returns-in_err-block c =
    let h = plain-refused c.requires c.args.p _ refl c.in_err-block.ensures in
    search rules

pub left_in-requires : goal.left_in-requires
left_in-requires c = left-asks (home (goal.at.left_in-requires c).In_ok-block)

pub returns-then-left_in-from : goal.returns-then-left_in-from
unfolding state_rules
returns-then-left_in-from c = short-refused (home (goal.at.returns-then-left_in-from c).In_ok-block) c.args.w _ refl (omega arith)

pub returns-then-is_locked : goal.returns-then-is_locked
unfolding state_rules
returns-then-is_locked c =
    let h = home (goal.at.returns-then-is_locked c).In_ok-block in
    locked-refused h (long-first h c.args.w _ refl (omega arith)) (sym c.is_locked.ensures ∙ c.if-is_locked.true)

pub offset-requires : goal.offset-requires
offset-requires c = at_base (home (goal.at.offset-requires c).In_ok-block)

pub write_number-requires : goal.write_number-requires
unfolding argument_rules
write_number-requires c =
    let fits = room (home (goal.at.write_number-requires c).In_ok-block) c.offset.ensures c.args.w (omega arith) in
    rw c.from-2.ensures (narrow c.requires _ refl, fits)

pub returns : goal.returns
returns c =
    write_done c.offset.ensures (omega arith) (home (goal.at.returns c).In_ok-block) (sym c.is_locked.ensures ∙ c.if-is_locked.false)
    (rw c.from-2.ensures at c.write_number.ensures)
