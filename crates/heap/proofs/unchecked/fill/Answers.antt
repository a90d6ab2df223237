-- `locate_plain` leads p to a number, which refuses the call (`plain-refused`), or to a block. Where it is locked the call is refused (`locked-refused`), and
-- else the bytes that are filled are left in it, so they lie in the arena (`room`), and what is stored and answered is the call's outcome (`fill_done`).
use Rattle.std.proofs.Common.{sym, refl, ◌∙◌, arith, rules}
use Rattle.heap.specs.Rules.{state_rules}
use Rattle.heap.specs.declared.Call.TheVariants.{Fill}
use Rattle.heap.proofs.Accesses.{Led, plain-refused, led, left-asks, at_base, room, locked-refused, fill-last, fill_done}
use Rattle.heap.proofs.unchecked.fill.Goals as goal
use Rattle.heap.proofs.unchecked.fill.Goals.{In_ok-block}

-- where p leads to a block
module _ (c : In_ok-block) where
  home : let a = c.args in Led a.t a.m (Fill a.p a.v a.n) a.arena.now a.table.now a.p c.in_ok-block.block.start c.in_ok-block.block.order
  home = led c.requires _ c.in_ok-block.ensures

pub returns-in_err-block : goal.returns-in_err-block
unfolding state_rules
returns-in_err-block c =
    let h = plain-refused c.requires c.args.p _ refl c.in_err-block.ensures in
    search rules

pub returns-then-is_locked : goal.returns-then-is_locked
returns-then-is_locked c =
    let h = home (goal.at.returns-then-is_locked c).In_ok-block in locked-refused h (fill-last h) (sym c.is_locked.ensures ∙ c.if-is_locked.true)

pub left_in-requires : goal.left_in-requires
left_in-requires c = left-asks (home (goal.at.left_in-requires c).In_ok-block)

pub offset-requires : goal.offset-requires
offset-requires c = at_base (home (goal.at.offset-requires c).In_ok-block)

pub fill-requires : goal.fill-requires
fill-requires c = room (home (goal.at.fill-requires c).In_ok-block) c.offset.ensures c.min-count.result (omega arith)

pub returns : goal.returns
returns c =
    fill_done (home (goal.at.returns c).In_ok-block) (sym c.is_locked.ensures ∙ c.if-is_locked.false) c.left_in.ensures c.min-count.ensures c.offset.ensures
    c.fill.ensures
