-- `locate_plain` leads p to a number, which refuses the call (`plain-refused`), or to a block, whose entries lie in the table (`block-slots`) and are stamped
-- anew (`lock-done`).
use Rattle.std.proofs.Common.{refl, rules}
use Rattle.heap.specs.Rules.{state_rules}
use Rattle.heap.specs.declared.Call.TheVariants.{SetLock}
use Rattle.heap.proofs.Accesses.{Led, plain-refused, led}
use Rattle.heap.proofs.Placing.{block-slots, lock-done}
use Rattle.heap.proofs.unchecked.set_lock.Goals as goal
use Rattle.heap.proofs.unchecked.set_lock.Goals.{In_ok-block}

-- where p leads to a block
module _ (c : In_ok-block) where
  home : let a = c.args in Led a.t a.m (SetLock a.p a.locked) a.arena.now a.table.now a.p c.in_ok-block.block.start c.in_ok-block.block.order
  home = led c.requires _ c.in_ok-block.ensures

pub returns-in_err-block : goal.returns-in_err-block
unfolding state_rules
returns-in_err-block c =
    let h = plain-refused c.requires c.args.p _ refl c.in_err-block.ensures in
    search rules

pub offset-requires : goal.offset-requires
offset-requires c = (home c).within.above

pub entry_of-entry-requires : goal.entry_of-entry-requires
entry_of-entry-requires c = (home (goal.at.entry_of-entry-requires c).In_ok-block).within.order

pub slots_of-requires : goal.slots_of-requires
slots_of-requires c = let w = (home (goal.at.slots_of-requires c).In_ok-block).within in (w.aligned.low, w.order)

pub fill-requires : goal.fill-requires
fill-requires c = block-slots (home (goal.at.fill-requires c).In_ok-block) c.offset.ensures c.slots_of.ensures

pub returns : goal.returns
returns c = lock-done (home (goal.at.returns c).In_ok-block) c.offset.ensures c.slots_of.ensures c.entry_of-entry.ensures c.fill.ensures
