-- `locate_plain` leads p to a number, which refuses the call (`plain-refused`), or to a block, of which `left_in` counts what is left (`left-done`).
use Rattle.std.proofs.Common.{refl, rules}
use Rattle.heap.specs.Rules.{state_rules}
use Rattle.heap.specs.declared.Call.TheVariants.{Left}
use Rattle.heap.proofs.Accesses.{Led, plain-refused, led, left-asks, left-done}
use Rattle.heap.proofs.unchecked.left.Goals as goal
use Rattle.heap.proofs.unchecked.left.Goals.{In_ok-block}

-- where p leads to a block
module _ (c : In_ok-block) where
  home : let a = c.args in Led a.t a.m (Left a.p) a.arena.now a.table.now a.p c.in_ok-block.block.start c.in_ok-block.block.order
  home = led c.requires _ c.in_ok-block.ensures

pub returns-in_err-block : goal.returns-in_err-block
unfolding state_rules
returns-in_err-block c =
    let h = plain-refused c.requires c.args.p _ refl c.in_err-block.ensures in
    search rules

pub left_in-requires : goal.left_in-requires
left_in-requires c = left-asks (home c)

pub returns : goal.returns
returns c = left-done (home (goal.at.returns c).In_ok-block) c.left_in.ensures
