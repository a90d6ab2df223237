-- `locate_plain` leads p to a number, which refuses the call (`plain-refused`), or to a block. Where fewer bytes are left in it than the width the call is
-- refused (`short-refused`), and else they lie in the arena (`room`), and their number is the answer (`read_done`).
use Rattle.std.proofs.Common.{refl, arith, rules}
use Rattle.heap.specs.Rules.{argument_rules, state_rules}
use Rattle.heap.specs.declared.Call.TheVariants.{Read}
use Rattle.heap.proofs.Accesses.{Led, plain-refused, led, left-asks, at_base, room, narrow, short-refused, read_done}
use Rattle.heap.proofs.unchecked.read.Goals as goal
use Rattle.heap.proofs.unchecked.read.Goals.{In_ok-block}

-- where p leads to a block
module _ (c : In_ok-block) where
  home : let a = c.args in Led a.t a.m (Read a.p a.w) a.arena.now a.table.now a.p c.in_ok-block.block.start c.in_ok-block.block.order
  home = led c.requires _ c.in_ok-block.ensures

pub returns-in_err-block : goal.returns-in_err-block
unfolding state_rules
returns-in_err-block c =
    let h = plain-refused c.requires c.args.p _ refl c.in_err-block.ensures in
    search rules

pub left_in-requires : goal.left_in-requires
left_in-requires c = left-asks (home (goal.at.left_in-requires c).In_ok-block)

pub returns-then-left_in-width : goal.returns-then-left_in-width
unfolding state_rules
returns-then-left_in-width c = short-refused (home (goal.at.returns-then-left_in-width c).In_ok-block) c.args.w _ refl (omega arith)

pub offset-requires : goal.offset-requires
offset-requires c = at_base (home (goal.at.offset-requires c).In_ok-block)

pub read_number-requires : goal.read_number-requires
unfolding argument_rules
read_number-requires c =
    let fits = room (home (goal.at.read_number-requires c).In_ok-block) c.offset.ensures c.args.w (omega arith) in
    rw c.from.ensures (narrow c.requires _ refl, fits)

pub returns : goal.returns
returns c = read_done c.offset.ensures (omega arith) (home (goal.at.returns c).In_ok-block) (rw c.from.ensures at c.read_number.ensures)
