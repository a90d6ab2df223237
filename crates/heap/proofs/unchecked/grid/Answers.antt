-- `locate_plain` leads p to a number, which refuses the call (`plain-refused`), or to a block. Where fewer bytes are left in it than the grid has the call is
-- refused (`short-refused`), and else the sum is the answer (`grid-done`).
use Rattle.std.proofs.Common.{◌≡◌, ◌*◌, refl, arith, rules}
use Rattle.heap.specs.Rules.{state_rules}
use Rattle.heap.specs.declared.Call.TheVariants.{Grid}
use Rattle.heap.proofs.Accesses.{Led, plain-refused, led, left-asks, short-refused, grid-done}
use Rattle.heap.proofs.unchecked.grid.Goals as goal
use Rattle.heap.proofs.unchecked.grid.Goals.{In_ok-block}

-- where p leads to a block
module _ (c : In_ok-block) where
  home : let a = c.args in
      Led a.t a.m (Grid a.p a.rows a.columns a.row a.column) a.arena.now a.table.now a.p c.in_ok-block.block.start c.in_ok-block.block.order
  home = led c.requires _ c.in_ok-block.ensures

pub returns-in_err-block : goal.returns-in_err-block
unfolding state_rules
returns-in_err-block c =
    let h = plain-refused c.requires c.args.p _ refl c.in_err-block.ensures in
    search rules

pub left_in-requires : goal.left_in-requires
left_in-requires c = left-asks (home c)

pub returns-then-left_in-from : goal.returns-then-left_in-from
unfolding state_rules
returns-then-left_in-from c =
    let a = c.args in
    let size : c.from.result * c.from-2.result ≡ a.rows * a.columns = rw (c.from.ensures, c.from-2.ensures) in
    short-refused (home (goal.at.returns-then-left_in-from c).In_ok-block) (a.rows * a.columns) _ refl (omega arith)

pub returns : goal.returns
returns c =
    let a = c.args in
    let size : c.from.result * c.from-2.result ≡ a.rows * a.columns = rw (c.from.ensures, c.from-2.ensures) in
    rw (c.from-3.ensures, c.from-4.ensures, c.from-5.ensures) (grid-done (omega arith) (home (goal.at.returns c).In_ok-block))
