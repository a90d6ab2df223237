-- `locate_plain` leads p to a number, which refuses the call (`plain-refused`), or to a block. Where p is not the block's start the call is refused
-- (`give-inside`), where the block is locked too (`locked-refused`), and else its entries lie in the table (`block-slots`) and become 0 (`give-done`).
use Rattle.std.proofs.Common.{◌≡◌, ℕ, ◌-◌, sym, refl, ap, ◌∙◌, rules}
use Rattle.blocks.specs.Blocks.{base}
use Rattle.blocks.specs.Tables.{locked_in}
use Rattle.heap.specs.Rules.{state_rules}
use Rattle.heap.specs.declared.Call.TheVariants.{Give}
use Rattle.heap.proofs.Accesses.{Led, plain-refused, led, at_base, locked-refused}
use Rattle.heap.proofs.Placing.{block-slots, give-inside, give-last, give-done}
use Rattle.heap.proofs.unchecked.give.Goals as goal
use Rattle.heap.proofs.unchecked.give.Goals.{After-is_locked, In_ok-block}

-- where p leads to a block
module _ (c : In_ok-block) where
  home : let a = c.args in Led a.t a.m (Give a.p) a.arena.now a.table.now a.p c.in_ok-block.block.start c.in_ok-block.block.order
  home = led c.requires _ c.in_ok-block.ensures

-- once p is known to be the block's start, and the lock is asked for
lock-of : (c : After-is_locked) → let a = c.args in c.is_locked.result ≡ locked_in a.t a.table.now a.p
lock-of c = let a = c.args in c.is_locked.ensures ∙ ap (locked_in a.t a.table.now) c.if-block-p.false

pub returns-in_err-block : goal.returns-in_err-block
unfolding state_rules
returns-in_err-block c =
    let h = plain-refused c.requires c.args.p _ refl c.in_err-block.ensures in
    search rules

pub returns-then-block-p : goal.returns-then-block-p
returns-then-block-p c = give-inside (home (goal.at.returns-then-block-p c).In_ok-block) c.if-block-p.true

pub returns-then-is_locked : goal.returns-then-is_locked
returns-then-is_locked c =
    let h = home (goal.at.returns-then-is_locked c).In_ok-block in
    let lock = lock-of (goal.at.returns-then-is_locked c).After-is_locked in
    locked-refused h (give-last h c.if-block-p.false) (sym lock ∙ c.if-is_locked.true)

pub offset-requires : goal.offset-requires
offset-requires c = at_base (home (goal.at.offset-requires c).In_ok-block)

pub slots_of-requires : goal.slots_of-requires
slots_of-requires c = let w = (home (goal.at.slots_of-requires c).In_ok-block).within in (w.aligned.low, w.order)

pub fill-requires : goal.fill-requires
fill-requires c =
    let same = ap (λ (x : ℕ). x - base) (sym c.if-block-p.false) in
    block-slots (home (goal.at.fill-requires c).In_ok-block) (c.offset.ensures ∙ same) c.slots_of.ensures

pub returns : goal.returns
returns c =
    let free = sym (lock-of (goal.at.returns c).After-is_locked) ∙ c.if-is_locked.false in
    give-done (home (goal.at.returns c).In_ok-block) c.if-block-p.false free c.offset.ensures c.slots_of.ensures c.fill.ensures
