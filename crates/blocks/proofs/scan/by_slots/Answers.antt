use Rattle.std.proofs.Common.{rules, ◌≡◌, ℕ, ◌+◌, ◌%◌, ◌≤◌, false, get_or, sym, ◌∙◌, arith, below_more}
use Rattle.blocks.specs.Tables.{entry_order}
use Rattle.blocks.specs.Inner.{single}
use Rattle.blocks.proofs.Tables.{undamaged}
use Rattle.blocks.proofs.Rows.{not_free, not-slot, single-good, below_both}
use Rattle.blocks.proofs.Scanning.{Read, order-damaged, first_of, last_in, pairs, other-damaged, alike-good}
use Rattle.blocks.proofs.scan.by_slots.Goals as goal
use Rattle.blocks.proofs.scan.by_slots.Goals.{After-slots_of-slots}

module _ (c : After-slots_of-slots) where
  not-single : single c.args.t (get_or c.args.table.now c.loop-i.i 0) ≡ false
  not-single = sym c.is_single.ensures ∙ c.if-is_single.false

  read : Read c.args.t c.args.m c.args.table.now c.loop-i.i c.order_in-e.result c.slots_of-slots.result
  read = record {
    slots = c.requires.3;
    here = c.loop-i-test.true;
    says = sym c.order_in-e.ensures;
    taken = not_free c.args.t _ not-single;
    low = search rules;
    high = search rules;
    size = c.slots_of-slots.ensures;
  }

  even : c.slots_of-slots.result % 2 ≡ 0
  even =
      let other : entry_order (get_or c.args.table.now c.loop-i.i 0) ≡ c.args.t → ⊥ = not-slot _ _ not-single in
      let low = read.low in
      pairs read (omega (arith, read.says))

pub loop-i-preserved-then-is_single : goal.loop-i-preserved-then-is_single
loop-i-preserved-then-is_single c =
    let one = single-good c.args.t c.args.m c.args.table.now c.loop-i.i (omega arith) (sym c.is_single.ensures ∙ c.if-is_single.true) in
    record { in_range = omega arith; good = below_more _ _ c.loop-i.invariant.good one }

pub bounds-table-k : goal.bounds-table-k
bounds-table-k c = omega (arith, last_in (read (goal.at.bounds-table-k c).After-slots_of-slots))

pub bounds-table-k-in-loop-k : goal.bounds-table-k-in-loop-k
bounds-table-k-in-loop-k c =
    let r = read (goal.at.bounds-table-k-in-loop-k c).After-slots_of-slots in
    omega (arith, last_in r, even (goal.at.bounds-table-k-in-loop-k c).After-slots_of-slots)

pub loop-k-preserved : goal.loop-k-preserved
loop-k-preserved c =
    let ends = even (goal.at.loop-k-preserved c).After-slots_of-slots in
    let Same : ℕ → Type 0 = λ j. first_of c.loop-i.i c.slots_of-slots.result ≤ j → get_or c.args.table.now j 0 ≡ get_or c.args.table.now c.loop-i.i 0 in
    let one = below_more Same c.loop-k.k c.loop-k.invariant.same (λ _. c.if-table-k.false) in
    let two = below_more Same (c.loop-k.k + 1) one (λ _. c.if-table-k-2.false) in
    record { in_range = omega arith; pairs = omega (arith, c.loop-k.invariant.pairs); same = λ j h. two j (omega arith) }

pub loop-i-preserved : goal.loop-i-preserved
loop-i-preserved c =
    let r = read (goal.at.loop-i-preserved c).After-slots_of-slots in
    record {
      in_range = last_in r;
      good = below_both _ c.loop-i.i _ c.loop-i.invariant.good (alike-good r (λ j h. c.loop-k.invariant.same j (omega arith)));
    }

pub returns-then-not-contains : goal.returns-then-not-contains
returns-then-not-contains c =
    let taken = not_free c.args.t _ (sym c.is_single.ensures ∙ c.if-is_single.false) in
    order-damaged _ _ c.args.table.now c.loop-i.i _ c.loop-i-test.true (sym c.order_in-e.ensures) taken (search rules)

pub returns-then-table-k : goal.returns-then-table-k
returns-then-table-k c =
    let r = read (goal.at.returns-then-table-k c).After-slots_of-slots in
    other-damaged r c.loop-k.k (omega arith) (omega arith) c.if-table-k.true

pub returns-then-table-k-2 : goal.returns-then-table-k-2
returns-then-table-k-2 c =
    let r = read (goal.at.returns-then-table-k-2 c).After-slots_of-slots in
    other-damaged r (c.loop-k.k + 1) (omega arith) (omega (arith, even (goal.at.returns-then-table-k-2 c).After-slots_of-slots)) c.if-table-k-2.true

pub returns-after-loop-i : goal.returns-after-loop-i
returns-after-loop-i c = sym (undamaged _ _ _ (λ j l. c.loop-i.invariant.good j (omega arith)))
