use Rattle.std.proofs.Common.{rules, ◌≡◌, ℕ, ◌+◌, ◌-◌, ◌%◌, ◌<◌, ◌≤◌, Bool, true, false, eqb, List, length, get_or, take, drop, sym, refl, ap, ◌∙◌}
use Rattle.std.proofs.Common.{true≢false, add-zero, add-sub_of_le, arith, le-leb}
use borrow.Author.Tests.{lt-leb}
use Rattle.blocks.specs.Placing.{all_free}
use Rattle.blocks.specs.Inner.{has_entry}
use Rattle.blocks.specs.Tables.{entry_order, damaged_by}
use Rattle.blocks.proofs.Tables.{Good, order-taken, undamaged}
use Rattle.blocks.proofs.FreeRuns.{part_length, part-entry, run-of-part}
use Rattle.blocks.proofs.Rows.{run_at, row-good, row-undamaged, whole-rows, below_both}
use Rattle.blocks.proofs.Scanning.{Read, order-damaged, first_of, last_in, rows, first-rows, run-damaged, alike-good}
use Rattle.blocks.proofs.scan.by_rows.Goals as goal
use Rattle.blocks.proofs.scan.by_rows.Goals.{After-row_passes, After-slots_of-slots, Then-e-t}

-- where the blocks of a row lie in it: the row as a table
module _ (c : Then-e-t) where
  row_ends : c.loop-i.i + 16 ≤ length c.args.table.now
  row_ends = omega (arith, whole-rows (c.args.m - c.args.t) (omega arith), c.requires.3, c.loop-i.invariant.rows)

  abbrev row : List ℕ
  row = take (c.loop-i.i + 16 - c.loop-i.i) (drop c.loop-i.i c.args.table.now)

  sixteen : length row ≡ 16
  sixteen = part_length c.args.table.now c.loop-i.i 16 row_ends

  entry_at : (j : ℕ) → j < 16 → get_or row j 0 ≡ get_or c.args.table.now (c.loop-i.i + j) 0
  entry_at = part-entry c.args.table.now c.loop-i.i 16

  passed-row : damaged_by c.args.t (c.args.t + 4) row ≡ false → (j : ℕ) → c.loop-i.i ≤ j → j < c.loop-i.i + 16
      → Good c.args.t c.args.m c.args.table.now j
  passed-row d j lo hi =
      let good = row-good c.args.t c.args.m c.args.table.now row c.loop-i.i sixteen c.loop-i.invariant.rows entry_at c.requires.1 d in
      rw (add-sub_of_le lo) at (good (j - c.loop-i.i) (omega arith))

  found-damage : damaged_by c.args.t (c.args.t + 4) row ≡ true → true ≡ damaged_by c.args.t c.args.m c.args.table.now
  found-damage d = go (damaged_by c.args.t c.args.m c.args.table.now) refl
    where
      go : (b : Bool) → damaged_by c.args.t c.args.m c.args.table.now ≡ b → true ≡ b
      go true q = refl
      go false q =
          let at : get_or row 0 0 ≡ get_or c.args.table.now c.loop-i.i 0 = rw add-zero at (entry_at 0 (omega arith)) in
          let small = c.if-e-t.true in
          let first : entry_order (get_or row 0 0) ≤ c.args.t + 4 = omega (arith, ap entry_order at, c.order_in-e.ensures) in
          let u = row-undamaged c.args.t c.args.m c.args.table.now row c.loop-i.i sixteen c.loop-i.invariant.rows entry_at in
          absurd (true≢false (sym d ∙ u first row_ends q))

-- the entry of a larger block is not that of a free slot
large-taken : (t x e : ℕ) → e ≡ entry_order x → t + 4 < e → x ≡ 0 → ⊥
large-taken t x e says l = order-taken x (λ z. omega arith)

module _ (c : After-slots_of-slots) where
  read : Read c.args.t c.args.m c.args.table.now c.loop-i.i c.order_in-e.result c.slots_of-slots.result
  read = record {
    slots = c.requires.3;
    here = c.loop-i-test.true;
    says = sym c.order_in-e.ensures;
    taken = large-taken _ _ _ c.order_in-e.ensures c.if-e-t.false;
    low = omega arith;
    high = c.if-m-e.false;
    size = c.slots_of-slots.ensures;
  }

-- a whole row of it is left
row-inside : (at first n : ℕ) → first ≤ at → (at - first) % 16 ≡ 0 → n % 16 ≡ 0 → at < first + n → at + 16 ≤ first + n
row-inside at first n low whole rows more = omega (arith, low, whole, rows, more)

-- a row of it
module _ (c : After-row_passes) where
  alike : c.row_passes.result ≡ all_free (has_entry c.args.table.now (get_or c.args.table.now c.loop-i.i 0)) c.loop-at.at 16
  alike =
      c.row_passes.ensures (λ y. eqb y (get_or c.args.table.now c.loop-i.i 0)) (λ y b l p. search rules)
      ∙ run-of-part (λ y. eqb y (get_or c.args.table.now c.loop-i.i 0)) c.args.table.now c.loop-at.at 16

pub slice_bounds-row_damaged-end : goal.slice_bounds-row_damaged-end
slice_bounds-row_damaged-end c = row_ends c

pub loop-i-preserved-then-e-t : goal.loop-i-preserved-then-e-t
loop-i-preserved-then-e-t c =
    let good = passed-row (goal.at.loop-i-preserved-then-e-t c).Then-e-t (sym c.row_damaged.ensures ∙ c.if-row_damaged.false) in
    record {
      in_range = row_ends (goal.at.loop-i-preserved-then-e-t c).Then-e-t;
      rows = omega (arith, c.loop-i.invariant.rows);
      good = below_both _ c.loop-i.i _ c.loop-i.invariant.good good;
    }

pub slice_bounds-row_passes-end : goal.slice_bounds-row_passes-end
slice_bounds-row_passes-end c =
    let r = read (goal.at.slice_bounds-row_passes-end c).After-slots_of-slots in
    let inv = c.loop-at.invariant in
    let end : c.loop-at.at + 16 ≤ length c.args.table.now =
    omega (arith, last_in r, row-inside _ (first_of c.loop-i.i c.slots_of-slots.result) _ inv.low inv.rows (rows r (omega arith)) c.loop-at-test.true) in
    end

pub loop-at-preserved : goal.loop-at-preserved
loop-at-preserved c =
    let here = goal.at.loop-at-preserved c in
    let r = read here.After-slots_of-slots in
    let inv = c.loop-at.invariant in
    let at = c.loop-at.at in
    let inside = row-inside at (first_of c.loop-i.i c.slots_of-slots.result) _ inv.low inv.rows (rows r (omega arith)) c.loop-at-test.true in
    let x = get_or c.args.table.now c.loop-i.i 0 in
    let run = run_at c.args.table.now x at 16 (sym (alike here.After-row_passes) ∙ c.if-not-row_passes.false) in
    let Same : ℕ → Type 0 = λ k. first_of c.loop-i.i c.slots_of-slots.result ≤ k → get_or c.args.table.now k 0 ≡ x in
    record {
      low = omega (arith, inv.low);
      high = inside;
      rows = omega (arith, inv.low, inv.rows);
      alike = below_both Same at (at + 16) inv.alike (λ k lo hi _. run k lo hi);
    }

pub loop-i-preserved : goal.loop-i-preserved
loop-i-preserved c =
    let r = read (goal.at.loop-i-preserved c).After-slots_of-slots in
    record {
      in_range = last_in r;
      rows = omega (arith, first-rows r (omega arith), rows r (omega arith));
      good = below_both _ c.loop-i.i _ c.loop-i.invariant.good (alike-good r (λ k hi lo. c.loop-at.invariant.alike k (omega arith) lo));
    }

pub returns-then-row_damaged : goal.returns-then-row_damaged
returns-then-row_damaged c = found-damage (goal.at.returns-then-row_damaged c).Then-e-t (sym c.row_damaged.ensures ∙ c.if-row_damaged.true)

pub returns-then-m-e : goal.returns-then-m-e
returns-then-m-e c =
    let t = c.args.t in
    let e = c.order_in-e.result in
    let taken = large-taken _ _ _ c.order_in-e.ensures c.if-e-t.false in
    order-damaged t c.args.m c.args.table.now c.loop-i.i e c.loop-i-test.true (sym c.order_in-e.ensures) taken
    (rw (le-leb t e (omega arith), lt-leb e c.args.m c.if-m-e.true))

pub returns-then-not-row_passes : goal.returns-then-not-row_passes
returns-then-not-row_passes c =
    let here = goal.at.returns-then-not-row_passes c in
    let r = read here.After-slots_of-slots in
    let inv = c.loop-at.invariant in
    let inside = row-inside _ (first_of c.loop-i.i c.slots_of-slots.result) _ inv.low inv.rows (rows r (omega arith)) c.loop-at-test.true in
    run-damaged r c.loop-at.at 16 inv.low inside
    (sym (alike here.After-row_passes) ∙ c.if-not-row_passes.true)

pub returns-after-loop-i : goal.returns-after-loop-i
returns-after-loop-i c = sym (undamaged _ _ _ (λ j l. c.loop-i.invariant.good j (omega arith)))
