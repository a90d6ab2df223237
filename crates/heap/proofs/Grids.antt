-- An accepted place has its row and column inside the grid, since it is not refused 30, so the distance from p by the columns gives both back (`one_place`).
-- And the whole grid lies in p's block, since it is not refused 25, so the place does (`reaches`), and the block of any of its addresses is p's. No other rule
-- goes by the place, so any other of the grid passes them all too (`all_pass`).
use Rattle.std.proofs.Common.{◌≡◌, ℕ, ◌+◌, ◌*◌, ◌/◌, ◌^◌, ◌<◌, ◌≤◌, false, leb, sym, refl, ap, ◌∙◌, add-zero, mul-le-mul_right, suc-mul, arith, ltb-false}
use Rattle.std.proofs.Common.{leb-false}
use mathlib.Core.Bool.{false≢true}
use native.Mathlib.Nat.{mul-add-div_right, div-eq_of_lt}
use borrow.Author.Tests.{lt-leb}
use Rattle.common.specs.Refusals.{first}
use Rattle.common.proofs.Booleans.{or-false-left, or-false-right}
use Rattle.common.proofs.Refusals.{cond_of, clear}
use Rattle.blocks.specs.Blocks.{missing, left_in, Referent, Missing, Found}
use Rattle.blocks.specs.Pointers.{mark_bit, marked, sought}
use Rattle.blocks.specs.Tables.{referent_in}
use Rattle.blocks.proofs.Referents.{referent-block}
use Rattle.heap.specs.Views.{View, slot_order, referent_of_pointer}
use Rattle.heap.specs.Rules.{dead, argument_rules, state_rules, rules}
use Rattle.heap.specs.Effects.{grid_address, value}
use Rattle.heap.specs.Heaps.{Heap, view_of, heap_step, heap_call}
use Rattle.heap.specs.Grids.{answer_at, GridPlaces}
use Rattle.heap.specs.Inner.{Ready}
use Rattle.heap.specs.declared.Call.{Call}
use Rattle.heap.specs.declared.Call.TheVariants.{Grid}
use Rattle.heap.proofs.Settling.{settled-value}
use Rattle.heap.proofs.Judging.{accepted-ready, call-number}
use Rattle.heap.proofs.Accesses.{plain-within}

module _ (columns : ℕ) where
  row_of : (row column : ℕ) → column < columns → (row * columns + column) / columns ≡ row
  row_of row column l = mul-add-div_right (omega arith) row column ∙ ap (λ (x : ℕ). row + x) (div-eq_of_lt l) ∙ add-zero row

  one_place : (row column row' column' : ℕ) → column < columns → column' < columns → row * columns + column ≡ row' * columns + column'
      → (row ≡ row') × (column ≡ column')
  one_place row column row' column' l k e =
      let r : row ≡ row' = sym (row_of row column l) ∙ ap (λ (x : ℕ). x / columns) e ∙ row_of row' column' k in
      (r, omega (arith, ap (λ (x : ℕ). x * columns) r))

  -- a place lies before the grid's end
  reaches : (rows row column : ℕ) → row < rows → column < columns → row * columns + column < rows * columns
  reaches rows row column h l = omega (arith, mul-le-mul_right columns h, suc-mul row columns)

-- one grid
module _ (p rows columns : ℕ) where
  -- a place of it that the public call accepts
  module _ (h : Heap) (row column : ℕ) (z : (answer_at p rows columns h row column).number ≡ 0) where
    abbrev c : Call
    c = Grid p rows columns row column

    abbrev w : View
    w = view_of h

    passed : first (rules c w) ≡ 0
    passed = sym (call-number c h) ∙ z

    value-is : (answer_at p rows columns h row column).value ≡ grid_address p columns row column
    unfolding heap_call heap_step value
    value-is = settled-value (first (rules c w)) _ _ _ passed

    clears : (k : ℕ) → cond_of k (rules c w) ≡ false
    unfolding rules argument_rules state_rules
    clears = clear (rules c w) refl passed

    row_inside : row < rows
    unfolding rules argument_rules state_rules
    row_inside = leb-false rows row (or-false-left (leb rows row) (leb columns column) (clears 30))

    column-inside : column < columns
    unfolding rules argument_rules state_rules
    column-inside = leb-false columns column (or-false-right (leb rows row) (leb columns column) (clears 30))

    plain-p : marked p ≡ false
    unfolding rules argument_rules state_rules
    plain-p = clears 13

    has-home : dead w p ≡ false
    unfolding rules argument_rules state_rules
    has-home = clears 22

    fits : rows * columns ≤ left_in (referent_of_pointer w p) p
    unfolding rules argument_rules state_rules
    fits = ltb-false _ _ (clears 25)

    module _ (row' column' : ℕ) (r : row' < rows) (l : column' < columns) where
      same-rules : first (rules (Grid p rows columns row' column') w) ≡ first (rules c w)
      unfolding rules argument_rules state_rules
      same-rules = rw (lt-leb rows row' r, lt-leb columns column' l, lt-leb rows row row_inside, lt-leb columns column column-inside)

      all_pass : (answer_at p rows columns h row' column').number ≡ 0
      all_pass = call-number (Grid p rows columns row' column') h ∙ same-rules ∙ passed

    ready : Ready slot_order w.order c h.arena h.table
    ready = (accepted-ready c h.arena h.table passed).0

    -- plain, and with p's referent
    record Homed : Type 0 where
      plain : marked (grid_address p columns row column) ≡ false
      home : referent_of_pointer w (grid_address p columns row column) ≡ referent_of_pointer w p

    plain-referent : (q : ℕ) → marked q ≡ false → referent_of_pointer w q ≡ referent_in slot_order h.table q
    unfolding sought
    plain-referent q n = rw n

    homed : Homed
    homed = go (referent_of_pointer w p) refl has-home fits
      where
        go : (r : Referent) → referent_of_pointer w p ≡ r → missing r ≡ false → rows * columns ≤ left_in r p → Homed
        go Missing f k l = absurd (false≢true (sym k))
        go (Found s e) f k l =
            let x = plain-within slot_order w.order h.arena h.table ready.sound p s e plain-p f in
            let q = grid_address p columns row column in
            let inside : q < s + 2 ^ e = omega (arith, reaches columns rows row column row_inside column-inside, x.low, x.high) in
            let n : marked q ≡ false = lt-leb mark_bit q (omega (arith, x.inside, x.top)) in
            let at = sym (plain-referent p plain-p) ∙ f in
            let b = referent-block slot_order w.order h.table ready.sound.slots ready.sound.whole p s e at in
            record { plain = n; home = plain-referent q n ∙ b.same q (omega (arith, x.low)) inside ∙ sym f }

  pub grid-places : GridPlaces p rows columns
  grid-places =
      record {
        apart = λ h k row column row' column' z u e.
            one_place columns row column row' column' (column-inside h row column z) (column-inside k row' column' u)
            (omega (arith, value-is h row column z, value-is k row' column' u));
        whole = λ h row column row' column' z r l. all_pass h row column z row' column' r l;
        inside = λ h row column z. (
          omega (arith, value-is h row column z),
          omega (arith, value-is h row column z, reaches columns rows row column (row_inside h row column z) (column-inside h row column z)),
        );
        plain = λ h row column z. ap marked (value-is h row column z) ∙ (homed h row column z).plain;
        home = λ h row column z. ap (referent_of_pointer (view_of h)) (value-is h row column z) ∙ (homed h row column z).home;
      }
