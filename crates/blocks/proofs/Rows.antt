-- Rows of slots: what a row of a block says of the block, a row as a table of its own, and parts of whole rows.
use Rattle.std.proofs.Common.{◌≡◌, ℕ, zero, suc, ◌+◌, ◌-◌, ◌*◌, ◌/◌, ◌%◌, ◌^◌, ◌<◌, ◌≤◌, Bool, true, false, ◌||◌, eqb, List, length, get_or, sym}
use Rattle.std.proofs.Common.{refl, ap, ◌∙◌, true≢false, add-zero, mul_assoc, add-sub_of_le, arith, eq-eqb, eqb-true}
use native.Mathlib.Decide.{dec_lt}
use borrow.Author.Tests.{eqb-false}
use Rattle.blocks.specs.Blocks.{floor}
use Rattle.blocks.specs.Tables.{entry_order, bad, damaged_by}
use Rattle.blocks.specs.Placing.{all_free}
use Rattle.blocks.specs.Inner.{has_entry, single}
use Rattle.common.proofs.Booleans.{or_right}
use Rattle.blocks.proofs.Floors.{floor-le, lt-floor, floor-end, floor-quotient, pow-split}
use Rattle.blocks.proofs.FreeRuns.{all-at, at_all}
use Rattle.blocks.proofs.Tables.{Good, Whole, undamaged, undamaged-whole, free-good, whole-good, good-whole}

-- an entry that is not single is not 0
pub not_free : (t x : ℕ) → single t x ≡ false → x ≡ 0 → ⊥
unfolding single
not_free t x h z = let q : eqb x 0 || eqb (entry_order x) t ≡ true = rw (eq-eqb x 0 z) in true≢false (sym q ∙ h)

-- nor does it say the order of a slot
pub not-slot : (t x : ℕ) → single t x ≡ false → entry_order x ≡ t → ⊥
unfolding single
not-slot t x h z = true≢false (sym (or_right (eqb x 0) (eq-eqb (entry_order x) t z)) ∙ h)

module _ (t m : ℕ) (s : List ℕ) where
  -- a block of one slot is whole
  slot_whole : (j : ℕ) → t ≤ m → entry_order (get_or s j 0) ≡ t → Whole t m s j (get_or s j 0) t
  slot_whole j l o =
      let z : t - t ≡ 0 = omega arith in
      let one : 2 ^ (t - t) ≡ 1 = rw z in
      record { order = o; low = omega arith; high = l; entries = λ k lo hi. let q : k ≡ j = omega (arith, floor-le (t - t) j, lt-floor (t - t) j) in rw q }

  -- a single slot is good
  pub single-good : (j : ℕ) → t ≤ m → single t (get_or s j 0) ≡ true → Good t m s j
  unfolding single
  single-good j l h = go (eqb (get_or s j 0) 0) refl h
    where
      go : (b : Bool) → eqb (get_or s j 0) 0 ≡ b → b || eqb (entry_order (get_or s j 0)) t ≡ true → Good t m s j
      go true q k = free-good t m s j (eqb-true _ _ q)
      go false q k = whole-good t m s j _ t (eqb-false _ 0 q) (slot_whole j l (eqb-true _ _ k)) j (floor-le (t - t) j) (lt-floor (t - t) j)

  -- a run of the range round slot i, whose entry is x, has another entry
  pub run-bad : (i x e k n : ℕ) → entry_order x ≡ e → (x ≡ 0 → ⊥) → floor (e - t) i ≤ k → k + n ≤ floor (e - t) i + 2 ^ (e - t)
      → all_free (has_entry s x) k n ≡ false → bad t m s i x ≡ true
  run-bad i x e k n o z lo hi h = go (bad t m s i x) refl
    where
      go : (b : Bool) → bad t m s i x ≡ b → b ≡ true
      go true q = refl
      go false q =
          let w = good-whole t m s i x e o z q in
          let all = at_all (has_entry s x) k n (λ j l. eq-eqb _ _ (w.entries (k + j) (omega arith) (omega arith))) in
          absurd (true≢false (sym all ∙ h))

-- what a run of one entry says of its slots
pub run_at : (s : List ℕ) (x k n : ℕ) → all_free (has_entry s x) k n ≡ true → (j : ℕ) → k ≤ j → j < k + n → get_or s j 0 ≡ x
run_at s x k n h j lo hi =
    let z = all-at (has_entry s x) k n h (j - k) (omega arith) in
    eqb-true (get_or s j 0) x (rw (add-sub_of_le lo) at z)

-- ---- a row as a table of its own
-- rounding down within a row, from its first slot
floor-row : (b i j : ℕ) → b ≤ 4 → i % 16 ≡ 0 → floor b (i + j) ≡ i + floor b j
unfolding floor
floor-row zero i j l h = omega arith
floor-row (suc zero) i j l h = omega arith
floor-row (suc (suc zero)) i j l h = omega arith
floor-row (suc (suc (suc zero))) i j l h = omega arith
floor-row (suc (suc (suc (suc zero)))) i j l h = omega arith
floor-row (suc (suc (suc (suc (suc b))))) i j l h = absurd (omega arith)

-- an aligned range of at least a row begins with a row
pub floor-rows : (a i : ℕ) → 4 ≤ a → floor a i % 16 ≡ 0
floor-rows a i l =
    let q = i / 2 ^ a in
    let c = 2 ^ (a - 4) in
    let rows : floor a i ≡ q * c * 16 = floor-quotient a i ∙ ap (λ (x : ℕ). q * x) (pow-split 4 a l) ∙ sym (mul_assoc q c 16) in
    omega arith

-- the slots of a row that are in the range round one of them, where the range is at most a row
range-in-row : (b j : ℕ) → b ≤ 4 → j < 16 → floor b j + 2 ^ b ≤ 16
range-in-row b j l lt = floor-end b 4 j l lt

-- the row p of the table s, from slot i on
module _ (t m : ℕ) (s p : List ℕ) (i : ℕ) (sixteen : length p ≡ 16) (h : i % 16 ≡ 0)
    (same : (j : ℕ) → j < 16 → get_or p j 0 ≡ get_or s (i + j) 0) where
  -- where it is undamaged, its slots are good
  pub row-good : t + 4 ≤ m → damaged_by t (t + 4) p ≡ false → (j : ℕ) → j < 16 → Good t m s (i + j)
  row-good l d j lt = go (eqb (get_or s (i + j) 0) 0) refl
    where
      go : (b : Bool) → eqb (get_or s (i + j) 0) 0 ≡ b → Good t m s (i + j)
      go true q = free-good t m s (i + j) (eqb-true _ 0 q)
      go false q =
          let x = get_or s (i + j) 0 in
          let e = entry_order x in
          let z = eqb-false x 0 q in
          let w = undamaged-whole t (t + 4) p d j x e (omega arith) (same j lt) refl z in
          let small : e - t ≤ 4 = omega (arith, w.high) in
          let f = floor-row (e - t) i j small h in
          let top = range-in-row (e - t) j small lt in
          let whole : Whole t m s (i + j) x e = record {
            order = refl;
            low = w.low;
            high = omega (arith, w.high);
            entries = λ k lo hi.
                let at : i + (k - i) ≡ k = omega arith in
                ap (λ (y : ℕ). get_or s y 0) (sym at) ∙ sym (same (k - i) (omega arith)) ∙ w.entries (k - i) (omega arith) (omega arith);
          } in
          whole-good t m s (i + j) x e z whole (i + j) (floor-le (e - t) (i + j)) (lt-floor (e - t) (i + j))

  -- where the table is undamaged, and the first block is not larger than the row, so is the row
  module _ (first : entry_order (get_or p 0 0) ≤ t + 4) (inside : i + 16 ≤ length s) (d : damaged_by t m s ≡ false) where
    order_small : (j x e : ℕ) → j < 16 → Whole t m s (i + j) x e → e ≤ t + 4
    order_small j x e lt w = elim (dec_lt (t + 4) e) [
      | yes big ↦
          let row = floor-rows (e - t) (i + j) (omega arith) in
          let at : get_or s i 0 ≡ x = w.entries i (omega (arith, floor-le (e - t) (i + j))) (omega (arith, lt-floor (e - t) (i + j))) in
          let entry : get_or p 0 0 ≡ get_or s i 0 = rw add-zero at (same 0 (omega arith)) in
          let says : entry_order (get_or p 0 0) ≡ e = ap entry_order (entry ∙ at) ∙ w.order in
          absurd (omega arith)
      | no small ↦ omega arith
    ]

    slot-good : (j : ℕ) → j < 16 → Good t (t + 4) p j
    slot-good j lt = go (eqb (get_or p j 0) 0) refl
      where
        go : (b : Bool) → eqb (get_or p j 0) 0 ≡ b → Good t (t + 4) p j
        go true q = free-good t (t + 4) p j (eqb-true _ 0 q)
        go false q =
            let x = get_or p j 0 in
            let e = entry_order x in
            let z = eqb-false x 0 q in
            let w = undamaged-whole t m s d (i + j) x e (omega arith) (sym (same j lt)) refl z in
            let high = order_small j x e lt w in
            let f = floor-row (e - t) i j (omega arith) h in
            let top = range-in-row (e - t) j (omega arith) lt in
            let whole : Whole t (t + 4) p j x e = record {
              order = refl;
              low = w.low;
              high = high;
              entries = λ k lo hi. same k (omega arith) ∙ w.entries (i + k) (omega arith) (omega arith);
            } in
            whole-good t (t + 4) p j x e z whole j (floor-le (e - t) j) (lt-floor (e - t) j)

    pub row-undamaged : damaged_by t (t + 4) p ≡ false
    row-undamaged = undamaged t (t + 4) p (λ j lt. slot-good j (omega arith))

-- a power of two of at least a row is a number of rows
pub whole-rows : (j : ℕ) → 4 ≤ j → 2 ^ j % 16 ≡ 0
whole-rows j l = omega (arith, pow-split 4 j l)

-- what holds below i, and from i up to n, holds below n
pub below_both : (P : ℕ → Type 0) (i n : ℕ) → ((j : ℕ) → j < i → P j) → ((j : ℕ) → i ≤ j → j < n → P j)
    → (j : ℕ) → j < n → P j
below_both P i n f g j l = elim (dec_lt j i) [ yes p ↦ f j p | no p ↦ g j (omega arith) l ]
