-- What the damage scan knows where it has read a block's entry: the range round the slot, as the code computes it, and what its slots say of the table.
use Rattle.std.proofs.Common.{◌≡◌, ℕ, ◌+◌, ◌-◌, ◌*◌, ◌/◌, ◌%◌, ◌^◌, ◌<◌, ◌≤◌, true, false, ◌&&◌, leb, List, length, get_or}
use Rattle.std.proofs.Common.{sym, refl, arith}
use Rattle.blocks.specs.Blocks.{floor}
use Rattle.blocks.specs.Placing.{all_free}
use Rattle.blocks.specs.Tables.{entry_order, damaged_by}
use Rattle.blocks.specs.Inner.{has_entry}
use Rattle.blocks.proofs.Floors.{floor-le, floor-end, pow-split}
use Rattle.blocks.proofs.Rows.{floor-rows, run-bad}
use Rattle.blocks.proofs.Tables.{Good, damaged-at, order-bad, torn-bad, whole-good}

-- slot i of the table s is taken, by a block of the order e, with n slots
pub record Read (t m : ℕ) (s : List ℕ) (i e n : ℕ) : Type 0 where
  pub slots : length s ≡ 2 ^ (m - t)
  pub here : i < length s
  pub says : entry_order (get_or s i 0) ≡ e
  pub taken : get_or s i 0 ≡ 0 → ⊥
  pub low : t ≤ e
  pub high : e ≤ m
  pub size : n ≡ 2 ^ (e - t)

-- the first slot of its range
abbrev pub first_of : ℕ → ℕ → ℕ
first_of i n = i / n * n

first_is : (i a n : ℕ) → n ≡ 2 ^ a → first_of i n ≡ floor a i
unfolding floor
first_is i a n h = rw h

-- an entry that says no order of the arena shows damage
pub order-damaged : (t m : ℕ) (s : List ℕ) (i e : ℕ) → i < length s → entry_order (get_or s i 0) ≡ e → (get_or s i 0 ≡ 0 → ⊥) → leb t e && leb e m ≡ false
    → true ≡ damaged_by t m s
order-damaged t m s i e here says taken none = sym (damaged-at t m s i _ here refl (order-bad t m s i _ e says taken none))

module _ {t m : ℕ} {s : List ℕ} {i e n : ℕ} (r : Read t m s i e n) where
  -- the range lies in the table
  pub last_in : first_of i n + n ≤ length s
  last_in =
      let h = r.high in
      rw (first_is i (e - t) n r.size, r.size, r.slots) (floor-end (e - t) (m - t) i (omega arith) (rw r.slots at r.here))

  -- its slots are whole pairs, and whole rows
  pub pairs : t < e → n % 2 ≡ 0
  pairs l = let size = r.size in omega (arith, pow-split 1 (e - t) (omega arith))

  pub rows : t + 4 ≤ e → n % 16 ≡ 0
  rows l = let size = r.size in omega (arith, pow-split 4 (e - t) (omega arith))

  pub first-rows : t + 4 ≤ e → first_of i n % 16 ≡ 0
  first-rows l = let low = r.low in rw (first_is i (e - t) n r.size) (floor-rows (e - t) i (omega arith))

  -- a slot of the range with another entry shows damage
  pub other-damaged : (k : ℕ) → first_of i n ≤ k → k < first_of i n + n → (get_or s k 0 ≡ get_or s i 0 → ⊥) → true ≡ damaged_by t m s
  other-damaged k lo hi d =
      let f = first_is i (e - t) n r.size in
      let size = r.size in
      sym (damaged-at t m s i _ r.here refl (torn-bad t m s i _ e k r.says r.taken r.low r.high (omega arith) (omega arith) d))

  -- where none has, its slots are good
  pub alike-good : ((k : ℕ) → k < first_of i n + n → first_of i n ≤ k → get_or s k 0 ≡ get_or s i 0)
      → (j : ℕ) → i ≤ j → j < first_of i n + n → Good t m s j
  alike-good h j lo hi =
      let f = first_is i (e - t) n r.size in
      let low : floor (e - t) i ≤ j = omega (arith, floor-le (e - t) i) in
      let size = r.size in
      whole-good t m s i (get_or s i 0) e r.taken
      record { order = r.says; low = r.low; high = r.high; entries = λ k l u. h k (omega arith) (omega arith) } j low (omega arith)

  -- a run of slots of the range, not all with its entry, shows damage
  pub run-damaged : (k l : ℕ) → first_of i n ≤ k → k + l ≤ first_of i n + n → all_free (has_entry s (get_or s i 0)) k l ≡ false → true ≡ damaged_by t m s
  run-damaged k l lo hi h =
      let f = first_is i (e - t) n r.size in
      let size = r.size in
      sym (damaged-at t m s i _ r.here refl (run-bad t m s i _ e k l r.says r.taken (omega arith) (omega arith) h))
