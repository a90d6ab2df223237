-- Where blocks can part: the code's table says for which orders they can (`parts_at`), and a table of at most a row whose slots all part well is undamaged
-- (`well-undamaged`).
use Rattle.std.proofs.Common.{◌≡◌, ℕ, zero, suc, ◌+◌, ◌-◌, ◌*◌, ◌/◌, ◌%◌, ◌^◌, ◌<◌, ◌≤◌, Bool, true, false, cond, not, ◌&&◌, ◌||◌, eqb, leb, List, length}
use Rattle.std.proofs.Common.{get_or, [], ◌∷◌, bit_and, add-zero, refl, sym, ◌∙◌, subst, zero-add, true≢false, arith, le-leb, leb-true, leb-false, eq-eqb}
use Rattle.std.proofs.Common.{ne_eqb, eqb-true, pow_pos}
use Rattle.std.proofs.Math.Nat.{mod-eq_of_lt, lt_of_lt_of_le, zero-mod, mod-lt}
use Rattle.std.proofs.lemmas.Nat.{and_mask}
use native.Mathlib.Decide.{dec_lt}
use native.Mathlib.Nat.{div-add-mod'}
use mathlib.Core.Logic.{◌⊎◌, inl, inr}
use borrow.Author.Tests.{lt-leb, eqb-false}
use Rattle.blocks.specs.Blocks.{floor}
use Rattle.blocks.specs.Placing.{all_free}
use Rattle.blocks.specs.Tables.{entry_order, damaged_by}
use Rattle.blocks.specs.Inner.{has_entry, stands, can_part, parts_well}
use Rattle.common.proofs.Booleans.{and_left, and_right, and_both, or_right, true-together}
use Rattle.blocks.proofs.Floors.{floor-le, lt-floor, floor-end, quotient-same, pow-split}
use Rattle.blocks.proofs.FreeRuns.{all-at, at_all}
use Rattle.blocks.proofs.Rows.{run_at}
use Rattle.blocks.proofs.Tables.{Good, Whole, other-bits, undamaged, free-good, whole-good}

-- the table
abbrev pub parting : List ℕ
parting = 127 ∷ 0 ∷ 1 ∷ 0 ∷ 2 ∷ 0 ∷ 1 ∷ 0 ∷ 3 ∷ 0 ∷ 1 ∷ 0 ∷ 2 ∷ 0 ∷ 1 ∷ 0 ∷ []

-- for the blocks of at most a row the table is right, slot by slot
abbrev agrees : ℕ → ℕ → Bool
agrees k d = cond (eqb (k % 2 ^ d) 0) (leb d (get_or parting k 0)) (not (leb d (get_or parting k 0)))

small-agrees : all_free (λ k. all_free (agrees k) 0 5) 0 16 ≡ true
unfolding all_free
small-agrees = refl

pub all-below : (f : ℕ → Bool) (n : ℕ) → all_free f 0 n ≡ true → (j : ℕ) → j < n → f j ≡ true
all-below f n h j l = subst (λ (y : ℕ). f y ≡ true) (zero-add j) (all-at f 0 n h j l)

test : (k d : ℕ) → k < 16 → d < 5 → agrees k d ≡ true
test k d lk ld = all-below (agrees k) 5 (all-below (λ k. all_free (agrees k) 0 5) 16 small-agrees k lk) d ld

agreed : (b x : Bool) → cond b x (not x) ≡ true → x ≡ b
agreed true x h = h
agreed false true h = sym h
agreed false false h = refl

-- a slot of a row but the first is a multiple of no larger power
large-power : (k d : ℕ) → k < 16 → 4 ≤ d → 0 < k → eqb (k % 2 ^ d) 0 ≡ false
large-power k d lk ld pos =
    let big : 16 ≤ 2 ^ d = omega (arith, pow-split 4 d ld, pow_pos (d - 4)) in
    rw (mod-eq_of_lt (lt_of_lt_of_le lk big)) (ne_eqb k 0 (λ z. omega arith))

-- nor does the table have larger orders for it
low-levels : (k : ℕ) → k < 16 → 0 < k → get_or parting k 0 < 4
low-levels k lk pos = leb-false 4 (get_or parting k 0) (agreed _ _ (test k 4 lk (omega arith)) ∙ large-power k 4 lk (omega arith) pos)

-- slot k is a multiple of just the powers that the table tells
levels : (k d : ℕ) → k < 16 → d < 128 → eqb (k % 2 ^ d) 0 ≡ leb d (get_or parting k 0)
levels k d lk ld = elim (dec_lt d 5) [
  | yes small ↦ sym (agreed _ _ (test k d lk small))
  | no large ↦ larger k lk (omega arith)
]
  where
    larger : (k : ℕ) → k < 16 → 4 ≤ d → eqb (k % 2 ^ d) 0 ≡ leb d (get_or parting k 0)
    larger zero l q = rw (eq-eqb _ _ (zero-mod (2 ^ d)), le-leb d 127 (omega (arith, ld)))
    larger (suc k) l q =
        let low = low-levels (suc k) l (omega arith) in
        rw (large-power (suc k) d l q (omega arith), lt-leb d (get_or parting (suc k) 0) (omega arith))

pub levels_fit : (k : ℕ) → k < 16 → get_or parting k 0 < 128
levels_fit zero l = omega arith
levels_fit (suc k) l = omega (arith, low-levels (suc k) l (omega arith))

pub parts_at : (t x k : ℕ) → k < 16 → entry_order x < 128 → leb (entry_order x) (t + get_or parting k 0) ≡ can_part t x k
parts_at t x k l o =
    let d = levels k (entry_order x - t) l (omega arith) in
    true-together _ _
    (λ h. d ∙ le-leb (entry_order x - t) _ (omega (arith, leb-true _ _ h)))
    (λ h. le-leb (entry_order x) _ (omega (arith, leb-true _ _ (sym d ∙ h))))

-- the order of a byte
pub byte-order : (x : ℕ) → x < 256 → bit_and x 127 ≡ entry_order x
byte-order x l = and_mask x 7 ∙ other-bits x l

pub order-fits : (x : ℕ) → x < 256 → entry_order x < 128
order-fits x l = rw (← other-bits x l) (mod-lt x (omega arith))

-- ---- a table of at most a row, the slots x with free ones behind it
-- within an aligned range, behind its first slot, there is no multiple of its size
no-multiple : (b j k : ℕ) → floor b j < k → k < floor b j + 2 ^ b → k % 2 ^ b ≡ 0 → ⊥
unfolding floor
no-multiple b j k lo hi z =
    let q = quotient-same b j k (omega arith) hi in
    let d : k / 2 ^ b * 2 ^ b + k % 2 ^ b ≡ k = div-add-mod' k (2 ^ b) in
    let w : j / 2 ^ b * 2 ^ b + k % 2 ^ b ≡ k = rw q at d in
    omega arith

module _ (t m : ℕ) (x p : List ℕ) (small : t ≤ m) (size : length p ≡ 2 ^ (m - t)) (row : length p ≤ 16)
    (same : (j : ℕ) → j < length p → get_or p j 0 ≡ get_or x j 0) (well : all_free (parts_well t m x) 0 16 ≡ true) where
  -- at a slot but the first, with the entry v, the slot before it has the entry u: the same, or both blocks can part
  go-on : (k u v : ℕ) → 0 < k → k < 16 → get_or x (k - 1) 0 ≡ u → get_or x k 0 ≡ v
      → (v ≡ u) ⊎ ((k % 2 ^ (entry_order v - t) ≡ 0) × (k % 2 ^ (entry_order u - t) ≡ 0))
  go-on k u v pos l is-u is-v =
      let parts = and_left _ (stands t m v) (rw (is-v, is-u, ne_eqb k 0 (λ z. omega arith)) at (all-below _ 16 well k l)) in
      cases (eqb v u) (can_part t v k) (can_part t u k) refl refl refl parts
    where
      cases : (a b d : Bool) → eqb v u ≡ a → can_part t v k ≡ b → can_part t u k ≡ d → a || (b && d) ≡ true
          → (v ≡ u) ⊎ ((k % 2 ^ (entry_order v - t) ≡ 0) × (k % 2 ^ (entry_order u - t) ≡ 0))
      cases true b d e f g h = inl (eqb-true v u e)
      cases false true true e f g h = inr (eqb-true _ 0 f, eqb-true _ 0 g)
      cases false true false e f g h = absurd (true≢false (sym h))
      cases false false d e f g h = absurd (true≢false (sym h))

  stands-at : (j : ℕ) → j < length p → stands t m (get_or p j 0) ≡ true
  stands-at j l = rw (same j l) (and_right _ (stands t m (get_or x j 0)) (all-below _ 16 well j (omega arith)))

  -- the range round slot j, which has the entry v: its slots have it, from j upwards and downwards
  module _ (j v b : ℕ) (inside : floor b j + 2 ^ b ≤ length p) (here : get_or p j 0 ≡ v) (says : entry_order v - t ≡ b) where
    up : (n : ℕ) → j + n < floor b j + 2 ^ b → get_or p (j + n) 0 ≡ v
    up zero l = rw add-zero here
    up (suc n) l =
        let k = j + suc n in
        let at : j + n ≡ k - 1 = omega arith in
        let before : get_or x (k - 1) 0 ≡ v = subst (λ (y : ℕ). get_or x y 0 ≡ v) at (sym (same (j + n) (omega arith)) ∙ up n (omega arith)) in
        elim (go-on k v (get_or x k 0) (omega arith) (omega arith) before refl) [
          | inl e ↦ same k (omega arith) ∙ e
          | inr (_, z) ↦ absurd (no-multiple b j k (omega (arith, floor-le b j)) l (rw says at z))
        ]

    down : (n : ℕ) → floor b j + n ≤ j → get_or p (j - n) 0 ≡ v
    down zero l = subst (λ (y : ℕ). get_or p y 0 ≡ v) (omega arith) here
    down (suc n) l =
        let k = j - n in
        let last = lt-floor b j in
        let at : j - suc n ≡ k - 1 = omega arith in
        let after : get_or x k 0 ≡ v = sym (same k (omega arith)) ∙ down n (omega arith) in
        let before : get_or p (j - suc n) 0 ≡ get_or x (k - 1) 0 =
        subst (λ (y : ℕ). get_or p (j - suc n) 0 ≡ get_or x y 0) at (same (j - suc n) (omega arith)) in
        elim (go-on k (get_or x (k - 1) 0) v (omega arith) (omega arith) refl after) [
          | inl e ↦ before ∙ sym e
          | inr (z, _) ↦ absurd (no-multiple b j k (omega arith) (omega arith) (rw says at z))
        ]

    range-has : (k : ℕ) → floor b j ≤ k → k < floor b j + 2 ^ b → get_or p k 0 ≡ v
    range-has k lo hi = elim (dec_lt k j) [
      | yes l ↦ subst (λ (y : ℕ). get_or p y 0 ≡ v) (omega arith) (down (j - k) (omega arith))
      | no l ↦ subst (λ (y : ℕ). get_or p y 0 ≡ v) (omega arith) (up (k - j) (omega arith))
    ]

  pub well-undamaged : damaged_by t m p ≡ false
  well-undamaged = undamaged t m p (λ j l. go j l (eqb (get_or p j 0) 0) refl (stands-at j l))
    where
      go : (j : ℕ) → j < length p → (a : Bool) → eqb (get_or p j 0) 0 ≡ a
          → a || (leb t (entry_order (get_or p j 0)) && leb (entry_order (get_or p j 0)) m) ≡ true → Good t m p j
      go j l true q h = free-good t m p j (eqb-true _ 0 q)
      go j l false q h =
          let v = get_or p j 0 in
          let e = entry_order v in
          let low = leb-true t e (and_left _ _ h) in
          let high = leb-true e m (and_right (leb t e) _ h) in
          let inside : floor (e - t) j + 2 ^ (e - t) ≤ length p = rw size (floor-end (e - t) (m - t) j (omega arith) (rw size at l)) in
          let whole : Whole t m p j v e = record { order = refl; low = low; high = high; entries = range-has j v (e - t) inside refl refl } in
          whole-good t m p j v e (eqb-false v 0 q) whole j (floor-le (e - t) j) (lt-floor (e - t) j)

-- an even row, whose slots have one entry, is undamaged: where the entry can stand in a row its slots part well
pub even-undamaged : (t x : ℕ) (p : List ℕ) → length p ≡ 16 → stands t (t + 4) x ≡ true → all_free (has_entry p x) 0 16 ≡ true
    → damaged_by t (t + 4) p ≡ false
even-undamaged t x p sixteen s a =
    let levels : t + 4 - t ≡ 4 = omega arith in
    well-undamaged t (t + 4) p p (omega arith) (rw levels sixteen) (omega arith) (λ j l. refl) (at_all _ 0 16 (λ k l. rw zero-add (part k l)))
  where
    part : (k : ℕ) → k < 16 → parts_well t (t + 4) p k ≡ true
    part k l =
        let here : get_or p k 0 ≡ x = run_at p x 0 16 a k (omega arith) l in
        let before : get_or p (k - 1) 0 ≡ x = run_at p x 0 16 a (k - 1) (omega arith) (omega arith) in
        and_both (or_right (eqb k 0) (rw (here, before, eq-eqb x x refl))) (rw here s)
