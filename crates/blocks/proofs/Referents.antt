-- The referent by an undamaged table: an aligned block round the address, all of whose slots say its order, and the referent of each of its addresses.
use Rattle.std.proofs.Common.{◌≡◌, ℕ, zero, suc, ◌+◌, ◌-◌, ◌*◌, ◌%◌, ◌^◌, ◌<◌, ◌≤◌, Bool, true, false, cond, ◌&&◌, ltb, leb, List, length, get_or, ℤ, pos}
use Rattle.std.proofs.Common.{negsuc, sym, refl, ap, ◌∙◌, subst, arith, ltb-true, le-ltb, lt-ltb, le-leb, leb-true}
use borrow.Author.Tests.{lt-leb}
use lib.IntN.{sub_ℕ}
use Rattle.blocks.specs.Blocks.{base, floor, Aligned, Missing, Found}
use Rattle.blocks.specs.Tables.{entry_order, damaged_by, block_round, referent_in}
use Rattle.blocks.specs.Pointers.{marked, address, sought, referent_at}
use Rattle.blocks.specs.Inner.{from_zero}
use Rattle.common.proofs.Booleans.{and_left, and_right, and_both}
use Rattle.blocks.proofs.Floors.{floor-le, lt-floor, floor-same}
use Rattle.blocks.proofs.Slots.{block, slot_of, slot-start, InSlots, floor-slots, Slots, aligned-of, slots-round, held-slots}
use Rattle.blocks.proofs.Tables.{Whole, undamaged-whole}

pub round-some : (x e q : ℕ) → (x ≡ 0 → ⊥) → entry_order x ≡ e → block_round x q ≡ Found (base + floor e (q - base)) e
round-some zero e q n o = absurd (n refl)
round-some (suc x) e q n o = ap (λ (k : ℕ). Found (base + floor k (q - base)) k) o

-- the referent of q by the table s, from q's place and the entry of its slot
module _ (t : ℕ) (s : List ℕ) (q : ℕ) where
  pub referent-below : q < base → referent_in t s q ≡ Missing
  unfolding referent_in
  referent-below l = rw (lt-leb base q l)

  pub referent-past : base ≤ q → length s ≤ slot_of t q → referent_in t s q ≡ Missing
  unfolding referent_in
  referent-past l k = rw (le-leb base q l, le-ltb (slot_of t q) (length s) k)

  pub referent-entry : base ≤ q → slot_of t q < length s → referent_in t s q ≡ block_round (get_or s (slot_of t q) 0) q
  unfolding referent_in
  referent-entry l k = rw (le-leb base q l, lt-ltb (slot_of t q) (length s) k)

-- q is in the arena, and the entry of q's slot says the order e, whose aligned block round q begins at b
record Entered (t : ℕ) (s : List ℕ) (q b e : ℕ) : Type 0 where
  past : base ≤ q
  slot : slot_of t q < length s
  taken : get_or s (slot_of t q) 0 ≡ 0 → ⊥
  says : entry_order (get_or s (slot_of t q) 0) ≡ e
  rounded : b ≡ base + floor e (q - base)

entered : (t : ℕ) (s : List ℕ) (q b e : ℕ) → referent_in t s q ≡ Found b e → Entered t s q b e
unfolding referent_in
entered t s q b e h = go (leb base q && ltb (slot_of t q) (length s)) refl h
  where
    some : (x : ℕ) → get_or s (slot_of t q) 0 ≡ x → block_round x q ≡ Found b e → base ≤ q → slot_of t q < length s → Entered t s q b e
    some zero g k l u = let z : ◌≡◌ {A = ℕ} 0 1 = cc in absurd (omega arith)
    some (suc x) g k l u =
        let y : entry_order (suc x) ≡ e = cc in
        let z : base + floor (entry_order (suc x)) (q - base) ≡ b = cc in
        record {
          past = l;
          slot = u;
          taken = λ n. omega arith;
          says = ap entry_order g ∙ y;
          rounded = sym z ∙ ap (λ (i : ℕ). base + floor i (q - base)) y;
        }

    go : (c : Bool) → leb base q && ltb (slot_of t q) (length s) ≡ c → cond c (block_round (get_or s (slot_of t q) 0) q) Missing ≡ Found b e → Entered t s q b e
    go true c k = some (get_or s (slot_of t q) 0) refl k (leb-true base q (and_left _ _ c)) (ltb-true _ _ (and_right (leb base q) _ c))
    go false c k = let z : ◌≡◌ {A = ℕ} 0 1 = cc in absurd (omega arith)

-- the block of order e at b is aligned and holds q; each of its slots has the entry of q's, which says e, and each of its addresses the same referent
pub record ReferentBlock (t m : ℕ) (s : List ℕ) (q b e : ℕ) : Type 0 where
  pub aligned : Aligned t m (block b e)
  pub low : b ≤ q
  pub high : q < b + 2 ^ e
  pub says : entry_order (get_or s (slot_of t q) 0) ≡ e
  pub entries : (i : ℕ) → b ≤ base + i * 2 ^ t → base + i * 2 ^ t < b + 2 ^ e → get_or s i 0 ≡ get_or s (slot_of t q) 0
  pub same : (r : ℕ) → b ≤ r → r < b + 2 ^ e → referent_in t s r ≡ Found b e

module _ (t m : ℕ) (s : List ℕ) (len : length s ≡ 2 ^ (m - t)) (good : damaged_by t m s ≡ false) (q b e : ℕ) (h : referent_in t s q ≡ Found b e) where
  at_entry : Entered t s q b e
  at_entry = entered t s q b e h

  abbrev entry : ℕ
  entry = get_or s (slot_of t q) 0

  whole : Whole t m s (slot_of t q) entry e
  whole = undamaged-whole t m s good (slot_of t q) entry e at_entry.slot refl at_entry.says at_entry.taken

  start_is : b ≡ base + floor (e - t) (slot_of t q) * 2 ^ t
  start_is = at_entry.rounded ∙ ap (λ (x : ℕ). base + x) (floor-slots t e (q - base) whole.low)

  abbrev slots : Slots t m (block b e)
  slots = slots-round t m (slot_of t q) b e whole.low whole.high (rw len at at_entry.slot) start_is

  in-slots : (r : ℕ) → b ≤ r → r < b + 2 ^ e → InSlots t (floor (e - t) (slot_of t q)) (2 ^ (e - t)) r
  in-slots r lo hi = held-slots t m (block b e) slots r (and_both (le-leb b r lo) (lt-ltb r (b + 2 ^ e) hi))

  pub referent-block : ReferentBlock t m s q b e
  referent-block =
      let p : base ≤ q = at_entry.past in
      let f : b ≡ base + floor e (q - base) = at_entry.rounded in
      record {
        aligned = aligned-of t m (block b e) whole.low whole.high slots;
        low = omega (arith, floor-le e (q - base));
        high = omega (arith, lt-floor e (q - base));
        says = at_entry.says;
        entries = λ i lo hi. let z = in-slots (base + i * 2 ^ t) lo hi in
            subst (λ (x : ℕ). get_or s x 0 ≡ entry) (slot-start t i) (whole.entries (slot_of t (base + i * 2 ^ t)) z.low z.high);
        same = λ r lo hi. let z = in-slots r lo hi in
            referent-entry t s r z.past (omega (arith, z.high, slots.within, len))
            ∙ ap (λ (x : ℕ). block_round x r) (whole.entries (slot_of t r) z.low z.high)
            ∙ round-some entry e r at_entry.taken at_entry.says
            ∙ ap (λ (x : ℕ). Found x e) (ap (λ (x : ℕ). base + x) (floor-same e (q - base) (r - base) (omega arith) (omega arith)) ∙ sym f);
      }

-- the address at which the referent of p is sought
module _ (t p : ℕ) where
  pub sought-plain : marked p ≡ false → sought t p ≡ pos (address p)
  unfolding sought
  sought-plain h = rw h

  module _ (h : marked p ≡ true) where
    sought-marked : sought t p ≡ cond (ltb (address p % 2 ^ t) (2 ^ (t - 1))) (sub_ℕ (address p) (2 ^ t)) (pos (address p + 2 ^ t))
    unfolding sought
    sought-marked = rw h

    pub sought-up : 2 ^ (t - 1) ≤ address p % 2 ^ t → sought t p ≡ pos (address p + 2 ^ t)
    sought-up l = sought-marked ∙ rw (le-ltb (address p % 2 ^ t) (2 ^ (t - 1)) l)

    module _ (l : address p % 2 ^ t < 2 ^ (t - 1)) where
      pub sought-down : 2 ^ t ≤ address p → sought t p ≡ pos (address p - 2 ^ t)
      sought-down k = sought-marked ∙ rw (lt-ltb (address p % 2 ^ t) (2 ^ (t - 1)) l, le-ltb (address p) (2 ^ t) k)

      pub sought-negative : address p < 2 ^ t → sought t p ≡ negsuc (2 ^ t - suc (address p))
      sought-negative k = sought-marked ∙ rw (lt-ltb (address p % 2 ^ t) (2 ^ (t - 1)) l, lt-ltb (address p) (2 ^ t) k)

-- a table has no referent at address 0, so an exact address below 0 may be told by it
pub referent-from-zero : (t : ℕ) (s : List ℕ) (z : ℤ) → referent_in t s (from_zero z) ≡ referent_at (referent_in t s) z
unfolding referent_in
referent-from-zero t s (pos q) = refl
referent-from-zero t s (negsuc n) = refl
