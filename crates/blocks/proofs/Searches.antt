-- What the search answers for a part of the arena, one law for each of its returns. Slots are free by an arbitrary test f; the parts at the end are
-- those of a table.
use Rattle.std.proofs.Common.{◌≡◌, ℕ, ◌+◌, ◌-◌, ◌*◌, ◌/◌, ◌^◌, ◌<◌, ◌≤◌, Bool, true, false, cond, not, ◌&&◌, eqb, leb, List, length, get_or, sym, refl, ap, ◌∙◌}
use Rattle.std.proofs.Common.{subst, add-zero, add_assoc, mul-le-mul_right, mul_assoc, suc-mul, add-mul, zero-add, zero-mul, arith, pow_pos, ne_eqb, eqb-true}
use Rattle.std.proofs.Common.{le-leb, zero, suc, min, Some, None}
use Rattle.blocks.specs.Orders.{unless_zero}
use native.Mathlib.Decide.{dec_lt}
use borrow.Author.Tests.{eqb-false, not-true}
use Rattle.blocks.specs.Placing.{Place, Nothing, all_free, place_in}
use Rattle.blocks.specs.Tables.{entry_order, damaged_by, free_in}
use Rattle.blocks.specs.Inner.{bits_of, as_free, decided_by, PartOf, key_of}
use Rattle.blocks.proofs.Floors.{floor-le, lt-floor, floor-quotient, pow-split}
use Rattle.blocks.proofs.Tables.{order-taken, undamaged-whole}
use Rattle.blocks.proofs.Bits.{bits_none, bits-all, all-bits}
use Rattle.blocks.proofs.FreeRuns.{all-at, all-stop, all_same}
use Rattle.blocks.proofs.Halves.{smaller_of, doubled, place-whole, place_none, place-halves}
use Rattle.blocks.proofs.Keys.{Within, place-within, place-taken, key_right, key_left, key-first}

-- ---- answers
module _ (f : ℕ → Bool) (t from k e : ℕ) (low : t ≤ e) (high : e ≤ k) where
  abbrev answer : ℕ
  answer = key_of (place_in f t from k e)

  none : place_in f t from k e ≡ Nothing → 1114112 ≡ answer
  unfolding key_of
  none h = sym (ap key_of h)

  -- no slot is free
  pub none_free : ((i : ℕ) → i < 2 ^ (k - t) → f (from + i) ≡ false) → 1114112 ≡ answer
  none_free h = none (place-taken f t from k e low high h)

  -- all are
  pub all-open : all_free f from (2 ^ (k - t)) ≡ true → k * 65536 + from ≡ answer
  unfolding key_of
  all-open h = sym (ap key_of (place-whole f t from k e low high h))

  -- the part has the order that is sought, and is not all free
  pub at-order : k ≡ e → all_free f from (2 ^ (k - t)) ≡ false → 1114112 ≡ answer
  at-order g h = none (place_none f t from k e g h)

-- what the bits decide: r is the answer, or 0 where the halves have to be looked at
pub record Decided (t bits from k e r : ℕ) : Type 0 where
  pub answer : (r ≡ 0 → ⊥) → (f : ℕ → Bool) → bits ≡ bits_of f from (2 ^ (k - t)) → r ≡ key_of (place_in f t from k e)
  pub above : r ≡ 0 → e < k
  pub mixed : r ≡ 0 → (f : ℕ → Bool) → bits ≡ bits_of f from (2 ^ (k - t)) → all_free f from (2 ^ (k - t)) ≡ false

-- a number that is none where it is 0
unless-some : (d n : ℕ) → Some n ≡ unless_zero d → (n ≡ d) × (n ≡ 0 → ⊥)
unless-some zero n h = cc
unless-some (suc d) n h = let e : n ≡ suc d = cc in (e, λ z. omega arith)

unless_none : (d : ℕ) → None ≡ unless_zero d → 0 ≡ d
unless_none zero h = refl
unless_none (suc d) h = cc

module _ (t bits from k e : ℕ) (low : t ≤ e) (high : e ≤ k) (some : 0 < k) where
  answers : (r : ℕ) → (r ≡ 0 → ⊥) → ((f : ℕ → Bool) → bits ≡ bits_of f from (2 ^ (k - t)) → r ≡ key_of (place_in f t from k e))
      → Decided t bits from k e r
  answers r n h = record { answer = λ x. h; above = λ z. absurd (n z); mixed = λ z. absurd (n z) }

  not-all : eqb bits (2 ^ 2 ^ (k - t) - 1) ≡ false → (f : ℕ → Bool) → bits ≡ bits_of f from (2 ^ (k - t)) → all_free f from (2 ^ (k - t)) ≡ false
  not-all q f h = go (all_free f from (2 ^ (k - t))) refl
    where
      go : (b : Bool) → all_free f from (2 ^ (k - t)) ≡ b → b ≡ false
      go true x = absurd (eqb-false _ _ q (h ∙ all-bits f from _ x))
      go false x = refl

  pub decided : (r : ℕ) → r ≡ decided_by t bits from k e → Decided t bits from k e r
  decided r h = subst (Decided t bits from k e) (sym h) (none-set (eqb bits 0) refl)
    where
      in_order : eqb bits (2 ^ 2 ^ (k - t) - 1) ≡ false → (b : Bool) → eqb k e ≡ b → Decided t bits from k e (cond b 1114112 0)
      in_order n true q = answers 1114112 (λ z. omega arith) (λ f x. at-order f t from k e low high (eqb-true k e q) (not-all n f x))
      in_order n false q =
          let below : e < k = elim (dec_lt e k) [ yes l ↦ l | no l ↦ absurd (eqb-false k e q (omega arith)) ] in
          record { answer = λ x. absurd (x refl); above = λ z. below; mixed = λ z. not-all n }

      all_set : (b : Bool) → eqb bits (2 ^ 2 ^ (k - t) - 1) ≡ b → Decided t bits from k e (cond b (k * 65536 + from) (cond (eqb k e) 1114112 0))
      all_set true q =
          let ones = eqb-true bits _ q in
          answers (k * 65536 + from) (λ z. omega arith) (λ f x. all-open f t from k e low high (bits-all f from _ (sym x ∙ ones)))
      all_set false q = in_order q (eqb k e) refl

      none-set : (b : Bool) → eqb bits 0 ≡ b
          → Decided t bits from k e (cond b 1114112 (cond (eqb bits (2 ^ 2 ^ (k - t) - 1)) (k * 65536 + from) (cond (eqb k e) 1114112 0)))
      none-set true q = answers 1114112 (λ z. omega arith) (λ f x. none_free f t from k e low high (bits_none f from _ (sym x ∙ eqb-true bits 0 q)))
      none-set false q = all_set (eqb bits (2 ^ 2 ^ (k - t) - 1)) refl

  -- the same of an answer that the code gives as an option
  pub answered : (n : ℕ) → Some n ≡ unless_zero (decided_by t bits from k e) → (f : ℕ → Bool) → bits ≡ bits_of f from (2 ^ (k - t))
      → n ≡ key_of (place_in f t from k e)
  answered n h = let is = unless-some _ n h in (decided n is.0).answer is.1

  pub undecided : None ≡ unless_zero (decided_by t bits from k e) → Decided t bits from k e 0
  undecided h = decided 0 (unless_none _ h)

-- a part that is searched by halves
pub record Halved (f : ℕ → Bool) (t from k e : ℕ) : Type 0 where
  pub low : t ≤ e
  pub below : e < k
  pub top : k ≤ 16
  pub small : from + 2 ^ (k - t) ≤ 65536
  pub not_free : all_free f from (2 ^ (k - t)) ≡ false

-- a part has twice the slots of its half
pub two-halves : (t k : ℕ) → t < k → 2 ^ (k - t) ≡ 2 ^ (k - 1 - t) + 2 ^ (k - 1 - t)
two-halves t k l = omega (arith, doubled (k - 1 - t) (k - t) (omega arith))

module _ {f : ℕ → Bool} {t from k e : ℕ} (h : Halved f t from k e) where
  abbrev mid : ℕ
  mid = from + 2 ^ (k - 1 - t)

  abbrev end : ℕ
  end = mid + 2 ^ (k - 1 - t)

  abbrev left : Place
  left = place_in f t from (k - 1) e

  abbrev right : Place
  right = place_in f t mid (k - 1) e

  abbrev both : Place
  both = place_in f t from k e

  left-within : Within from mid e left
  left-within = place-within f t from (k - 1) e h.low (omega (arith, h.below)) (omega (arith, h.top))

  right-within : Within mid end e right
  right-within = place-within f t mid (k - 1) e h.low (omega (arith, h.below)) (omega (arith, h.top))

  end-top : end ≤ 65536
  end-top = omega (arith, h.small, two-halves t k (omega (arith, h.low, h.below)))

  smaller-half : key_of (smaller_of left right) ≡ key_of both
  smaller-half = sym (ap key_of (place-halves f t from k e h.low h.below h.not_free))

  left-half : key_of left ≤ key_of right → key_of left ≡ key_of both
  left-half l = sym (key_left from mid end e (omega arith) end-top (omega (arith, h.below, h.top)) left right left-within right-within l) ∙ smaller-half

  right-half : key_of right < key_of left → key_of right ≡ key_of both
  right-half l = sym (key_right from mid end e (omega arith) end-top (omega (arith, h.below, h.top)) left right left-within right-within l) ∙ smaller-half

  pub first-half : key_of left < (e + 1) * 65536 → key_of left ≡ key_of both
  first-half l = left-half (key-first from mid end e (omega arith) end-top (omega (arith, h.below, h.top)) left right left-within right-within l)

  pub better-half : min (key_of right) (key_of left) ≡ key_of both
  better-half = elim (dec_lt (key_of right) (key_of left)) [
    | yes l ↦ let m : min (key_of right) (key_of left) ≡ key_of right = omega arith in m ∙ right-half l
    | no l ↦ let m : min (key_of right) (key_of left) ≡ key_of left = omega arith in m ∙ left-half (omega arith)
  ]

-- ---- parts of a table
-- the arena is a part
pub part-arena : (t m : ℕ) (s : List ℕ) → length s ≡ 2 ^ (m - t) → damaged_by t m s ≡ false → PartOf t s 0 m s
part-arena t m s len good = record {
  top = m;
  slots = len;
  whole = good;
  high = omega arith;
  index = 0;
  place = sym (zero-mul _);
  inside = omega arith;
  entries = λ i l. rw zero-add;
}

-- a part that begins in a larger aligned range ends in it
part-ends : (a b q j : ℕ) → b ≤ a → j * 2 ^ b < q * 2 ^ a + 2 ^ a → j * 2 ^ b + 2 ^ b ≤ q * 2 ^ a + 2 ^ a
part-ends a b q j le l =
    let c = 2 ^ (a - b) in
    let size : 2 ^ a ≡ c * 2 ^ b = pow-split b a le in
    let end : q * 2 ^ a + 2 ^ a ≡ (q * c + c) * 2 ^ b =
    ap (λ (x : ℕ). q * x + x) size ∙ sym (add-mul (q * c) c (2 ^ b) ∙ ap (λ (x : ℕ). x + c * 2 ^ b) (mul_assoc q c (2 ^ b))) in
    elim (dec_lt j (q * c + c)) [
      | yes p ↦ omega (arith, end, mul-le-mul_right (2 ^ b) p, suc-mul j (2 ^ b))
      | no p ↦ let z : q * c + c ≤ j = omega arith in absurd (omega (arith, end, mul-le-mul_right (2 ^ b) z))
    ]

module _ {t k from : ℕ} {s p : List ℕ} (r : PartOf t s from k p) where
  abbrev half : ℕ
  half = 2 ^ (k - 1 - t)

  -- the halves of a part are parts
  module _ (q : List ℕ) (l : t < k) where
    begins : from ≡ r.index * 2 * half
    begins =
        let two : 2 ^ (k - t) ≡ 2 * half = omega (arith, two-halves t k l) in
        r.place ∙ ap (λ (x : ℕ). r.index * x) two ∙ sym (mul_assoc r.index 2 half)

    pub left-part : ((i : ℕ) → i < half → get_or q i 0 ≡ get_or p i 0) → PartOf t s from (k - 1) q
    left-part g = record {
      top = r.top;
      slots = r.slots;
      whole = r.whole;
      high = omega (arith, r.high);
      index = r.index * 2;
      place = begins;
      inside = omega (arith, r.inside, two-halves t k l);
      entries = λ i lt. g i lt ∙ r.entries i (omega (arith, two-halves t k l));
    }

    pub right-part : ((i : ℕ) → i < half → get_or q i 0 ≡ get_or p (half + i) 0) → PartOf t s (from + half) (k - 1) q
    right-part g = record {
      top = r.top;
      slots = r.slots;
      whole = r.whole;
      high = omega (arith, r.high);
      index = r.index * 2 + 1;
      place = omega (arith, begins, add-mul (r.index * 2) 1 half);
      inside = omega (arith, r.inside, two-halves t k l);
      entries = λ i lt.
          g i lt ∙ r.entries (half + i) (omega (arith, two-halves t k l)) ∙ ap (λ (x : ℕ). get_or s x 0) (sym (add_assoc from half i));
    }

  pub part_free : (i : ℕ) → i < 2 ^ (k - t) → free_in p i ≡ free_in s (from + i)
  part_free i l = ap (λ (x : ℕ). eqb x 0) (r.entries i l)

  first_entry : get_or p 0 0 ≡ get_or s from 0
  first_entry = rw add-zero at (r.entries 0 (pow_pos (k - t)))

  -- a part that lies in a block
  pub in_block : (x : ℕ) → x ≡ entry_order (get_or p 0 0) → t < k → k ≤ x → (i : ℕ) → i < 2 ^ (k - t) → free_in s (from + i) ≡ false
  in_block x h o l i lt =
      let says : entry_order (get_or s from 0) ≡ x = ap entry_order (sym first_entry) ∙ sym h in
      let z = order-taken (get_or s from 0) (λ g. omega (arith, says)) in
      let w = undamaged-whole t r.top s r.whole from _ x (omega (arith, r.inside, pow_pos (k - t))) refl says z in
      let start = floor-quotient (x - t) from in
      let begins = r.place in
      let ends = part-ends (x - t) (k - t) (from / 2 ^ (x - t)) r.index (omega arith) (omega (arith, lt-floor (x - t) from)) in
      let y = w.entries (from + i) (omega (arith, floor-le (x - t) from)) (omega arith) in
      ne_eqb _ _ (λ g. z (sym y ∙ g))

  -- a part whose slots are all free, or all taken
  pub uniform-free : all_free (as_free p true) 0 (2 ^ (k - t)) ≡ true → all_free (free_in s) from (2 ^ (k - t)) ≡ true
  uniform-free h = sym (all_same (free_in p) (free_in s) 0 from _ (λ j l. rw zero-add (part_free j l))) ∙ h

  pub uniform-taken : all_free (as_free p false) 0 (2 ^ (k - t)) ≡ true → (i : ℕ) → i < 2 ^ (k - t) → free_in s (from + i) ≡ false
  uniform-taken h i l =
      let taken : not (free_in p i) ≡ true = rw zero-add at (all-at (as_free p false) 0 _ h i l) in
      sym (part_free i l) ∙ not-true _ taken

  -- one that is not told to be so is not all free
  pub not-uniform : (x : ℕ) → x ≡ entry_order (get_or p 0 0) → leb x (t + 4) && all_free (as_free p (eqb x 0)) 0 (2 ^ (k - t)) ≡ false
      → all_free (free_in s) from (2 ^ (k - t)) ≡ false
  not-uniform x h g = go (eqb x 0) refl g
    where
      go : (b : Bool) → eqb x 0 ≡ b → leb x (t + 4) && all_free (as_free p b) 0 (2 ^ (k - t)) ≡ false → all_free (free_in s) from (2 ^ (k - t)) ≡ false
      go true z g =
          let small : leb x (t + 4) ≡ true = le-leb x (t + 4) (omega (arith, eqb-true x 0 z)) in
          sym (all_same (free_in p) (free_in s) 0 from _ (λ j l. rw zero-add (part_free j l))) ∙ (rw small at g)
      go false z g =
          let taken = order-taken (get_or p 0 0) (λ y. eqb-false x 0 z (h ∙ y)) in
          all-stop (free_in s) from _ (pow_pos (k - t)) (rw (← first_entry) (ne_eqb _ 0 taken))
