-- The place in an arena, by halves. `place-whole`: where the arena is free, it is the place for every order. `place-halves`: where it is not,
-- the place is the smaller of the places in its two halves.
use Rattle.std.proofs.Common.{◌≡◌, ℕ, zero, suc, ◌+◌, ◌-◌, ◌*◌, ◌/◌, ◌^◌, ◌<◌, ◌≤◌, Bool, true, false, cond, not, ◌&&◌, ◌||◌, eqb, ltb, sym, refl, ap, ◌∙◌, ap₂}
use Rattle.std.proofs.Common.{⊎_elim, add-zero, add-suc, mul-le-mul_right, add-mul, suc-add, eq-or-lt_of_le, zero-add, zero-mul, arith, pow-add, le-ltb, lt-ltb}
use Rattle.std.proofs.Common.{eq-eqb, ne_eqb}
use mathlib.Core.Bool.{and-false}
use native.Mathlib.Nat.{two-pow-succ}
use Rattle.blocks.specs.Placing.{Place, At, Nothing, all_free, range_start, free_range, maximal, lowest, at_order, or_else, from_order, place_in}
use Rattle.blocks.proofs.FreeRuns.{part}

-- of two places the one of the smaller order, and the first of equals
abbrev pub smaller_of : Place → Place → Place
smaller_of Nothing y = y
smaller_of (At s k) Nothing = At s k
smaller_of (At s k) (At s' k') = cond (ltb k' k) (At s' k') (At s k)

-- ---- the lowest of some ranges
cond-else : (t : Bool) (x k : ℕ) (y z : Place) → cond t (At x k) (or_else y z) ≡ or_else (cond t (At x k) y) z
cond-else true x k y z = refl
cond-else false x k y z = refl

-- an answer of order k, or none
abbrev OrderIs : ℕ → Place → Type 0
OrderIs k Nothing = Unit {0}
OrderIs k (At s j) = j ≡ k

-- an answer of order k or more, or none
abbrev OrderFrom : ℕ → Place → Type 0
OrderFrom k Nothing = Unit {0}
OrderFrom k (At s j) = k ≤ j

pub smaller-right : (s k s' k' : ℕ) → k' < k → smaller_of (At s k) (At s' k') ≡ At s' k'
smaller-right s k s' k' h = rw (lt-ltb k' k h)

pub smaller-left : (s k s' k' : ℕ) → k ≤ k' → smaller_of (At s k) (At s' k') ≡ At s k
smaller-left s k s' k' h = rw (le-ltb k' k h)

-- the smaller of two answers, where each is of order k or else of a larger one
smaller-else : (k : ℕ) (a b x y : Place) → OrderIs k a → OrderIs k b → OrderFrom (suc k) x → OrderFrom (suc k) y
    → or_else (or_else a b) (smaller_of x y) ≡ smaller_of (or_else a x) (or_else b y)
smaller-else k Nothing Nothing x y p q g h = refl
smaller-else k Nothing (At s j) Nothing y p q g h = refl
smaller-else k Nothing (At s j) (At u i) y p q g h = sym (smaller-right u i s j (omega arith))
smaller-else k (At s j) Nothing x Nothing p q g h = refl
smaller-else k (At s j) Nothing x (At u i) p q g h = sym (smaller-left s j u i (omega arith))
smaller-else k (At s j) (At u i) x y p q g h = sym (smaller-left s j u i (omega arith))

module _ (p : ℕ → Bool) (s : ℕ → ℕ) (k : ℕ) where
  lowest-none : (b n : ℕ) → ((i : ℕ) → i < n → p (b + i) ≡ false) → lowest p s k b n ≡ Nothing
  unfolding lowest
  lowest-none b zero h = refl
  lowest-none b (suc n) h = rw (rw add-zero at (h 0 (omega arith)))
      (lowest-none (suc b) n (λ i l. rw (suc-add, ← add-suc) (h (suc i) (omega arith))))

  lowest-append : (b n l : ℕ) → lowest p s k b (n + l) ≡ or_else (lowest p s k b n) (lowest p s k (b + n) l)
  unfolding lowest
  lowest-append b zero l = rw (zero-add, add-zero)
  lowest-append b (suc n) l = rw (suc-add, add-suc, ← suc-add)
      (ap (cond (p b) (At (s b) k)) (lowest-append (suc b) n l) ∙ cond-else (p b) (s b) k _ _)

  cond-order : (t : Bool) (x : ℕ) (y : Place) → OrderIs k y → OrderIs k (cond t (At x k) y)
  cond-order true x y h = refl
  cond-order false x y h = h

  lowest-order : (b n : ℕ) → OrderIs k (lowest p s k b n)
  unfolding lowest
  lowest-order b zero = tt
  lowest-order b (suc n) = cond-order (p b) (s b) _ (lowest-order (suc b) n)

-- by tests and starts that are the same from number b on as others are from number c on
pub lowest-same : (p q : ℕ → Bool) (r s : ℕ → ℕ) (k b c n : ℕ)
    → ((i : ℕ) → i < n → p (b + i) ≡ q (c + i)) → ((i : ℕ) → i < n → r (b + i) ≡ s (c + i)) → lowest p r k b n ≡ lowest q s k c n
unfolding lowest
lowest-same p q r s k b c zero h g = refl
lowest-same p q r s k b c (suc n) h g =
    rw (rw (add-zero, add-zero) at (h 0 (omega arith)), rw (add-zero, add-zero) at (g 0 (omega arith)))
    (ap (cond (q c) (At (s c) k)) (lowest-same p q r s k (suc b) (suc c) n
    (λ i l. rw (suc-add, suc-add, ← add-suc, ← add-suc) (h (suc i) (omega arith)))
    (λ i l. rw (suc-add, suc-add, ← add-suc, ← add-suc) (g (suc i) (omega arith)))))

weaker : (k : ℕ) (x : Place) → OrderFrom (suc k) x → OrderFrom k x
weaker k Nothing h = tt
weaker k (At s j) h = omega arith

else-order : (k : ℕ) (a x : Place) → OrderIs k a → OrderFrom (suc k) x → OrderFrom k (or_else a x)
else-order k Nothing x p h = weaker k x h
else-order k (At s j) x p h = omega arith

is-order : (f : ℕ → Bool) (t from m k : ℕ) → OrderIs k (at_order f t from m k)
unfolding at_order
is-order f t from m k = lowest-order _ _ k 0 _

from-order : (f : ℕ → Bool) (t from m k n : ℕ) → OrderFrom k (from_order f t from m k n)
unfolding from_order
from-order f t from m k zero = tt
from-order f t from m k (suc n) = else-order k (at_order f t from m k) (from_order f t from m (suc k) n) (is-order f t from m k)
    (from-order f t from m (suc k) n)

-- ---- sizes
pub doubled : (i j : ℕ) → j ≡ suc i → 2 ^ j ≡ 2 ^ i + 2 ^ i
doubled i j e = rw e (two-pow-succ i)

-- the ranges of order k in an arena of order m have its size together
pub sizes : (t k m : ℕ) → t ≤ k → k ≤ m → 2 ^ (m - k) * 2 ^ (k - t) ≡ 2 ^ (m - t)
sizes t k m p q = sym (pow-add 2 (m - k) (k - t)) ∙ ap (λ (x : ℕ). 2 ^ x) (omega arith)

free-root : (f : ℕ → Bool) (t from m k b : ℕ) → k ≡ m → b ≡ 0 → free_range f t from k b ≡ all_free f from (2 ^ (m - t))
unfolding free_range range_start
free-root f t from m k b e z = rw (e, z, zero-mul, add-zero)

-- where the arena is not free, it is no place for its own order
top-none : (f : ℕ → Bool) (t from m k : ℕ) → k ≡ m → all_free f from (2 ^ (m - t)) ≡ false → at_order f t from m k ≡ Nothing
unfolding at_order
top-none f t from m k e h =
    let x : m - k ≡ 0 = omega arith in
    lowest-none _ _ k 0 _ (λ i l. let y : i < 1 = rw x at l in rw (free-root f t from m k (0 + i) e (omega arith), h))

-- ---- an arena that is free
module _ (f : ℕ → Bool) (t from m : ℕ) (h : all_free f from (2 ^ (m - t)) ≡ true) where
  -- what is round a range of a smaller order is free
  around : (k i : ℕ) → t ≤ k → k < m → i < 2 ^ (m - k) → free_range f t from (suc k) (i / 2) ≡ true
  unfolding free_range range_start
  around k i p q l =
      let x : i / 2 + 1 ≤ 2 ^ (m - suc k) = omega (arith, doubled (m - suc k) (m - k) (omega arith)) in
      part f from (2 ^ (m - t)) _ _ h (omega arith)
      (omega (arith, sizes t (suc k) m (omega arith) q, mul-le-mul_right (2 ^ (suc k - t)) x, add-mul (i / 2) 1 (2 ^ (suc k - t))))

  none_below : (k : ℕ) → t ≤ k → k < m → at_order f t from m k ≡ Nothing
  unfolding at_order maximal
  none_below k p q = lowest-none _ _ k 0 (2 ^ (m - k)) (λ i l. rw (zero-add, ne_eqb k m (omega arith), around k i p q l) (and-false (free_range f t from k i)))

  root-at : (k : ℕ) → k ≡ m → at_order f t from m k ≡ At from m
  unfolding at_order maximal lowest range_start
  root-at k e =
      let x : m - k ≡ 0 = omega arith in
      rw (x, free-root f t from m k 0 e refl, h, eq-eqb k m e, zero-mul, add-zero, e)

  whole : (k n : ℕ) → t ≤ k → k + n ≡ m → from_order f t from m k (suc n) ≡ At from m
  unfolding from_order
  whole k zero p e = rw (root-at k (omega arith))
  whole k (suc n) p e = rw (none_below k p (omega arith)) (whole (suc k) n (omega arith) (omega arith))

-- ---- the two halves of an arena of order m + 1: that of order m at the same slot, and that at `from + 2^(m - t)`
module _ (f : ℕ → Bool) (t from m : ℕ) where
  start_right : (k i : ℕ) → t ≤ k → k ≤ m → range_start t from k (2 ^ (m - k) + i) ≡ range_start t (from + 2 ^ (m - t)) k i
  unfolding range_start
  start_right k i p q = omega (arith, add-mul (2 ^ (m - k)) i (2 ^ (k - t)), sizes t k m p q)

  free-right : (k i : ℕ) → t ≤ k → k ≤ m → free_range f t from k (2 ^ (m - k) + i) ≡ free_range f t (from + 2 ^ (m - t)) k i
  unfolding free_range
  free-right k i p q = ap (λ (x : ℕ). all_free f x (2 ^ (k - t))) (start_right k i p q)

  maximal-right : (k i : ℕ) → t ≤ k → k ≤ m → maximal f t from m k (2 ^ (m - k) + i) ≡ maximal f t (from + 2 ^ (m - t)) m k i
  unfolding maximal
  maximal-right k i p q = ⊎_elim
      (λ e. rw (eq-eqb k m e))
      (λ l. ap (λ (x : Bool). eqb k m || not x)
      (ap (free_range f t from (suc k)) (omega (arith, doubled (m - suc k) (m - k) (omega arith))) ∙ free-right (suc k) (i / 2) (omega arith) l))
      (eq-or-lt_of_le q)

  -- where the arena of order m + 1 is not free, a range of order at most m is maximal in it as it is in the arena of order m, or would be
  maximal-same : (k b : ℕ) → k ≤ m → b < 2 ^ (suc m - k) → all_free f from (2 ^ (suc m - t)) ≡ false → maximal f t from (suc m) k b ≡ maximal f t from m k b
  unfolding maximal
  maximal-same k b q l h = ⊎_elim
      (λ e. rw (eq-eqb k m e, ne_eqb k (suc m) (omega arith), free-root f t from (suc m) (suc k) (b / 2) (omega arith) (omega (arith, below_two e)), h))
      (λ lt. rw (ne_eqb k (suc m) (omega arith), ne_eqb k m (omega arith)))
      (eq-or-lt_of_le q)
    where
      below_two : k ≡ m → b < 2
      below_two e = let x : suc m - k ≡ 1 = omega arith in rw x at l

  two : (k : ℕ) → k ≤ m → 2 ^ (suc m - k) ≡ 2 ^ (m - k) + 2 ^ (m - k)
  two k q = doubled (m - k) (suc m - k) (omega arith)

  -- where the right half begins
  abbrev middle : ℕ
  middle = from + 2 ^ (m - t)

  -- one order, in an arena of order m + 1 that is not free: its ranges are those of the left half and then those of the right
  level : (k : ℕ) → t ≤ k → k ≤ m → all_free f from (2 ^ (suc m - t)) ≡ false
      → at_order f t from (suc m) k ≡ or_else (at_order f t from m k) (at_order f t middle m k)
  unfolding at_order
  level k p q h =
      rw (two k q)
      (lowest-append _ (range_start t from k) k 0 (2 ^ (m - k)) (2 ^ (m - k))
      ∙ ap₂ or_else
      (lowest-same _ _ (range_start t from k) _ k 0 0 (2 ^ (m - k)) (λ i l. ap (λ (x : Bool). free_range f t from k (0 + i) && x) (same (0 + i) (omega arith)))
      (λ i l. refl))
      (lowest-same _ _ (range_start t from k) _ k (0 + 2 ^ (m - k)) 0 (2 ^ (m - k))
      (λ i l. rw (zero-add, zero-add) (ap₂ ◌&&◌ (free-right k i p q) (same (2 ^ (m - k) + i) (omega arith) ∙ maximal-right k i p q)))
      (λ i l. rw (zero-add, zero-add) (start_right k i p q))))
    where
      same : (i : ℕ) → i < 2 ^ (m - k) + 2 ^ (m - k) → maximal f t from (suc m) k i ≡ maximal f t from m k i
      same i l = maximal-same k i q (omega (arith, two k q)) h

  halves : (k n : ℕ) → t ≤ k → k + n ≡ suc m → all_free f from (2 ^ (suc m - t)) ≡ false
      → from_order f t from (suc m) k (suc n) ≡ smaller_of (from_order f t from m k n) (from_order f t middle m k n)
  unfolding from_order
  halves k zero p e h = rw (top-none f t from (suc m) k (omega arith) h)
  halves k (suc n) p e h =
      rw (level k p (omega arith) h, halves (suc k) n (omega arith) (omega arith) h)
      (smaller-else k (at_order f t from m k) (at_order f t middle m k) _ _ (is-order f t from m k) (is-order f t middle m k)
      (from-order f t from m (suc k) n) (from-order f t middle m (suc k) n))

-- ---- the place
pub place-whole : (f : ℕ → Bool) (t from m e : ℕ) → t ≤ e → e ≤ m → all_free f from (2 ^ (m - t)) ≡ true → place_in f t from m e ≡ At from m
unfolding place_in
place-whole f t from m e p q h =
    let x : suc m - e ≡ suc (m - e) = omega arith in
    rw x (whole f t from m h e (m - e) p (omega arith))

by-halves : (f : ℕ → Bool) (t from m e : ℕ) → t ≤ e → e ≤ suc m → all_free f from (2 ^ (suc m - t)) ≡ false
    → place_in f t from (suc m) e ≡ smaller_of (place_in f t from m e) (place_in f t (from + 2 ^ (m - t)) m e)
unfolding place_in
by-halves f t from m e p l h = let x : suc (suc m) - e ≡ suc (suc m - e) = omega arith in rw x (halves f t from m e (suc m - e) p (omega arith) h)

pub place-halves : (f : ℕ → Bool) (t from m e : ℕ) → t ≤ e → e < m → all_free f from (2 ^ (m - t)) ≡ false
    → place_in f t from m e ≡ smaller_of (place_in f t from (m - 1) e) (place_in f t (from + 2 ^ (m - 1 - t)) (m - 1) e)
place-halves f t from zero e p q h = absurd (omega arith)
place-halves f t from (suc m) e p q h = let y : suc m - 1 ≡ m = omega arith in rw y (by-halves f t from m e p (omega arith) h)

pub place_none : (f : ℕ → Bool) (t from m e : ℕ) → m ≡ e → all_free f from (2 ^ (m - t)) ≡ false → place_in f t from m e ≡ Nothing
unfolding place_in from_order
place_none f t from m e q h =
    let x : suc m - e ≡ 1 = omega arith in
    rw (x, top-none f t from m e (omega arith) h)
