-- What a caller of the search needs. `place-sound`: the place is a free range of at least the order that is sought. `place-complete`: where
-- there is none, no such range is free.
use Rattle.std.proofs.Common.{◌≡◌, ℕ, zero, suc, ◌+◌, ◌-◌, ◌*◌, ◌/◌, ◌^◌, ◌<◌, ◌≤◌, Bool, true, false, cond, not, ◌&&◌, eqb, sym, refl, ap, ◌∙◌, subst, ⊎_elim}
use Rattle.std.proofs.Common.{true≢false, mul-le-mul_right, suc-mul, eq-or-lt_of_le, arith, eq-eqb}
use Rattle.blocks.specs.Placing.{Place, At, Nothing, range_start, free_range, maximal, lowest, at_order, or_else, from_order, place_in}
use Rattle.common.proofs.Booleans.{and_left, and-false-cases, or_right}
use Rattle.blocks.proofs.Halves.{doubled, sizes}
use Rattle.blocks.proofs.FreeRuns.{all-at}

-- range b of order k lies in the arena
pub range_inside : (t m k b : ℕ) → t ≤ k → k ≤ m → b < 2 ^ (m - k) → b * 2 ^ (k - t) + 2 ^ (k - t) ≤ 2 ^ (m - t)
range_inside t m k b p q l = omega (arith, sizes t k m p q, mul-le-mul_right (2 ^ (k - t)) l, suc-mul b (2 ^ (k - t)))

-- range i of those from number b on passes p, and begins at x
record Hit (p : ℕ → Bool) (s : ℕ → ℕ) (k b n x j : ℕ) : Type 0 where
  number : ℕ
  order : j ≡ k
  low : b ≤ number
  high : number < b + n
  start : x ≡ s number
  passes : p number ≡ true

module _ (p : ℕ → Bool) (s : ℕ → ℕ) (k : ℕ) where
  lowest-hit : (b n x j : ℕ) → lowest p s k b n ≡ At x j → Hit p s k b n x j
  unfolding lowest
  lowest-hit b zero x j q = let z : ◌≡◌ {A = ℕ} 0 1 = cc in absurd (omega arith)
  lowest-hit b (suc n) x j q = go (p b) refl q (lowest-hit (suc b) n x j)
    where
      go : (c : Bool) → p b ≡ c → cond c (At (s b) k) (lowest p s k (suc b) n) ≡ At x j
          → (lowest p s k (suc b) n ≡ At x j → Hit p s k (suc b) n x j) → Hit p s k b (suc n) x j
      go true e r ih =
          let y : s b ≡ x = cc in
          let z : k ≡ j = cc in
          record { number = b; order = sym z; low = omega arith; high = omega arith; start = sym y; passes = e }
      go false e r ih =
          let h = ih r in
          record { number = h.number; order = h.order; low = omega (arith, h.low); high = omega (arith, h.high); start = h.start; passes = h.passes }

  lowest-miss : (b n : ℕ) → lowest p s k b n ≡ Nothing → (i : ℕ) → b ≤ i → i < b + n → p i ≡ false
  unfolding lowest
  lowest-miss b zero q i lo hi = absurd (omega arith)
  lowest-miss b (suc n) q i lo hi = go (p b) refl q (lowest-miss (suc b) n)
    where
      go : (c : Bool) → p b ≡ c → cond c (At (s b) k) (lowest p s k (suc b) n) ≡ Nothing
          → (lowest p s k (suc b) n ≡ Nothing → (i : ℕ) → suc b ≤ i → i < suc b + n → p i ≡ false) → p i ≡ false
      go true e r ih = let z : ◌≡◌ {A = ℕ} 0 1 = cc in absurd (omega arith)
      go false e r ih = ⊎_elim (λ x. subst (λ (y : ℕ). p y ≡ false) x e) (λ x. ih r i x (omega arith)) (eq-or-lt_of_le lo)

-- a free range of order k, at least e, that begins at the slot s
pub record FreePlace (f : ℕ → Bool) (t from m e s k : ℕ) : Type 0 where
  pub low : e ≤ k
  pub high : k ≤ m
  pub number : ℕ
  pub among : number < 2 ^ (m - k)
  pub start : s ≡ from + number * 2 ^ (k - t)
  pub free : (i : ℕ) → i < 2 ^ (k - t) → f (s + i) ≡ true

module _ (f : ℕ → Bool) (t from m : ℕ) where
  at-sound : (k s j : ℕ) → k ≤ m → at_order f t from m k ≡ At s j → FreePlace f t from m k s j
  unfolding at_order free_range range_start
  at-sound k s j q h =
      let r = lowest-hit _ (range_start t from k) k 0 (2 ^ (m - k)) s j h in
      subst (λ (x : ℕ). FreePlace f t from m k s x) (sym r.order)
      (record {
        low = omega arith;
        high = q;
        number = r.number;
        among = omega (arith, r.high);
        start = r.start;
        free = λ i l. rw r.start (all-at f _ _ (and_left _ _ r.passes) i l);
      })

  from-sound : (k n s j : ℕ) → k + n ≤ suc m → from_order f t from m k n ≡ At s j → FreePlace f t from m k s j
  unfolding from_order
  from-sound k zero s j l h = let z : ◌≡◌ {A = ℕ} 0 1 = cc in absurd (omega arith)
  from-sound k (suc n) s j l h = go (at_order f t from m k) refl h (from-sound (suc k) n s j (omega arith))
    where
      go : (x : Place) → at_order f t from m k ≡ x → or_else x (from_order f t from m (suc k) n) ≡ At s j
          → (from_order f t from m (suc k) n ≡ At s j → FreePlace f t from m (suc k) s j) → FreePlace f t from m k s j
      go Nothing a b ih =
          let r = ih b in
          record { low = omega (arith, r.low); high = r.high; number = r.number; among = r.among; start = r.start; free = r.free }
      go (At u i) a b ih = at-sound k s j (omega arith) (a ∙ b)

  pub place-sound : (e s k : ℕ) → e ≤ suc m → place_in f t from m e ≡ At s k → FreePlace f t from m e s k
  unfolding place_in
  place-sound e s k l h = from-sound e (suc m - e) s k (omega arith) h

  from-none : (k n : ℕ) → from_order f t from m k n ≡ Nothing → (j : ℕ) → k ≤ j → j < k + n → at_order f t from m j ≡ Nothing
  unfolding from_order
  from-none k zero h j lo hi = absurd (omega arith)
  from-none k (suc n) h j lo hi = go (at_order f t from m k) refl h (from-none (suc k) n)
    where
      go : (x : Place) → at_order f t from m k ≡ x → or_else x (from_order f t from m (suc k) n) ≡ Nothing
          → (from_order f t from m (suc k) n ≡ Nothing → (j : ℕ) → suc k ≤ j → j < suc k + n → at_order f t from m j ≡ Nothing)
          → at_order f t from m j ≡ Nothing
      go Nothing a b ih = ⊎_elim (λ x. subst (λ (y : ℕ). at_order f t from m y ≡ Nothing) x a) (λ x. ih b j x (omega arith)) (eq-or-lt_of_le lo)
      go (At u i) a b ih = let z : ◌≡◌ {A = ℕ} 0 1 = cc in absurd (omega arith)

  module _ (e : ℕ) (none : place_in f t from m e ≡ Nothing) where
    -- no range is free and maximal
    none-fits : (k b : ℕ) → e ≤ k → k ≤ m → b < 2 ^ (m - k) → free_range f t from k b && maximal f t from m k b ≡ false
    unfolding place_in at_order
    none-fits k b lo hi l =
        lowest-miss _ (range_start t from k) k 0 (2 ^ (m - k)) (from-none e (suc m - e) none k lo (omega arith)) b (omega arith) (omega arith)

    -- and so, from the whole arena down, none is free
    none_free : (d k b : ℕ) → k + d ≡ m → e ≤ k → b < 2 ^ (m - k) → free_range f t from k b ≡ false
    unfolding maximal
    none_free zero k b q lo l =
        let top : eqb k m ≡ true = eq-eqb k m (omega arith) in
        ⊎_elim (λ x. x) (λ x. absurd (true≢false (sym (rw top refl) ∙ x))) (and-false-cases _ _ (none-fits k b lo (omega arith) l))
    none_free (suc d) k b q lo l =
        let outer : free_range f t from (suc k) (b / 2) ≡ false =
        none_free d (suc k) (b / 2) (omega arith) (omega arith) (omega (arith, doubled (m - suc k) (m - k) (omega arith))) in
        ⊎_elim (λ x. x) (λ x. absurd (true≢false (sym (or_right (eqb k m) (ap not outer)) ∙ x))) (and-false-cases _ _ (none-fits k b lo (omega arith) l))

    pub place-complete : (k b : ℕ) → e ≤ k → k ≤ m → b < 2 ^ (m - k) → free_range f t from k b ≡ false
    place-complete k b lo hi l = none_free (m - k) k b (omega arith) lo l
