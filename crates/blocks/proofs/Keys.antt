-- Places by their keys: of the places in two halves, the one with the smaller key is the smaller one.
use Rattle.std.proofs.Common.{◌≡◌, ℕ, ◌+◌, ◌-◌, ◌*◌, ◌/◌, ◌%◌, ◌^◌, ◌<◌, ◌≤◌, Bool, true, false, sym, refl, ap, ◌∙◌, subst, true≢false, arith, pow_pos, ne_eqb}
use Rattle.blocks.specs.Placing.{Place, At, Nothing, place_in}
use Rattle.blocks.specs.Inner.{key_of, place_at}
use Rattle.blocks.proofs.Halves.{smaller_of, smaller-left, smaller-right}
use Rattle.blocks.proofs.Places.{FreePlace, place-sound, range_inside}

-- a place, if any, begins at a slot from lo up and below hi, and has an order from e up to 16
abbrev pub Within : (lo hi e : ℕ) → Place → Type 0
Within lo hi e Nothing = Unit {0}
Within lo hi e (At s k) = (lo ≤ s) × (s < hi) × (e ≤ k) × (k ≤ 16)

module _ (f : ℕ → Bool) (t from m e : ℕ) (p : t ≤ e) (q : e ≤ m) where
  -- the range of a place lies in the arena
  range-ends : (s k : ℕ) → FreePlace f t from m e s k → s + 2 ^ (k - t) ≤ from + 2 ^ (m - t)
  range-ends s k r = omega (arith, r.start, range_inside t m k r.number (omega (arith, r.low)) r.high r.among)

  pub place-within : m ≤ 16 → Within from (from + 2 ^ (m - t)) e (place_in f t from m e)
  place-within l = go (place_in f t from m e) refl
    where
      go : (x : Place) → place_in f t from m e ≡ x → Within from (from + 2 ^ (m - t)) e x
      go Nothing h = tt
      go (At s k) h =
          let r = place-sound f t from m e s k (omega arith) h in
          (omega (arith, r.start), omega (arith, range-ends s k r, pow_pos (k - t)), r.low, omega (arith, r.high))

  -- where no slot is free, there is no place
  pub place-taken : ((i : ℕ) → i < 2 ^ (m - t) → f (from + i) ≡ false) → place_in f t from m e ≡ Nothing
  place-taken h = go (place_in f t from m e) refl
    where
      go : (x : Place) → place_in f t from m e ≡ x → x ≡ Nothing
      go Nothing g = refl
      go (At s k) g =
          let r = place-sound f t from m e s k (omega arith) g in
          let i : s + 0 ≡ from + (s - from) = omega (arith, r.start) in
          let free : f (from + (s - from)) ≡ true = subst (λ (x : ℕ). f x ≡ true) i (r.free 0 (pow_pos (k - t))) in
          absurd (true≢false (sym free ∙ h (s - from) (omega (arith, range-ends s k r, pow_pos (k - t), r.start))))

-- the places x and y in the two halves of an arena that begin at the slots lo and mid
module _ (lo mid hi e : ℕ) (between : mid ≤ hi) (top : hi ≤ 65536) (low : e ≤ 16) where
  pub key_right : (x y : Place) → Within lo mid e x → Within mid hi e y → key_of y < key_of x → key_of (smaller_of x y) ≡ key_of y
  unfolding key_of
  key_right Nothing y p q l = refl
  key_right (At s k) Nothing p q l = absurd (omega arith)
  key_right (At s k) (At u i) p q l = ap key_of (smaller-right s k u i (omega arith))

  pub key_left : (x y : Place) → Within lo mid e x → Within mid hi e y → key_of x ≤ key_of y → key_of (smaller_of x y) ≡ key_of x
  unfolding key_of
  key_left Nothing Nothing p q l = refl
  key_left Nothing (At u i) p q l = absurd (omega arith)
  key_left (At s k) Nothing p q l = refl
  key_left (At s k) (At u i) p q l = ap key_of (smaller-left s k u i (omega arith))

  -- no place is better than one of order e in the left half
  pub key-first : (x y : Place) → Within lo mid e x → Within mid hi e y → key_of x < (e + 1) * 65536 → key_of x ≤ key_of y
  unfolding key_of
  key-first Nothing y p q l = absurd (omega arith)
  key-first (At s k) Nothing p q l = omega arith
  key-first (At s k) (At u i) p q l = omega arith

-- a key tells its place
pub key-place : (lo hi e : ℕ) → hi ≤ 65536 → (x : Place) → Within lo hi e x → place_at (key_of x) ≡ x
unfolding key_of
key-place lo hi e top Nothing p = refl
key-place lo hi e top (At s k) p =
    let other : k * 65536 + s ≡ 1114112 → ⊥ = λ z. omega arith in
    let a : (k * 65536 + s) % 65536 ≡ s = omega arith in
    let b : (k * 65536 + s) / 65536 ≡ k = omega arith in
    rw (ne_eqb (k * 65536 + s) 1114112 other, a, b)
