-- The free slots of a part as bits: a half of the number is that of a half of the part, 0 is none free, and all ones is all free.
use Rattle.std.proofs.Common.{◌≡◌, ℕ, zero, suc, ◌+◌, ◌-◌, ◌*◌, ◌/◌, ◌%◌, ◌^◌, ◌<◌, ◌≤◌, Bool, true, false, cond, ◌&&◌, refl, ap, ◌∙◌, ap₂, add-zero, add-suc}
use Rattle.std.proofs.Common.{suc-add, zero-add, add-one, arith, pow_pos}
use mathlib.Core.Bool.{false≢true}
use native.Mathlib.Nat.{two-pow-succ}
use lib.Pow.{high, low}
use Rattle.blocks.specs.Placing.{all_free}
use Rattle.blocks.specs.Inner.{bits_of}

module _ (f : ℕ → Bool) where
  -- a bit more, in front
  pub bits-before : (i n : ℕ) → i < n → bits_of f i (n - i) ≡ cond (f i) 1 0 + 2 * bits_of f (i + 1) (n - (i + 1))
  unfolding bits_of
  bits-before i n l =
      let x : n - i ≡ suc (n - (i + 1)) = omega arith in
      rw (x, add-one i)

  -- and none is left
  pub no_bits : (i n : ℕ) → n ≤ i → bits_of f i (n - i) ≡ 0
  unfolding bits_of
  no_bits i n l = let z : n - i ≡ 0 = omega arith in rw z

  pub bits_below : (i n : ℕ) → bits_of f i n < 2 ^ n
  unfolding bits_of
  bits_below i zero = omega arith
  bits_below i (suc n) = go (f i) (bits_below (suc i) n)
    where
      go : (b : Bool) → bits_of f (suc i) n < 2 ^ n → cond b 1 0 + 2 * bits_of f (suc i) n < 2 ^ suc n
      go true h = omega (arith, two-pow-succ n)
      go false h = omega (arith, two-pow-succ n)

  pub bits_none : (i n : ℕ) → bits_of f i n ≡ 0 → (j : ℕ) → j < n → f (i + j) ≡ false
  unfolding bits_of
  bits_none i zero h j l = absurd (omega arith)
  bits_none i (suc n) h j l = go (bits_none (suc i) n) (f i) refl h j l
    where
      go : (bits_of f (suc i) n ≡ 0 → (j : ℕ) → j < n → f (suc i + j) ≡ false) → (b : Bool) → f i ≡ b
          → cond b 1 0 + 2 * bits_of f (suc i) n ≡ 0 → (j : ℕ) → j < suc n → f (i + j) ≡ false
      go ih true q h j l = absurd (omega arith)
      go ih false q h zero l = rw add-zero q
      go ih false q h (suc j) l = rw (add-suc, ← suc-add) (ih (omega arith) j (omega arith))

  pub bits-all : (i n : ℕ) → bits_of f i n ≡ 2 ^ n - 1 → all_free f i n ≡ true
  unfolding bits_of all_free
  bits-all i zero h = refl
  bits-all i (suc n) h = go (bits-all (suc i) n) (f i) h
    where
      go : (bits_of f (suc i) n ≡ 2 ^ n - 1 → all_free f (suc i) n ≡ true) → (b : Bool)
          → cond b 1 0 + 2 * bits_of f (suc i) n ≡ 2 ^ suc n - 1 → b && all_free f (suc i) n ≡ true
      go ih true h = ih (omega (arith, two-pow-succ n, pow_pos n))
      go ih false h = absurd (omega (arith, two-pow-succ n, pow_pos n))

  pub all-bits : (i n : ℕ) → all_free f i n ≡ true → bits_of f i n ≡ 2 ^ n - 1
  unfolding bits_of all_free
  all-bits i zero h = refl
  all-bits i (suc n) h = go (all-bits (suc i) n) (f i) h
    where
      go : (all_free f (suc i) n ≡ true → bits_of f (suc i) n ≡ 2 ^ n - 1) → (b : Bool)
          → b && all_free f (suc i) n ≡ true → cond b 1 0 + 2 * bits_of f (suc i) n ≡ 2 ^ suc n - 1
      go ih true h = omega (arith, ih h, two-pow-succ n, pow_pos n)
      go ih false h = absurd (false≢true h)

  bits-append : (i n l : ℕ) → bits_of f i (n + l) ≡ bits_of f (i + n) l * 2 ^ n + bits_of f i n
  unfolding bits_of
  bits-append i zero l =
      let same : bits_of f (i + 0) l ≡ bits_of f i l = rw add-zero in
      rw zero-add (omega arith)
  bits-append i (suc n) l =
      let rest : bits_of f (suc i) (n + l) ≡ bits_of f (suc i + n) l * 2 ^ n + bits_of f (suc i) n = bits-append (suc i) n l in
      let twice : bits_of f (suc i + n) l * 2 ^ suc n ≡ 2 * (bits_of f (suc i + n) l * 2 ^ n) = rw (two-pow-succ n) (omega arith) in
      rw (suc-add, add-suc, ← suc-add) (omega arith)

  -- the halves of a part are the halves of its number
  pub bits_left : (i n : ℕ) → bits_of f i (n + n) % 2 ^ n ≡ bits_of f i n
  bits_left i n = ap (λ (x : ℕ). x % 2 ^ n) (bits-append i n n) ∙ low (bits_of f (i + n) n) n (bits_below i n)

  pub bits-right : (i n : ℕ) → bits_of f i (n + n) / 2 ^ n ≡ bits_of f (i + n) n
  bits-right i n = ap (λ (x : ℕ). x / 2 ^ n) (bits-append i n n) ∙ high (bits_of f (i + n) n) n (bits_below i n)

-- two parts whose slots are free alike
pub bits-same : (f g : ℕ → Bool) (i l n : ℕ) → ((j : ℕ) → j < n → f (i + j) ≡ g (l + j)) → bits_of f i n ≡ bits_of g l n
unfolding bits_of
bits-same f g i l zero h = refl
bits-same f g i l (suc n) h =
    let first : f i ≡ g l = rw (← add-zero i, ← add-zero l) (h 0 (omega arith)) in
    ap₂ (λ (b : Bool) (x : ℕ). cond b 1 0 + 2 * x) first
    (bits-same f g (suc i) (suc l) n (λ j q. rw (suc-add, ← add-suc, suc-add, ← add-suc) (h (suc j) (omega arith))))
