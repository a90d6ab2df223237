-- Tests joined by `&&` and `||`, equal tests, and the test of two numbers.
use Prim.Native.Nat.{ℕ, suc}
use mathlib.Core.Path.{◌≡◌, refl, sym, ◌∙◌}
use mathlib.Core.Bool.{Bool, true, false, ◌&&◌, ◌||◌, true≢false, false≢true}
use mathlib.Core.Logic.{◌⊎◌, inl, inr}
use native.Mathlib.Omega.{arith}
use lib.Dec.{eqb}
pub use Rattle.std.proofs.lemmas.Bool.{or_cases}
use borrow.Author.Tests.{eqb-true, eqb-false, eq-eqb, ne_eqb}

pub and_left : (a b : Bool) → a && b ≡ true → a ≡ true
and_left true b h = refl
and_left false b h = h

pub and_right : (a b : Bool) → a && b ≡ true → b ≡ true
and_right true b h = h
and_right false b h = absurd (false≢true h)

pub and_both : {a b : Bool} → a ≡ true → b ≡ true → a && b ≡ true
and_both p q = rw (p, q)

pub and-false-cases : (a b : Bool) → a && b ≡ false → (a ≡ false) ⊎ (b ≡ false)
and-false-cases true b h = inr h
and-false-cases false b h = inl refl

pub and-false-left : (a b : Bool) → a && b ≡ false → b ≡ true → a ≡ false
and-false-left true b h e = sym e ∙ h
and-false-left false b h e = refl

pub or_right : (a : Bool) {b : Bool} → b ≡ true → a || b ≡ true
or_right true h = refl
or_right false h = h

pub or-none : (b : Bool) → b ≡ b || false
or-none true = refl
or-none false = refl

-- two tests are equal that are true together
pub true-together : (a b : Bool) → (a ≡ true → b ≡ true) → (b ≡ true → a ≡ true) → a ≡ b
true-together true b f g = sym (f refl)
true-together false true f g = g refl
true-together false false f g = refl

pub or-false-left : (a b : Bool) → a || b ≡ false → a ≡ false
or-false-left true b h = h
or-false-left false b h = refl

pub or-false-right : (a b : Bool) → a || b ≡ false → b ≡ false
or-false-right true b h = absurd (true≢false h)
or-false-right false b h = h

pub or_true_right : (a b : Bool) → a || b ≡ true → a ≡ false → b ≡ true
or_true_right true b h e = absurd (true≢false e)
or_true_right false b h e = h

pub eqb-suc : (n : ℕ) → eqb (suc n) 0 ≡ false
eqb-suc n = ne_eqb (suc n) 0 (λ z. omega arith)

pub eqb_swap : (a b : ℕ) → eqb a b ≡ eqb b a
eqb_swap a b = go (eqb b a) refl
  where
    go : (u : Bool) → eqb b a ≡ u → eqb a b ≡ u
    go true e = eq-eqb a b (sym (eqb-true b a e))
    go false e = ne_eqb a b (λ q. eqb-false b a e (sym q))
