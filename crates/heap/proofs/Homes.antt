-- Where a pointer leads, by the first of the rules that judge it and its referent: by cases of both, since what the rules let pass has a referent (`has-home`,
-- `plain-has-home`).
use Rattle.std.proofs.Common.{◌≡◌, ℕ, zero, suc, true, false, [], ◌∷◌, ap, sym, ◌∙◌, refl, arith}
use mathlib.Core.Bool.{false≢true}
use Rattle.common.specs.Refusals.{◌when◌, first}
use Rattle.blocks.specs.Blocks.{missing, Referent, Missing, Found}
use Rattle.blocks.specs.Pointers.{marked}
use Rattle.heap.specs.Views.{View, referent_of_pointer}
use Rattle.heap.specs.Rules.{dead, outside_arena, home_rules, plain_rules}
use Rattle.heap.specs.Inner.{Refused, Inside, located_by, located, located_plain, number_in}
use Rattle.common.proofs.Refusals.{clear, first-stays}

located-number : (n : ℕ) (r : Referent) → number_in (located_by n r) ≡ n
located-number zero Missing = refl
located-number zero (Found s e) = refl
located-number (suc n) r = refl

located-inside : (n : ℕ) (r : Referent) {s e : ℕ} → Inside s e ≡ located_by n r → (n ≡ 0) × (r ≡ Found s e)
located-inside zero Missing h = (cc, cc)
located-inside zero (Found s e) h = (refl, cc)
located-inside (suc n) r h = (cc, cc)

pub located-refused : (n : ℕ) (r : Referent) → (n ≡ 0 → missing r ≡ false) → (k : ℕ) → Refused k ≡ located_by n r → (n ≡ k) × (k ≡ 0 → ⊥)
located-refused zero Missing home k h = absurd (false≢true (sym (home refl)))
located-refused zero (Found s e) home k h = (cc, λ z. cc)
located-refused (suc n) r home k h = let e : k ≡ suc n = cc in (sym e, λ z. omega arith)

module _ (w : View) (p : ℕ) where
  -- what is not refused has a referent
  pub has-home : first (home_rules w p) ≡ 0 → dead w p ≡ false
  has-home z = clear (home_rules w p) refl z 22

  pub plain-has-home : first (plain_rules w p) ≡ 0 → dead w p ≡ false
  plain-has-home z = clear (plain_rules w p) refl z 22

  -- and where it must be plain, it is
  pub is_plain : first (plain_rules w p) ≡ 0 → marked p ≡ false
  is_plain z = clear (plain_rules w p) refl z 13

  -- where they lead a pointer to a block, and to a number
  pub home-inside : {s e : ℕ} → Inside s e ≡ located w p → (first (home_rules w p) ≡ 0) × (referent_of_pointer w p ≡ Found s e)
  home-inside l = located-inside (first (home_rules w p)) (referent_of_pointer w p) l

  pub plain-inside : {s e : ℕ} → Inside s e ≡ located_plain w p → (first (plain_rules w p) ≡ 0) × (referent_of_pointer w p ≡ Found s e)
  plain-inside l = located-inside (first (plain_rules w p)) (referent_of_pointer w p) l

  pub plain-to-number : (k : ℕ) → Refused k ≡ located_plain w p → (first (plain_rules w p) ≡ k) × (k ≡ 0 → ⊥)
  plain-to-number = located-refused (first (plain_rules w p)) (referent_of_pointer w p) plain-has-home

  pub plain-number : number_in (located_plain w p) ≡ first (plain_rules w p)
  plain-number = located-number (first (plain_rules w p)) (referent_of_pointer w p)

  -- by the referent, and where it is sought
  pub located-outside : outside_arena w p ≡ true → Refused 27 ≡ located w p
  located-outside o = rw o

  pub located-free : outside_arena w p ≡ false → referent_of_pointer w p ≡ Missing → Refused 22 ≡ located w p
  located-free o f = rw (o, f)

  -- what refuses a pointer refuses it where it must be plain too
  pub refused-stays : {k : ℕ} → located w p ≡ Refused k → Refused k ≡ located_plain w p
  refused-stays {k} l =
      let (n, some) = located-refused (first (home_rules w p)) (referent_of_pointer w p) has-home k (sym l) in
      let same : first (plain_rules w p) ≡ first (home_rules w p) = first-stays (home_rules w p) (13 when marked p ∷ []) (λ z. some (sym n ∙ z)) in
      sym l ∙ ap (λ (i : ℕ). located_by i (referent_of_pointer w p)) (sym same)
