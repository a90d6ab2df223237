-- Laws of rounding down to a multiple of 2 ^ e, by the law of quotient and remainder.
use Rattle.std.proofs.Common.{◌≡◌, ℕ, ◌+◌, ◌-◌, ◌*◌, ◌/◌, ◌^◌, ◌<◌, ◌≤◌, sym, refl, ap, ◌∙◌, le_trans, le_of_eq, mul-le-mul_right, suc-mul, add-mul}
use Rattle.std.proofs.Common.{add-sub_of_le, div-mul-le_self, arith, pow_pos, pow-add, shr_lt}
use native.Mathlib.Nat.{lt-div-mul-add, mul-add-div_right}
use lib.Pow.{shl-shr, high}
use Rattle.blocks.specs.Blocks.{base, floor}

module _ (a i : ℕ) where
  pub floor-quotient : floor a i ≡ i / 2 ^ a * 2 ^ a
  unfolding floor
  floor-quotient = refl

  pub floor-le : floor a i ≤ i
  unfolding floor
  floor-le = div-mul-le_self i (2 ^ a)

  pub lt-floor : i < floor a i + 2 ^ a
  unfolding floor
  lt-floor = lt-div-mul-add (pow_pos a)

  -- a number of i's block has i's quotient, and so i's floor
  pub quotient-same : (j : ℕ) → floor a i ≤ j → j < floor a i + 2 ^ a → j / 2 ^ a ≡ i / 2 ^ a
  unfolding floor
  quotient-same j lo hi =
      ap (λ (x : ℕ). x / 2 ^ a) (sym (add-sub_of_le lo)) ∙ high (i / 2 ^ a) a (omega arith)

  pub floor-same : (j : ℕ) → floor a i ≤ j → j < floor a i + 2 ^ a → floor a j ≡ floor a i
  unfolding floor
  floor-same j lo hi = ap (λ (x : ℕ). x * 2 ^ a) (quotient-same j lo hi)

-- a power of two is a multiple of a smaller one
pub pow-split : (a b : ℕ) → a ≤ b → 2 ^ b ≡ 2 ^ (b - a) * 2 ^ a
pow-split a b le = rw (← pow-add) (ap (λ (x : ℕ). 2 ^ x) (omega arith))

pub pow-quotient : (a b : ℕ) → a ≤ b → 2 ^ b / 2 ^ a ≡ 2 ^ (b - a)
pow-quotient a b le = ap (λ (x : ℕ). x / 2 ^ a) (pow-split a b le) ∙ shl-shr (2 ^ (b - a)) a

-- an aligned block of an arena of at least its size ends within it
pub floor-end : (a b i : ℕ) → a ≤ b → i < 2 ^ b → floor a i + 2 ^ a ≤ 2 ^ b
unfolding floor
floor-end a b i le h =
    let p = pow-split a b le in
    rw p (le_trans (le_of_eq (sym (suc-mul _ _))) (mul-le-mul_right _ (shr_lt (b - a) a (rw (pow-add, ← p) h))))

-- rounding down from the arena's first address, which is a multiple of every block's size
pub floor-base : (e h : ℕ) → e ≤ 16 → base ≤ h → floor e h ≡ base + floor e (h - base)
unfolding floor
floor-base e h le lo =
    let p : base ≡ 2 ^ (16 - e) * 2 ^ e = pow-split e 16 le in
    let q : h / 2 ^ e ≡ 2 ^ (16 - e) + (h - base) / 2 ^ e =
    ap (λ (x : ℕ). x / 2 ^ e) (sym (add-sub_of_le lo) ∙ ap (λ (x : ℕ). x + (h - base)) p) ∙ mul-add-div_right (pow_pos e) (2 ^ (16 - e)) (h - base) in
    ap (λ (x : ℕ). x * 2 ^ e) q ∙ add-mul (2 ^ (16 - e)) ((h - base) / 2 ^ e) (2 ^ e) ∙ ap (λ (x : ℕ). x + (h - base) / 2 ^ e * 2 ^ e) (sym p)

-- a number within 2 ^ e of a multiple rounds down to it
pub floor-multiple : (e i x : ℕ) → i * 2 ^ e ≤ x → x < i * 2 ^ e + 2 ^ e → floor e x ≡ i * 2 ^ e
unfolding floor
floor-multiple e i x lo hi =
    ap (λ (y : ℕ). y * 2 ^ e) (ap (λ (y : ℕ). y / 2 ^ e) (sym (add-sub_of_le lo)) ∙ high i e (omega arith))
