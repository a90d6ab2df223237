-- The check by xor and shift is membership in the aligned block, and with the sum that wraps it passes for the exact sum alone.
use Rattle.std.proofs.Common.{◌≡◌, ℕ, suc, ◌+◌, ◌-◌, ◌/◌, ◌%◌, ◌^◌, ◌<◌, ◌≤◌, true, leb, sym, ap, ◌∙◌, arith, ltb-true, le-ltb, lt-ltb, eq-eqb, eqb-true}
use Rattle.std.proofs.Common.{le-leb, leb-true}
use mathlib.Core.Bool.{and-false}
use native.Mathlib.Decide.{dec_lt}
use lib.Bits.{bit_xor, xor_shr, xor_self, xor_add_and, and_le_l, and_le_r}
use Rattle.blocks.specs.Blocks.{floor, holds, Found}
use Rattle.blocks.specs.Pointers.{signed, exact_sum, wrapped_sum, check_bits, within}
use Rattle.common.proofs.Booleans.{and_left, and_right, and_both, true-together}
use Rattle.blocks.proofs.Floors.{floor-le, lt-floor, quotient-same, floor-end}
use Rattle.blocks.proofs.Slots.{block}

-- only equal numbers have the exclusive or 0
xor-zero : (h r : ℕ) → bit_xor h r ≡ 0 → h ≡ r
xor-zero h r p = omega (arith, p, xor_add_and h r, and_le_l h r, and_le_r h r)

-- the check passes where r lies in the aligned block of 2 ^ e round h
pub check-holds : (e h r : ℕ) → check_bits e h r ≡ holds (block (floor e h) e) r
unfolding check_bits floor
check-holds e h r = true-together _ _ there back
  where
    there : check_bits e h r ≡ true → holds (block (floor e h) e) r ≡ true
    there p =
        let q : h / 2 ^ e ≡ r / 2 ^ e = xor-zero _ _ (sym (xor_shr h r e) ∙ eqb-true _ _ p) in
        and_both (le-leb (floor e h) r (rw q (floor-le e r))) (lt-ltb r (floor e h + 2 ^ e) (rw q (lt-floor e r)))

    back : holds (block (floor e h) e) r ≡ true → check_bits e h r ≡ true
    back p =
        eq-eqb (bit_xor h r / 2 ^ e) 0
        (rw (xor_shr, quotient-same e h r (leb-true _ _ (and_left _ _ p)) (ltb-true _ _ (and_right (leb (floor e h) r) _ p)), xor_self))

-- the check of the wrapped sum passes where the exact sum lies in the block, for addresses in the lower half
pub check-exact : (e h q i : ℕ) → e < 32 → h < 2 ^ 31 → q < 2 ^ 31 → check_bits e h (wrapped_sum q i) ≡ within (Found (floor e h) e) (exact_sum q i)
unfolding within signed
check-exact e h q i le lh lq = check-holds e h (wrapped_sum q i) ∙ go (dec_lt (i % 2 ^ 32) (2 ^ 31))
  where
    small : i % 2 ^ 32 < 2 ^ 32
    small = omega arith

    same : (n : ℕ) → (q + i) % 2 ^ 32 ≡ n → holds (block (floor e h) e) ((q + i) % 2 ^ 32) ≡ holds (block (floor e h) e) n
    same n p = ap (holds (block (floor e h) e)) p

    -- the block ends in the lower half
    low_end : floor e h + 2 ^ e ≤ 2 ^ 31
    low_end = floor-end e 31 h (omega arith) lh

    go : Dec (i % 2 ^ 32 < 2 ^ 31) → holds (block (floor e h) e) ((q + i) % 2 ^ 32) ≡ within (Found (floor e h) e) (exact_sum q i)
    go (yes p) = rw (lt-ltb (i % 2 ^ 32) (2 ^ 31) p) (same (q + i % 2 ^ 32) (omega arith))
    go (no n) = rw (le-ltb (i % 2 ^ 32) (2 ^ 31) (omega arith), lt-ltb (i % 2 ^ 32) (2 ^ 32) small)
        (elim (dec_lt (q + i % 2 ^ 32) (2 ^ 32)) [
          | yes p ↦ rw (lt-ltb q (suc (2 ^ 32 - suc (i % 2 ^ 32))) (omega arith), le-ltb ((q + i) % 2 ^ 32) (floor e h + 2 ^ e) (omega (arith, low_end)))
              (and-false (leb (floor e h) ((q + i) % 2 ^ 32)))
          | no p ↦ rw (le-ltb q (suc (2 ^ 32 - suc (i % 2 ^ 32))) (omega arith)) (same (q - suc (2 ^ 32 - suc (i % 2 ^ 32))) (omega arith))
        ])
