-- Document 01, "Blocks and their table": plain and marked (out-of-bounds) pointers, exact and wrapping sums, and the check by xor and shift.
-- Request 6 of document 02: what lies outside the arena. A slot has 2 ^ t bytes.
use Rattle.std.specs.Prelude.{ℕ, ◌+◌, ◌-◌, ◌/◌, ◌%◌, ◌^◌, Bool, true, false, cond, not, ◌&&◌, ◌||◌, ℤ, pos, negsuc, ◌+ℤ◌, ◌==◌, bit_xor, int_le, int_lt, nat_le}
use Rattle.std.specs.Prelude.{nat_lt}
use Rattle.std.proofs.Math.IntN.{sub_ℕ}
use Rattle.blocks.specs.Blocks.{base, Referent, Missing, Found}

-- the bit that marks a pointer
abbrev pub mark_bit : ℕ
mark_bit = 2147483648

abbrev pub marked : ℕ → Bool
marked p = nat_le mark_bit p

abbrev pub address : ℕ → ℕ
address p = cond (marked p) (p - mark_bit) p

-- The address at which the referent is sought: a plain pointer's own; a marked one's a slot lower or higher, by the half of its slot that it
-- lies in. It is exact and may be negative.
unfoldable pub sought : ℕ → ℕ → ℤ
sought t p =
    cond (marked p) (cond (nat_lt (address p % 2 ^ t) (2 ^ (t - 1))) (sub_ℕ (address p) (2 ^ t)) (pos (address p + 2 ^ t))) (pos p)

-- the referent at an exact address, by the referents of addresses from 0 up
abbrev pub referent_at : (ℕ → Referent) → ℤ → Referent
referent_at f (pos q) = f q
referent_at f (negsuc n) = Missing

-- the referent of a pointer, plain or marked
abbrev pub pointer_referent : ℕ → (ℕ → Referent) → ℕ → Referent
pointer_referent t f p = referent_at f (sought t p)

-- an exact address lies outside an arena of 2 ^ m bytes
abbrev pub outside_at : ℕ → ℤ → Bool
outside_at m (pos q) = not (nat_le base q && nat_lt q (base + 2 ^ m))
outside_at m (negsuc n) = true

-- the number that 32 bits stand for in two's complement
unfoldable pub signed : ℕ → ℤ
signed i = cond (nat_lt (i % 2 ^ 32) (2 ^ 31)) (pos (i % 2 ^ 32)) (sub_ℕ (i % 2 ^ 32) (2 ^ 32))

-- the exact sum of an address and a step
abbrev pub exact_sum : ℕ → ℕ → ℤ
exact_sum q i = pos q +ℤ signed i

-- the 32-bit sum, which wraps
abbrev pub wrapped_sum : ℕ → ℕ → ℕ
wrapped_sum q i = (q + i) % 2 ^ 32

-- The check: the xor of h and r, shifted right by e, is zero.
unfoldable pub check_bits : ℕ → ℕ → ℕ → Bool
check_bits e h r = bit_xor h r / 2 ^ e == 0

-- from an exact address; none passes from one below 0
abbrev pub check_at : ℕ → ℤ → ℕ → Bool
check_at e (pos h) r = check_bits e h r
check_at e (negsuc n) r = false

-- an exact address lies in the block
unfoldable pub within : Referent → ℤ → Bool
within Missing z = false
within (Found s e) z = int_le (pos s) z && int_lt z (pos (s + 2 ^ e))

-- it lies in reach of the block: from half a slot before its start up to it, or in the half slot that follows its last byte
unfoldable pub in_reach : ℕ → Referent → ℤ → Bool
in_reach t Missing z = false
in_reach t (Found s e) z =
    int_le (sub_ℕ s (2 ^ (t - 1))) z && int_lt z (pos s) || int_le (pos (s + 2 ^ e)) z && int_lt z (pos (s + 2 ^ e + 2 ^ (t - 1)))
