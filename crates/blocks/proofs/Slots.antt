-- Aligned blocks in slots of 2 ^ t bytes: both the start and the size are multiples of 2 ^ t, so that an address is in the block where its slot is.
use Rattle.std.proofs.Common.{◌≡◌, ℕ, ◌+◌, ◌-◌, ◌*◌, ◌/◌, ◌^◌, ◌<◌, ◌≤◌, true, leb, sym, refl, ap, ◌∙◌, mul-le-mul_right, mul_assoc, div-lt_iff_lt-mul, add-mul}
use Rattle.std.proofs.Common.{le-div_iff_mul-le, le_of_mul-le-mul_right, mul-div_cancel, arith, pow_pos, shr-shr, ltb-true, lt-ltb, le-leb, leb-true}
use native.Mathlib.Nat.{add-sub_cancel_left}
use Rattle.blocks.specs.Blocks.{base, floor, Block, holds, Aligned}
use Rattle.common.proofs.Booleans.{and_left, and_right, and_both}
use Rattle.blocks.proofs.Floors.{floor-quotient, floor-end, pow-split}

abbrev pub block : ℕ → ℕ → Block
block s e = record { start = s; order = e }

-- the slot of the address q
abbrev pub slot_of : ℕ → ℕ → ℕ
slot_of t q = (q - base) / 2 ^ t

pub slot-start : (t i : ℕ) → slot_of t (base + i * 2 ^ t) ≡ i
slot-start t i = rw add-sub_cancel_left (mul-div_cancel i (pow_pos t))

-- the slot of q is one of the n slots from `first` on
pub record InSlots (t first n q : ℕ) : Type 0 where
  pub past : base ≤ q
  pub low : first ≤ slot_of t q
  pub high : slot_of t q < first + n

-- rounding down an address is rounding down its slot
pub floor-slots : (t e x : ℕ) → t ≤ e → floor e x ≡ floor (e - t) (x / 2 ^ t) * 2 ^ t
unfolding floor
floor-slots t e x le =
    let p : x / 2 ^ t / 2 ^ (e - t) ≡ x / 2 ^ e = shr-shr x t (e - t) ∙ ap (λ (k : ℕ). x / 2 ^ k) (omega arith) in
    ap (λ (k : ℕ). x / 2 ^ e * k) (pow-split t e le) ∙ sym (mul_assoc (x / 2 ^ e) (2 ^ (e - t)) (2 ^ t)) ∙ ap (λ (k : ℕ). k * 2 ^ (e - t) * 2 ^ t) (sym p)

-- a block in slots: its first, and that it has 2 ^ (order - t) of them, all in the arena
pub record Slots (t m : ℕ) (b : Block) : Type 0 where
  pub first : ℕ
  pub start : b.start ≡ base + first * 2 ^ t
  pub size : 2 ^ b.order ≡ 2 ^ (b.order - t) * 2 ^ t
  pub within : first + 2 ^ (b.order - t) ≤ 2 ^ (m - t)
  pub index : ℕ
  pub multiple : first ≡ index * 2 ^ (b.order - t)

pub slots-of : (t m : ℕ) (b : Block) → Aligned t m b → Slots t m b
slots-of t m b a =
    let slots : ℕ = 2 ^ (b.order - t) in
    let first : ℕ = a.index * slots in
    let k : 2 ^ b.order ≡ slots * 2 ^ t = pow-split t b.order a.low in
    let n : 2 ^ m ≡ 2 ^ (m - t) * 2 ^ t = pow-split t m (omega (arith, a.low, a.high)) in
    let i : a.index * 2 ^ b.order ≡ first * 2 ^ t = ap (λ (x : ℕ). a.index * x) k ∙ sym (mul_assoc a.index slots (2 ^ t)) in
    let j : (first + slots) * 2 ^ t ≡ first * 2 ^ t + slots * 2 ^ t = add-mul first slots (2 ^ t) in
    record {
      first = first;
      start = a.place ∙ ap (λ (x : ℕ). base + x) i;
      size = k;
      within = le_of_mul-le-mul_right (omega (arith, a.inside, a.place)) (pow_pos t);
      index = a.index;
      multiple = refl;
    }

pub aligned-of : (t m : ℕ) (b : Block) → t ≤ b.order → b.order ≤ m → Slots t m b → Aligned t m b
aligned-of t m b lo hi z =
    let n : 2 ^ m ≡ 2 ^ (m - t) * 2 ^ t = pow-split t m (omega arith) in
    let j : (z.first + 2 ^ (b.order - t)) * 2 ^ t ≡ z.first * 2 ^ t + 2 ^ (b.order - t) * 2 ^ t = add-mul z.first (2 ^ (b.order - t)) (2 ^ t) in
    let p : z.first * 2 ^ t ≡ z.index * 2 ^ b.order =
    ap (λ (x : ℕ). x * 2 ^ t) z.multiple ∙ mul_assoc z.index (2 ^ (b.order - t)) (2 ^ t) ∙ ap (λ (x : ℕ). z.index * x) (sym z.size) in
    record {
      low = lo;
      high = hi;
      index = z.index;
      place = z.start ∙ ap (λ (x : ℕ). base + x) p;
      inside = omega (arith, mul-le-mul_right (2 ^ t) z.within, z.start, z.size);
    }

-- the aligned block of order e round slot i of the arena
abbrev pub slots-round : (t m i s e : ℕ) → t ≤ e → e ≤ m → i < 2 ^ (m - t) → s ≡ base + floor (e - t) i * 2 ^ t → Slots t m (block s e)
slots-round t m i s e lo hi l p =
    record {
      first = floor (e - t) i;
      start = p;
      size = pow-split t e lo;
      within = floor-end (e - t) (m - t) i (omega arith) l;
      index = i / 2 ^ (e - t);
      multiple = floor-quotient (e - t) i;
    }

module _ (t m : ℕ) (b : Block) (z : Slots t m b) (q : ℕ) where
  size_in : (z.first + 2 ^ (b.order - t)) * 2 ^ t ≡ z.first * 2 ^ t + 2 ^ (b.order - t) * 2 ^ t
  size_in = add-mul z.first (2 ^ (b.order - t)) (2 ^ t)

  -- an address is in a block where its slot is one of the block's
  pub held-slots : holds b q ≡ true → InSlots t z.first (2 ^ (b.order - t)) q
  held-slots h =
      let lo : b.start ≤ q = leb-true b.start q (and_left _ _ h) in
      let hi : q < b.start + 2 ^ b.order = ltb-true q (b.start + 2 ^ b.order) (and_right (leb b.start q) _ h) in
      record {
        past = omega (arith, z.start);
        low = (le-div_iff_mul-le (pow_pos t)).1 (omega (arith, z.start));
        high = (div-lt_iff_lt-mul (pow_pos t)).1 (omega (arith, z.start, z.size, size_in));
      }

  pub slots-held : InSlots t z.first (2 ^ (b.order - t)) q → holds b q ≡ true
  slots-held h =
      let x : z.first * 2 ^ t ≤ q - base = (le-div_iff_mul-le (pow_pos t)).0 h.low in
      let y : q - base < (z.first + 2 ^ (b.order - t)) * 2 ^ t = (div-lt_iff_lt-mul (pow_pos t)).0 h.high in
      and_both (le-leb b.start q (omega (arith, z.start, h.past)))
      (lt-ltb q (b.start + 2 ^ b.order) (omega (arith, z.start, z.size, h.past, size_in)))
