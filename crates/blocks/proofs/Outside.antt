-- What lies outside the arena: where there is a referent the address lies inside; and inside, by
-- the table, there is none exactly where the slot is free.
use Rattle.std.proofs.Common.{◌≡◌, ℕ, zero, suc, ◌+◌, ◌-◌, ◌*◌, ◌^◌, ◌<◌, ◌≤◌, Bool, true, false, ◌&&◌, eqb, ltb, leb, List, length, get_or, ℤ, pos, negsuc}
use Rattle.std.proofs.Common.{sym, refl, ap, ◌∙◌, div-lt_iff_lt-mul, le-div_iff_mul-le, arith, pow_pos, ltb-true, le-ltb, lt-ltb, ne_eqb, le-leb, leb-false}
use Rattle.std.proofs.Common.{leb-true}
use borrow.Author.Tests.{not-false}
use Rattle.blocks.specs.Blocks.{base, Block, holds, missing, Aligned, Found}
use Rattle.blocks.specs.Tables.{damaged_by, free_in, block_round, referent_in}
use Rattle.blocks.specs.Pointers.{referent_at, outside_at}
use Rattle.common.proofs.Booleans.{and_left, and_right, and_both}
use Rattle.blocks.proofs.Floors.{pow-split}
use Rattle.blocks.proofs.Slots.{block, slot_of}
use Rattle.blocks.proofs.Referents.{referent-entry, referent-block}
use Rattle.blocks.proofs.Sets.{held_low, held_high}

-- the arena ends where its slots do
pub outside_above : (t m q : ℕ) → base ≤ q → t ≤ m → (slots : ℕ) → slots ≡ 2 ^ (m - t) → leb slots (slot_of t q) ≡ outside_at m (pos q)
outside_above t m q l low slots e = go (leb slots (slot_of t q)) refl
  where
    size : 2 ^ m ≡ slots * 2 ^ t
    size = pow-split t m low ∙ ap (λ (x : ℕ). x * 2 ^ t) (sym e)

    go : (b : Bool) → leb slots (slot_of t q) ≡ b → b ≡ outside_at m (pos q)
    go true k =
        let past : slots * 2 ^ t ≤ q - base = (le-div_iff_mul-le (pow_pos t)).0 (leb-true slots (slot_of t q) k) in
        rw (le-leb base q l, le-ltb q (base + 2 ^ m) (omega (arith, size)))
    go false k =
        let short : q - base < slots * 2 ^ t = (div-lt_iff_lt-mul (pow_pos t)).0 (leb-false slots (slot_of t q) k) in
        rw (le-leb base q l, lt-ltb q (base + 2 ^ m) (omega (arith, size)))

-- the bounds of an address inside
pub inside-bounds : (m q : ℕ) → outside_at m (pos q) ≡ false → (base ≤ q) × (q < base + 2 ^ m)
inside-bounds m q o =
    let b = not-false (leb base q && ltb q (base + 2 ^ m)) o in
    (leb-true base q (and_left (leb base q) _ b), ltb-true q (base + 2 ^ m) (and_right (leb base q) _ b))

-- what a block of the arena holds lies inside
pub held-inside : (t m : ℕ) (b : Block) → Aligned t m b → (q : ℕ) → holds b q ≡ true → outside_at m (pos q) ≡ false
held-inside t m b a q h =
    let low : base ≤ q = omega (arith, a.place, held_low b q h) in
    let high : q < base + 2 ^ m = omega (arith, a.inside, held_high b q h) in
    rw (le-leb base q low, lt-ltb q (base + 2 ^ m) high)

module _ (t m : ℕ) (s : List ℕ) (len : length s ≡ 2 ^ (m - t)) where
  pub found_inside : damaged_by t m s ≡ false → (z : ℤ) (b e : ℕ) → referent_at (referent_in t s) z ≡ Found b e → outside_at m z ≡ false
  found_inside good (negsuc n) b e h = let y : ◌≡◌ {A = ℕ} 0 1 = cc in absurd (omega arith)
  found_inside good (pos q) b e h =
      let r = referent-block t m s len good q b e h in
      held-inside t m (block b e) r.aligned q (and_both (le-leb b q r.low) (lt-ltb q (b + 2 ^ e) r.high))

  -- inside, a slot is free exactly where it has no referent
  module _ (l : t ≤ m) (q : ℕ) (o : outside_at m (pos q) ≡ false) where
    by-entry : referent_in t s q ≡ block_round (get_or s (slot_of t q) 0) q
    by-entry =
        let (low, high) = inside-bounds m q o in
        referent-entry t s q low (rw len ((div-lt_iff_lt-mul (pow_pos t)).1 (omega (arith, pow-split t m l))))

    pub missing-free : missing (referent_in t s q) ≡ free_in s (slot_of t q)
    missing-free = ap missing by-entry ∙ go (get_or s (slot_of t q) 0)
      where
        go : (x : ℕ) → missing (block_round x q) ≡ eqb x 0
        go zero = refl
        go (suc x) = sym (ne_eqb (suc x) 0 (λ z. omega arith))
