-- A pointer that moves by its referent's distance refers to the moved block.
use Prim.Native.Nat.{ℕ, ◌+◌, ◌-◌, ◌*◌, ◌%◌, ◌^◌, ◌≤◌, ◌<◌}
use mathlib.Core.Bool.{Bool, true, false}
use mathlib.Core.List.Memᴰ
use mathlib.Core.List.{List}
use mathlib.Core.Path.{◌≡◌, refl, sym, ◌∙◌, ap, subst}
use native.Mathlib.Decide.{dec_lt}
use native.Mathlib.Nat.{add-zero, add-mul-mod_self_right}
use native.Mathlib.Omega.{arith}
use borrow.Author.Tests.{le-leb, lt-leb, lt-ltb, leb-true}
use lib.IntN.{ℤ, pos}
use lib.Pow.{pow_pos, pow_mono}
use Rattle.blocks.specs.Blocks.{base, Referent, Missing, Found}
use Rattle.blocks.specs.declared.Block.{Block}
use Rattle.blocks.specs.Pointers.{mark_bit, marked, address, sought, referent_at, pointer_referent}
use Rattle.blocks.specs.Sets.{referent_of}
use Rattle.common.proofs.Booleans.{and_both}
use Rattle.blocks.proofs.Referents.{sought-plain, sought-up, sought-down, sought-negative}
use Rattle.blocks.proofs.Sets.{BlockSet, held_low, held_high, found-member, member-found}
use Rattle.blocks.proofs.Slots.{block, slot_of, slot-start}
use Rattle.tidying.specs.Moves.{order_at, moved_start, moved_pointer}
use Rattle.tidying.specs.Sets.{moved_by}
use Rattle.tidying.proofs.Moving.{moved_block, moved_blocks, travel, moved-set}

plain-mark : (p : ℕ) → p < mark_bit → marked p ≡ false
plain-mark p l = lt-leb mark_bit p l

plain-address : (p : ℕ) → marked p ≡ false → address p ≡ p
plain-address p h = rw h

marked-address : (p : ℕ) → marked p ≡ true → address p ≡ p - mark_bit
marked-address p h = rw h

-- numbers that differ by slots lie alike in their slots
same_rest : (t x y i j : ℕ) → x + i * 2 ^ t ≡ y + j * 2 ^ t → x % 2 ^ t ≡ y % 2 ^ t
same_rest t x y i j e = sym (add-mul-mod_self_right x i (2 ^ t)) ∙ ap (λ (z : ℕ). z % 2 ^ t) e ∙ add-mul-mod_self_right y j (2 ^ t)

module _ (t m : ℕ) (one : 1 ≤ t) (le : t ≤ m) (small : m ≤ 16) (bs : List Block) (set : BlockSet t m bs) where
  abbrev f : ℕ → Referent
  f = referent_of bs

  -- an address of a block, moved by the block's distance, is one of the moved block
  pub moved-referent : (q s e r : ℕ) → referent_of bs q ≡ Found s e → r + s ≡ q + moved_start t m f s
      → referent_of (moved_blocks t m f bs) r ≡ Found (moved_start t m f s) e
  moved-referent q s e r h d =
      let c = found-member bs q s e h in
      let b : Block = moved_block t m f (block s e) in
      member-found t m (moved_blocks t m f bs) (moved-set t m one le bs set) b r (Memᴰ.map (moved_block t m f) c.mem)
      (and_both (le-leb b.start r (omega (arith, held_low (block s e) q c.held)))
      (lt-ltb r (b.start + 2 ^ e) (omega (arith, held_high (block s e) q c.held))))

  -- where the block at s starts and ends, before and after
  module _ (q s e : ℕ) (h : referent_of bs q ≡ Found s e) where
    record Bounds : Type 0 where
      from : ℕ
      to : ℕ
      old : s ≡ base + from * 2 ^ t
      new : moved_start t m f s ≡ base + to * 2 ^ t
      low : s ≤ q
      high : q < s + 2 ^ e
      old-end : s + 2 ^ e ≤ 131072
      new-end : moved_start t m f s + 2 ^ e ≤ 131072

    bounds : Bounds
    bounds =
        let c = found-member bs q s e h in
        let u = travel t m one le bs set (block s e) c.mem in
        let k : 2 ^ m ≤ 2 ^ 16 = pow_mono small in
        record {
          from = u.first;
          to = u.to;
          old = u.start;
          new = u.moved;
          low = held_low (block s e) q c.held;
          high = held_high (block s e) q c.held;
          old-end = omega (arith, (set.aligned (block s e) c.mem).inside);
          new-end = omega (arith, ((moved-set t m one le bs set).aligned (moved_block t m f (block s e)) (Memᴰ.map (moved_block t m f) c.mem)).inside);
        }

  module _ (p s e : ℕ) (h : referent_at f (sought t p) ≡ Found s e) where
    abbrev S : ℕ
    S = moved_start t m f s

    abbrev p' : ℕ
    p' = p + S - s

    moves : moved_pointer t m f p ≡ p'
    moves = ap (λ (r : Referent). moved_by (λ b. moved_start t m f b.start) r p) h

    record Goes : Type 0 where
      mark : marked p' ≡ marked p
      distance : address p' + s ≡ address p + S
      referent : referent_at (referent_of (moved_blocks t m f bs)) (sought t p') ≡ Found S e

    plain : marked p ≡ false → Goes
    plain g =
        let a : referent_of bs (address p) ≡ Found s e = subst (λ (z : ℤ). referent_at f z ≡ Found s e) (sought-plain t p g) h in
        let ap0 : address p ≡ p = plain-address p g in
        let b = bounds (address p) s e a in
        let g' : marked p' ≡ false = plain-mark p' (omega (arith, b.low, b.high, b.new-end)) in
        let d : address p' + s ≡ address p + S = rw (plain-address p' g', ap0) (omega (arith, b.low)) in
        record {
          mark = g' ∙ sym g;
          distance = d;
          referent
              = subst (λ (z : ℤ). referent_at (referent_of (moved_blocks t m f bs)) z ≡ Found S e) (sym (sought-plain t p' g'))
              (moved-referent (address p) s e (address p') a d);
        }

    -- a marked pointer stays one and lies in its slot as it did, so its referent is sought on the same side
    module _ (g : marked p ≡ true) (q : ℕ) (a : referent_of bs q ≡ Found s e) (near : q ≤ address p + 2 ^ t) where
      past-mark : mark_bit ≤ p
      past-mark = leb-true mark_bit p g

      slot_small : 2 ^ t ≤ 2 ^ 16
      slot_small = let k : t ≤ 16 = omega arith in pow_mono k

      enough : mark_bit + s ≤ p + S
      enough = let b = bounds q s e a in omega (arith, b.low, b.new, past-mark, slot_small, marked-address p g)

      mark-kept : marked p' ≡ true
      mark-kept = le-leb mark_bit p' (omega (arith, enough))

      same-distance : address p' + s ≡ address p + S
      same-distance = omega (arith, marked-address p g, marked-address p' mark-kept, enough, past-mark)

      rest-kept : address p' % 2 ^ t ≡ address p % 2 ^ t
      rest-kept = let b = bounds q s e a in same_rest t (address p') (address p) b.from b.to (omega (arith, same-distance, b.old, b.new))

      goes_to : (z : ℕ) → sought t p' ≡ pos z → z + s ≡ q + S → Goes
      goes_to z w d =
          record {
            mark = mark-kept ∙ sym g;
            distance = same-distance;
            referent = subst (λ (x : ℤ). referent_at (referent_of (moved_blocks t m f bs)) x ≡ Found S e) (sym w) (moved-referent q s e z a d);
          }

    at-sought : (q : ℕ) → sought t p ≡ pos q → referent_of bs q ≡ Found s e
    at-sought q w = subst (λ (z : ℤ). referent_at f z ≡ Found s e) w h

    out-of-bounds : marked p ≡ true → Goes
    out-of-bounds g = elim (dec_lt (address p % 2 ^ t) (2 ^ (t - 1))) [
      | yes l ↦ elim (dec_lt (address p) (2 ^ t)) [
        | yes k ↦ let n : Missing ≡ Found s e = subst (λ (z : ℤ). referent_at f z ≡ Found s e) (sought-negative t p g l k) h in let z : ◌≡◌ {A = ℕ} 0 1 = cc in
            absurd (omega arith)
        | no k ↦
            let q : ℕ = address p - 2 ^ t in
            let a : referent_of bs q ≡ Found s e = at-sought q (sought-down t p g l (omega arith)) in
            let r : address p' % 2 ^ t < 2 ^ (t - 1) = rw (rest-kept g q a (omega arith)) l in
            let b = bounds q s e a in
            let big : 2 ^ t ≤ address p' = omega (arith, same-distance g q a (omega arith), b.low) in
            goes_to g q a (omega arith) (address p' - 2 ^ t) (sought-down t p' (mark-kept g q a (omega arith)) r big)
            (omega (arith, same-distance g q a (omega arith)))
      ]
      | no l ↦
          let q : ℕ = address p + 2 ^ t in
          let a : referent_of bs q ≡ Found s e = at-sought q (sought-up t p g (omega arith)) in
          let r : 2 ^ (t - 1) ≤ address p' % 2 ^ t = rw (rest-kept g q a (omega arith)) (omega arith) in
          goes_to g q a (omega arith) (address p' + 2 ^ t) (sought-up t p' (mark-kept g q a (omega arith)) r) (omega (arith, same-distance g q a (omega arith)))
    ]

    -- a marked pointer lies within a slot of an address of its referent
    near-referent : marked p ≡ true → (q : ℕ) × (referent_of bs q ≡ Found s e) × (address p ≤ q + 2 ^ t)
    near-referent g = elim (dec_lt (address p % 2 ^ t) (2 ^ (t - 1))) [
      | yes l ↦ elim (dec_lt (address p) (2 ^ t)) [
        | yes k ↦ let n : Missing ≡ Found s e = subst (λ (z : ℤ). referent_at f z ≡ Found s e) (sought-negative t p g l k) h in
            let z : ◌≡◌ {A = ℕ} 0 1 = cc in absurd (omega arith)
        | no k ↦ (address p - 2 ^ t, at-sought (address p - 2 ^ t) (sought-down t p g l (omega arith)), omega arith)
      ]
      | no l ↦ (address p + 2 ^ t, at-sought (address p + 2 ^ t) (sought-up t p g (omega arith)), omega arith)
    ]

    -- the sum and the difference by which a pointer moves are numbers of 32 bits, and its referent starts where a slot does, which is taken
    pub record Fitting : Type 0 where
      pub low : base ≤ s
      pub high : s < base + 2 ^ m
      pub sum : p + S < 2 ^ 32
      pub difference : s ≤ p + S
      pub taken : order_at t f (slot_of t s) ≡ 0 → ⊥
      pub slotted : s ≡ base + slot_of t s * 2 ^ t

    pub fitting : Fitting
    fitting = go (marked p) refl
      where
        inside : (q : ℕ) → referent_of bs q ≡ Found s e → (base ≤ s) × (s < base + 2 ^ m)
        inside q a =
            let c = found-member bs q s e a in
            (omega (arith, (set.aligned (block s e) c.mem).place), omega (arith, (set.aligned (block s e) c.mem).inside, pow_pos e))

        own : (q : ℕ) → referent_of bs q ≡ Found s e → order_at t f (slot_of t s) ≡ 0 → ⊥
        own q a z =
            let c = found-member bs q s e a in
            let u = travel t m one le bs set (block s e) c.mem in
            let x : slot_of t s ≡ u.first + 0 = ap (slot_of t) u.start ∙ slot-start t u.first ∙ sym (add-zero u.first) in
            omega (arith, ap (order_at t f) x, u.orders 0 (pow_pos (e - t)), (set.aligned (block s e) c.mem).low)

        at_slot : (q : ℕ) → referent_of bs q ≡ Found s e → s ≡ base + slot_of t s * 2 ^ t
        at_slot q a =
            let c = found-member bs q s e a in
            let u = travel t m one le bs set (block s e) c.mem in
            u.start ∙ ap (λ (x : ℕ). base + x * 2 ^ t) (sym (ap (slot_of t) u.start ∙ slot-start t u.first))

        go : (c : Bool) → marked p ≡ c → Fitting
        go false g =
            let a : referent_of bs (address p) ≡ Found s e = subst (λ (z : ℤ). referent_at f z ≡ Found s e) (sought-plain t p g) h in
            let b = bounds (address p) s e a in
            let k : address p ≡ p = plain-address p g in
            record {
              low = (inside (address p) a).0;
              high = (inside (address p) a).1;
              sum = omega (arith, b.high, b.old-end, b.new-end);
              difference = omega (arith, b.low);
              taken = own (address p) a;
              slotted = at_slot (address p) a;
            }
        go true g =
            let r = near-referent g in
            let b = bounds r.0 s e r.1 in
            let k : t ≤ 16 = omega arith in
            let w : 2 ^ t ≤ 2 ^ 16 = pow_mono k in
            let x : mark_bit ≤ p = leb-true mark_bit p g in
            record {
              low = (inside r.0 r.1).0;
              high = (inside r.0 r.1).1;
              sum = omega (arith, b.high, b.old-end, b.new-end, r.2, marked-address p g);
              difference = omega (arith, b.low, b.high, b.old-end);
              taken = own r.0 r.1;
              slotted = at_slot r.0 r.1;
            }

    goes : Goes
    goes = go (marked p) refl
      where
        go : (c : Bool) → marked p ≡ c → Goes
        go true g = out-of-bounds g
        go false g = plain g

    -- the pointer moved: its mark and its distance are kept, and it refers to the moved block
    pub pointer-mark : marked (moved_pointer t m f p) ≡ marked p
    pointer-mark = ap marked moves ∙ goes.mark

    pub pointer-distance : address (moved_pointer t m f p) + s ≡ address p + moved_start t m f s
    pointer-distance = ap (λ (x : ℕ). address x + s) moves ∙ goes.distance

    pub pointer-referent : pointer_referent t (referent_of (moved_blocks t m f bs)) (moved_pointer t m f p) ≡ Found (moved_start t m f s) e
    pointer-referent = ap (λ (x : ℕ). referent_at (referent_of (moved_blocks t m f bs)) (sought t x)) moves ∙ goes.referent
