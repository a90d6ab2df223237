-- On a heap that agrees with a ledger: the check passes for the addresses of the block alone, and a marked pointer in reach of a block leads back to it.
use Prim.Native.Nat.{ℕ, zero, suc, ◌+◌, ◌-◌, ◌*◌, ◌%◌, ◌^◌, ◌≤◌, ◌<◌}
use mathlib.Core.Path.{◌≡◌, refl, sym, ◌∙◌, ap}
use mathlib.Core.Bool.{true, ◌&&◌, false≢true}
use mathlib.Core.Logic.{◌⊎◌, inl, inr}
use mathlib.Core.List.{List, [], ◌∷◌, Memᴰ}
use native.Mathlib.Nat.{add-sub_cancel_left, add-mul, suc-mul}
use native.Mathlib.Decide.{dec_le}
use native.Mathlib.Omega.{arith}
use lib.Dec.{leb, ltb}
use lib.IntN.{pos, sub_ℕ}
use lib.ListN.{length, get_or}
use lib.Signed.{le_z}
use lib.Pow.{pow_pos, pow_mono, low}
use borrow.Author.Tests.{leb-true, ltb-true, le-leb, lt-leb, lt-ltb, le-ltb}
use Rattle.blocks.specs.Blocks.{base, holds, Aligned, Found}
use Rattle.blocks.specs.declared.Block.{Block}
use Rattle.blocks.specs.Sets.{ranges}
use Rattle.blocks.specs.Pointers.{mark_bit, marked, address, sought, signed, exact_sum, within, in_reach}
use Rattle.common.proofs.Booleans.{and_left, and_right, or_cases}
use Rattle.blocks.proofs.Floors.{pow-split}
use Rattle.blocks.proofs.Outside.{held-inside}
use Rattle.blocks.proofs.Sets.{held_high, missing-none, member-found}
use Rattle.blocks.proofs.Slots.{slots-of}
use Rattle.heap.specs.Views.{View}
use Rattle.heap.specs.Rules.{rules, argument_rules, state_rules, address_rules}
use Rattle.heap.specs.Effects.{value, stored, Outcome, judged, accepted}
use Rattle.heap.specs.Heaps.{Heap, heap_of, heap_view, entered, heap_step, check_step, bit}
use Rattle.heap.specs.Changes.{keeps}
use Rattle.heap.specs.declared.Call.TheVariants.{Step}
use Rattle.history.specs.Ledgers.{Ledger, ledger_view}
use Rattle.history.specs.Demand3.{distance}
use Rattle.history.proofs.Agreement.{Proper, none, more, Orders, Agree}
use Rattle.history.proofs.Pairs.{holds_by, proper-set}
use Rattle.history.proofs.Simulation.{view-same}

-- ---- blocks apart

member-at : (bs : List Block) (b : Block) (i : ℕ) → i < length bs → Memᴰ (get_or bs i b) bs
member-at [] b i h = absurd (omega arith)
member-at (c ∷ bs) b zero h = Memᴰ.head refl
member-at (c ∷ bs) b (suc i) h = Memᴰ.tail (member-at bs b i (omega arith))

-- no two places of the list have blocks that share an address
pub places-apart : {t m : ℕ} {bs : List Block} → Proper t m bs → (i j : ℕ) (b : Block) → i < j → j < length bs → (q : ℕ)
    → holds (get_or bs i b) q ≡ true → holds (get_or bs j b) q ≡ true → ⊥
places-apart none i j b l h q x y = omega arith
places-apart (more a d p) i zero b l h q x y = omega arith
places-apart (more {bs = bs} a d p) zero (suc j) b l h q x y = false≢true (sym (missing-none bs q (d q x) _ (member-at bs b j (omega arith))) ∙ y)
places-apart (more a d p) (suc i) (suc j) b l h q x y = places-apart p i j b (omega arith) (omega arith) q x y

-- ---- marked pointers

marked-mark : (r : ℕ) → marked (mark_bit + r) ≡ true
marked-mark r = le-leb mark_bit (mark_bit + r) (omega arith)

address-mark : (r : ℕ) → address (mark_bit + r) ≡ r
address-mark r = rw (marked-mark r) (add-sub_cancel_left mark_bit r)

sub-pos : (a b c : ℕ) → b ≤ a → a - b ≡ c → sub_ℕ a b ≡ pos c
sub-pos a b c h e = rw (le-ltb a b h) (ap pos e)

-- the distance from r to q leads from r to q exactly
exact-distance : (r q : ℕ) → r < 2 ^ 31 → q < 2 ^ 31 → exact_sum r (distance r q) ≡ pos q
unfolding signed
exact-distance r q a b = go (dec_le r q)
  where
    go : Dec (r ≤ q) → exact_sum r (distance r q) ≡ pos q
    go (yes l) =
        let x : distance r q % 2 ^ 32 ≡ q - r = omega arith in
        rw (x, lt-ltb (q - r) (2 ^ 31) (omega arith)) (ap pos (omega arith))
    go (no n) =
        let x : distance r q % 2 ^ 32 ≡ 2 ^ 32 - (r - q) = omega arith in
        rw (x, le-ltb (2 ^ 32 - (r - q)) (2 ^ 31) (omega arith), lt-ltb (2 ^ 32 - (r - q)) (2 ^ 32) (omega arith))
        (sub-pos r _ q (omega arith) (omega arith))

-- the address at which the referent of the marked r is sought lies in the block
pub record LeadsBack (t r : ℕ) (b : Block) : Type 0 where
  pub at : ℕ
  pub seeks : sought t (mark_bit + r) ≡ pos at
  pub held : holds b at ≡ true
  pub near : r < b.start + 2 ^ b.order + 2 ^ (t - 1)

module _ (t m : ℕ) (b : Block) (a : Aligned t m b) (slot : 1 ≤ t) (size : m ≤ 16) (r : ℕ) where
  half : 2 ^ t ≡ 2 ^ (t - 1) * 2
  half = pow-split 1 t slot

  -- the block's start, in slots from address 0
  number : ℕ
  number = 2 ^ (16 - t) + (slots-of t m b a).first

  start_is : b.start ≡ number * 2 ^ t
  unfolding number
  start_is =
      let z = slots-of t m b a in
      let k : base ≡ 2 ^ (16 - t) * 2 ^ t = pow-split t 16 (omega (arith, a.low, a.high)) in
      omega (arith, z.start, add-mul (2 ^ (16 - t)) z.first (2 ^ t))

  size_is : 2 ^ b.order ≡ 2 ^ (b.order - t) * 2 ^ t
  size_is = pow-split t b.order a.low

  slot-le : 2 ^ t ≤ 2 ^ b.order
  slot-le = pow_mono a.low

  -- below the block the referent is sought a slot higher, past it a slot lower
  before : b.start ≤ r + 2 ^ (t - 1) → r < b.start → LeadsBack t r b
  unfolding sought number
  before lo hi =
      let k : ℕ = number - 1 in
      let one : suc k ≡ number = omega (arith, pow_pos (16 - t)) in
      let s : b.start ≡ k * 2 ^ t + 2 ^ t = start_is ∙ ap (λ (n : ℕ). n * 2 ^ t) (sym one) ∙ suc-mul k (2 ^ t) in
      let d : r ≡ k * 2 ^ t + (r - k * 2 ^ t) = omega (arith, half) in
      let x : r % 2 ^ t ≡ r - k * 2 ^ t = ap (λ (n : ℕ). n % 2 ^ t) d ∙ low k t (omega arith) in
      record {
        at = r + 2 ^ t;
        seeks = rw (marked-mark r, add-sub_cancel_left mark_bit r, le-ltb (r % 2 ^ t) (2 ^ (t - 1)) (omega (arith, half)));
        held = holds_by b (r + 2 ^ t) (omega (arith, half)) (omega (arith, slot-le));
        near = omega arith;
      }

  past : b.start + 2 ^ b.order ≤ r → r < b.start + 2 ^ b.order + 2 ^ (t - 1) → LeadsBack t r b
  unfolding sought
  past lo hi =
      let k : ℕ = number + 2 ^ (b.order - t) in
      let s : b.start + 2 ^ b.order ≡ k * 2 ^ t = omega (arith, start_is, size_is, add-mul number (2 ^ (b.order - t)) (2 ^ t)) in
      let d : r ≡ k * 2 ^ t + (r - k * 2 ^ t) = omega arith in
      let x : r % 2 ^ t ≡ r - k * 2 ^ t = ap (λ (n : ℕ). n % 2 ^ t) d ∙ low k t (omega (arith, half)) in
      record {
        at = r - 2 ^ t;
        seeks =
            rw (marked-mark r, add-sub_cancel_left mark_bit r, lt-ltb (r % 2 ^ t) (2 ^ (t - 1)) (omega arith))
            (sub-pos r (2 ^ t) (r - 2 ^ t) (omega (arith, slot-le)) refl);
        held = holds_by b (r - 2 ^ t) (omega (arith, slot-le)) (omega (arith, half));
        near = hi;
      }

  pub leads-back : in_reach t (Found b.start b.order) (pos r) ≡ true → LeadsBack t r b
  unfolding in_reach
  leads-back h = go (or_cases _ _ h)
    where
      reach : 2 ^ (t - 1) ≤ b.start
      reach = let p : 2 ^ (t - 1) ≤ 2 ^ 16 = pow_mono {i = t - 1} {j = 16} (omega (arith, a.low, a.high)) in omega (arith, a.place)

      go : (le_z (sub_ℕ b.start (2 ^ (t - 1))) (pos r) && ltb r b.start ≡ true)
          ⊎ (leb (b.start + 2 ^ b.order) r && ltb r (b.start + 2 ^ b.order + 2 ^ (t - 1)) ≡ true)
          → LeadsBack t r b
      go (inl x) =
          let y : leb (b.start - 2 ^ (t - 1)) r && ltb r b.start ≡ true = rw (sub-pos b.start (2 ^ (t - 1)) _ reach refl) at x in
          let z : b.start - 2 ^ (t - 1) ≤ r = leb-true _ _ (and_left _ _ y) in
          before (omega arith) (ltb-true _ _ (and_right (leb (b.start - 2 ^ (t - 1)) r) _ y))
      go (inr x) = past (leb-true _ _ (and_left _ _ x)) (ltb-true _ _ (and_right (leb (b.start + 2 ^ b.order) r) _ x))

-- ---- the calls

module _ {t m : ℕ} (os : Orders t m) (h : Heap) (l : Ledger) (agree : Agree t m h l) (b : Block) (member : Memᴰ b (ranges l.pairs)) where
  aligned : Aligned t m b
  aligned = (proper-set agree.proper).aligned b member

  small : b.start + 2 ^ b.order ≤ 2 ^ 17
  small = let p : 2 ^ m ≤ 2 ^ 16 = pow_mono os.high in omega (arith, aligned.inside)

  slot_small : 2 ^ (t - 1) ≤ 2 ^ 16
  slot_small = pow_mono {i = t - 1} {j = 16} (omega (arith, os.slot-high, os.high))

  -- what is decided by the heap's view is decided by the ledger's
  by-ledger : (call : View → Outcome Heap) → call (heap_view t m h) ≡ call (ledger_view t m l)
  by-ledger call = ap call (view-same os h l agree)

  -- the two calls by a view
  abbrev checked : (q i : ℕ) → View → Outcome Heap
  checked q i w = judged (address_rules w q) h (bit (w.inside q i)) h

  abbrev stepped : (p i : ℕ) → View → Outcome Heap
  stepped p i w =
      judged (rules (Step p i) w) h (value (Step p i) w h.arena) (heap_of (stored (Step p i) w h.arena) (entered keeps w h.table))

  module _ (q : ℕ) (held : holds b q ≡ true) where
    low-address : q < 2 ^ 31
    low-address = omega (arith, held_high b q held, small)

    check-by-ledger : (i : ℕ)
        → checked q i (ledger_view t m l) ≡ record { answer = accepted (bit (within (Found b.start b.order) (exact_sum q i))); state = h }
    unfolding address_rules sought
    check-by-ledger i =
        rw (lt-leb mark_bit q low-address, held-inside t m b aligned q held, member-found t m (ranges l.pairs) (proper-set agree.proper) b q member held)

    pub check-is : (i : ℕ) → check_step t m q i h ≡ accepted (bit (within (Found b.start b.order) (exact_sum q i)))
    unfolding check_step
    check-is i = ap (λ (o : Outcome Heap). o.answer) (by-ledger (checked q i) ∙ check-by-ledger i)

    module _ (r : ℕ) (reach : in_reach t (Found b.start b.order) (pos r) ≡ true) where
      back : LeadsBack t r b
      back = leads-back t m b aligned os.slot-low os.high r reach

      exact : exact_sum (address (mark_bit + r)) (distance r q) ≡ pos q
      exact =
          ap (λ (x : ℕ). exact_sum x (distance r q)) (address-mark r) ∙ exact-distance r q (omega (arith, back.near, small, slot_small)) low-address

      step-by-ledger : stepped (mark_bit + r) (distance r q) (ledger_view t m l) ≡ record { answer = accepted q; state = h }
      unfolding rules argument_rules state_rules value stored entered within
      step-by-ledger =
          let found = member-found t m (ranges l.pairs) (proper-set agree.proper) b back.at member back.held in
          rw (back.seeks, held-inside t m b aligned back.at back.held, found, exact, held)

      pub recovers : heap_step t m (Step (mark_bit + r) (distance r q)) h ≡ record { answer = accepted q; state = h }
      unfolding heap_step
      recovers = by-ledger (stepped (mark_bit + r) (distance r q)) ∙ step-by-ledger
