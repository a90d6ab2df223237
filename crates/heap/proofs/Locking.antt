-- A lock stamps the slots of p's block, which all have one entry: where that has the lock already, the table stays (`stays`), and else each has the lock after
-- it (`locks`). Refused, the call leaves the heap as it was.
use Rattle.std.proofs.Common.{◌≡◌, ℕ, zero, suc, ◌+◌, ◌-◌, ◌*◌, ◌^◌, ◌<◌, ◌≤◌, Bool, false, List, length, get_or, replicate, sym, refl, ap, ◌∙◌, subst, ap₂}
use Rattle.std.proofs.Common.{arith, ext_get_or, lt-ltb, le-leb}
use mathlib.Core.Bool.{false≢true}
use native.Mathlib.Decide.{dec_lt}
use lib.ListN.{length-replicate, get_or-replicate}
use Rattle.common.specs.Refusals.{first}
use Rattle.common.specs.Bytes.{over}
use Rattle.common.proofs.Bytes.{length_over, over-before, over-in, over-after}
use Rattle.common.proofs.Booleans.{and_both}
use Rattle.blocks.specs.Blocks.{base, missing, Referent, Missing, Found}
use Rattle.blocks.specs.Tables.{entry_locked, entry_of, locked_in, referent_in}
use Rattle.blocks.specs.Pointers.{sought}
use Rattle.blocks.proofs.Referents.{ReferentBlock, referent-block}
use Rattle.blocks.proofs.Sets.{held_low, held_high}
use Rattle.blocks.proofs.Slots.{block, slot_of, slot-start, Slots, slots-of, held-slots, slots-held}
use Rattle.blocks.proofs.Tables.{lock-of-entry, entry-of-both}
use Rattle.heap.specs.Views.{View, slot_order, referent_of_pointer}
use Rattle.heap.specs.Rules.{rules, plain_rules, state_rules}
use Rattle.heap.specs.Effects.{value, stored}
use Rattle.heap.specs.Heaps.{Heap, heap_of, view_of, stamped, entered, heap_step, heap_call}
use Rattle.heap.specs.Inner.{Ready}
use Rattle.heap.specs.Locking.{Locking}
use Rattle.heap.specs.declared.Call.{Call}
use Rattle.heap.specs.declared.Call.TheVariants.{SetLock}
use Rattle.heap.proofs.Judging.{accepted-ready, call-number}
use Rattle.heap.proofs.Homes.{plain-has-home, is_plain}

-- what is stored where it stands already changes nothing
over-same-entries : (s xs : List ℕ) (at : ℕ) → at + length xs ≤ length s → ((i : ℕ) → i < length xs → get_or s (at + i) 0 ≡ get_or xs i 0) → over s at xs ≡ s
over-same-entries s xs at fits same =
    ext_get_or 0 (over s at xs) s (length_over s at xs fits) (λ i l. go i (dec_lt i at) (dec_lt i (at + length xs)))
  where
    go : (i : ℕ) → Dec (i < at) → Dec (i < at + length xs) → get_or (over s at xs) i 0 ≡ get_or s i 0
    go i (yes l) d = over-before s at xs fits i l
    go i (no l) (no d) = over-after s at xs fits i (omega arith)
    go i (no l) (yes d) =
        let e : at + (i - at) ≡ i = omega arith in
        subst (λ (k : ℕ). get_or (over s at xs) k 0 ≡ get_or s k 0) e (over-in s at xs fits (i - at) (omega arith) ∙ sym (same (i - at) (omega arith)))

-- the block that holds p, in an undamaged table of an arena of 2 ^ m bytes in slots of 2 ^ t
module _ (t m : ℕ) (tab : List ℕ) (len : length tab ≡ 2 ^ (m - t)) (p s e : ℕ) (b : ReferentBlock t m tab p s e) (l : Bool) where
  abbrev entry : ℕ
  entry = get_or tab (slot_of t p) 0

  abbrev new : List ℕ
  new = stamped t tab s e (entry_of e l)

  slots : Slots t m (block s e)
  slots = slots-of t m (block s e) b.aligned

  abbrev xs : List ℕ
  xs = replicate (2 ^ (e - t)) (entry_of e l)

  count : length xs ≡ 2 ^ (e - t)
  count = length-replicate (2 ^ (e - t)) (entry_of e l)

  first_slot : slot_of t s ≡ slots.first
  first_slot = ap (slot_of t) slots.start ∙ slot-start t slots.first

  fits : slot_of t s + length xs ≤ length tab
  fits = omega (arith, count, first_slot, slots.within, len)

  past : base ≤ p
  past = omega (arith, b.aligned.place, b.low)

  locked-is : (u : List ℕ) → locked_in t u p ≡ entry_locked (get_or u (slot_of t p) 0)
  unfolding locked_in
  locked-is u = rw (le-leb base p past)

  -- where the entry has the lock l, it is the one that is stamped
  stays : locked_in t tab p ≡ l → new ≡ tab
  stays k =
      let is : entry ≡ entry_of e l = sym (entry-of-both entry) ∙ ap₂ entry_of b.says (sym (locked-is tab) ∙ k) in
      over-same-entries tab xs (slot_of t s) fits
      (λ i h.
      let lt : i < 2 ^ (e - t) = omega (arith, count) in
      let at : slot_of t (base + (slot_of t s + i) * 2 ^ t) ≡ slot_of t s + i = slot-start t (slot_of t s + i) in
      let held = slots-held t m (block s e) slots (base + (slot_of t s + i) * 2 ^ t)
      (record { past = omega arith; low = omega (arith, first_slot); high = omega (arith, first_slot) }) in
      b.entries (slot_of t s + i) (held_low (block s e) _ held) (held_high (block s e) _ held) ∙ is
      ∙ sym (get_or-replicate (2 ^ (e - t)) i (entry_of e l) 0 lt))

  -- the slot of p is one of those that are stamped
  locks : e < 128 → locked_in t new p ≡ l
  locks small =
      let h = held-slots t m (block s e) slots p (and_both (le-leb s p b.low) (lt-ltb p (s + 2 ^ e) b.high)) in
      let i : ℕ = slot_of t p - slot_of t s in
      let at : slot_of t s + i ≡ slot_of t p = omega (arith, first_slot, h.low) in
      let lt : i < 2 ^ (e - t) = omega (arith, first_slot, h.high, h.low) in
      let stamp : get_or new (slot_of t s + i) 0 ≡ entry_of e l =
      over-in tab (slot_of t s) xs fits i (omega (arith, count)) ∙ get_or-replicate (2 ^ (e - t)) i (entry_of e l) 0 lt in
      locked-is new ∙ ap (λ (k : ℕ). entry_locked (get_or new k 0)) (sym at) ∙ ap entry_locked stamp ∙ lock-of-entry e l small

module _ (p : ℕ) (l : Bool) (h : Heap) where
  abbrev c : Call
  c = SetLock p l

  abbrev w : View
  w = view_of h

  -- accepted, with the block that holds p, and the table that the call leaves
  record Locked : Type 0 where
    start : ℕ
    order : ℕ
    ready : Ready slot_order w.order c h.arena h.table
    holder : ReferentBlock slot_order w.order h.table p start order
    leaves : (heap_call c h).state ≡ heap_of h.arena (stamped slot_order h.table start order (entry_of order l))

  -- refused, it leaves the heap as it was
  refused : (n : ℕ) → first (rules c w) ≡ suc n → (heap_call c h).state ≡ h
  unfolding heap_call heap_step
  refused n z = rw z

  module _ (z : first (rules c w) ≡ 0) where
    ready : Ready slot_order w.order c h.arena h.table
    ready = (accepted-ready c h.arena h.table z).0

    passed : first (plain_rules w p) ≡ 0
    unfolding state_rules
    passed = (accepted-ready c h.arena h.table z).1

    plain : referent_of_pointer w p ≡ referent_in slot_order h.table p
    unfolding sought
    plain = rw (is_plain w p passed)

    home : missing (referent_of_pointer w p) ≡ false
    home = plain-has-home w p passed

    left : (s e : ℕ) → referent_of_pointer w p ≡ Found s e → (heap_call c h).state ≡ heap_of h.arena (stamped slot_order h.table s e (entry_of e l))
    unfolding heap_call heap_step value stored entered
    left s e f = rw (z, f)

    accepted : Locked
    accepted = go (referent_of_pointer w p) refl home
      where
        go : (r : Referent) → referent_of_pointer w p ≡ r → missing r ≡ false → Locked
        go Missing f k = absurd (false≢true (sym k))
        go (Found s e) f k =
            record {
              start = s;
              order = e;
              ready = ready;
              holder = referent-block slot_order w.order h.table ready.sound.slots ready.sound.whole p s e (sym plain ∙ f);
              leaves = left s e f;
            }

  kept : w.locked p ≡ l → (heap_call c h).state ≡ h
  kept k = go (first (rules c w)) refl
    where
      go : (n : ℕ) → first (rules c w) ≡ n → (heap_call c h).state ≡ h
      go zero z =
          let a = accepted z in
          a.leaves ∙ ap (heap_of h.arena) (stays slot_order w.order h.table a.ready.sound.slots p a.start a.order a.holder l k)
      go (suc n) z = refused n z

  set : first (rules c w) ≡ 0 → (view_of (heap_call c h).state).locked p ≡ l
  set z =
      let a = accepted z in
      let small : a.order < 128 = omega (arith, a.holder.aligned.high, a.ready.sound.high) in
      ap (λ (k : Heap). locked_in slot_order k.table p) a.leaves
      ∙ locks slot_order w.order h.table a.ready.sound.slots p a.start a.order a.holder l small

pub locking : (p : ℕ) (l : Bool) (h : Heap) → Locking p l h
locking p l h =
    record {
      kept = kept p l h;
      set = λ z. set p l h (sym (call-number (SetLock p l) h) ∙ z);
      second = go (first (rules (SetLock p l) (view_of h))) refl;
    }
  where
    after : Heap → Heap
    after k = (heap_call (SetLock p l) k).state

    go : (n : ℕ) → first (rules (SetLock p l) (view_of h)) ≡ n → after (after h) ≡ after h
    go zero z = kept p l (after h) (set p l h z)
    go (suc n) z = ap after (refused p l h n z)
