-- Showing a sample, by what left answers for the same p: show has left's rules (`address-left`), so its number is left's, and its length left's value.
use Rattle.std.proofs.Common.{◌≡◌, ℕ, ◌+◌, ◌-◌, ◌^◌, ◌≤◌, Bool, true, false, cond, eqb, List, [], length, take, drop, sym, refl, ap, ◌∙◌, arith, eq-eqb, ne_eqb}
use Rattle.std.proofs.Common.{eqb-true}
use mathlib.Core.Bool.{false≢true}
use Rattle.common.specs.Refusals.{first}
use Rattle.blocks.specs.Blocks.{base, missing, left_in, Referent, Missing, Found}
use Rattle.blocks.specs.Orders.{order_of}
use Rattle.heap.specs.Views.{slot_order, referent_of_pointer, left_from}
use Rattle.heap.specs.Rules.{state_rules, rules}
use Rattle.heap.specs.Effects.{value}
use Rattle.heap.specs.Heaps.{Heap, heap_of, view_of, heap_step, heap_call, pointer_number, shown, shown_by_left, shown_from, outcome}
use Rattle.heap.specs.Inner.{Ready}
use Rattle.heap.specs.declared.Answer.{Answer}
use Rattle.heap.specs.declared.Call.TheVariants.{Left}
use Rattle.heap.proofs.Judging.{accepted-ready, call-number, address-number}
use Rattle.heap.proofs.Settling.{settled-value}
use Rattle.heap.proofs.Accesses.{plain-within}
use Rattle.heap.proofs.Homes.{plain-has-home, is_plain}

module _ (p : ℕ) (h : Heap) where
  -- show's number is left's
  left-number : (heap_call (Left p) h).answer.number ≡ pointer_number h p
  left-number = call-number (Left p) h ∙ sym (address-number p h)

  left-value : pointer_number h p ≡ 0 → (heap_call (Left p) h).answer.value ≡ left_from (view_of h) p
  unfolding heap_call heap_step value
  left-value z = settled-value (first (rules (Left p) (view_of h))) _ _ _ (sym (address-number p h) ∙ z)

  -- and its part has as many bytes as left gives
  shown-by-left : shown p h ≡ shown_by_left p h
  unfolding shown shown_by_left
  shown-by-left = rw left-number (go (eqb (pointer_number h p) 0) refl)
    where
      go : (b : Bool) → eqb (pointer_number h p) 0 ≡ b
          → cond b (take (left_from (view_of h) p) (drop (p - base) h.arena)) []
          ≡ cond b (take (heap_call (Left p) h).answer.value (drop (p - base) h.arena)) []
      go true e = ap (λ (n : ℕ). take n (drop (p - base) h.arena)) (sym (left-value (eqb-true _ _ e)))
      go false e = refl

module _ (p : ℕ) (a tab : List ℕ) (r : Answer) (e : outcome r a tab ≡ heap_call (Left p) (heap_of a tab)) where
  abbrev h : Heap
  h = heap_of a tab

  pub number-left : r.number ≡ pointer_number h p
  number-left = ap (λ x. x.answer.number) e ∙ left-number p h

  module _ (z : r.number ≡ 0) where
    value-left : r.value ≡ left_from (view_of h) p
    value-left = ap (λ x. x.answer.value) e ∙ left-value p h (sym number-left ∙ z)

    pub shown-inside : (base ≤ p) × (p - base + r.value ≤ length a)
    unfolding state_rules
    shown-inside = go (referent_of_pointer (view_of h) p) refl (plain-has-home (view_of h) p y.1)
      where
        y : Ready slot_order (order_of (length a)) (Left p) a tab × (first (state_rules (Left p) (view_of h)) ≡ 0)
        y = accepted-ready (Left p) a tab (sym (address-number p h) ∙ sym number-left ∙ z)

        go : (f : Referent) → referent_of_pointer (view_of h) p ≡ f → missing f ≡ false → (base ≤ p) × (p - base + r.value ≤ length a)
        go Missing f n = absurd (false≢true (sym n))
        go (Found s k) f n =
            let m : ℕ = order_of (length a) in
            let w = plain-within slot_order m a tab y.0.sound p s k (is_plain (view_of h) p y.1) f in
            let l : r.value ≡ s + 2 ^ k - p = value-left ∙ ap (λ (x : Referent). left_in x p) f in
            (omega (arith, w.above, w.low), omega (arith, w.above, w.low, w.high, w.inside, y.0.sound.size))

    pub shown-part : take r.value (drop (p - base) a) ≡ shown p h
    unfolding shown
    shown-part = rw (eq-eqb (pointer_number h p) 0 (sym number-left ∙ z), value-left)

    pub shown-place : p - base ≡ shown_from p h
    unfolding shown_from
    shown-place = rw (eq-eqb (pointer_number h p) 0 (sym number-left ∙ z))

    -- what show ensures of this part, in an arena that begins at the byte k of the memory block b
    pub shown-accepted : (b k : ℕ) → let part = take (p - base + r.value - (p - base)) (drop (p - base) a) in
        (part ≡ shown p h) × ((part ≡ shown_by_left p h) × ◌≡◌ {A = ℕ × ℕ} (b, p - base + k) (b, k + shown_from p h))
    shown-accepted b k =
        let l : p - base + r.value - (p - base) ≡ r.value = omega arith in
        let q : p - base + k ≡ k + shown_from p h = omega (arith, shown-place) in
        let w = ap (λ (n : ℕ). take n (drop (p - base) a)) l ∙ shown-part in
        (w, (w ∙ shown-by-left p h, ap (λ (x : ℕ). (b, x)) q))

  module _ (n : r.number ≡ 0 → ⊥) where
    pub shown-empty : [] ≡ shown p h
    unfolding shown
    shown-empty = rw (ne_eqb (pointer_number h p) 0 (λ x. n (number-left ∙ x)))

    pub shown-nowhere : 0 ≡ shown_from p h
    unfolding shown_from
    shown-nowhere = rw (ne_eqb (pointer_number h p) 0 (λ x. n (number-left ∙ x)))

    pub shown-refused : (b k : ℕ) → ([] ≡ shown p h) × (([] ≡ shown_by_left p h) × ◌≡◌ {A = ℕ × ℕ} (b, 0 + k) (b, k + shown_from p h))
    shown-refused b k =
        let q : 0 + k ≡ k + shown_from p h = omega (arith, shown-nowhere) in
        (shown-empty, (shown-empty ∙ shown-by-left p h, ap (λ (x : ℕ). (b, x)) q))
