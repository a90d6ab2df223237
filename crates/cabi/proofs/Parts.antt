-- The part that show hands back, by what left answers for the same p.
use Prim.Native.Nat.{ℕ, ◌+◌, ◌-◌, ◌≤◌, min}
use mathlib.Core.Path.{◌≡◌, sym, ◌∙◌, ap}
use mathlib.Core.List.{List}
use native.Mathlib.Omega.{arith}
use lib.ListN.{length, take, drop, length-take, length-drop}
use Rattle.blocks.specs.Blocks.{base}
use Rattle.heap.specs.Heaps.{Heap, heap_of, heap_call, outcome, pointer_number, shown, shown_from}
use Rattle.heap.specs.declared.Answer.{Answer}
use Rattle.heap.specs.declared.Call.TheVariants.{Left}
use Rattle.heap.proofs.Showing.{number-left, shown-inside, shown-part, shown-place, shown-empty, shown-nowhere}
use Rattle.cabi.specs.Parts.{part_of}

-- a part of a list that lies in it has its own length
taken : (n k : ℕ) (l : List ℕ) → k + n ≤ length l → n ≡ length (take n (drop k l))
taken n k l i = sym (length-take n (drop k l) ∙ ap (min n) (length-drop k l) ∙ omega arith)

module _ (p : ℕ) (a t : List ℕ) (r : Answer) (e : outcome r a t ≡ heap_call (Left p) (heap_of a t)) where
  abbrev h : Heap
  h = heap_of a t

  part-is : {n o l : ℕ} → n ≡ pointer_number h p → o ≡ shown_from p h → l ≡ length (shown p h) → record { number = n; offset = o; length = l } ≡ part_of p h
  part-is x y z = rw (x, y, z)

  pub refused-part : (r.number ≡ 0 → ⊥) → record { number = r.number; offset = 0; length = 0 } ≡ part_of p h
  refused-part n = part-is (number-left p a t r e) (shown-nowhere p a t r e n) (ap length (shown-empty p a t r e n))

  pub accepted-part : r.number ≡ 0 → record { number = 0; offset = p - base; length = r.value } ≡ part_of p h
  accepted-part z =
      part-is (sym z ∙ number-left p a t r e) (shown-place p a t r e z)
      (taken r.value (p - base) a (shown-inside p a t r e z).1 ∙ ap length (shown-part p a t r e z))
