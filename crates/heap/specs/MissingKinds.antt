-- Request 6, "Which kind of missing": what 27 and 22 tell of a call's pointers, by a view, so by a table and by the ledger's pairs alike.
use Rattle.std.specs.Prelude.{◌≡◌, ℕ, ◌-◌, ◌/◌, ◌^◌, Bool, true, false, not, ◌&&◌, List, [], ◌∷◌, ℤ, pos, negsuc}
use Rattle.common.specs.Refusals.{any_of, is_one_of}
use Rattle.blocks.specs.Blocks.{base}
use Rattle.blocks.specs.Pointers.{sought, outside_at}
use Rattle.heap.specs.Views.{View}
use Rattle.heap.specs.Rules.{outside_arena}
use Rattle.heap.specs.declared.Call.{Call}
use Rattle.heap.specs.declared.Call.TheVariants.{Get, Give, Step, Read, Write, Left, Copy, Fill, SetLock, Grid}

abbrev pub pointers_of : Call → List ℕ
pointers_of (Get n) = []
pointers_of (Give p) = p ∷ []
pointers_of (Step p i) = p ∷ []
pointers_of (Read p k) = p ∷ []
pointers_of (Write p k v) = p ∷ []
pointers_of (Left p) = p ∷ []
pointers_of (Copy p q n) = p ∷ q ∷ []
pointers_of (Fill p v n) = p ∷ []
pointers_of (SetLock p l) = p ∷ []
pointers_of (Grid p rows columns row column) = p ∷ []

-- an exact address lies inside the arena, in a slot that is free
abbrev pub free_at : View → ℤ → Bool
free_at w (pos q) = not (outside_at w.order (pos q)) && w.free ((q - base) / 2 ^ w.slot)
free_at w (negsuc n) = false

-- a pointer is sought there
abbrev pub at_free_slot : View → ℕ → Bool
at_free_slot w p = free_at w (sought w.slot p)

-- the numbers that are judged before a home is asked for: each is a write's or a grid's (`judged-before` in heap/proofs)
abbrev pub judged_before : List ℕ
judged_before = 8 ∷ 11 ∷ 12 ∷ 30 ∷ 20 ∷ []

pub record Tells (w : View) (ps : List ℕ) (number : ℕ) : Type 0 where
  -- 27: a pointer is sought outside the arena. 22: none is, and one is sought at a free slot.
  pub tells-outside : number ≡ 27 → any_of (outside_arena w) ps ≡ true
  pub tells-inside : number ≡ 22 → any_of (outside_arena w) ps ≡ false
  pub tells-free : number ≡ 22 → any_of (at_free_slot w) ps ≡ true
  -- one such pointer is enough: the call is refused by its number or by one that is judged before it
  pub outside-enough : any_of (outside_arena w) ps ≡ true → is_one_of (27 ∷ judged_before) number ≡ true
  pub free-enough : any_of (at_free_slot w) ps ≡ true → is_one_of (22 ∷ 27 ∷ judged_before) number ≡ true
