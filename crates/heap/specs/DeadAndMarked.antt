-- Request 8, "Dead and marked": what 13 tells of the pointers that a call needs plain, by a view, so by a table and by the ledger's pairs alike.
use Rattle.std.specs.Prelude.{◌≡◌, ℕ, true, false, List, [], ◌∷◌}
use Rattle.common.specs.Refusals.{any_of, is_one_of}
use Rattle.blocks.specs.Pointers.{marked}
use Rattle.heap.specs.Views.{View}
use Rattle.heap.specs.Rules.{outside_arena, dead}
use Rattle.heap.specs.MissingKinds.{pointers_of, judged_before}
use Rattle.heap.specs.declared.Call.{Call}
use Rattle.heap.specs.declared.Call.TheVariants.{Get, Give, Step, Read, Write, Left, Copy, Fill, SetLock, Grid}

-- all of a call's pointers; but a step takes marked ones
abbrev pub plain_pointers : Call → List ℕ
plain_pointers (Get n) = pointers_of (Get n)
plain_pointers (Give p) = pointers_of (Give p)
plain_pointers (Step p i) = []
plain_pointers (Read p k) = pointers_of (Read p k)
plain_pointers (Write p k v) = pointers_of (Write p k v)
plain_pointers (Left p) = pointers_of (Left p)
plain_pointers (Copy p q n) = pointers_of (Copy p q n)
plain_pointers (Fill p v n) = pointers_of (Fill p v n)
plain_pointers (SetLock p l) = pointers_of (SetLock p l)
plain_pointers (Grid p rows columns row column) = pointers_of (Grid p rows columns row column)

pub record TellsMarks (w : View) (ps : List ℕ) (number : ℕ) : Type 0 where
  -- 13: one is marked, each has a referent, and the table is undamaged
  pub tells-marked : number ≡ 13 → any_of marked ps ≡ true
  pub tells-home : number ≡ 13 → any_of (dead w) ps ≡ false
  pub tells-whole : number ≡ 13 → w.damaged ≡ false
  -- one marked pointer is enough: the call is refused by 13 or by a number that is judged before it
  pub marked-enough : any_of marked ps ≡ true → is_one_of (13 ∷ 22 ∷ 27 ∷ judged_before) number ≡ true
  -- where each is sought in the arena and has a referent, the number remains 13, or is one that is judged before a home is asked for
  pub remains : any_of marked ps ≡ true → any_of (outside_arena w) ps ≡ false → any_of (dead w) ps ≡ false → is_one_of (13 ∷ judged_before) number ≡ true
