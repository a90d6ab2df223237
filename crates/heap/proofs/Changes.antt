-- A call by what it does to the set of blocks, told by cases of the call: a get, a give, a lock or an unlock, or one that keeps the set.
use Rattle.std.proofs.Common.{◌≡◌, ℕ, Bool, refl}
use Rattle.heap.specs.Changes.{keeps, change_of}
use Rattle.heap.specs.declared.Call.{Call}
use Rattle.heap.specs.declared.Call.TheVariants.{Get, Give, Step, Read, Write, Left, Copy, Fill, SetLock, Grid}

pub data Changing : Call → Type 0 where
  gets : (n : ℕ) → Changing (Get n)
  gives-back : (p : ℕ) → Changing (Give p)
  sets-lock : (p : ℕ) (l : Bool) → Changing (SetLock p l)
  keeps-all : {c : Call} → change_of c ≡ keeps → Changing c

pub changing : (c : Call) → Changing c
changing (Get n) = gets n
changing (Give p) = gives-back p
changing (Step p i) = keeps-all refl
changing (Read p k) = keeps-all refl
changing (Write p k v) = keeps-all refl
changing (Left p) = keeps-all refl
changing (Copy p q n) = keeps-all refl
changing (Fill p v n) = keeps-all refl
changing (SetLock p l) = sets-lock p l
changing (Grid p rows columns row column) = keeps-all refl
