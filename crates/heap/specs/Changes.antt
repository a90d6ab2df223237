-- What a call, if it is not refused, does to the set of blocks. The table, the ledger's pairs and the history all follow it.
use Rattle.std.specs.Prelude.{ℕ, Bool}
use Rattle.heap.specs.declared.Call.{Call}
use Rattle.heap.specs.declared.Call.TheVariants.{Get, Give, Step, Read, Write, Left, Copy, Fill, SetLock, Grid}

-- it adds a block for n bytes, removes the one that starts at p, locks or unlocks the one that holds p, or keeps the set
pub data Change : Type 0 where
  adds : ℕ → Change
  removes : ℕ → Change
  relocks : ℕ → Bool → Change
  keeps : Change

abbrev pub change_of : Call → Change
change_of (Get n) = adds n
change_of (Give p) = removes p
change_of (Step p i) = keeps
change_of (Read p k) = keeps
change_of (Write p k v) = keeps
change_of (Left p) = keeps
change_of (Copy p q n) = keeps
change_of (Fill p v n) = keeps
change_of (SetLock p l) = relocks p l
change_of (Grid p rows columns row column) = keeps
