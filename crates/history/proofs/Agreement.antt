-- The relation between a heap and a ledger that a list of calls keeps.
use Prim.Native.Nat.{ℕ, ◌^◌, ◌≤◌}
use mathlib.Core.Path.{◌≡◌}
use mathlib.Core.Bool.{true}
use mathlib.Core.List.{List, [], ◌∷◌}
use lib.ListN.{length}
use Rattle.blocks.specs.Blocks.{holds, Aligned, Missing}
use Rattle.blocks.specs.declared.Block.{Block}
use Rattle.blocks.specs.Sets.{ranges, referent_of, table_of}
use Rattle.heap.specs.Effects.{Outcome}
use Rattle.heap.specs.Heaps.{Heap}
use Rattle.history.specs.Ledgers.{Ledger}

-- aligned blocks, each apart from all that stand after it in the list
pub data Proper (t m : ℕ) : List Block → Type 0 where
  none : Proper t m []
  more : {b : Block} {bs : List Block} → Aligned t m b → ((q : ℕ) → holds b q ≡ true → referent_of bs q ≡ Missing) → Proper t m bs → Proper t m (b ∷ bs)

-- slots of 2 ^ t bytes in an arena of 2 ^ m
pub record Orders (t m : ℕ) : Type 0 where
  pub slot-low : 1 ≤ t
  pub slot-high : t ≤ m
  pub low : 5 ≤ m
  pub high : m ≤ 16

pub record Agree (t m : ℕ) (h : Heap) (l : Ledger) : Type 0 where
  pub bytes : h.arena ≡ l.bytes
  pub size : length h.arena ≡ 2 ^ m
  pub table : h.table ≡ table_of t m l.pairs
  pub proper : Proper t m (ranges l.pairs)

-- the two outcomes of a call are alike
pub record Same (t m : ℕ) (a : Outcome Heap) (b : Outcome Ledger) : Type 0 where
  pub answer : a.answer ≡ b.answer
  pub agree : Agree t m a.state b.state
