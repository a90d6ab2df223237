-- Demand 3: the claim about a whole list of calls from a fresh heap of 2 ^ m bytes, as document 01, "What demand 3 compares", spells it out.
use Rattle.std.specs.Prelude.{ℕ, ◌+◌, ◌-◌, ◌%◌, ◌^◌, ◌<◌, ◌≡◌, true, pos, length, get_or}
use mathlib.Core.List.{List, ◌∷◌, ◌++◌, Memᴰ}
use Rattle.blocks.specs.Blocks.{holds, Found}
use Rattle.blocks.specs.declared.Block.{Block}
use Rattle.blocks.specs.Sets.{ranges, PairSet, table_of}
use Rattle.blocks.specs.Pointers.{mark_bit, exact_sum, within, in_reach}
use Rattle.heap.specs.Views.{slot_order}
use Rattle.heap.specs.Effects.{accepted}
use Rattle.heap.specs.Heaps.{Heap, heap_call, heap_fresh, fresh_heap, heap_check, bit}
use Rattle.heap.specs.Changes.{change_of}
use Rattle.heap.specs.declared.Answer.{Answer}
use Rattle.heap.specs.declared.Call.{Call}
use Rattle.heap.specs.declared.Call.TheVariants.{Step}
use Rattle.history.specs.CallLists.{heap_run, ledger_run}
use Rattle.history.specs.Histories.{live_by, StarvedGet}

-- the step from the address r to the address q, in two's complement
abbrev pub distance : ℕ → ℕ → ℕ
distance r q = (q + 2 ^ 32 - r) % 2 ^ 32

-- the list's answers, its last heap, and the blocks live by the history
abbrev pub answers_of : ℕ → List Call → List Answer
answers_of m cs = (heap_run m cs).answers

abbrev pub after : ℕ → List Call → Heap
after m cs = (heap_run m cs).last

abbrev pub live : ℕ → List Call → List Block
live m cs = live_by slot_order m cs (answers_of m cs)

pub record Demand3 (m : ℕ) (cs : List Call) : Type 0 where
  -- the list starts from the two buffers as fresh leaves them, whatever they held
  pub start : (h : Heap) → length h.arena ≡ 2 ^ m → length h.table ≡ 2 ^ (m - slot_order)
      → heap_fresh h ≡ record { answer = accepted 0; state = fresh_heap m }
  -- all numbers and values, in the calls' order, and all arena bytes equal the ledger's
  pub answers : answers_of m cs ≡ (ledger_run m cs).answers
  pub bytes : (after m cs).arena ≡ (ledger_run m cs).last.bytes
  -- the table is the one table of its pairs, with their locks
  pub pairs : PairSet slot_order m (ledger_run m cs).last.pairs
  pub table : (after m cs).table ≡ table_of slot_order m (ledger_run m cs).last.pairs
  -- the starts and orders of the blocks live by the history are those of its pairs
  pub lives : live m cs ≡ ranges (ledger_run m cs).last.pairs
  -- from each address of a live block, the public check passes for exactly the steps whose exact sum lies in the block, and is never refused
  pub check : (b : Block) → Memᴰ b (live m cs) → (q : ℕ) → holds b q ≡ true → (i : ℕ)
      → heap_check q i (after m cs) ≡ accepted (bit (within (Found b.start b.order) (exact_sum q i)))
  -- every marked pointer in reach of a live block leads back to each of its addresses
  pub recovery : (b : Block) → Memᴰ b (live m cs) → (r : ℕ) → in_reach slot_order (Found b.start b.order) (pos r) ≡ true → (q : ℕ) → holds b q ≡ true
      → heap_call (Step (mark_bit + r) (distance r q)) (after m cs) ≡ record { answer = accepted q; state = after m cs }
  -- no two blocks live by the history, at two places of the list, share an address
  pub apart : (i j : ℕ) (none : Block) → i < j → j < length (live m cs) → (q : ℕ) → holds (get_or (live m cs) i none) q ≡ true
      → holds (get_or (live m cs) j none) q ≡ true → ⊥
  -- 21 is the answer of exactly the gets of 1 byte up to the arena's length for which no range free by the history before that get is large enough
  pub room : (before later : List Call) (c : Call) (xs ys : List Answer) (x : Answer)
      → cs ≡ before ++ (c ∷ later) → answers_of m cs ≡ xs ++ (x ∷ ys) → length xs ≡ length before
      → let starved = StarvedGet slot_order m (live_by slot_order m before xs) (change_of c) in (x.number ≡ 21 → starved) × (starved → x.number ≡ 21)
