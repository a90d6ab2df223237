-- Document 01, "Edges to prove, as a single statement over one small table".
use Rattle.std.specs.Prelude.{◌≡◌, [], ◌∷◌, replicate}
use Rattle.heap.specs.Effects.{accepted, refused}
use Rattle.heap.specs.Heaps.{Heap, heap_of, heap_call, fresh_heap}
use Rattle.heap.specs.declared.Answer.{Answer}
use Rattle.heap.specs.declared.Call.{Call}
use Rattle.heap.specs.declared.Call.TheVariants.{Get, Give, Step, Read}

-- m = 6, one block at 65536 of order 5
abbrev pub one_block : Heap
one_block = heap_of (replicate 64 0) (5 ∷ 5 ∷ 0 ∷ 0 ∷ [])

abbrev pub answered : Call → Heap → Answer
answered c h = (heap_call c h).answer

pub record Edges : Type 0 where
  pub a : answered (Step 65536 39) one_block ≡ accepted 2147549223
  pub b : answered (Step 65536 40) one_block ≡ refused 24
  pub c : answered (Step 65536 4294967288) one_block ≡ accepted 2147549176
  pub d : answered (Step 65536 4294967287) one_block ≡ refused 24
  pub e : answered (Step 2147549176 8) one_block ≡ accepted 65536
  pub f : answered (Read 65564 4) one_block ≡ accepted 0
  pub g : answered (Read 65565 4) one_block ≡ refused 25
  pub h : answered (Give 65552) one_block ≡ refused 23
  pub i : answered (Get 17) one_block ≡ accepted 65568
  pub j : answered (Get 64) (fresh_heap 6) ≡ accepted 65536
  pub k : answered (Get 65) (fresh_heap 6) ≡ refused 10
  pub l : answered (Get 0) (fresh_heap 6) ≡ refused 10
