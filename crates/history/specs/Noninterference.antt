-- Request 5 of document 02, "My hidden sound": the bytes of one live block make no difference to a list of calls that shows none of them and carries
-- none of them out of the block (noninterference).
use Rattle.std.specs.Prelude.{ℕ, ◌+◌, ◌≡◌, Bool, true, false, not, ◌&&◌, ◌||◌, List, [], ◌∷◌, eqb, length, get_or}
use Rattle.blocks.specs.Blocks.{base, holds, Found}
use Rattle.blocks.specs.declared.Block.{Block}
use Rattle.blocks.specs.Tables.{any, referent_in}
use Rattle.heap.specs.Views.{slot_order}
use Rattle.heap.specs.Heaps.{Heap, heap_call}
use Rattle.heap.specs.declared.Answer.{Answer}
use Rattle.heap.specs.declared.Call.{Call}
use Rattle.heap.specs.declared.Call.TheVariants.{Get, Give, Step, Read, Write, Left, Copy, Fill, SetLock, Grid}
use Rattle.history.specs.CallLists.{run}
use Rattle.history.specs.Histories.{gives_back}

-- ---- the calls that a list may not have while the block lives, by the block, the call and its answer

-- An accepted read that shows a byte of the block, or an accepted copy that carries one out of it. So refused calls, copies of 0 bytes and copies within
-- the block are free.
abbrev pub reveals : Block → Call → Answer → Bool
reveals b (Get n) x = false
reveals b (Give p) x = false
reveals b (Step p i) x = false
reveals b (Read p k) x = eqb x.number 0 && any k (λ j. holds b (p + j))
reveals b (Write p k v) x = false
reveals b (Left p) x = false
reveals b (Copy p q n) x = eqb x.number 0 && any x.value (λ j. holds b (q + j) && not (holds b (p + j)))
reveals b (Fill p v n) x = false
reveals b (SetLock p l) x = false
reveals b (Grid p rows columns row column) x = false

-- In the request's words, a read or a copy source that lies in the block: its pointer does, whether the call is refused or not.
abbrev pub source_in : Block → Call → Bool
source_in b (Get n) = false
source_in b (Give p) = false
source_in b (Step p i) = false
source_in b (Read p k) = holds b p
source_in b (Write p k v) = false
source_in b (Left p) = false
source_in b (Copy p q n) = holds b q
source_in b (Fill p v n) = false
source_in b (SetLock p l) = false
source_in b (Grid p rows columns row column) = false

-- By calls and answers alone: no call is barred up to the first accepted give of s. After that give any may stand.
unfoldable pub none_barred : (Call → Answer → Bool) → ℕ → List Call → List Answer → Bool
none_barred barred s [] xs = true
none_barred barred s (c ∷ cs) [] = true
none_barred barred s (c ∷ cs) (x ∷ xs) = not (barred c x) && (gives_back s c x || none_barred barred s cs xs)

-- ---- two heaps, and what the list makes of both

-- arenas of one length, equal outside the block's range
pub record EqualOutside (b : Block) (a a' : List ℕ) : Type 0 where
  pub sizes : length a ≡ length a'
  pub bytes : (i : ℕ) → holds b (base + i) ≡ false → get_or a i 0 ≡ get_or a' i 0

-- heaps with equal tables that differ at most in the bytes of b, which is live: the table gives it for its start
pub record Twins (b : Block) (h k : Heap) : Type 0 where
  pub live : referent_in slot_order h.table b.start ≡ Found b.start b.order
  pub tables : h.table ≡ k.table
  pub arenas : EqualOutside b h.arena k.arena

-- both give the same answers, their tables stay equal, and their arenas stay equal outside the block's old range
pub record Undisclosed (b : Block) (h k : Heap) (cs : List Call) : Type 0 where
  pub answers : (run heap_call cs h).answers ≡ (run heap_call cs k).answers
  pub tables : (run heap_call cs h).last.table ≡ (run heap_call cs k).last.table
  pub arenas : EqualOutside b (run heap_call cs h).last.arena (run heap_call cs k).last.arena

-- Take two heaps with equal tables whose arenas differ at most inside one live block. For every list of the eleven calls in which no call is barred before
-- the block is given back, `Undisclosed` holds. Nothing else is asked of the heaps: their lengths need not fit, and the table may be damaged. The bar goes
-- by the first heap's answers, which are the second's too.
abbrev pub HiddenWithout : (Block → Call → Answer → Bool) → Type 0
HiddenWithout barred =
    (b : Block) (h k : Heap) (cs : List Call) → Twins b h k → none_barred (barred b) b.start cs (run heap_call cs h).answers ≡ true
    → Undisclosed b h k cs

-- Request 5
pub record Noninterference : Type 0 where
  -- no accepted read shows a byte of the block, and no accepted copy carries a byte out of it
  pub by_bytes : HiddenWithout reveals
  -- in the request's words: no read and no copy source lies in it
  pub by-pointers : HiddenWithout (λ b c x. source_in b c)
