-- A list of calls as bytes, computed. Request 5, computed and used: two heaps of 64 bytes with two blocks of 32 each. The first block is hidden: its bytes are
-- all 1 in one heap and all 2 in the other.
use Prim.Native.Nat.{ℕ, ◌+◌, ◌-◌, ◌≤◌, ◌<◌}
use mathlib.Core.Path.{◌≡◌, refl, sym, ◌∙◌, ap}
use mathlib.Core.Bool.{Bool, true, false, true≢false}
use mathlib.Core.List.{List, [], ◌∷◌, ◌++◌}
use native.Mathlib.Decide.{dec_lt}
use native.Mathlib.Omega.{arith}
use lib.ListN.{replicate, get_or}
use lib.Seq.{get_or-append-add}
use Rattle.common.specs.Bytes.{big_endian}
use Rattle.blocks.specs.Blocks.{base, floor, holds}
use Rattle.blocks.specs.declared.Block.{Block}
use Rattle.blocks.specs.Tables.{any, entry_order, referent_in}
use Rattle.heap.specs.Heaps.{Heap, heap_of, heap_call}
use Rattle.heap.specs.declared.Answer.{Answer}
use Rattle.heap.specs.declared.Call.{Call}
use Rattle.heap.specs.declared.Call.TheVariants.{Get, Give, Step, Read, Write, Left, Copy, Fill, SetLock, Grid}
use Rattle.heap.proofs.Computing.{computed}
use Rattle.heap.proofs.Settling.{answer}
use Rattle.history.specs.CallLists.{Run, run}
use Rattle.history.specs.Replaying.{call_at, calls_from, calls_of}
use Rattle.history.specs.Noninterference.{reveals, source_in, none_barred, EqualOutside, Twins, Undisclosed}
use Rattle.history.proofs.Pairs.{holds_by}
use Rattle.history.proofs.Noninterference.{noninterference}

-- two calls in 14 bytes each: a grid by the bytes of the second number, whatever the byte x and the third number are, and an unlock
named : calls_of
    (13 ∷ 99 ∷ 0 ∷ 1 ∷ 0 ∷ 2 ∷ 4 ∷ 8 ∷ 3 ∷ 7 ∷ 99 ∷ 99 ∷ 99 ∷ 99
    ∷ 10 ∷ 0 ∷ 0 ∷ 1 ∷ 0 ∷ 0 ∷ 0 ∷ 0 ∷ 0 ∷ 0 ∷ 0 ∷ 0 ∷ 0 ∷ 0
    ∷ [])
    ≡ Grid 65538 4 8 3 7 ∷ SetLock 65536 false ∷ []
unfolding calls_from call_at big_endian
named = refl

abbrev hidden : Block
hidden = record { start = 65536; order = 5 }

abbrev arena : ℕ → List ℕ
arena x = replicate 32 x ++ replicate 32 9

-- the heap whose hidden bytes are all x; and with a table that is damaged, where the hidden block is live all the same
abbrev heap : ℕ → Heap
heap x = heap_of (arena x) (5 ∷ 5 ∷ 5 ∷ 5 ∷ [])

abbrev damaged-heap : ℕ → Heap
damaged-heap x = heap_of (arena x) (5 ∷ 0 ∷ 5 ∷ 5 ∷ [])

results : List Call → Heap → Run Heap
unfolding computed run
results cs h = run heap_call cs h

-- the list has no barred call before the hidden block is given back
unbarred : (Call → Answer → Bool) → List Call → Heap → Bool
unfolding none_barred any results
unbarred barred cs h = none_barred barred hidden.start cs (results cs h).answers

abbrev by_bytes : Call → Answer → Bool
by_bytes = reveals hidden

abbrev by-pointers : Call → Answer → Bool
by-pointers c x = source_in hidden c

-- ---- what lists give, that reveal the block and that do not

-- A copy within the block, one of 0 bytes out of it, a read that goes past its end and a write into it are free by their bytes. While it is locked, a give of
-- it is refused. Then it is given back, and a smaller block is got in its place: that one is clean, and the rest of the old range still differs.
given_back : List Call
given_back =
    Copy 65537 65536 4 ∷ Copy 65568 65536 0 ∷ Read 65566 4 ∷ Write 65538 1 7 ∷ Left 65540 ∷ Read 65568 2 ∷ SetLock 65567 true ∷ Give 65536
    ∷ SetLock 65536 false ∷ Give 65536 ∷ Get 3 ∷ Read 65536 4 ∷ Copy 65568 65536 2 ∷ Read 65552 1 ∷ []

their-answers : List Answer
their-answers =
    answer 0 4 ∷ answer 0 0 ∷ answer 25 0 ∷ answer 0 0 ∷ answer 0 28 ∷ answer 0 2313 ∷ answer 0 0 ∷ answer 28 0
    ∷ answer 0 0 ∷ answer 0 0 ∷ answer 0 65536 ∷ answer 0 0 ∷ answer 0 2 ∷ answer 22 0 ∷ []

Untold : ℕ → Type 0
Untold x =
    (unbarred by_bytes given_back (heap x) ≡ true) × (unbarred by-pointers given_back (heap x) ≡ false)
    × (results given_back (heap x)
    ≡ record { answers = their-answers; last = heap_of (replicate 16 0 ++ (replicate 16 x ++ (0 ∷ 0 ∷ replicate 30 9))) (4 ∷ 0 ∷ 5 ∷ 5 ∷ []) })

untold : Untold 1 × Untold 2
unfolding Untold unbarred given_back their-answers
untold = ((refl, refl, refl), (refl, refl, refl))

-- a read that shows a byte of the block, and a copy that carries one out, are barred, and tell the two heaps apart
Told : ℕ → Type 0
Told x =
    (unbarred by_bytes (Read 65538 1 ∷ []) (heap x) ≡ false) × ((results (Read 65538 1 ∷ []) (heap x)).answers ≡ answer 0 x ∷ [])
    × (unbarred by_bytes (Copy 65568 65567 2 ∷ []) (heap x) ≡ false)
    × ((results (Copy 65568 65567 2 ∷ []) (heap x)).last.arena ≡ replicate 32 x ++ (x ∷ replicate 31 9))

told : Told 1 × Told 2
unfolding Told unbarred
told = ((refl, refl, refl, refl), (refl, refl, refl, refl))

-- ---- the claim used, on a list that never gives the block back

outside : (i : ℕ) → holds hidden (base + i) ≡ false → 32 ≤ i
outside i e = go (dec_lt i 32)
  where
    go : Dec (i < 32) → 32 ≤ i
    go (yes l) = absurd (true≢false (sym (holds_by hidden (base + i) (omega arith) (omega arith)) ∙ e))
    go (no l) = omega arith

nines : (x i : ℕ) → 32 ≤ i → get_or (arena x) i 0 ≡ get_or (replicate 32 9) (i - 32) 0
nines x i l =
    let p : 32 + (i - 32) ≡ i = omega arith in
    ap (λ (j : ℕ). get_or (arena x) j 0) (sym p) ∙ get_or-append-add (replicate 32 x) (replicate 32 9) (i - 32) 0

arenas : EqualOutside hidden (arena 1) (arena 2)
arenas = record { sizes = refl; bytes = λ i e. nines 1 i (outside i e) ∙ sym (nines 2 i (outside i e)) }

twins : Twins hidden (heap 1) (heap 2)
unfolding floor entry_order referent_in
twins = record { live = refl; tables = refl; arenas = arenas }

damaged-twins : Twins hidden (damaged-heap 1) (damaged-heap 2)
unfolding floor entry_order referent_in
damaged-twins = record { live = refl; tables = refl; arenas = arenas }

-- all eleven calls, with a step, a left, a grid, a write and a copy into the block, and a fill of it while it is locked, which is refused, and once it is not;
-- on the damaged table they are refused
guest : List Call
guest =
    Get 1 ∷ Step 65536 40 ∷ Read 65568 2 ∷ Write 65537 1 7 ∷ Left 65540 ∷ Grid 65536 4 8 3 7 ∷ Copy 65536 65568 4 ∷ SetLock 65540 true ∷ Fill 65540 3 2
    ∷ SetLock 65540 false ∷ Fill 65540 3 2 ∷ Give 65568 ∷ []

guest-by-bytes : Undisclosed hidden (heap 1) (heap 2) guest
unfolding unbarred guest
guest-by-bytes =
    let free : unbarred by_bytes guest (heap 1) ≡ true = refl in
    noninterference.by_bytes hidden (heap 1) (heap 2) guest twins free

guest-by-pointers : Undisclosed hidden (heap 1) (heap 2) guest
unfolding unbarred guest
guest-by-pointers =
    let free : unbarred by-pointers guest (heap 1) ≡ true = refl in
    noninterference.by-pointers hidden (heap 1) (heap 2) guest twins free

guest-on-damage : Undisclosed hidden (damaged-heap 1) (damaged-heap 2) guest
unfolding unbarred guest
guest-on-damage =
    let free : unbarred by_bytes guest (damaged-heap 1) ≡ true = refl in
    noninterference.by_bytes hidden (damaged-heap 1) (damaged-heap 2) guest damaged-twins free
