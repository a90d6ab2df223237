-- Outside vectors on the definitions: direct calls, pokes into the table between them, and both buffers at the end. Then lists of our own. To unfold `hold_at`
-- is to unfold all that it computes by.
use Rattle.std.proofs.Common.{◌≡◌, ℕ, Bool, true, false, ◌&&◌, eqb, List, [], ◌∷◌, ◌++◌, map, set, replicate, refl}
use Rattle.heap.specs.Rules.{address_rules}
use Rattle.heap.specs.Heaps.{Heap, heap_of, heap_call, heap_fresh, fresh_heap, check_step, heap_check, pointer_number, shown}
use Rattle.heap.specs.OperationNumbers.{names_call}
use Rattle.heap.specs.declared.Answer.{Answer}
use Rattle.heap.specs.declared.Call.{Call}
use Rattle.heap.specs.declared.Call.TheVariants.{Get, Give, Step, Read, Write, Left, Copy, Fill, SetLock, Grid}
use Rattle.heap.proofs.Computing.{computed}

-- a line of a vector: a call with its number and value, a fresh, a check, a show with its number and bytes, an entry overwritten, a buffer
data Line : Type 0 where
  answers : Call → ℕ → ℕ → Line
  freshens : ℕ → Line
  checks : ℕ → ℕ → ℕ → ℕ → Line
  shows : ℕ → ℕ → List ℕ → Line
  pokes : ℕ → ℕ → Line
  arena_is table_is : List ℕ → Line

same : List ℕ → List ℕ → Bool
same [] [] = true
same [] (y ∷ ys) = false
same (x ∷ xs) [] = false
same (x ∷ xs) (y ∷ ys) = eqb x y && same xs ys

is : Answer → ℕ → ℕ → Bool
is x n v = eqb x.number n && eqb x.value v

-- every line is as it should be
hold_at : List Line → Heap → Bool
unfolding computed address_rules check_step heap_check heap_fresh shown same is
hold_at [] h = true
hold_at (answers c n v ∷ ls) h = is (heap_call c h).answer n v && hold_at ls (heap_call c h).state
hold_at (freshens n ∷ ls) h = is (heap_fresh h).answer n 0 && hold_at ls (heap_fresh h).state
hold_at (checks p i n v ∷ ls) h = is (heap_check p i h) n v && hold_at ls h
hold_at (shows p n bs ∷ ls) h = eqb (pointer_number h p) n && (same (shown p h) bs && hold_at ls h)
hold_at (pokes i v ∷ ls) h = hold_at ls (heap_of h.arena (set h.table i v))
hold_at (arena_is bs ∷ ls) h = same h.arena bs && hold_at ls h
hold_at (table_is bs ∷ ls) h = same h.table bs && hold_at ls h

calls-047 : List Line
calls-047 =
    answers (Fill 65533 117 16) 27 0 ∷ shows 65559 22 [] ∷ answers (Give 65581) 22 0 ∷ shows 65585 22 [] ∷ answers (Get 64) 0 65536
    ∷ shows 65543 0 (replicate 57 0)
    ∷ answers (Give 262146) 27 0
    ∷ shows 65536 0 (replicate 64 0)
    ∷ pokes 0 128 ∷ checks 65520 4294967217 20 0 ∷ pokes 0 6 ∷ answers (Step 65549 4294967268) 24 0
    ∷ shows 65536 0 (replicate 64 0)
    ∷ answers (Get 17) 21 0
    ∷ shows 65544 0 (replicate 56 0)
    ∷ answers (Read 65536 4) 0 0 ∷ shows 2147745774 27 [] ∷ answers (Read 65528 1) 27 0
    ∷ shows 65536 0 (replicate 64 0)
    ∷ answers (Write 262152 3 955000842) 11 0
    ∷ shows 65536 0 (replicate 64 0)
    ∷ freshens 0 ∷ shows 65536 22 [] ∷ answers (Give 65552) 22 0 ∷ shows 65544 22 [] ∷ answers (Write 65536 4 65536) 22 0 ∷ shows 65536 22 []
    ∷ freshens 0 ∷ shows 2147745778 27 [] ∷ answers (Step 65566 9) 22 0 ∷ shows 65588 22 [] ∷ answers (Read 65536 0) 11 0 ∷ shows 65536 22 []
    ∷ answers (Give 65534) 27 0 ∷ shows 65545 22 [] ∷ answers (Give 65536) 22 0 ∷ shows 65528 27 [] ∷ answers (Give 65536) 22 0
    ∷ shows 65544 22 [] ∷ pokes 1 0 ∷ answers (Get 1) 0 65536 ∷ pokes 1 0 ∷ answers (Get 37) 21 0 ∷ answers (Get 17) 0 65568 ∷ shows 1 27 []
    ∷ answers (Give 65536) 0 0
    ∷ shows 65574 0 (replicate 26 0) ∷ pokes 1 128
    ∷ answers (Give 65568) 20 0 ∷ pokes 1 0 ∷ answers (Get 16) 0 65536 ∷ shows 3584167078 27 [] ∷ answers (Give 65570) 23 0
    ∷ shows 65551 0 (0 ∷ []) ∷ checks 65519 17 27 0 ∷ shows 2147549262 27 [] ∷ answers (Get 16) 0 65552
    ∷ shows 65552 0 (replicate 16 0) ∷ answers (Get 16) 21 0
    ∷ shows 65541 0 (replicate 11 0) ∷ answers (Step 2147745805 2247109860) 27 0
    ∷ shows 65536 0 (replicate 16 0) ∷ answers (Write 2147745781 1 65536) 12 0
    ∷ shows 65519 27 [] ∷ answers (Step 65552 4294967288) 0 2147549192
    ∷ shows 65536 0 (replicate 16 0) ∷ answers (Get 64) 21 0
    ∷ shows 65559 0 (replicate 9 0) ∷ answers (Left 65545) 0 7 ∷ shows 65519 27 [] ∷ answers (Get 4) 21 0
    ∷ shows 65536 0 (replicate 16 0) ∷ answers (Left 262135) 27 0
    ∷ shows 65585 0 (replicate 15 0) ∷ answers (Write 65549 4 256) 25 0
    ∷ shows 65568 0 (replicate 32 0)
    ∷ checks 2147745806 2537399657 27 0 ∷ shows 65598 0 (0 ∷ 0 ∷ []) ∷ answers (Get 1020249951) 10 0
    ∷ shows 65543 0 (replicate 9 0) ∷ checks 2147549192 4294967279 13 0
    ∷ shows 65568 0 (replicate 32 0)
    ∷ answers (Get 17) 21 0 ∷ shows 65536 0 (replicate 16 0) ∷ answers (Fill 65536 86 1) 0 1
    ∷ shows 65554 0 (replicate 14 0) ∷ answers (Give 65567) 23 0
    ∷ shows 65545 0 (replicate 7 0) ∷ answers (Left 2147483663) 27 0 ∷ shows 65543 0 (replicate 9 0)
    ∷ answers (Fill 2147549206 4 65) 13 0 ∷ shows 65552 0 (replicate 16 0)
    ∷ answers (Write 65568 0 3328590856) 11 0 ∷ shows 2147745796 27 [] ∷ answers (Left 65559) 0 9 ∷ shows 2147549192 13 []
    ∷ answers (Get 3875554917) 10 0 ∷ shows 2147549205 13 [] ∷ answers (Give 65580) 23 0 ∷ shows 2147549185 27 [] ∷ answers (Get 64) 21 0
    ∷ shows 65551 0 (0 ∷ []) ∷ answers (Copy 65548 65600 3) 27 0
    ∷ shows 65536 0 (86 ∷ replicate 15 0)
    ∷ arena_is (86 ∷ replicate 63 0)
    ∷ table_is (4 ∷ 4 ∷ 5 ∷ 5 ∷ []) ∷ []

holds-047 : hold_at calls-047 (fresh_heap 6) ≡ true
unfolding hold_at calls-047
holds-047 = refl

-- Request 2: all 64 bytes are filled and given back, then a block of 32 and one of 16 are cut from them. Both are clean, and the rest keeps its bytes.
clean-blocks : hold_at
    (answers (Get 50) 0 65536 ∷ answers (Fill 65536 170 64) 0 64 ∷ answers (Give 65536) 0 0 ∷ arena_is (replicate 64 170) ∷ answers (Get 20) 0 65536
    ∷ arena_is (replicate 32 0 ++ replicate 32 170) ∷ answers (Get 16) 0 65568 ∷ answers (Read 65568 4) 0 0 ∷ arena_is (replicate 48 0 ++ replicate 16 170) ∷
    [])
    (fresh_heap 6) ≡ true
unfolding hold_at
clean-blocks = refl

-- Request 3: sixteen distinct bytes are copied up by 1; down by 1, cut short at the end of the block; up by more than half; onto themselves; and not at all.
rotated : hold_at
    (answers (Get 16) 0 65536 ∷ answers (Write 65536 4 16909060) 0 0 ∷ answers (Write 65540 4 84281096) 0 0 ∷ answers (Write 65544 4 151653132) 0 0
    ∷ answers (Write 65548 4 219025168) 0 0 ∷ answers (Copy 65537 65536 15) 0 15
    ∷ shows 65536 0 (1 ∷ 1 ∷ 2 ∷ 3 ∷ 4 ∷ 5 ∷ 6 ∷ 7 ∷ 8 ∷ 9 ∷ 10 ∷ 11 ∷ 12 ∷ 13 ∷ 14 ∷ 15 ∷ []) ∷ answers (Copy 65536 65537 16) 0 15
    ∷ shows 65536 0 (1 ∷ 2 ∷ 3 ∷ 4 ∷ 5 ∷ 6 ∷ 7 ∷ 8 ∷ 9 ∷ 10 ∷ 11 ∷ 12 ∷ 13 ∷ 14 ∷ 15 ∷ 15 ∷ []) ∷ answers (Copy 65545 65536 16) 0 7
    ∷ shows 65536 0 (1 ∷ 2 ∷ 3 ∷ 4 ∷ 5 ∷ 6 ∷ 7 ∷ 8 ∷ 9 ∷ 1 ∷ 2 ∷ 3 ∷ 4 ∷ 5 ∷ 6 ∷ 7 ∷ []) ∷ answers (Copy 65536 65536 16) 0 16 ∷ answers (Copy 65537 65536 0) 0 0
    ∷ arena_is ((1 ∷ 2 ∷ 3 ∷ 4 ∷ 5 ∷ 6 ∷ 7 ∷ 8 ∷ 9 ∷ 1 ∷ 2 ∷ 3 ∷ 4 ∷ 5 ∷ 6 ∷ 7 ∷ []) ++ replicate 16 0) ∷ [])
    (fresh_heap 5) ≡ true
unfolding hold_at
rotated = refl

-- Request 6: two slots, the first taken. Either end of the arena; marked pointers that are sought in the block, at the free slot, outside on both sides and
-- below 0; copies with one pointer outside, whichever it is, or none; and a damaged table, which is judged before.
which-missing : hold_at
    (answers (Get 16) 0 65536 ∷ answers (Left 65535) 27 0 ∷ answers (Left 65552) 22 0 ∷ answers (Left 65567) 22 0 ∷ answers (Left 65568) 27 0
    ∷ answers (Give 65552) 22 0 ∷ answers (Give 65568) 27 0 ∷ answers (Read 65568 1) 27 0 ∷ answers (Write 0 1 0) 27 0 ∷ answers (Fill 65568 1 0) 27 0
    ∷ answers (Step 2147549176 8) 0 65536 ∷ answers (Step 2147549223 0) 22 0 ∷ answers (Step 2147549175 9) 27 0 ∷ answers (Step 2147549224 0) 27 0
    ∷ answers (Step 2147483655 0) 27 0 ∷ answers (Copy 65552 65568 1) 27 0 ∷ answers (Copy 65568 65552 1) 27 0 ∷ answers (Copy 65536 65535 0) 27 0
    ∷ answers (Copy 65536 65552 1) 22 0 ∷ answers (Copy 65552 65536 1) 22 0 ∷ checks 65552 0 22 0 ∷ checks 65568 0 27 0 ∷ shows 65567 22 []
    ∷ shows 65568 27 [] ∷ answers (Left 2147483655) 27 0 ∷ pokes 1 1 ∷ answers (Left 65568) 20 0 ∷ [])
    (fresh_heap 5) ≡ true
unfolding hold_at
which-missing = refl

-- Request 7: a block of two slots is locked by an inner address, and again; what it refuses then, 23 and 25 before 28 and with 0 bytes too; what it does not;
-- a get beside it; unlocked, written and given back; and what refuses a lock, entries with the bit that are damage among it.
locked-blocks : hold_at
    (answers (Get 20) 0 65536 ∷ answers (Get 16) 0 65568 ∷ answers (SetLock 65550 true) 0 0 ∷ table_is (133 ∷ 133 ∷ 4 ∷ 0 ∷ [])
    ∷ answers (SetLock 65567 true) 0 0 ∷ table_is (133 ∷ 133 ∷ 4 ∷ 0 ∷ []) ∷ answers (Write 65536 1 7) 28 0 ∷ answers (Write 65565 4 7) 25 0
    ∷ answers (Fill 65536 1 0) 28 0 ∷ answers (Copy 65536 65568 0) 28 0 ∷ answers (Copy 65536 65536 1) 28 0 ∷ answers (Give 65552) 23 0
    ∷ answers (Give 65536) 28 0 ∷ answers (Copy 65568 65536 99) 0 16 ∷ answers (Read 65536 4) 0 0 ∷ answers (Left 65560) 0 8
    ∷ answers (Step 65536 39) 0 2147549223 ∷ checks 65536 31 0 1 ∷ checks 65536 32 0 0 ∷ shows 65560 0 (replicate 8 0) ∷ answers (Get 17) 21 0
    ∷ answers (Get 1) 0 65584 ∷ table_is (133 ∷ 133 ∷ 4 ∷ 4 ∷ []) ∷ answers (SetLock 65552 false) 0 0 ∷ answers (Write 65536 1 7) 0 0
    ∷ answers (Give 65536) 0 0 ∷ table_is (0 ∷ 0 ∷ 4 ∷ 4 ∷ []) ∷ answers (SetLock 65536 true) 22 0 ∷ answers (SetLock 65600 false) 27 0
    ∷ answers (SetLock 2147549232 true) 13 0 ∷ pokes 1 128 ∷ answers (SetLock 65568 true) 20 0 ∷ pokes 1 131 ∷ answers (Left 65568) 20 0
    ∷ pokes 1 135 ∷ answers (Get 1) 20 0 ∷ pokes 1 133 ∷ answers (Left 65568) 20 0 ∷ pokes 1 132 ∷ answers (Fill 65552 1 1) 28 0 ∷ [])
    (fresh_heap 6) ≡ true
unfolding hold_at
locked-blocks = refl

-- Request 8: two slots, the first taken. In each call a marked pointer is refused by its mark where it is sought in the block, by 22 at the free slot and by 27
-- outside; a copy by what is judged first of its two; the width and the value come before all that, and the mark before the block's end, its start and its
-- lock. A step is not refused by the mark. In a damaged table each is 20, but for a width.
dead-and-marked : hold_at
    (answers (Get 16) 0 65536 ∷ answers (Left 2147549200) 13 0 ∷ answers (Left 2147549183) 13 0 ∷ answers (Left 2147549216) 22 0
    ∷ answers (Left 2147549175) 27 0 ∷ answers (Left 2147483648) 27 0 ∷ answers (Give 2147549200) 13 0 ∷ answers (Give 2147549216) 22 0
    ∷ answers (Give 2147549175) 27 0 ∷ answers (Read 2147549200 4) 13 0 ∷ answers (Read 2147549216 1) 22 0 ∷ answers (Read 2147549175 1) 27 0
    ∷ answers (Read 2147549216 3) 11 0 ∷ answers (Write 2147549200 4 9) 13 0 ∷ answers (Write 2147549216 1 9) 22 0 ∷ answers (Write 2147549175 1 9) 27 0
    ∷ answers (Write 2147549216 3 9) 11 0 ∷ answers (Write 2147549175 1 256) 12 0 ∷ answers (Fill 2147549200 9 1) 13 0 ∷ answers (Fill 2147549216 9 0) 22 0
    ∷ answers (Fill 2147549175 9 1) 27 0 ∷ answers (SetLock 2147549200 true) 13 0 ∷ answers (SetLock 2147549216 false) 22 0
    ∷ answers (SetLock 2147549175 true) 27 0 ∷ checks 2147549200 0 13 0 ∷ checks 2147549216 0 22 0 ∷ checks 2147549175 0 27 0 ∷ shows 2147549200 13 []
    ∷ shows 2147549216 22 [] ∷ shows 2147549175 27 [] ∷ answers (Copy 2147549200 65536 1) 13 0 ∷ answers (Copy 65536 2147549200 1) 13 0
    ∷ answers (Copy 2147549200 65552 1) 22 0 ∷ answers (Copy 65552 2147549200 1) 22 0 ∷ answers (Copy 2147549200 65568 1) 27 0
    ∷ answers (Copy 65568 2147549216 0) 27 0 ∷ answers (Step 2147549200 4294967288) 0 65544 ∷ answers (Step 2147549216 0) 22 0
    ∷ answers (SetLock 65536 true) 0 0 ∷ answers (Give 2147549200) 13 0 ∷ answers (Write 2147549200 1 9) 13 0 ∷ answers (Fill 2147549200 9 0) 13 0
    ∷ answers (Copy 2147549200 65536 0) 13 0 ∷ pokes 1 1 ∷ answers (Left 2147549200) 20 0 ∷ answers (Give 2147549200) 20 0
    ∷ answers (Read 2147549216 1) 20 0 ∷ answers (Write 2147549175 1 9) 20 0 ∷ answers (Fill 2147549200 9 1) 20 0 ∷ answers (SetLock 2147549200 true) 20 0
    ∷ answers (Step 2147549200 0) 20 0 ∷ answers (Copy 2147549216 2147549175 1) 20 0
    ∷ answers (Read 2147549200 3) 11 0 ∷ checks 2147549175 0 20 0 ∷ shows 2147549216 20 [] ∷ [])
    (fresh_heap 5) ≡ true
unfolding hold_at
dead-and-marked = refl

-- Request 10: a block of two slots and one of one. A grid that just fits the first, and one that misses by a byte, wherever its place lies; at the last byte;
-- of 255 by 255; places in the row and the column after the last, and in grids without any; what refuses a pointer, and a locked block. In a damaged table a
-- grid is 20, but for a place outside it.
grids : hold_at
    (answers (Get 20) 0 65536 ∷ answers (Get 16) 0 65568 ∷ answers (Grid 65536 4 8 0 0) 0 65536 ∷ answers (Grid 65536 4 8 2 3) 0 65555
    ∷ answers (Grid 65536 4 8 3 7) 0 65567 ∷ answers (Grid 65536 8 4 2 3) 0 65547 ∷ answers (Grid 65537 4 8 0 0) 25 0
    ∷ answers (Grid 65537 1 31 0 30) 0 65567 ∷ answers (Grid 65537 31 1 30 0) 0 65567 ∷ answers (Grid 65567 1 1 0 0) 0 65567
    ∷ answers (Grid 65567 2 1 0 0) 25 0 ∷ answers (Grid 65536 1 255 0 0) 25 0 ∷ answers (Grid 65536 255 255 254 254) 25 0
    ∷ answers (Grid 65536 4 8 4 0) 30 0 ∷ answers (Grid 65536 4 8 0 8) 30 0 ∷ answers (Grid 65536 0 8 0 0) 30 0 ∷ answers (Grid 65536 8 0 0 0) 30 0
    ∷ answers (Grid 65584 2 2 0 0) 22 0 ∷ answers (Grid 65600 2 2 0 0) 27 0 ∷ answers (Grid 2147549232 1 1 0 0) 13 0
    ∷ answers (Grid 2147549232 9 9 0 0) 13 0 ∷ answers (Grid 2147549248 1 1 0 0) 22 0 ∷ answers (Grid 2147483655 1 1 0 0) 27 0
    ∷ answers (Grid 65600 1 1 1 0) 30 0 ∷ answers (SetLock 65536 true) 0 0 ∷ answers (Grid 65536 4 8 1 2) 0 65546 ∷ table_is (133 ∷ 133 ∷ 4 ∷ 0 ∷ [])
    ∷ arena_is (replicate 64 0) ∷ pokes 3 1 ∷ answers (Grid 65536 1 1 0 0) 20 0 ∷ answers (Grid 65536 1 1 0 1) 30 0 ∷ [])
    (fresh_heap 6) ≡ true
unfolding hold_at
grids = refl

-- the operations that name a call, of those from 0 to 14
which-name-calls : map names_call (0 ∷ 1 ∷ 2 ∷ 3 ∷ 4 ∷ 5 ∷ 6 ∷ 7 ∷ 8 ∷ 9 ∷ 10 ∷ 11 ∷ 12 ∷ 13 ∷ 14 ∷ [])
    ≡ false ∷ true ∷ true ∷ true ∷ true ∷ true ∷ true ∷ true ∷ true ∷ true ∷ true ∷ false ∷ false ∷ true ∷ false ∷ []
which-name-calls = refl

-- a row of 255 and a column of 255, which fit a block of 256 at its first two addresses
long-grids : hold_at
    (answers (Get 255) 0 65536 ∷ answers (Grid 65536 1 255 0 254) 0 65790 ∷ answers (Grid 65537 1 255 0 254) 0 65791
    ∷ answers (Grid 65537 255 1 254 0) 0 65791 ∷ answers (Grid 65538 1 255 0 0) 25 0 ∷ answers (Grid 65538 255 1 0 0) 25 0
    ∷ answers (Grid 65536 1 255 0 255) 30 0 ∷ answers (Grid 65536 2 128 1 127) 0 65791 ∷ answers (Grid 65536 2 129 0 0) 25 0 ∷ [])
    (fresh_heap 8) ≡ true
unfolding hold_at
long-grids = refl

-- lengths that are no heap's: 48 bytes, and a table of one entry too many
wrong-arena : hold_at (answers (Get 1) 8 0 ∷ freshens 8 ∷ checks 65536 0 8 0 ∷ shows 65536 8 [] ∷ []) (heap_of (replicate 48 7) (replicate 3 0)) ≡ true
unfolding hold_at
wrong-arena = refl

wrong-table : hold_at (answers (Left 65536) 8 0 ∷ answers (Grid 65536 1 1 1 1) 8 0 ∷ freshens 8 ∷ []) (heap_of (replicate 32 7) (replicate 3 0)) ≡ true
unfolding hold_at
wrong-table = refl
