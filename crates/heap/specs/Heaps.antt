-- The heap: an arena and a table of any lengths and contents, and what each call answers and leaves of them.
use Rattle.std.specs.Prelude.{ℕ, ◌-◌, ◌/◌, ◌^◌, Bool, false, cond, not, ◌&&◌, List, [], ◌∷◌, length, take, drop, replicate, ◌==◌}
use Rattle.common.specs.Refusals.{◌when◌, first}
use Rattle.common.specs.Bytes.{over}
use Rattle.blocks.specs.Blocks.{base, start_in, order_in, Referent, Missing, Found}
use Rattle.blocks.specs.Tables.{entry_of, damaged_by, free_in, locked_in, referent_in}
use Rattle.blocks.specs.Pointers.{sought, pointer_referent, address, wrapped_sum, check_at}
use Rattle.blocks.specs.Orders.{is_arena_order, order_of}
use Rattle.heap.specs.Views.{View, slot_order, referent_of_pointer, left_from, needed_for, start_for}
use Rattle.heap.specs.Rules.{rules, address_rules}
use Rattle.heap.specs.Effects.{value, stored, Outcome, judged}
use Rattle.heap.specs.Changes.{Change, adds, removes, relocks, keeps, change_of}
use Rattle.heap.specs.declared.Answer.{Answer}
use Rattle.heap.specs.declared.Call.{Call}
use Rattle.heap.specs.declared.Call.TheVariants.{Left}

pub record Heap : Type 0 where
  pub arena : List ℕ
  pub table : List ℕ

abbrev pub heap_of : List ℕ → List ℕ → Heap
heap_of a tab = record { arena = a; table = tab }

-- by the check: h, the address at which p's referent is sought, and the 32-bit sum lie in one block of the referent's order
unfoldable pub inside_by_check : ℕ → Referent → ℕ → ℕ → Bool
inside_by_check t Missing p i = false
inside_by_check t (Found s e) p i = check_at e (sought t p) (wrapped_sum (address p) i)

-- the lengths are not those of an arena of 2 ^ m bytes in slots of 2 ^ t, and its table
abbrev pub wrong_sizes : (t m : ℕ) → Heap → Bool
wrong_sizes t m h = not (is_arena_order m && (length h.arena == 2 ^ m && length h.table == 2 ^ (m - t)))

-- the heap seen as an arena of 2 ^ m bytes in slots of 2 ^ t
abbrev pub heap_view : (t m : ℕ) → Heap → View
heap_view t m h =
    record {
      slot = t;
      order = m;
      wrong-sizes = wrong_sizes t m h;
      damaged = damaged_by t m h.table;
      free = free_in h.table;
      referent = referent_in t h.table;
      locked = locked_in t h.table;
      inside = λ p i. inside_by_check t (pointer_referent t (referent_in t h.table) p) p i;
    }

-- the table with x in each slot of the block of order e that starts at s
abbrev pub stamped : ℕ → List ℕ → ℕ → ℕ → ℕ → List ℕ
stamped t tab s e x = over tab ((s - base) / 2 ^ t) (replicate (2 ^ (e - t)) x)

-- the table after a call that is not refused, by what it does to the blocks
unfoldable pub entered : Change → View → List ℕ → List ℕ
entered (adds n) w tab = stamped w.slot tab (start_for n w) (needed_for n w) (entry_of (needed_for n w) false)
entered (removes p) w tab = stamped w.slot tab p (order_in (referent_of_pointer w p)) 0
entered (relocks p l) w tab = let h = referent_of_pointer w p in stamped w.slot tab (start_in h) (order_in h) (entry_of (order_in h) l)
entered keeps w tab = tab

unfoldable pub heap_step : (t m : ℕ) → Call → Heap → Outcome Heap
heap_step t m c h =
    let w = heap_view t m h in
    judged (rules c w) h (value c w h.arena) (heap_of (stored c w h.arena) (entered (change_of c) w h.table))

-- A call on a heap, whose order is that of its arena.
unfoldable pub heap_call : Call → Heap → Outcome Heap
heap_call c h = heap_step slot_order (order_of (length h.arena)) c h

abbrev pub view_of : Heap → View
view_of h = heap_view slot_order (order_of (length h.arena)) h

-- Fresh: both buffers all zero.
unfoldable pub heap_fresh : Heap → Outcome Heap
heap_fresh h =
    judged (8 when (view_of h).wrong-sizes ∷ []) h 0 (heap_of (replicate (length h.arena) 0) (replicate (length h.table) 0))

-- the fresh heap of an arena of 2 ^ m bytes in slots of 2 ^ t, and that of the public calls
abbrev pub fresh_in : (t m : ℕ) → Heap
fresh_in t m = heap_of (replicate (2 ^ m) 0) (replicate (2 ^ (m - t)) 0)

abbrev pub fresh_heap : ℕ → Heap
fresh_heap m = fresh_in slot_order m

-- The number by which check and show are refused.
abbrev pub pointer_number : Heap → ℕ → ℕ
pointer_number h p = first (address_rules (view_of h) p)

abbrev pub bit : Bool → ℕ
bit b = cond b 1 0

-- The check of the plain address p and the step i.
unfoldable pub check_step : (t m p i : ℕ) → Heap → Answer
check_step t m p i h = let w = heap_view t m h in (judged (address_rules w p) h (bit (w.inside p i)) h).answer

-- the public one, of a heap whose order is that of its arena
unfoldable pub heap_check : ℕ → ℕ → Heap → Answer
heap_check p i h = check_step slot_order (order_of (length h.arena)) p i h

-- Showing a sample: the part of the arena from p to its referent's end, empty if refused.
unfoldable pub shown : ℕ → Heap → List ℕ
shown p h = cond (pointer_number h p == 0) (take (left_from (view_of h) p) (drop (p - base) h.arena)) []

-- The same by left's answer for p: empty where its number is not 0, else as many bytes as its value.
unfoldable pub shown_by_left : ℕ → Heap → List ℕ
shown_by_left p h =
    let r = (heap_call (Left p) h).answer in cond (r.number == 0) (take r.value (drop (p - base) h.arena)) []

-- how far into the arena it begins
unfoldable pub shown_from : ℕ → Heap → ℕ
shown_from p h = cond (pointer_number h p == 0) (p - base) 0

-- an answer and the two buffers, as the outcome of a call
abbrev pub outcome : Answer → List ℕ → List ℕ → Outcome Heap
outcome r a tab = record { answer = r; state = heap_of a tab }
