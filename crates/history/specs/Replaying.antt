-- A list of calls as bytes, and what `replay` makes of it and of the buffers that it is lent. The ledger alone says what comes out.
use Rattle.std.specs.Prelude.{ℕ, zero, suc, ◌+◌, ◌*◌, ◌/◌, ◌%◌, Bool, true, false, not, cond, ◌||◌, List, [], ◌∷◌, ltb, eqb, length, get_or}
use Rattle.common.specs.Refusals.{Refusal, ◌when◌, first}
use Rattle.common.specs.Bytes.{big_endian, over}
use Rattle.blocks.specs.Orders.{order_of}
use Rattle.blocks.specs.Sets.{table_of}
use Rattle.heap.specs.Views.{slot_order}
use Rattle.heap.specs.Heaps.{Heap, heap_of, view_of}
use Rattle.heap.specs.Answers.{answer_length, answers_bytes}
use Rattle.heap.specs.OperationNumbers.{names_call}
use Rattle.heap.specs.declared.Call.{Call}
use Rattle.heap.specs.declared.Call.TheVariants.{Get, Give, Step, Read, Write, Left, Copy, Fill, SetLock, Grid}
use Rattle.history.specs.CallLists.{ledger_run}

-- a call takes 14 bytes: its operation as in a take, a byte x, and three big-endian numbers
abbrev pub call_length : ℕ
call_length = 14

-- a grid whose rows, columns, row and column are y 0 to y 3
abbrev pub grid_from : ℕ → (ℕ → ℕ) → Call
grid_from p y = Grid p (y 0) (y 1) (y 2) (y 3)

-- the call of an operation that names one, y k being byte k of b
abbrev pub call_named : (op x a b c : ℕ) (y : ℕ → ℕ) → Call
call_named op x a b c y =
    cond (eqb op 1) (Get a)
    (cond (eqb op 2) (Give a)
    (cond (eqb op 3) (Step a b)
    (cond (eqb op 4) (Read a x)
    (cond (eqb op 5) (Write a x b)
    (cond (eqb op 6) (Left a)
    (cond (eqb op 7) (Copy a b c)
    (cond (eqb op 8) (Fill a x c)
    (cond (eqb op 9) (SetLock a true)
    (cond (eqb op 10) (SetLock a false) (grid_from a y))))))))))

-- byte k of the second number
abbrev pub second_byte : List ℕ → ℕ → ℕ → ℕ
second_byte s at k = get_or s (at + (6 + k)) 0

unfoldable pub call_at : List ℕ → ℕ → Call
call_at s at =
    call_named (get_or s at 0) (get_or s (at + 1) 0) (big_endian s (at + 2) 4) (big_endian s (at + 6) 4) (big_endian s (at + 10) 4) (second_byte s at)

-- k calls from `at` on
unfoldable pub calls_from : List ℕ → ℕ → ℕ → List Call
calls_from s at zero = []
calls_from s at (suc k) = call_at s at ∷ calls_from s (at + call_length) k

-- one of the k calls from `at` on has an operation that names no call
unfoldable pub unknown_from : List ℕ → ℕ → ℕ → Bool
unknown_from s at zero = false
unknown_from s at (suc k) = not (names_call (get_or s at 0)) || unknown_from s (at + call_length) k

abbrev pub call_count : List ℕ → ℕ
call_count s = length s / call_length

abbrev pub calls_of : List ℕ → List Call
calls_of s = calls_from s 0 (call_count s)

-- bytes that are no whole number of calls, an unknown operation, the buffers' lengths, the answer slice's
abbrev pub replay_rules : List ℕ → Heap → List ℕ → List Refusal
replay_rules calls h out =
    4 when not (eqb (length calls % call_length) 0)
    ∷ 5 when unknown_from calls 0 (call_count calls)
    ∷ 8 when (view_of h).wrong-sizes
    ∷ 9 when ltb (length out) (answer_length * call_count calls)
    ∷ []

-- the number, both buffers and the answer slice
pub record Replayed : Type 0 where
  pub number : ℕ
  pub heap : Heap
  pub answers : List ℕ

abbrev pub replayed : ℕ → List ℕ → List ℕ → List ℕ → Replayed
replayed n a t out = record { number = n; heap = heap_of a t; answers = out }

abbrev pub replay_settled : ℕ → List ℕ → Heap → List ℕ → Replayed
replay_settled zero calls h out =
    let m = order_of (length h.arena) in
    let l = ledger_run m (calls_of calls) in
    record {
      number = 0;
      heap = heap_of l.last.bytes (table_of slot_order m l.last.pairs);
      answers = over out 0 (answers_bytes l.answers);
    }
replay_settled (suc n) calls h out = record { number = suc n; heap = h; answers = out }

unfoldable pub replay_of : List ℕ → Heap → List ℕ → Replayed
replay_of calls h out = replay_settled (first (replay_rules calls h out)) calls h out
