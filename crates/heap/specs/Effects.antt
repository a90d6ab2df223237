-- Document 01, "The eight calls", with requests 2, 3, 7 and 10 of document 02: the value of a call that is not refused, and the bytes that it leaves.
-- Both are said over a view, for the heap and the ledger alike.
use Rattle.std.specs.Prelude.{ℕ, zero, suc, ◌+◌, ◌-◌, ◌*◌, ◌^◌, min, Bool, cond, List, replicate, ℤ, pos, negsuc}
use Rattle.common.specs.Refusals.{Refusal, first}
use Rattle.common.specs.Bytes.{big_endian, bytes_of, over, copied}
use Rattle.blocks.specs.Blocks.{base}
use Rattle.blocks.specs.Pointers.{mark_bit, address, exact_sum}
use Rattle.heap.specs.Views.{View, left_from, needed_for, start_for}
use Rattle.heap.specs.declared.Answer.{Answer}
use Rattle.heap.specs.declared.Call.{Call}
use Rattle.heap.specs.declared.Call.TheVariants.{Get, Give, Step, Read, Write, Left, Copy, Fill, SetLock, Grid}

-- how many bytes a copy and a fill store
abbrev pub copy_count : View → ℕ → ℕ → ℕ → ℕ
copy_count w p q n = min n (min (left_from w p) (left_from w q))

abbrev pub fill_count : View → ℕ → ℕ → ℕ
fill_count w p n = min n (left_from w p)

-- b with the 2 ^ e bytes of the block at `at` cleared
abbrev pub cleared : List ℕ → ℕ → ℕ → List ℕ
cleared b at e = over b at (replicate (2 ^ e) 0)

-- an exact sum as a pointer: plain where it stays in the referent, else marked. One below 0 is no address: such a step is refused
abbrev pub pointer_at : Bool → ℤ → ℕ
pointer_at inside (pos r) = cond inside r (mark_bit + r)
pointer_at inside (negsuc n) = 0

-- the address of a place in a grid that starts at p, row by row
abbrev pub grid_address : (p columns row column : ℕ) → ℕ
grid_address p columns row column = p + row * columns + column

unfoldable pub value : Call → View → List ℕ → ℕ
value (Get n) w b = start_for n w
value (Give p) w b = 0
value (Step p i) w b = pointer_at (w.inside p i) (exact_sum (address p) i)
value (Read p k) w b = big_endian b (p - base) k
value (Write p k v) w b = 0
value (Left p) w b = left_from w p
value (Copy p q n) w b = copy_count w p q n
value (Fill p v n) w b = fill_count w p n
value (SetLock p l) w b = 0
value (Grid p rows columns row column) w b = grid_address p columns row column

unfoldable pub stored : Call → View → List ℕ → List ℕ
stored (Get n) w b = cleared b (start_for n w - base) (needed_for n w)
stored (Give p) w b = b
stored (Step p i) w b = b
stored (Read p k) w b = b
stored (Write p k v) w b = over b (p - base) (bytes_of k v)
stored (Left p) w b = b
stored (Copy p q n) w b = copied b (p - base) b (q - base) (copy_count w p q n)
stored (Fill p v n) w b = over b (p - base) (replicate (fill_count w p n) v)
stored (SetLock p l) w b = b
stored (Grid p rows columns row column) w b = b

-- the answer of a call that is not refused, and of one that is
abbrev pub accepted : ℕ → Answer
accepted v = record { number = 0; value = v }

abbrev pub refused : ℕ → Answer
refused n = record { number = n; value = 0 }

-- What a call leaves: its answer and the state.
pub record Outcome (S : Type 0) : Type 0 where
  pub answer : Answer
  pub state : S

abbrev pub settled : {S : Type 0} → ℕ → S → ℕ → S → Outcome S
settled zero old v new = record { answer = accepted v; state = new }
settled (suc n) old v new = record { answer = refused (suc n); state = old }

-- Judged by the rules: refused, the value is 0 and the old state stays; else the value and the new state.
abbrev pub judged : {S : Type 0} → List Refusal → S → ℕ → S → Outcome S
judged rs old v new = settled (first rs) old v new
