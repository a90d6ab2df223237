-- The simulation over a list of calls: a heap and a ledger that agree give the same answers, and agree at the end. By induction over the calls, from
-- `step_same`.
use Prim.Native.Nat.{ℕ, zero, suc, ◌+◌, ◌-◌, ◌^◌, ◌≤◌}
use mathlib.Core.Path.{◌≡◌, refl, sym, ◌∙◌, ap, ap₂}
use mathlib.Core.List.{List, [], ◌∷◌}
use native.Mathlib.Omega.{arith}
use lib.ListN.{length, replicate, length-replicate}
use Rattle.blocks.specs.Sets.{referent_of, locked_of, entries_from, table_of}
use Rattle.blocks.specs.Orders.{order_of}
use Rattle.blocks.proofs.Orders.{order-power}
use Rattle.heap.specs.Views.{slot_order}
use Rattle.heap.specs.Effects.{Outcome, accepted}
use Rattle.heap.specs.Heaps.{Heap, heap_step, heap_call, heap_fresh, fresh_in, fresh_heap}
use Rattle.heap.specs.declared.Answer.{Answer}
use Rattle.heap.specs.declared.Call.{Call}
use Rattle.heap.proofs.Judging.{sizes-right, fresh-heap}
use Rattle.history.specs.Ledgers.{Ledger, ledger_step, empty_ledger}
use Rattle.history.specs.CallLists.{Run, run}
use Rattle.history.proofs.Agreement.{none, Orders, Agree, Same}
use Rattle.history.proofs.Simulation.{step_same}

-- the table of no block is all zero
no-entries : (t a k : ℕ) → replicate k 0 ≡ entries_from t [] a k
unfolding entries_from referent_of locked_of
no-entries t a zero = refl
no-entries t a (suc k) = ap (λ (x : List ℕ). 0 ∷ x) (no-entries t (a + 2 ^ t) k)

pub fresh-agree : (t m : ℕ) → Agree t m (fresh_in t m) (empty_ledger m)
unfolding table_of
fresh-agree t m = record { bytes = refl; size = length-replicate (2 ^ m) 0; table = no-entries t _ (2 ^ (m - t)); proper = none }

-- the orders of a public call
pub slot-orders : (m : ℕ) → 5 ≤ m → m ≤ 16 → Orders slot_order m
slot-orders m five top = record { slot-low = omega arith; slot-high = omega arith; low = five; high = top }

-- fresh, where the lengths fit
pub fresh-is : (m : ℕ) (h : Heap) → 5 ≤ m → m ≤ 16 → length h.arena ≡ 2 ^ m → length h.table ≡ 2 ^ (m - slot_order)
    → heap_fresh h ≡ record { answer = accepted 0; state = fresh_heap m }
fresh-is m h five top a s =
    let o : order_of (length h.arena) ≡ m = ap order_of a ∙ order-power m five top in
    fresh-heap m h.arena h.table
    (sizes-right slot_order h.arena h.table (record { same = sym o; low = five; high = top; size = a; slots = s }))

pub fresh-made : (m : ℕ) (h : Heap) → 5 ≤ m → m ≤ 16 → length h.arena ≡ 2 ^ m → length h.table ≡ 2 ^ (m - slot_order)
    → (heap_fresh h).state ≡ fresh_heap m
fresh-made m h five top a s = ap (λ (o : Outcome Heap). o.state) (fresh-is m h five top a s)

-- a call takes the order from the arena's length, which stays 2 ^ m
pub order_same : {t m : ℕ} → Orders t m → (h : Heap) (l : Ledger) → Agree t m h l → order_of (length h.arena) ≡ m
order_same {m = m} os h l g = ap order_of g.size ∙ order-power m os.low os.high

-- a call that is the heap's step, where heap and ledger agree
abbrev pub Steps : (t m : ℕ) → (Call → Heap → Outcome Heap) → Type 0
Steps t m call = (h : Heap) (l : Ledger) → Agree t m h l → (c : Call) → call c h ≡ heap_step t m c h

pub call-steps : {m : ℕ} → Orders slot_order m → Steps slot_order m heap_call
unfolding heap_call
call-steps os h l g c = rw (order_same os h l g)

pub record Alike (t m : ℕ) (a : Run Heap) (b : Run Ledger) : Type 0 where
  pub answers : a.answers ≡ b.answers
  pub agree : Agree t m a.last b.last

module _ {t m : ℕ} (os : Orders t m) (call : Call → Heap → Outcome Heap) (is : Steps t m call) where
  pub run-same : (cs : List Call) (h : Heap) (l : Ledger) → Agree t m h l → Alike t m (run call cs h) (run (ledger_step t m) cs l)
  unfolding run
  run-same [] h l g = record { answers = refl; agree = g }
  run-same (c ∷ cs) h l g =
      let s : Same t m (call c h) (ledger_step t m c l) = rw (is h l g c) (step_same os h l g c) in
      let r = run-same cs (call c h).state (ledger_step t m c l).state s.agree in
      record { answers = ap₂ (λ (a : Answer) (x : List Answer). a ∷ x) s.answer r.answers; agree = r.agree }
