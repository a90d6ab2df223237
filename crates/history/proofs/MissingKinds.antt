-- What 27 and 22 tell of a call's pointers by the ledger, after any list of calls: heap and ledger are seen alike (`view-same`), so what a number tells by the
-- heap's table it tells by the ledger (`by-ledger`), and by the table they tell it (`rules-tell`).
use Prim.Native.Nat.{ℕ, ◌≤◌}
use mathlib.Core.Path.{sym, subst}
use mathlib.Core.List.{List}
use native.Mathlib.Omega.{arith}
use Rattle.common.specs.Refusals.{first}
use Rattle.heap.specs.Views.{View, slot_order}
use Rattle.heap.specs.Rules.{rules}
use Rattle.heap.specs.Heaps.{Heap, heap_view, heap_call, fresh_heap}
use Rattle.heap.specs.MissingKinds.{pointers_of, Tells}
use Rattle.heap.specs.declared.Call.{Call}
use Rattle.heap.proofs.Settling.{settled-number}
use Rattle.heap.proofs.MissingKinds.{rules-tell}
use Rattle.history.specs.Ledgers.{ledger_view, ledger_step, empty_ledger}
use Rattle.history.specs.CallLists.{heap_run, ledger_run}
use Rattle.history.proofs.Simulation.{view-same}
use Rattle.history.proofs.CallLists.{fresh-agree, slot-orders, call-steps, run-same}

-- what a call's number tells by the table of any heap, it tells by the ledger after the list cs
pub by-ledger : (m : ℕ) → 5 ≤ m → m ≤ 16 → (cs : List Call) (c : Call) (Told : View → ℕ → Type 0)
    → ((h : Heap) → let w = heap_view slot_order m h in Told w (first (rules c w)))
    → let l = (ledger_run m cs).last in Told (ledger_view slot_order m l) (ledger_step slot_order m c l).answer.number
unfolding ledger_step
by-ledger m five top cs c Told tells =
    let os = slot-orders m five top in
    let h = (heap_run m cs).last in
    let l = (ledger_run m cs).last in
    let g = (run-same os heap_call (call-steps os) cs (fresh_heap m) (empty_ledger m) (fresh-agree slot_order m)).agree in
    let by-view = subst (λ (w : View). Told w (first (rules c w))) (view-same os h l g) (tells h) in
    subst (Told (ledger_view slot_order m l)) (sym (settled-number (first (rules c (ledger_view slot_order m l))) _ _ _)) by-view

pub ledger-tells : (m : ℕ) → 5 ≤ m → m ≤ 16 → (cs : List Call) (c : Call)
    → let l = (ledger_run m cs).last in Tells (ledger_view slot_order m l) (pointers_of c) (ledger_step slot_order m c l).answer.number
ledger-tells m five top cs c = by-ledger m five top cs c (λ w n. Tells w (pointers_of c) n) (rules-tell slot_order m (omega arith) c)
