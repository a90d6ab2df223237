-- A list of calls, each on the state that the one before left.
use Rattle.std.specs.Prelude.{ℕ, List, [], ◌∷◌}
use Rattle.heap.specs.Views.{slot_order}
use Rattle.heap.specs.Effects.{Outcome}
use Rattle.heap.specs.Heaps.{Heap, heap_call, fresh_heap}
use Rattle.heap.specs.declared.Answer.{Answer}
use Rattle.heap.specs.declared.Call.{Call}
use Rattle.history.specs.Ledgers.{Ledger, ledger_step, empty_ledger}

-- the answers in the calls' order, and the state after the last
pub record Run (S : Type 0) : Type 0 where
  pub answers : List Answer
  pub last : S

unfoldable pub run : {S : Type 0} → (Call → S → Outcome S) → List Call → S → Run S
run step [] s = record { answers = []; last = s }
run step (c ∷ cs) s =
    let o = step c s in
    let r = run step cs o.state in
    record { answers = o.answer ∷ r.answers; last = r.last }

abbrev pub heap_run : ℕ → List Call → Run Heap
heap_run m cs = run heap_call cs (fresh_heap m)

abbrev pub ledger_run : ℕ → List Call → Run Ledger
ledger_run m cs = run (ledger_step slot_order m) cs (empty_ledger m)
