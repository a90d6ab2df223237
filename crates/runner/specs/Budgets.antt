-- Document 02, "Repeats in a take": how many records a run carried out, as steps of the definition; when it stopped; and what a larger budget keeps.
use Rattle.std.specs.Prelude.{ℕ, suc, ◌*◌, ◌≤◌, ◌≡◌, Bool, true, false, List, [], ◌∷◌, length, take}
use Rattle.std.proofs.Math.Option.{none, some}
use Rattle.common.specs.Bytes.{over}
use Rattle.takes.specs.Files.{size_byte, records_of}
use Rattle.takes.specs.declared.Record.{Record}
use Rattle.heap.specs.Heaps.{Heap}
use Rattle.heap.specs.Answers.{answer_length, answers_bytes}
use Rattle.heap.specs.declared.Answer.{Answer}
use Rattle.runner.specs.Machines.{Machine, machine_at_first, step_of, record_at}
use Rattle.runner.specs.TakeRuns.{allowed, RunOutcome, run_by}

-- n steps lead from one machine to another and answer so: each carries out the record that is due
pub data Steps (rs : List Record) : ℕ → Machine → List Answer → Machine → Type 0 where
  no-step : {s : Machine} → Steps rs 0 s [] s
  a-step : {n : ℕ} {s u : Machine} {xs : List Answer} {r : Record} → record_at rs s.due ≡ some r → Steps rs n (step_of r s).state xs u
      → Steps rs (suc n) s ((step_of r s).answer ∷ xs) u

-- a record is still due after n steps of the file's run
pub record StillDue (file : List ℕ) (n : ℕ) : Type 0 where
  pub answers : List Answer
  pub last : Machine
  pub steps : Steps (records_of file) n (machine_at_first (size_byte file)) answers last
  pub record-due : Record
  pub due : record_at (records_of file) last.due ≡ some record-due

-- What a run with the budget b came to, out being the answer slice that it was lent.
pub record Counted (file : List ℕ) (b : ℕ) (out : List ℕ) (o : RunOutcome) : Type 0 where
  pub answers : List Answer
  pub last : Machine
  -- the count is the number of steps, from the fresh heap to what the run left
  pub steps : Steps (records_of file) o.count (machine_at_first (size_byte file)) answers last
  pub heap : o.heap ≡ last.heap
  pub registers : o.registers ≡ last.registers
  -- it has an answer for each
  pub answered : length answers ≡ o.count
  pub bytes : o.answers ≡ over out 0 (answers_bytes answers)
  -- no more than the budget allows
  pub within : o.count ≤ allowed b
  -- it stopped exactly when a record is still due after so many steps; then the budget is spent
  pub stops : o.stopped ≡ true → StillDue file (allowed b)
  pub due-stops : StillDue file (allowed b) → o.stopped ≡ true
  pub spent : o.stopped ≡ true → o.count ≡ allowed b
  -- and else it ended where no record is due
  pub ends : o.stopped ≡ false → record_at (records_of file) last.due ≡ none

-- every run that is accepted, by either caller
abbrev pub AcceptedCounted : Type 0
AcceptedCounted = (panel : Bool) (file : List ℕ) (b : ℕ) (h : Heap) (out : List ℕ) → (run_by panel file b h out).number ≡ 0
    → Counted file b out (run_by panel file b h out)

-- Two runs alike but for the budget, the second one's being the larger: no earlier answer is altered, and where the first did not stop they are one.
pub record BudgetKeeps (o more : RunOutcome) : Type 0 where
  pub count : o.count ≤ more.count
  pub answers : take (answer_length * o.count) more.answers ≡ take (answer_length * o.count) o.answers
  pub ended : o.stopped ≡ false → more ≡ o

abbrev pub LargerKeeps : Type 0
LargerKeeps = (panel : Bool) (file : List ℕ) (b more : ℕ) (h : Heap) (out : List ℕ) → b ≤ more → (run_by panel file b h out).number ≡ 0
    → (run_by panel file more h out).number ≡ 0 → BudgetKeeps (run_by panel file b h out) (run_by panel file more h out)
