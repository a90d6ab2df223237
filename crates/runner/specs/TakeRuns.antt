-- Document 01, "A take", and document 02, "Panel takes" and "Repeats in a take": a run of a file, uploaded or from the front panel, on a lent arena, table and
-- answer slice, with a budget of steps.
use Rattle.std.specs.Prelude.{ℕ, zero, suc, ◌*◌, min, Bool, true, false, not, ◌&&◌, List, [], ◌∷◌, eqb, ltb, length, Result, Ok, Err}
use Rattle.common.specs.Refusals.{Refusal, ◌when◌, first}
use Rattle.common.specs.Numbers.{number_of}
use Rattle.common.specs.declared.reasons.Refusal.{Refusal as Reason}
use Rattle.common.specs.Bytes.{over}
use Rattle.takes.specs.Files.{size_byte, file_number, records_of}
use Rattle.heap.specs.Views.{slot_order}
use Rattle.heap.specs.Heaps.{Heap, heap_of, wrong_sizes}
use Rattle.heap.specs.Answers.{answer_length, answers_bytes}
use Rattle.heap.specs.Registers.{registers_at_first}
use Rattle.runner.specs.Machines.{machine_at_first, is_due, carry_out}
use Rattle.runner.specs.declared.RunReport.{RunReport}
use Rattle.runner.specs.declared.Ran.{Ran}

-- the steps that a budget allows
abbrev pub most_steps : ℕ
most_steps = 4096

abbrev pub allowed : ℕ → ℕ
allowed b = min b most_steps

-- how many records the front panel's screen can list
abbrev pub screenful : ℕ
screenful = 64

-- more records than the screen lists
abbrev pub crowded : List ℕ → Bool
crowded file = ltb screenful (length (records_of file))

-- the file's refusals 1 to 7 and 29, 26 where the panel runs it, then 8 and 9, all before any call
abbrev pub run_rules : Bool → List ℕ → ℕ → Heap → List ℕ → List Refusal
run_rules panel file b h out =
    file_number file when not (eqb (file_number file) 0)
    ∷ 26 when (panel && crowded file)
    ∷ 8 when wrong_sizes slot_order (size_byte file) h
    ∷ 9 when ltb (length out) (answer_length * allowed b)
    ∷ []

-- What a run returns and leaves: number, registers, how many records were carried out, whether it stopped with one still due, both buffers and the answer
-- slice.
pub record RunOutcome : Type 0 where
  pub number : ℕ
  pub registers : List ℕ
  pub count : ℕ
  pub stopped : Bool
  pub heap : Heap
  pub answers : List ℕ

-- what the code of a run returns, refused or not: refused, sixteen zero registers and count 0
abbrev pub ran_of : Result RunReport Reason → Ran
ran_of (Ok r) = record { number = 0; registers = r.registers; count = r.count; stopped = r.stopped }
ran_of (Err reason) = record { number = number_of reason; registers = record { values = registers_at_first }; count = 0; stopped = false }

-- what a run returned and the buffers that it left, as its outcome
abbrev pub ran_to : Ran → List ℕ → List ℕ → List ℕ → RunOutcome
ran_to r a tab out =
    record { number = r.number; registers = r.registers.values; count = r.count; stopped = r.stopped; heap = heap_of a tab; answers = out }

-- a run that is not refused, of at most b steps
abbrev pub ran_out : List ℕ → ℕ → List ℕ → RunOutcome
ran_out file b out =
    let c = carry_out (records_of file) b (machine_at_first (size_byte file)) in
    record {
      number = 0;
      registers = c.last.registers;
      count = c.steps;
      stopped = is_due (records_of file) c.last;
      heap = c.last.heap;
      answers = over out 0 (answers_bytes c.answers);
    }

-- refused, it returns sixteen zero registers and count 0, has not stopped, and changes nothing
abbrev pub run_settled : ℕ → List ℕ → ℕ → Heap → List ℕ → RunOutcome
run_settled zero file b h out = ran_out file (allowed b) out
run_settled (suc n) file b h out = record { number = suc n; registers = registers_at_first; count = 0; stopped = false; heap = h; answers = out }

-- a run by either caller, with the budget b
unfoldable pub run_by : Bool → List ℕ → ℕ → Heap → List ℕ → RunOutcome
run_by panel file b h out = run_settled (first (run_rules panel file b h out)) file b h out

-- an upload from a computer
abbrev pub run_of : List ℕ → ℕ → Heap → List ℕ → RunOutcome
run_of file b h out = run_by false file b h out

-- a take from the front panel
abbrev pub panel_of : List ℕ → ℕ → Heap → List ℕ → RunOutcome
panel_of file b h out = run_by true file b h out
