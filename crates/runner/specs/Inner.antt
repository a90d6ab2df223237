-- What the parts of a run's code say to each other: where a record stands, what a run gives from a machine on, and a record with its registers' values.
-- Document 01 has none of it: `run` and `run_panel` promise `run_of` and `panel_of`.
use Rattle.std.specs.Prelude.{ℕ, ◌+◌, ◌-◌, ◌*◌, ◌/◌, ◌≤◌, ◌<◌, ◌≡◌, false, cond, List, eqb, length, ⊤, Option as Maybe, Some, None}
use Rattle.std.proofs.Math.Option.{Option, none, some}
use Rattle.common.specs.Bytes.{over}
use Rattle.takes.specs.Files.{head_length, longest, size_byte, file_number}
use Rattle.takes.specs.declared.Record.{Record}
use Rattle.heap.specs.Views.{slot_order}
use Rattle.heap.specs.Effects.{Outcome, accepted}
use Rattle.heap.specs.Heaps.{Heap, heap_of, wrong_sizes, heap_step}
use Rattle.heap.specs.Answers.{answer_length, answers_bytes}
use Rattle.heap.specs.declared.Answer.{Answer}
use Rattle.heap.specs.Registers.{register_count}
use Rattle.runner.specs.Decoding.{decoded, action_of}
use Rattle.runner.specs.Machines.{Machine, is_due, carry_out}
use Rattle.runner.specs.TakeRuns.{most_steps, RunOutcome}
use Rattle.runner.specs.declared.actions.Issued.{Issued}
use Rattle.runner.specs.declared.actions.Action.{Action}
use Rattle.runner.specs.declared.actions.Action.TheVariants.{Makes, Gives, GoesBack}

-- no file has more records: each takes two bytes or more, its length byte and its operation
abbrev pub most_records : ℕ
most_records = (longest - head_length) / 2

-- room for the place of each of them, and for the end
abbrev pub place_count : ℕ
place_count = 4096

abbrev pub machine_of : ℕ → List ℕ → List ℕ → List ℕ → Machine
machine_of i a tab rs = record { due = i; heap = heap_of a tab; registers = rs }

-- what a run gives that has carried out `done` records and makes at most b more steps from the machine s on, out being the answer slice so far
abbrev pub run_from : List Record → ℕ → ℕ → Machine → List ℕ → RunOutcome
run_from rs b done s out =
    let c = carry_out rs b s in
    record {
      number = 0;
      registers = c.last.registers;
      count = done + c.steps;
      stopped = is_due rs c.last;
      heap = c.last.heap;
      answers = over out (answer_length * done) (answers_bytes c.answers);
    }

-- nothing refuses the run of at most b steps
pub record Runnable (m b : ℕ) (file a tab out : List ℕ) : Type 0 where
  pub judged : file_number file ≡ 0
  pub same : size_byte file ≡ m
  pub fits : wrong_sizes slot_order m (heap_of a tab) ≡ false
  pub few : b ≤ most_steps
  pub room : answer_length * b ≤ length out

-- what a record does to a sound heap of order m
abbrev pub acted_in : ℕ → Action → Heap → Outcome Heap
acted_in m (Makes c) h = heap_step slot_order m c h
acted_in m (Gives v) h = record { answer = accepted v; state = h }
acted_in m (GoesBack v k) h = record { answer = accepted v; state = h }

-- a register, as the code says it
abbrev pub as_option : Option ℕ → Maybe ℕ
as_option none = None
as_option (some d) = Some d

-- a register, if there is one, is among the sixteen
abbrev pub is_low : Option ℕ → Type 0
is_low none = ⊤
is_low (some d) = d < register_count

-- the registers that a record takes from, and the one that its value goes to, are among the sixteen
abbrev pub LowRegisters : Record → Type 0
LowRegisters r = ((decoded r).a < register_count) × ((decoded r).b < register_count) × is_low (decoded r).d

-- a record with the values that its registers have, and the register that its value goes to
unfoldable pub issued_with : List ℕ → Record → Issued
issued_with rs r = record { action = action_of rs r; d = as_option (decoded r).d }

-- the register that its value goes to: none where it was refused
abbrev pub stored_in : Maybe ℕ → Answer → Maybe ℕ
stored_in d x = cond (eqb x.number 0) d None
