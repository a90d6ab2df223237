-- Document 01, "A take", and document 02, "Repeats in a take": a run as a machine that makes steps. A step carries out the record that is due.
use Rattle.std.specs.Prelude.{ℕ, zero, suc, Bool, List, [], ◌∷◌, ltb, length}
use Rattle.std.proofs.Math.Option.{Option, none, some}
use Rattle.takes.specs.declared.Record.{Record}
use Rattle.heap.specs.Effects.{Outcome, accepted}
use Rattle.heap.specs.Heaps.{Heap, heap_call, fresh_heap}
use Rattle.heap.specs.declared.Answer.{Answer}
use Rattle.heap.specs.Registers.{registers_at_first}
use Rattle.runner.specs.Decoding.{action_of, registers_after, due_after}
use Rattle.runner.specs.declared.actions.Action.{Action}
use Rattle.runner.specs.declared.actions.Action.TheVariants.{Makes, Gives, GoesBack}

-- A run between two records: the index of the record that is due, the heap and the registers.
pub record Machine : Type 0 where
  pub due : ℕ
  pub heap : Heap
  pub registers : List ℕ

-- at first: the first record, the heap fresh, the registers 0
abbrev pub machine_at_first : ℕ → Machine
machine_at_first m = record { due = 0; heap = fresh_heap m; registers = registers_at_first }

-- what a record does to the heap: nothing, where it makes no call
abbrev pub acted : Action → Heap → Outcome Heap
acted (Makes c) h = heap_call c h
acted (Gives v) h = record { answer = accepted v; state = h }
acted (GoesBack v k) h = record { answer = accepted v; state = h }

-- One step: the record r, which is due, is carried out. A refused record ends nothing.
abbrev pub step_of : Record → Machine → Outcome Machine
step_of r s =
    let c = action_of s.registers r in
    let o = acted c s.heap in
    record { answer = o.answer; state = record { due = due_after c s.due; heap = o.state; registers = registers_after r o.answer s.registers } }

-- the record of an index, if the file has one
abbrev pub record_at : List Record → ℕ → Option Record
record_at [] i = none
record_at (r ∷ rs) zero = some r
record_at (r ∷ rs) (suc i) = record_at rs i

-- a record is due
abbrev pub is_due : List Record → Machine → Bool
is_due rs s = ltb s.due (length rs)

-- what steps leave: how many there were, their answers, and the machine after the last
pub record Carried : Type 0 where
  pub steps : ℕ
  pub answers : List Answer
  pub last : Machine

abbrev pub no_step : Machine → Carried
no_step s = record { steps = 0; answers = []; last = s }

abbrev pub step_then : Outcome Machine → (Machine → Carried) → Carried
step_then o go = let c = go o.state in record { steps = suc c.steps; answers = o.answer ∷ c.answers; last = c.last }

abbrev pub onwards : (Machine → Carried) → Option Record → Machine → Carried
onwards go none s = no_step s
onwards go (some r) s = step_then (step_of r s) go

-- as long as a record is due, but at most b steps
unfoldable pub carry_out : List Record → ℕ → Machine → Carried
carry_out rs zero s = no_step s
carry_out rs (suc b) s = onwards (carry_out rs b) (record_at rs s.due) s
