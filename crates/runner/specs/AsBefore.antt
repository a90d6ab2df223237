-- Document 02, "Repeats in a take": a take with neither again nor set runs as it did before that request. How it ran is kept here, and how its file was judged
-- in takes/specs/JudgedBefore.
use Rattle.std.specs.Prelude.{ℕ, zero, suc, ◌*◌, ◌≤◌, ◌≡◌, Bool, false, not, ◌&&◌, List, [], ◌∷◌, eqb, ltb, length}
use Rattle.common.specs.Refusals.{Refusal, ◌when◌, first}
use Rattle.common.specs.Bytes.{over}
use Rattle.takes.specs.Files.{size_byte, records_of}
use Rattle.takes.specs.JudgedBefore.{records_before, number_before, has_added}
use Rattle.takes.specs.declared.Record.{Record}
use Rattle.heap.specs.Views.{slot_order}
use Rattle.heap.specs.Heaps.{Heap, wrong_sizes, fresh_heap}
use Rattle.heap.specs.Answers.{answer_length, answers_bytes}
use Rattle.heap.specs.declared.Answer.{Answer}
use Rattle.heap.specs.Registers.{registers_at_first}
use Rattle.runner.specs.Decoding.{action_of, registers_after}
use Rattle.runner.specs.Machines.{acted}
use Rattle.runner.specs.TakeRuns.{most_steps, allowed, screenful, RunOutcome, run_by}

-- what the records left: their answers, the heap and the registers
pub record Before : Type 0 where
  pub answers : List Answer
  pub heap : Heap
  pub registers : List ℕ

-- the records in their order, each on what the one before left
unfoldable pub straight_out : List Record → Heap → List ℕ → Before
straight_out [] h rs = record { answers = []; heap = h; registers = rs }
straight_out (r ∷ rest) h rs =
    let o = acted (action_of rs r) h in
    let next = straight_out rest o.state (registers_after r o.answer rs) in
    record { answers = o.answer ∷ next.answers; heap = next.heap; registers = next.registers }

-- the answer slice had to have room for the file's records
abbrev pub rules_before : Bool → List ℕ → Heap → List ℕ → List Refusal
rules_before panel file h out =
    number_before file when not (eqb (number_before file) 0)
    ∷ 26 when (panel && ltb screenful (length (records_before file)))
    ∷ 8 when wrong_sizes slot_order (size_byte file) h
    ∷ 9 when ltb (length out) (answer_length * length (records_before file))
    ∷ []

-- the count was that of the file's records, and no run stopped
abbrev pub settled_before : ℕ → List ℕ → Heap → List ℕ → RunOutcome
settled_before zero file h out =
    let c = straight_out (records_before file) (fresh_heap (size_byte file)) registers_at_first in
    record {
      number = 0;
      registers = c.registers;
      count = length (records_before file);
      stopped = false;
      heap = c.heap;
      answers = over out 0 (answers_bytes c.answers);
    }
settled_before (suc n) file h out = record { number = suc n; registers = registers_at_first; count = 0; stopped = false; heap = h; answers = out }

unfoldable pub run_before : Bool → List ℕ → Heap → List ℕ → RunOutcome
run_before panel file h out = settled_before (first (rules_before panel file h out)) file h out

-- A take with neither operation, by either caller, refused or not: the outcomes are compared whole.
pub record RunsAsBefore (panel : Bool) (file : List ℕ) (h : Heap) (out : List ℕ) : Type 0 where
  -- with a budget that is enough for its records, and room for it
  pub enough : (b : ℕ) → length (records_of file) ≤ allowed b → answer_length * allowed b ≤ length out → run_by panel file b h out ≡ run_before panel file h out
  -- the largest is enough for any
  pub largest : (b : ℕ) → most_steps ≤ b → answer_length * most_steps ≤ length out → run_by panel file b h out ≡ run_before panel file h out

abbrev pub NeitherAsBefore : Type 0
NeitherAsBefore = (panel : Bool) (file : List ℕ) (h : Heap) (out : List ℕ) → has_added file ≡ false → RunsAsBefore panel file h out
