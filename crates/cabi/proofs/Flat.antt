-- Flat records and takes' records, each from the other.
use Rattle.std.proofs.Common.{◌≡◌, ℕ, true, false, List, Result, Ok, Err, refl, ◌∙◌, ap, subst}
use Rattle.common.specs.declared.reasons.Refusal.{Refusal as Reason}
use Rattle.heap.specs.Answers.{answer_of}
use Rattle.heap.specs.OperationNumbers.{is_operation, number_of}
use Rattle.heap.specs.declared.operations.Operation.{Operation}
use Rattle.takes.specs.Operations.{known}
use Rattle.takes.specs.Writing.{WriteOutcome, written_of, write_outcome, write_record}
use Rattle.takes.specs.declared.Record.{Record}
use Rattle.takes.specs.declared.Record.TheVariants.{Get, Give, Step, Read, Write, Left, Copy, Fill, Lock, Unlock, Again, Set, Grid}
use Rattle.takes.proofs.Operations.{known-numbers, known-operation}
use Rattle.cabi.specs.Flat.{flat, record_as, record_from_flat, write_outcome_by, unknown, write_flat}
use Rattle.cabi.specs.declared.FlatRecord.{FlatRecord}

-- a record that C reads is the one that it writes back
pub flat_back : (r : Record) → record_from_flat (flat r) ≡ r
flat_back (Get d n) = refl
flat_back (Give a) = refl
flat_back (Step d a i) = refl
flat_back (Read d a w) = refl
flat_back (Write a w v) = refl
flat_back (Left d a) = refl
flat_back (Copy d a b n) = refl
flat_back (Fill d a v n) = refl
flat_back (Lock a) = refl
flat_back (Unlock a) = refl
flat_back (Again d k) = refl
flat_back (Set d n) = refl
flat_back (Grid d a rows columns row column) = refl

-- a grid's fields by their names
grid-fields : let f = flat (Grid 1 2 3 4 5 6) in
    (f.d ≡ 1) × (f.a ≡ 2) × (f.rows ≡ 3) × (f.columns ≡ 4) × (f.row ≡ 5) × (f.column ≡ 6)
grid-fields = (refl, refl, refl, refl, refl, refl)

module _ (f : FlatRecord) (out : List ℕ) where
  pub unknown-is : is_operation f.operation ≡ false → unknown out ≡ write_flat f out
  unfolding write_flat
  unknown-is n = rw (known-numbers f.operation, n)

  pub known_is : (o : Operation) → number_of o ≡ f.operation → {r : Record} {s : WriteOutcome} → r ≡ record_as (number_of o) f → s ≡ write_record r out
      → s ≡ write_flat f out
  unfolding write_flat
  known_is o n {r} {s} e q =
      let k : known f.operation ≡ true = subst (λ (op : ℕ). known op ≡ true) n (known-operation o) in
      let same : r ≡ record_from_flat f = e ∙ ap (λ (op : ℕ). record_as op f) n in
      q ∙ (ap (λ (x : Record). write_record x out) same ∙ rw k)

-- the writer's answer, as C has it
pub counted : (x : Result ℕ Reason) (out : List ℕ) → write_outcome_by (answer_of x) out ≡ write_outcome (written_of x) out
counted (Ok n) out = refl
counted (Err reason) out = refl
