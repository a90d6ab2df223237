-- A law of `Readings` for each return. Past each test its outcome is kept for the later ones: that the record's bytes are there, its operation, that the length
-- is its row's.
use Prim.Native.Nat.{ℕ, ◌+◌}
use mathlib.Core.Bool.{Bool}
use mathlib.Core.List.{List}
use mathlib.Core.Path.{◌≡◌, ◌∙◌, sym}
use native.Mathlib.Omega.{arith}
use lib.ListN.{get_or, drop}
use Rattle.std.proofs.Common.{rules}
use Rattle.common.specs.Numbers.{number_in}
use Rattle.heap.specs.OperationNumbers.{number_of}
use Rattle.heap.specs.declared.operations.Operation.{Operation}
use Rattle.takes.specs.Operations.{kinds_of, length_of}
use Rattle.takes.specs.Reading.{values, high_register}
use Rattle.takes.specs.Inner.{registers_in, any_high}
use Rattle.takes.proofs.Operations.{known-operation}
use Rattle.takes.proofs.Rows.{few-registers, registers-inside, registers-tell}
use Rattle.takes.proofs.Readings.{the_number, past_end, zero-length, too_few}
use Rattle.takes.proofs.Readings.{Counted, unlisted, wrong-length, fields_fit, high-at, good-at}
use Rattle.takes.proofs.reader.judge_record.Goals as goal
use Rattle.takes.proofs.reader.judge_record.Goals.{Else-file-place, Else-count-row}

pub returns-then-file-at-clause-number : goal.returns-then-file-at-clause-number
returns-then-file-at-clause-number c = let a = c.args in the_number (past_end a.file.now a.at c.if-file-at.true)

pub returns-then-count-eq0-clause-number : goal.returns-then-count-eq0-clause-number
returns-then-count-eq0-clause-number c = let a = c.args in the_number (zero-length a.file.now a.at c.if-count-eq0.true)

pub returns-then-file-place-clause-number : goal.returns-then-file-place-clause-number
returns-then-file-place-clause-number c =
    let a = c.args in the_number (too_few a.file.now a.at c.if-count-eq0.false (omega (arith, c.from.ensures, c.if-file-place.true)))

-- past 4
counted : (c : Else-file-place) → Counted c.args.file.now c.args.at
counted c = record { nonzero = c.if-count-eq0.false; enough = omega (arith, c.from.ensures, c.if-file-place.false) }

pub returns-in_err-try_from-clause-number : goal.returns-in_err-try_from-clause-number
returns-in_err-try_from-clause-number c =
    let k = counted (goal.at.returns-in_err-try_from-clause-number c).Else-file-place in
    let e : number_in c.from_residual.result ≡ 5 = search rules in
    e ∙ the_number (unlisted k c.in_err-try_from.ensures.1)

pub returns-then-count-row-clause-number : goal.returns-then-count-row-clause-number
returns-then-count-row-clause-number c =
    let k = counted (goal.at.returns-then-count-row-clause-number c).Else-file-place in
    let o = c.in_ok-try_from in
    the_number (wrong-length k o.field-0 o.ensures (λ e. c.if-count-row.true (e ∙ sym c.row_of-row.ensures.length)))

-- past 6
right : (c : Else-count-row) → get_or c.args.file.now c.args.at 0 ≡ length_of (number_of c.in_ok-try_from.field-0)
right c = c.if-count-row.false ∙ c.row_of-row.ensures.length

pub high_in_file-requires-clause-few : goal.high_in_file-requires-clause-few
high_in_file-requires-clause-few c =
    let o = c.in_ok-try_from.field-0 in rw c.row_of-row.ensures.registers (few-registers (number_of o) (known-operation o))

pub high_in_file-requires-clause-inside : goal.high_in_file-requires-clause-inside
high_in_file-requires-clause-inside c =
    let at = goal.at.high_in_file-requires-clause-inside c in
    let o = c.in_ok-try_from in
    let f = fields_fit (counted at.Else-file-place) o.field-0 o.ensures (right at.Else-count-row) in
    rw c.row_of-row.ensures.registers (omega (arith, f, registers-inside (kinds_of (number_of o.field-0))))

-- what the first bytes tell
told : (o : Operation) (s : List ℕ) (at : ℕ) {n : ℕ} {b : Bool} → n ≡ registers_in (kinds_of (number_of o)) → b ≡ any_high n s at
    → b ≡ high_register (kinds_of (number_of o)) (values (kinds_of (number_of o)) (drop at s))
told o s at e h = (rw e at h) ∙ registers-tell (number_of o) (known-operation o) s at

pub returns-then-high_in_file-clause-number : goal.returns-then-high_in_file-clause-number
returns-then-high_in_file-clause-number c =
    let at = goal.at.returns-then-high_in_file-clause-number c in
    let o = c.in_ok-try_from in
    the_number
    (high-at (counted at.Else-file-place) o.field-0 o.ensures (right at.Else-count-row)
    (told o.field-0 c.args.file.now (c.args.at + 2) c.row_of-row.ensures.registers (sym c.if-high_in_file.true ∙ c.high_in_file.ensures)))

-- and no register is high
pub invariant_of-result : goal.invariant_of-result
invariant_of-result c =
    let at = goal.at.invariant_of-result c in
    let o = c.in_ok-try_from in
    record {
      good =
          sym
          (good-at (counted at.Else-file-place) o.field-0 o.ensures (right at.Else-count-row)
          (told o.field-0 c.args.file.now (c.args.at + 2) c.row_of-row.ensures.registers (sym c.if-high_in_file.false ∙ c.high_in_file.ensures)));
    }
