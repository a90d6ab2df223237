-- The record is taken apart, and its row says its length and its kinds. A law of `Records` for each return over those parts: a high register, no room, and
-- the bytes stored.
use Prim.Native.Nat.{ℕ, ◌≤◌}
use mathlib.Core.Path.{◌≡◌, sym, ◌∙◌}
use mathlib.Core.Bool.{false}
use native.Mathlib.Omega.{arith}
use lib.ListN.{length, length-set, take}
use Rattle.heap.specs.OperationNumbers.{number_of}
use Rattle.takes.specs.Operations.{kinds_of}
use Rattle.takes.specs.Reading.{high_register}
use Rattle.takes.specs.Inner.{most_fields}
use Rattle.takes.proofs.Operations.{in_table, known-operation}
use Rattle.takes.proofs.Records.{write-high, write-short, write_done}
use Rattle.takes.proofs.writer.write_record.Goals as goal
use Rattle.takes.proofs.writer.write_record.Goals.{After-from, Else-high_in_values}

-- the record taken apart, and the kinds of its row
module _ (c : After-from) where
  abbrev op : ℕ
  op = number_of c.parts_of-operation.result.0

  kinds : take c.from.result c.kinds-all.result ≡ kinds_of op
  kinds = rw (c.from.ensures, c.kinds-all.ensures) c.row_of-row.ensures.kinds

  few : length (kinds_of op) ≤ most_fields
  few = (in_table op (known-operation c.parts_of-operation.result.0)).few

pub high_in_values-requires : goal.high_in_values-requires
high_in_values-requires c = let here = (goal.at.high_in_values-requires c).After-from in rw (kinds here) (few here)

pub returns-then-high_in_values : goal.returns-then-high_in_values
returns-then-high_in_values c =
    let p = c.parts_of-operation in
    write-high c.args.r c.args.out.now (number_of p.result.0) p.result.1 p.ensures
    (rw (kinds (goal.at.returns-then-high_in_values c).After-from) at (sym c.if-high_in_values.true ∙ c.high_in_values.ensures))

-- no register is high
low : (c : Else-high_in_values) → false ≡ high_register (kinds_of (number_of c.parts_of-operation.result.0)) c.parts_of-operation.result.1
low c = rw (c.from.ensures, c.kinds-all.ensures, c.row_of-row.ensures.kinds) at (sym c.if-high_in_values.false ∙ c.high_in_values.ensures)

pub returns-then-out-from : goal.returns-then-out-from
returns-then-out-from c =
    let p = c.parts_of-operation in
    write-short c.args.r c.args.out.now (number_of p.result.0) p.result.1 p.ensures (low (goal.at.returns-then-out-from c).Else-high_in_values)
    (omega (arith, c.row_of-row.ensures.length, c.from-2.ensures))

pub put_fields-requires : goal.put_fields-requires
put_fields-requires c =
    let row = c.row_of-row.ensures in
    let here = (goal.at.put_fields-requires c).After-from in
    rw (kinds here) (few here, simp length-set (omega (arith, row.length, c.from-2.ensures)))

pub returns : goal.returns
returns c =
    let p = c.parts_of-operation in
    write_done c.args.r c.args.out.now (number_of p.result.0) p.result.1 p.ensures (low (goal.at.returns c).Else-high_in_values)
    c.from-3.result c.put_fields.new.out (c.from-3.ensures ∙ c.row_of-row.ensures.length) (omega (arith, c.from-2.ensures))
    (rw (← kinds (goal.at.returns c).After-from, c.from-3.ensures, ← c.byte_of.ensures) c.put_fields.ensures)
