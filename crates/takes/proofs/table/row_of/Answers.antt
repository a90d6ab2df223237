-- The table's rows say what the operations' own do, in the order of their numbers (`row-says`).
use Prim.Native.Nat.{ℕ, suc, ◌+◌, ◌-◌}
use mathlib.Core.Path.{◌≡◌, refl}
use mathlib.Core.List.{List, map}
use native.Mathlib.Omega.{arith}
use lib.Dec.{leb}
use lib.ListN.{get_or, take}
use borrow.Author.Tests.{leb-true}
use mathlib.Core.Bool.{true}
use Rattle.heap.specs.OperationNumbers.{last_operation, number_of}
use Rattle.heap.specs.declared.operations.Operation.{Operation}
use Rattle.takes.specs.Operations.{kinds_of, length_of}
use Rattle.takes.specs.Inner.{kinds_of_row, most_fields, registers_in}
use Rattle.takes.specs.declared.table.Row.{Row}
use Rattle.takes.specs.declared.table.TheConstants.{OPERATIONS}
use Rattle.takes.proofs.Operations.{in_table, known-operation, tabulated, row-says}
use Rattle.takes.proofs.table.row_of.Goals as goal
use Rattle.takes.proofs.table.row_of.Goals.{After-from}

lengths : (l : List Row) (d : Row) (k : ℕ) (o : Operation) → k + 1 ≡ number_of o
    → map (λ (r : Row). r.length) l ≡ tabulated (λ k. length_of (suc k)) last_operation → (get_or l k d).length ≡ length_of (number_of o)
lengths = row-says (λ (r : Row). r.length) length_of

registers : (l : List Row) (d : Row) (k : ℕ) (o : Operation) → k + 1 ≡ number_of o
    → map (λ (r : Row). r.registers) l ≡ tabulated (λ k. registers_in (kinds_of (suc k))) last_operation
    → (get_or l k d).registers ≡ registers_in (kinds_of (number_of o))
registers = row-says (λ (r : Row). r.registers) (λ op. registers_in (kinds_of op))

kinds : (l : List Row) (d : Row) (k : ℕ) (o : Operation) → k + 1 ≡ number_of o
    → map (λ (r : Row). take r.fields (kinds_of_row r)) l ≡ tabulated (λ k. kinds_of (suc k)) last_operation
    → take (get_or l k d).fields (kinds_of_row (get_or l k d)) ≡ kinds_of (number_of o)
kinds = row-says (λ (r : Row). take r.fields (kinds_of_row r)) kinds_of

fields : (l : List Row) (d : Row) (k : ℕ) (o : Operation) → k + 1 ≡ number_of o
    → map (λ (r : Row). leb r.fields most_fields) l ≡ tabulated (λ k. true) last_operation → leb (get_or l k d).fields most_fields ≡ true
fields = row-says (λ (r : Row). leb r.fields most_fields) (λ op. true)

-- the place of the operation's row
place : (c : After-from) → c.from.result - 1 + 1 ≡ number_of c.args.operation
place c = omega (arith, c.from.ensures, c.byte_of.ensures, (in_table (number_of c.args.operation) (known-operation c.args.operation)).above)

pub returns-clause-length : goal.returns-clause-length
unfolding kinds_of
returns-clause-length c = rw (lengths _ _ _ c.args.operation (place (goal.at.returns-clause-length c).After-from) refl) refl

pub returns-clause-registers : goal.returns-clause-registers
unfolding kinds_of
returns-clause-registers c = rw (registers _ _ _ c.args.operation (place (goal.at.returns-clause-registers c).After-from) refl) refl

pub returns-clause-fields : goal.returns-clause-fields
returns-clause-fields c = leb-true _ _ (fields OPERATIONS _ _ c.args.operation (place (goal.at.returns-clause-fields c).After-from) refl)

pub returns-clause-kinds : goal.returns-clause-kinds
unfolding kinds_of
returns-clause-kinds c = rw (kinds _ _ _ c.args.operation (place (goal.at.returns-clause-kinds c).After-from) refl) refl
