-- Reading the record at a place of a file.
use Rattle.std.specs.Prelude.{ℕ, ◌+◌, ◌-◌, Bool, false, not, cond, ◌||◌, List, [], ◌∷◌, eqb, leb, ltb, length, get_or, drop, Result, Ok, Err}
use Rattle.std.proofs.Math.Option.{Option, none, some}
use Rattle.common.specs.Refusals.{Refusal, ◌when◌, first}
use Rattle.common.specs.Numbers.{number_of}
use Rattle.common.specs.Bytes.{big_endian}
use Rattle.heap.specs.Registers.{register_count}
use Rattle.takes.specs.Operations.{Kind, register, byte, half, word, size, known, kinds_of, length_of}
use Rattle.takes.specs.Records.{record_of}
use Rattle.common.specs.declared.reasons.Refusal.{Refusal as Reason}
use Rattle.takes.specs.declared.Record.{Record}
use Rattle.takes.specs.declared.Reading.{Reading}

-- the values of fields that stand one after the other at the start of some bytes
abbrev pub values : List Kind → List ℕ → List ℕ
values [] bs = []
values (k ∷ ks) bs = big_endian bs 0 (size k) ∷ values ks (drop (size k) bs)

-- whether a field's value is a register past the last
abbrev pub is_high : Kind → ℕ → Bool
is_high register v = leb register_count v
is_high byte v = false
is_high half v = false
is_high word v = false

-- whether one of the fields has such a value
abbrev pub high_register : List Kind → List ℕ → Bool
high_register [] vs = false
high_register (k ∷ ks) [] = false
high_register (k ∷ ks) (v ∷ vs) = is_high k v || high_register ks vs

-- the record that starts with the first of some bytes: its length byte, its operation, the values of its fields
abbrev pub length_byte : List ℕ → ℕ
length_byte bs = get_or bs 0 0

abbrev pub operation_byte : List ℕ → ℕ
operation_byte bs = get_or bs 1 0

abbrev pub field_values : List ℕ → List ℕ
field_values bs = values (kinds_of (operation_byte bs)) (drop 2 bs)

-- past the end there is no byte, and the length reads as 0
unfoldable pub read_rules : List ℕ → List Refusal
unfolding big_endian
read_rules bs =
    4 when (eqb (length_byte bs) 0 || ltb (length bs - 1) (length_byte bs))
    ∷ 5 when not (known (operation_byte bs))
    ∷ 6 when not (eqb (length_byte bs) (length_of (operation_byte bs)))
    ∷ 7 when high_register (kinds_of (operation_byte bs)) (field_values bs)
    ∷ []

-- What document 01's reader gives: a number, a record or none, and the next place.
pub record Given : Type 0 where
  pub number : ℕ
  pub found : Option Record
  pub next : ℕ

abbrev pub record_found : Record → ℕ → Given
record_found r next = record { number = 0; found = some r; next = next }

abbrev pub record_refused : ℕ → Given
record_refused n = record { number = n; found = none; next = 0 }

-- the code's answer, in those terms
abbrev pub given : Result Reading Reason → Given
given (Ok r) = record_found r.record r.next
given (Err reason) = record_refused (number_of reason)

-- by its number a record is given or refused
abbrev pub unless_refused : ℕ → Given → Given
unless_refused n g = cond (eqb n 0) g (record_refused n)

unfoldable pub read_bytes : List ℕ → ℕ → Given
unfolding big_endian
read_bytes bs at =
    unless_refused (first (read_rules bs))
    (record_found (record_of (operation_byte bs) (field_values bs)) (at + 1 + length_byte bs))

abbrev pub read_at : List ℕ → ℕ → Given
read_at file at = read_bytes (drop at file) at
