-- What the parts of the code say to each other: a row's registers, a record's values with zeros behind them, and each operation's record straight from the
-- bytes of its fields. Only the contracts of inner functions cite these: no customer's call rests on them, and document 01 has none of them.
use Rattle.std.specs.Prelude.{ℕ, zero, suc, ◌+◌, Bool, false, ◌||◌, List, [], ◌∷◌, ◌++◌, leb, get_or, take, drop, replicate}
use Rattle.common.specs.Bytes.{big_endian}
use Rattle.heap.specs.Registers.{register_count}
use Rattle.takes.specs.Operations.{Kind, register, byte, half, word, kinds_of}
use Rattle.takes.specs.Records.{record_of}
use Rattle.takes.specs.Reading.{values, operation_byte, field_values}
use Rattle.takes.specs.Files.{strays}
use Rattle.takes.specs.declared.Record.{Record}
use Rattle.takes.specs.declared.table.Row.{Row}
use Rattle.takes.specs.declared.Record.TheVariants.{Get, Give, Step, Read, Write, Left, Copy, Fill, Lock, Unlock, Again, Set, Grid}

-- the most fields that an operation has
abbrev pub most_fields : ℕ
most_fields = 6

-- how many of these fields, from the first on, are registers
abbrev pub registers_in : List Kind → ℕ
registers_in [] = 0
registers_in (register ∷ ks) = suc (registers_in ks)
registers_in (byte ∷ ks) = 0
registers_in (half ∷ ks) = 0
registers_in (word ∷ ks) = 0

-- the kinds that a row of the code's table has, those of its fields first
abbrev pub kinds_of_row : Row → List Kind
kinds_of_row r = r.kinds.0 ∷ r.kinds.1 ∷ r.kinds.2 ∷ r.kinds.3 ∷ r.kinds.4 ∷ r.kinds.5 ∷ []

-- one of n bytes of the file, from a place on, is a register past the last
abbrev pub any_high : ℕ → List ℕ → ℕ → Bool
any_high zero file at = false
any_high (suc n) file at = leb register_count (get_or file at 0) || any_high n file (at + 1)

-- values with zeros after them, one for each column
abbrev pub padded : List ℕ → List ℕ
padded vs = take most_fields (vs ++ replicate most_fields 0)

-- The records, whose fields start at a place of a file: a byte there, and a number of two bytes or of four.
abbrev pub byte_at : List ℕ → ℕ → ℕ
byte_at file at = get_or file at 0

abbrev pub half_at : List ℕ → ℕ → ℕ
half_at file at = big_endian file at 2

abbrev pub word_at : List ℕ → ℕ → ℕ
word_at file at = big_endian file at 4

abbrev pub get_at : List ℕ → ℕ → Record
get_at file at = Get (byte_at file at) (word_at file (at + 1))

abbrev pub give_at : List ℕ → ℕ → Record
give_at file at = Give (byte_at file at)

abbrev pub step_at : List ℕ → ℕ → Record
step_at file at = Step (byte_at file at) (byte_at file (at + 1)) (word_at file (at + 2))

-- of the operation read (`read_at` is the reader)
abbrev pub read_fields_at : List ℕ → ℕ → Record
read_fields_at file at = Read (byte_at file at) (byte_at file (at + 1)) (byte_at file (at + 2))

abbrev pub write_at : List ℕ → ℕ → Record
write_at file at = Write (byte_at file at) (byte_at file (at + 1)) (word_at file (at + 2))

abbrev pub left_at : List ℕ → ℕ → Record
left_at file at = Left (byte_at file at) (byte_at file (at + 1))

abbrev pub copy_at : List ℕ → ℕ → Record
copy_at file at = Copy (byte_at file at) (byte_at file (at + 1)) (byte_at file (at + 2)) (word_at file (at + 3))

abbrev pub fill_at : List ℕ → ℕ → Record
fill_at file at = Fill (byte_at file at) (byte_at file (at + 1)) (byte_at file (at + 2)) (word_at file (at + 3))

abbrev pub lock_at : List ℕ → ℕ → Record
lock_at file at = Lock (byte_at file at)

abbrev pub unlock_at : List ℕ → ℕ → Record
unlock_at file at = Unlock (byte_at file at)

abbrev pub again_at : List ℕ → ℕ → Record
again_at file at = Again (byte_at file at) (half_at file (at + 1))

-- of the operation set
abbrev pub set_at : List ℕ → ℕ → Record
set_at file at = Set (byte_at file at) (word_at file (at + 1))

abbrev pub grid_at : List ℕ → ℕ → Record
grid_at file at =
    Grid (byte_at file at) (byte_at file (at + 1)) (byte_at file (at + 2)) (byte_at file (at + 3)) (byte_at file (at + 4)) (byte_at file (at + 5))

-- the record of an operation whose fields start at a place, and the record that starts at a place
abbrev pub record_from : List ℕ → ℕ → ℕ → Record
record_from file at op = record_of op (values (kinds_of op) (drop at file))

abbrev pub record_there : List ℕ → ℕ → Record
record_there file at = record_from file (at + 2) (byte_at file (at + 1))

-- whether the record at a place of the file, which is its record i, is an again that does not go back
abbrev pub stray_at : List ℕ → ℕ → ℕ → Bool
stray_at file at i = let bs = drop at file in strays i (record_of (operation_byte bs) (field_values bs))
