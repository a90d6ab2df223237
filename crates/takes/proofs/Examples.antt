-- Document 01's worked take and refused files, computed by the definitions. To unfold `judged`, `numbers` or `readings` is to unfold all that it computes with.
use Prim.Native.Nat.{ℕ}
use mathlib.Core.Path.{◌≡◌, refl}
use mathlib.Core.Bool.{true, false}
use mathlib.Core.List.{List, [], ◌∷◌, map}
use lib.ListN.{replicate}
use Rattle.takes.specs.Operations.{known, kinds_of, length_of}
use Rattle.takes.specs.Records.{record_of}
use Rattle.takes.specs.Reading.{Given, read_rules, read_bytes, read_at, record_found, record_refused}
use Rattle.takes.specs.Files.{walk, head_number, stray_from, file_number, records_of, judgement}
use Rattle.takes.specs.JudgedBefore.{added, walk_before, records_before, number_before, added_from, has_added}
use Rattle.takes.specs.Writing.{record_bytes, records_bytes, file_of}
use Rattle.takes.specs.declared.Record.{Record}
use Rattle.takes.specs.declared.Record.TheVariants.{Get, Give, Step, Read, Grid}
use Rattle.takes.specs.Files.{Judgement}

-- a file's judgement and its records; the numbers of several files; the readings at several places of one
judged : List ℕ → Judgement × List Record
unfolding file_number head_number stray_from records_of walk read_bytes read_rules known kinds_of record_of
judged file = (judgement file, records_of file)

numbers : List (List ℕ) → List ℕ
unfolding judged
numbers = map file_number

readings : List ℕ → List ℕ → List Given
unfolding judged
readings file = map (read_at file)

-- document 01's column of lengths, then those of lock and unlock, again and set, and grid
lengths : map length_of (1 ∷ 2 ∷ 3 ∷ 4 ∷ 5 ∷ 6 ∷ 7 ∷ 8 ∷ 9 ∷ 10 ∷ 11 ∷ 12 ∷ 13 ∷ []) ≡ 6 ∷ 2 ∷ 7 ∷ 4 ∷ 7 ∷ 3 ∷ 8 ∷ 8 ∷ 2 ∷ 2 ∷ 4 ∷ 6 ∷ 7 ∷ []
unfolding kinds_of
lengths = refl

-- the worked take
abbrev pub worked : List ℕ
worked =
    0x01 ∷ 0x06
    ∷ 0x06 ∷ 0x01 ∷ 0x00 ∷ 0x00 ∷ 0x00 ∷ 0x00 ∷ 0x14
    ∷ 0x06 ∷ 0x01 ∷ 0x01 ∷ 0x00 ∷ 0x00 ∷ 0x00 ∷ 0x10
    ∷ 0x07 ∷ 0x03 ∷ 0x02 ∷ 0x00 ∷ 0x00 ∷ 0x00 ∷ 0x00 ∷ 0x20
    ∷ 0x04 ∷ 0x04 ∷ 0x03 ∷ 0x02 ∷ 0x01
    ∷ 0x07 ∷ 0x03 ∷ 0x02 ∷ 0x02 ∷ 0xFF ∷ 0xFF ∷ 0xFF ∷ 0xFF
    ∷ 0x06 ∷ 0x01 ∷ 0x04 ∷ 0x00 ∷ 0x00 ∷ 0x00 ∷ 0x20
    ∷ 0x02 ∷ 0x02 ∷ 0x00
    ∷ []

abbrev pub worked_records : List Record
worked_records = Get 0 20 ∷ Get 1 16 ∷ Step 2 0 32 ∷ Read 3 2 1 ∷ Step 2 2 4294967295 ∷ Get 4 32 ∷ Give 0 ∷ []

worked-judged : judged worked ≡ (record { number = 0; size = 6; count = 7 }, worked_records)
unfolding judged
worked-judged = refl

worked-written : file_of 6 worked_records ≡ worked
unfolding records_bytes record_bytes kinds_of
worked-written = refl

-- a head and no record
head-alone : judged (1 ∷ 5 ∷ []) ≡ (record { number = 0; size = 5; count = 0 }, [])
unfolding judged
head-alone = refl

-- 8,192 bytes are judged further, 8,193 are too long
abbrev zeros : ℕ → List ℕ
zeros n = 1 ∷ 6 ∷ replicate n 0

too_long : numbers (zeros 8190 ∷ zeros 8191 ∷ []) ≡ 4 ∷ 3 ∷ []
unfolding numbers
too_long = refl

-- empty; first byte 2; size byte missing, 4, 17
refused-heads : numbers ([] ∷ (2 ∷ 6 ∷ []) ∷ (1 ∷ []) ∷ (1 ∷ 4 ∷ []) ∷ (1 ∷ 17 ∷ []) ∷ []) ≡ 1 ∷ 1 ∷ 2 ∷ 2 ∷ 2 ∷ []
unfolding numbers
refused-heads = refl

abbrev one : List ℕ → List ℕ
one bytes = 1 ∷ 6 ∷ bytes

-- length 0; more than the bytes left; operation 255; length 7 of a get; register 16; a 7 before a 4 in the next record
refused-records : numbers
    (one (0 ∷ [])
    ∷ one (2 ∷ 2 ∷ [])
    ∷ one (2 ∷ 255 ∷ 0 ∷ [])
    ∷ one (7 ∷ 1 ∷ 0 ∷ 0 ∷ 0 ∷ 0 ∷ 8 ∷ 0 ∷ [])
    ∷ one (2 ∷ 2 ∷ 16 ∷ [])
    ∷ one (2 ∷ 2 ∷ 16 ∷ 0 ∷ [])
    ∷ [])
    ≡ 4 ∷ 4 ∷ 5 ∷ 6 ∷ 7 ∷ 7 ∷ []
unfolding numbers
refused-records = refl

-- an again at index 0; one to its own index and one to an index past it; one that goes back; 7 before 29 in one record; 29 before a 4 in the next record, and
-- after a 7 in the one before
refused-repeats : numbers
    (one (4 ∷ 11 ∷ 0 ∷ 0 ∷ 0 ∷ [])
    ∷ one (2 ∷ 2 ∷ 0 ∷ 4 ∷ 11 ∷ 0 ∷ 0 ∷ 1 ∷ [])
    ∷ one (2 ∷ 2 ∷ 0 ∷ 4 ∷ 11 ∷ 0 ∷ 1 ∷ 0 ∷ [])
    ∷ one (2 ∷ 2 ∷ 0 ∷ 4 ∷ 11 ∷ 0 ∷ 0 ∷ 0 ∷ [])
    ∷ one (4 ∷ 11 ∷ 16 ∷ 0 ∷ 0 ∷ [])
    ∷ one (4 ∷ 11 ∷ 0 ∷ 0 ∷ 0 ∷ 0 ∷ [])
    ∷ one (2 ∷ 2 ∷ 16 ∷ 4 ∷ 11 ∷ 0 ∷ 0 ∷ 1 ∷ [])
    ∷ [])
    ≡ 29 ∷ 29 ∷ 29 ∷ 0 ∷ 7 ∷ 29 ∷ 7 ∷ []
unfolding numbers
refused-repeats = refl

-- before takes had them: an again and a set, of the right length and of another; one that is not whole; the one that a 7 stands before
were-refused : map number_before
    (one (4 ∷ 11 ∷ 0 ∷ 0 ∷ 0 ∷ [])
    ∷ one (6 ∷ 12 ∷ 0 ∷ 0 ∷ 0 ∷ 0 ∷ 1 ∷ [])
    ∷ one (2 ∷ 11 ∷ 16 ∷ [])
    ∷ one (4 ∷ 12 ∷ 0 ∷ [])
    ∷ one (2 ∷ 2 ∷ 16 ∷ 4 ∷ 11 ∷ 0 ∷ 0 ∷ 1 ∷ [])
    ∷ [])
    ≡ 5 ∷ 5 ∷ 5 ∷ 4 ∷ 7 ∷ []
unfolding numbers number_before walk_before
were-refused = refl

-- again and set were added with the repeats, and no other operation of the table
which-added : map added (1 ∷ 2 ∷ 3 ∷ 4 ∷ 5 ∷ 6 ∷ 7 ∷ 8 ∷ 9 ∷ 10 ∷ 11 ∷ 12 ∷ 13 ∷ []) ≡
    false ∷ false ∷ false ∷ false ∷ false ∷ false ∷ false ∷ false ∷ false ∷ false ∷ true ∷ true ∷ false ∷ []
which-added = refl

-- the worked take has neither, and was accepted with the same records
worked-before : (has_added worked ≡ false) × (number_before worked ≡ 0) × (records_before worked ≡ worked_records)
unfolding judged number_before records_before walk_before added_from
worked-before = (refl, refl, refl)

-- the reader: at a record, past the end, at place 0 and inside a record
read-anywhere : readings (1 ∷ 6 ∷ 2 ∷ 2 ∷ 0 ∷ []) (2 ∷ 5 ∷ 18446744073709551615 ∷ 0 ∷ 3 ∷ [])
    ≡ record_found (Give 0) 5 ∷ record_refused 4 ∷ record_refused 4 ∷ record_refused 6 ∷ record_refused 4 ∷ []
unfolding readings
read-anywhere = refl

-- a grid's fields in their order, the first two alone being registers; one with its last byte missing, and one of another length
grid-read : readings
    (7 ∷ 13 ∷ 1 ∷ 2 ∷ 200 ∷ 100 ∷ 99 ∷ 98 ∷ 7 ∷ 13 ∷ 1 ∷ 16 ∷ 4 ∷ 16 ∷ 1 ∷ 4 ∷ 6 ∷ 13 ∷ 1 ∷ 2 ∷ 4 ∷ 16 ∷ 1 ∷ 7 ∷ 13 ∷ 1 ∷ 2 ∷ 4 ∷ 16 ∷ 1 ∷ [])
    (0 ∷ 8 ∷ 16 ∷ 23 ∷ [])
    ≡ record_found (Grid 1 2 200 100 99 98) 8 ∷ record_refused 7 ∷ record_refused 6 ∷ record_refused 4 ∷ []
unfolding readings
grid-read = refl

grid-written : record_bytes (Grid 1 2 200 100 99 98) ≡ 7 ∷ 13 ∷ 1 ∷ 2 ∷ 200 ∷ 100 ∷ 99 ∷ 98 ∷ []
unfolding record_bytes kinds_of
grid-written = refl
