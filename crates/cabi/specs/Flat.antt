-- Records without cases, as C passes them, and the reader's and the writer's answers in those terms.
use Rattle.std.specs.Prelude.{ℕ, cond, List, eqb}
use Rattle.std.proofs.Math.Option.{Option, none, some}
use Rattle.heap.specs.declared.Answer.{Answer}
use Rattle.takes.specs.Operations.{known}
use Rattle.takes.specs.Reading.{Given}
use Rattle.takes.specs.Writing.{WriteOutcome, write_record}
use Rattle.takes.specs.declared.Record.{Record}
use Rattle.takes.specs.declared.Record.TheVariants.{Get, Give, Step, Read, Write, Left, Copy, Fill, Lock, Unlock, Again, Set, Grid}
use Rattle.cabi.specs.declared.FlatRecord.{FlatRecord}
use Rattle.cabi.specs.declared.FlatReading.{FlatReading}

-- a record that is no grid, and a grid
abbrev pub flat_of : (operation d a b byte index word : ℕ) → FlatRecord
flat_of o d a b y k w = record { operation = o; d = d; a = a; b = b; byte = y; index = k; word = w; rows = 0; columns = 0; row = 0; column = 0 }

abbrev pub flat_grid : (d a rows columns row column : ℕ) → FlatRecord
flat_grid d a rows columns row column =
    record { operation = 13; d = d; a = a; b = 0; byte = 0; index = 0; word = 0; rows = rows; columns = columns; row = row; column = column }

-- a field that the operation lacks is 0
abbrev pub flat : Record → FlatRecord
flat (Get d n) = flat_of 1 d 0 0 0 0 n
flat (Give a) = flat_of 2 0 a 0 0 0 0
flat (Step d a i) = flat_of 3 d a 0 0 0 i
flat (Read d a w) = flat_of 4 d a 0 w 0 0
flat (Write a w v) = flat_of 5 0 a 0 w 0 v
flat (Left d a) = flat_of 6 d a 0 0 0 0
flat (Copy d a b n) = flat_of 7 d a b 0 0 n
flat (Fill d a v n) = flat_of 8 d a 0 v 0 n
flat (Lock a) = flat_of 9 0 a 0 0 0 0
flat (Unlock a) = flat_of 10 0 a 0 0 0 0
flat (Again d k) = flat_of 11 d 0 0 0 k 0
flat (Set d n) = flat_of 12 d 0 0 0 0 n
flat (Grid d a rows columns row column) = flat_grid d a rows columns row column

-- no record is all 0
abbrev pub flat_found : Option Record → FlatRecord
flat_found none = flat_of 0 0 0 0 0 0 0
flat_found (some r) = flat r

abbrev pub flat_reading : Given → FlatReading
flat_reading g = record { number = g.number; item = flat_found g.found; next = g.next }

-- the record of an operation, whatever stands in the fields that it lacks
abbrev pub record_as : ℕ → FlatRecord → Record
record_as op f =
    cond (eqb op 1) (Get f.d f.word)
    (cond (eqb op 2) (Give f.a)
    (cond (eqb op 3) (Step f.d f.a f.word)
    (cond (eqb op 4) (Read f.d f.a f.byte)
    (cond (eqb op 5) (Write f.a f.byte f.word)
    (cond (eqb op 6) (Left f.d f.a)
    (cond (eqb op 7) (Copy f.d f.a f.b f.word)
    (cond (eqb op 8) (Fill f.d f.a f.byte f.word)
    (cond (eqb op 9) (Lock f.a)
    (cond (eqb op 10) (Unlock f.a)
    (cond (eqb op 11) (Again f.d f.index)
    (cond (eqb op 12) (Set f.d f.word) (Grid f.d f.a f.rows f.columns f.row f.column))))))))))))

abbrev pub record_from_flat : FlatRecord → Record
record_from_flat f = record_as f.operation f

-- a writer's answer, its value the count of the bytes stored, and the slice that it leaves
abbrev pub write_outcome_by : Answer → List ℕ → WriteOutcome
write_outcome_by r out = record { number = r.number; count = r.value; slice = out }

-- an operation that no record has is refused before all else
abbrev pub unknown : List ℕ → WriteOutcome
unknown out = record { number = 5; count = 0; slice = out }

unfoldable pub write_flat : FlatRecord → List ℕ → WriteOutcome
write_flat f out = cond (known f.operation) (write_record (record_from_flat f) out) (unknown out)
