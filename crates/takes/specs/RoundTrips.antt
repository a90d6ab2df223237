-- What is written reads back, and what is read writes back.
use Rattle.std.specs.Prelude.{ℕ, ◌^◌, ◌≤◌, ◌<◌, ◌≡◌, cond, List, [], ◌∷◌, length, get_or}
use Rattle.heap.specs.Registers.{register_count}
use Rattle.takes.specs.Operations.{Kind, register, byte, half, word, kinds_of}
use Rattle.takes.specs.Records.{operation, fields}
use Rattle.blocks.specs.Orders.{smallest_arena, largest_arena}
use Rattle.takes.specs.Files.{longest, size_byte, stray_from, file_number, records_of}
use Rattle.takes.specs.Writing.{file_of}
use Rattle.takes.specs.declared.Record.{Record}

-- a value that a field of the kind may have
abbrev pub Fits : Kind → ℕ → Type 0
Fits register v = v < register_count
Fits byte v = v < 256
Fits half v = v < 2 ^ 16
Fits word v = v < 2 ^ 32

abbrev pub AllFit : List Kind → List ℕ → Type 0
AllFit [] vs = Unit {0}
AllFit (k ∷ ks) [] = Unit {0}
AllFit (k ∷ ks) (v ∷ vs) = Fits k v × AllFit ks vs

abbrev pub RecordFits : Record → Type 0
RecordFits r = AllFit (kinds_of (operation r)) (fields r)

abbrev pub RecordsFit : List Record → Type 0
RecordsFit [] = Unit {0}
RecordsFit (r ∷ rs) = RecordFits r × RecordsFit rs

abbrev pub Bytes : List ℕ → Type 0
Bytes bs = (i : ℕ) → get_or bs i 0 < 256

-- the records are those that were written; judged as a file, an again among them that does not go back is refused
pub record ReadsBack (m : ℕ) (rs : List Record) : Type 0 where
  pub number : file_number (file_of m rs) ≡ cond (stray_from 0 rs) 29 0
  pub size : size_byte (file_of m rs) ≡ m
  pub records : records_of (file_of m rs) ≡ rs

-- both round trips of document 01's takes
pub record RoundTrips : Type 0 where
  pub written-reads-back : (m : ℕ) (rs : List Record) → smallest_arena ≤ m → m ≤ largest_arena → RecordsFit rs → length (file_of m rs) ≤ longest
      → ReadsBack m rs
  pub read-writes-back : (file : List ℕ) → Bytes file → file_number file ≡ 0 → file_of (size_byte file) (records_of file) ≡ file
