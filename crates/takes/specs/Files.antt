-- Judging a whole file, and the records of an accepted one.
use Rattle.std.specs.Prelude.{ℕ, zero, suc, Bool, true, false, not, cond, ◌||◌, List, [], ◌∷◌, eqb, leb, ltb, length, get_or, Result, Ok, Err}
use Rattle.std.proofs.Math.Option.{Option, none, some}
use Rattle.common.specs.Refusals.{Refusal, ◌when◌, first}
use Rattle.common.specs.Numbers.{number_of}
use Rattle.blocks.specs.Orders.{is_arena_order}
use Rattle.takes.specs.Records.{back_to}
use Rattle.takes.specs.Reading.{Given, read_at}
use Rattle.common.specs.declared.reasons.Refusal.{Refusal as Reason}
use Rattle.takes.specs.declared.Record.{Record}
use Rattle.takes.specs.declared.Judged.{Judged}

-- The records from a place on, up to the end or the first that is refused, and its number, 0 where none is.
pub record Walk : Type 0 where
  pub number : ℕ
  pub records : List Record

abbrev pub ended : ℕ → Walk
ended n = record { number = n; records = [] }

abbrev pub before : Record → Walk → Walk
before r w = record { number = w.number; records = r ∷ w.records }

abbrev pub onward : (ℕ → Walk) → ℕ → Option Record → ℕ → Walk
onward go number none next = ended number
onward go number (some r) next = before r (go next)

-- at the end nothing is left to come
abbrev pub turn : Bool → (ℕ → Walk) → Given → Walk
turn true go g = onward go g.number g.found g.next
turn false go g = ended 0

-- at most `steps` records: as many as the file has bytes are enough, since each record takes two or more
unfoldable pub walk : ℕ → List ℕ → ℕ → Walk
walk zero file at = ended 0
walk (suc steps) file at = turn (ltb at (length file)) (walk steps file) (read_at file at)

abbrev pub walk_from : List ℕ → ℕ → Walk
walk_from file at = walk (length file) file at

-- the place of the first record
abbrev pub head_length : ℕ
head_length = 2

abbrev pub longest : ℕ
longest = 8192

-- the size byte, document 01's m: the order of the arena
abbrev pub size_byte : List ℕ → ℕ
size_byte file = get_or file 1 0

-- the number of the first record that is refused, 0 where none is
abbrev pub records_number : List ℕ → ℕ
records_number file = (walk_from file head_length).number

-- the records of the file, up to that one
unfoldable pub records_of : List ℕ → List Record
records_of file = (walk_from file head_length).records

abbrev pub head_rules : List ℕ → List Refusal
head_rules file =
    1 when (eqb (length file) 0 || not (eqb (get_or file 0 0) 1))
    ∷ 2 when (ltb (length file) head_length || not (is_arena_order (size_byte file)))
    ∷ 3 when ltb longest (length file)
    ∷ []

unfoldable pub head_number : List ℕ → ℕ
head_number file = first (head_rules file)

-- a record to go back to that is not before the record i
abbrev pub not_before : ℕ → Option ℕ → Bool
not_before i none = false
not_before i (some k) = leb i k

-- an again, the record i of its file, that does not go back
abbrev pub strays : ℕ → Record → Bool
strays i r = not_before i (back_to r)

-- one of these records does so, the first of them being the record i
unfoldable pub stray_from : ℕ → List Record → Bool
stray_from i [] = false
stray_from i (r ∷ rs) = strays i r || stray_from (suc i) rs

-- 1, 2, 3, then record by record: 29 comes after 4 to 7 in its own record, and before them in a later one. `records_of` has the records before the first that 4
-- to 7 refuse, so an again among them that does not go back stands before it.
abbrev pub file_rules : List ℕ → List Refusal
file_rules file =
    head_number file when not (eqb (head_number file) 0)
    ∷ 29 when stray_from 0 (records_of file)
    ∷ records_number file when not (eqb (records_number file) 0)
    ∷ []

unfoldable pub file_number : List ℕ → ℕ
file_number file = first (file_rules file)

-- What judging a file gives: its refusal, or 0 with the size byte and the count of its records.
pub record Judgement : Type 0 where
  pub number : ℕ
  pub size : ℕ
  pub count : ℕ

-- the code's answer, in those terms
abbrev pub judgement_of : Result Judged Reason → Judgement
judgement_of (Ok j) = record { number = 0; size = j.size; count = j.count }
judgement_of (Err reason) = record { number = number_of reason; size = 0; count = 0 }

-- refused, it has no size and counts no record
abbrev pub judgement : List ℕ → Judgement
judgement file =
    cond (eqb (file_number file) 0)
    (record { number = 0; size = size_byte file; count = length (records_of file) })
    (record { number = file_number file; size = 0; count = 0 })
