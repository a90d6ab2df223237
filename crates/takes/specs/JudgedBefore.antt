-- Document 02, "Repeats in a take": how a file was judged before that request, kept for the claim that a file with neither again nor set is judged as it was.
-- (It leaves out that request alone: what later ones added, such as the grid, is in it.)
use Rattle.std.specs.Prelude.{ℕ, zero, suc, ◌≡◌, Bool, false, not, cond, ◌&&◌, ◌||◌, List, [], ◌∷◌, eqb, ltb, length, drop}
use Rattle.common.specs.Refusals.{Refusal, ◌when◌, first, is_one_of}
use Rattle.takes.specs.Reading.{operation_byte, Given, record_refused, read_at}
use Rattle.takes.specs.Files.{Walk, ended, turn, head_length, head_number, file_number, records_of}
use Rattle.takes.specs.declared.Record.{Record}

-- the operations that the request added to the table: again and set
abbrev pub added : ℕ → Bool
added op = is_one_of (11 ∷ 12 ∷ []) op

-- the record at a place has one of them: of a record that 4 refuses no operation is read
abbrev pub added_at : List ℕ → ℕ → Bool
added_at file at = not (eqb (read_at file at).number 4) && added (operation_byte (drop at file))

-- the table did not have them: 5
abbrev pub read_before : List ℕ → ℕ → Given
read_before file at = cond (added_at file at) (record_refused 5) (read_at file at)

-- the records from a place on, as by `walk`
unfoldable pub walk_before : ℕ → List ℕ → ℕ → Walk
walk_before zero file at = ended 0
walk_before (suc steps) file at = turn (ltb at (length file)) (walk_before steps file) (read_before file at)

abbrev pub walked_before : List ℕ → Walk
walked_before file = walk_before (length file) file head_length

-- the records of the file, up to the first that was refused
unfoldable pub records_before : List ℕ → List Record
records_before file = (walked_before file).records

-- 1, 2, 3, then 4 to 7 record by record
abbrev pub file_rules_before : List ℕ → List Refusal
file_rules_before file =
    head_number file when not (eqb (head_number file) 0)
    ∷ (walked_before file).number when not (eqb (walked_before file).number 0)
    ∷ []

unfoldable pub number_before : List ℕ → ℕ
number_before file = first (file_rules_before file)

-- one of the records from a place on has an added operation, up to the first that is refused, that one included; at the end the reader refuses with 4
unfoldable pub added_from : ℕ → List ℕ → ℕ → Bool
added_from zero file at = false
added_from (suc steps) file at = added_at file at || (eqb (read_at file at).number 0 && added_from steps file (read_at file at).next)

abbrev pub has_added : List ℕ → Bool
has_added file = added_from (length file) file head_length

pub record JudgedAsBefore (file : List ℕ) : Type 0 where
  pub number : file_number file ≡ number_before file
  pub records : records_of file ≡ records_before file

abbrev pub NeitherJudgedAsBefore : Type 0
NeitherJudgedAsBefore = (file : List ℕ) → has_added file ≡ false → JudgedAsBefore file
