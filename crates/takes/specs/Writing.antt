-- Writing the head of a file and its records.
use Rattle.std.specs.Prelude.{ℕ, not, cond, List, [], ◌∷◌, ◌++◌, eqb, ltb, length, drop, Result, Ok, Err}
use Rattle.common.specs.Refusals.{Refusal, ◌when◌, first}
use Rattle.common.specs.Numbers.{number_of}
use Rattle.common.specs.Bytes.{bytes_of}
use Rattle.takes.specs.Operations.{Kind, kinds_of, size, length_of}
use Rattle.takes.specs.Records.{operation, fields}
use Rattle.takes.specs.Reading.{high_register}
use Rattle.blocks.specs.Orders.{is_arena_order}
use Rattle.takes.specs.Files.{file_number}
use Rattle.common.specs.declared.reasons.Refusal.{Refusal as Reason}
use Rattle.takes.specs.declared.Record.{Record}

-- the bytes of fields one after the other
abbrev pub value_bytes : List Kind → List ℕ → List ℕ
value_bytes [] vs = []
value_bytes (k ∷ ks) [] = []
value_bytes (k ∷ ks) (v ∷ vs) = bytes_of (size k) v ++ value_bytes ks vs

unfoldable pub record_bytes : Record → List ℕ
unfolding bytes_of
record_bytes r = length_of (operation r) ∷ operation r ∷ value_bytes (kinds_of (operation r)) (fields r)

abbrev pub head_bytes : ℕ → List ℕ
head_bytes m = 1 ∷ m ∷ []

unfoldable pub records_bytes : List Record → List ℕ
records_bytes [] = []
records_bytes (r ∷ rs) = record_bytes r ++ records_bytes rs

-- the file of m and some records
abbrev pub file_of : ℕ → List Record → List ℕ
file_of m rs = head_bytes m ++ records_bytes rs

-- A writer's refusal, or 0 with the count of the bytes stored.
pub record Written : Type 0 where
  pub number : ℕ
  pub count : ℕ

-- the code's answer, in those terms
abbrev pub written_of : Result ℕ Reason → Written
written_of (Ok count) = record { number = 0; count = count }
written_of (Err reason) = record { number = number_of reason; count = 0 }

-- What a writer gives: a number, the count of the bytes stored, and the lent slice as it leaves it.
pub record WriteOutcome : Type 0 where
  pub number : ℕ
  pub count : ℕ
  pub slice : List ℕ

abbrev pub write_outcome : Written → List ℕ → WriteOutcome
write_outcome w slice = record { number = w.number; count = w.count; slice = slice }

abbrev pub judged_store : ℕ → List ℕ → List ℕ → WriteOutcome
judged_store n bytes out =
    cond (eqb n 0)
    (record { number = 0; count = length bytes; slice = bytes ++ drop (length bytes) out })
    (record { number = n; count = 0; slice = out })

-- the bytes go to the start of the slice, or, refused, nothing is stored
abbrev pub store : List Refusal → List ℕ → List ℕ → WriteOutcome
store rules bytes out = judged_store (first rules) bytes out

unfoldable pub write_head : ℕ → List ℕ → WriteOutcome
write_head m out = store (2 when not (is_arena_order m) ∷ 9 when ltb (length out) (length (head_bytes m)) ∷ []) (head_bytes m) out

unfoldable pub write_record : Record → List ℕ → WriteOutcome
write_record r out =
    store
    (7 when high_register (kinds_of (operation r)) (fields r) ∷ 9 when ltb (length out) (length (record_bytes r)) ∷ [])
    (record_bytes r)
    out

-- an accepted file, written anew, gives its own bytes
unfoldable pub rewrite_file : List ℕ → List ℕ → WriteOutcome
rewrite_file file out =
    store (file_number file when not (eqb (file_number file) 0) ∷ 9 when ltb (length out) (length file) ∷ []) file out
