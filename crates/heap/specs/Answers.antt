-- Document 01, "A take": answers as bytes, five for each.
use Rattle.std.specs.Prelude.{ℕ, ◌%◌, List, [], ◌∷◌, ◌++◌, Result, Ok, Err}
use Rattle.common.specs.declared.reasons.Refusal.{Refusal}
use Rattle.common.specs.Bytes.{bytes_of}
use Rattle.common.specs.Numbers.{number_of}
use Rattle.heap.specs.declared.Answer.{Answer}

-- the answer of a call, by what its code returns: the number of the refusal, 0 for none, and the value
abbrev pub answer_of : Result ℕ Refusal → Answer
answer_of (Ok v) = record { number = 0; value = v }
answer_of (Err reason) = record { number = number_of reason; value = 0 }

abbrev pub answer_length : ℕ
answer_length = 5

-- number, then value big-endian; every number is below 256
abbrev pub answer_bytes : Answer → List ℕ
answer_bytes x = x.number % 256 ∷ bytes_of 4 x.value

-- those of a list, one after the other
unfoldable pub answers_bytes : List Answer → List ℕ
answers_bytes [] = []
answers_bytes (x ∷ xs) = answer_bytes x ++ answers_bytes xs
