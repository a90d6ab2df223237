-- Answers as bytes, stored one after the other: two stores, the second where the first ends, are one store of both (`over-append`).
use Rattle.std.proofs.Common.{◌≡◌, ℕ, suc, ◌+◌, ◌≤◌, List, [], ◌∷◌, length, sym, ap, ◌∙◌, arith}
use Rattle.common.specs.Bytes.{over}
use Rattle.common.proofs.Bytes.{over_none, over-append, length-bytes_of}
use Rattle.heap.specs.Answers.{answer_length, answer_bytes, answers_bytes}
use Rattle.heap.specs.declared.Answer.{Answer}

pub answers_next : (l : List ℕ) (at : ℕ) (x : Answer) (xs : List Answer) → at + answer_length ≤ length l
    → over (over l at (answer_bytes x)) (at + answer_length) (answers_bytes xs) ≡ over l at (answers_bytes (x ∷ xs))
unfolding answers_bytes
answers_next l at x xs h =
    let n : length (answer_bytes x) ≡ answer_length = ap suc (length-bytes_of 4 x.value) in
    ap (λ (k : ℕ). over (over l at (answer_bytes x)) (at + k) (answers_bytes xs)) (sym n) ∙ over-append l at (answer_bytes x) (answers_bytes xs) (omega arith)

pub answers-none : (l : List ℕ) (at : ℕ) → over l at (answers_bytes []) ≡ l
unfolding answers_bytes
answers-none = over_none
