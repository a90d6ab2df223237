-- How a call is judged: an ordered list of refusals, each a number with the condition under which it applies.
use Rattle.std.specs.Prelude.{ℕ, Bool, false, cond, ◌||◌, List, [], ◌∷◌, eqb}

pub data Refusal : Type 0 where
  ◌when◌ : ℕ → Bool → Refusal

infix 80 ◌when◌
-- the number of the first refusal that applies, 0 where none does
abbrev pub first : List Refusal → ℕ
first [] = 0
first ((n when b) ∷ rs) = cond b n (first rs)

-- one of the numbers passes the test
abbrev pub any_of : (ℕ → Bool) → List ℕ → Bool
any_of f [] = false
any_of f (n ∷ ns) = f n || any_of f ns

-- a number is one of these
abbrev pub is_one_of : List ℕ → ℕ → Bool
is_one_of ns x = any_of (λ n. eqb n x) ns
