-- Document 01, "A take": the sixteen registers.
use Rattle.std.specs.Prelude.{ℕ, cond, List, replicate, nat_lt, slice_index, slice_set}
use Rattle.std.proofs.Math.Option.{Option, none, some}

abbrev pub register_count : ℕ
register_count = 16

-- all 0 at first
abbrev pub registers_at_first : List ℕ
registers_at_first = replicate register_count 0

-- what register a holds
abbrev pub held : List ℕ → ℕ → ℕ
held rs a = slice_index rs a

-- a value put in the register that is named, if one is
abbrev pub put_where : Option ℕ → ℕ → List ℕ → List ℕ
put_where none v rs = rs
put_where (some d) v rs = slice_set rs d v

-- What putting one value into a lent set of registers returns and leaves: refused 7 where there is no register d, and nothing is changed.
pub record Put : Type 0 where
  pub number : ℕ
  pub registers : List ℕ

abbrev pub put_to : ℕ → List ℕ → Put
put_to n rs = record { number = n; registers = rs }

abbrev pub put_number : ℕ → ℕ
put_number d = cond (nat_lt d register_count) 0 7

unfoldable pub put_in : ℕ → ℕ → List ℕ → Put
put_in d v rs = record { number = put_number d; registers = cond (nat_lt d register_count) (slice_set rs d v) rs }
