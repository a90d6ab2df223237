-- Bytes in a list: big-endian numbers, and a part of the list written over.
use Rattle.std.specs.Prelude.{ℕ, zero, suc, ◌+◌, ◌*◌, ◌/◌, ◌%◌, List, [], ◌∷◌, ◌++◌, length, get_or, take, drop}

-- the w bytes from `at` on, as an unsigned big-endian number
unfoldable pub big_endian : List ℕ → ℕ → ℕ → ℕ
big_endian l at zero = 0
big_endian l at (suc w) = big_endian l at w * 256 + get_or l (at + w) 0

-- the w lowest bytes of v, the highest of them first
unfoldable pub bytes_of : ℕ → ℕ → List ℕ
bytes_of zero v = []
bytes_of (suc w) v = bytes_of w (v / 256) ++ (v % 256 ∷ [])

-- l with the elements from `at` on replaced by those of xs; all others stay
unfoldable pub over : List ℕ → ℕ → List ℕ → List ℕ
over l at xs = take at l ++ (xs ++ drop (at + length xs) l)

-- l with c elements of src, from its place `from` on (all that it has, if they are fewer), in the places from `to` on. Where src is l itself, they are what
-- stood there before, whichever way the two ranges overlap.
unfoldable pub copied : List ℕ → ℕ → List ℕ → ℕ → ℕ → List ℕ
copied l to src from c = over l to (take c (drop from src))
