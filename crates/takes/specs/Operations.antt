-- The take's operation table: the number of each operation and the kinds of its fields, in the file's order.
use Rattle.std.specs.Prelude.{ℕ, ◌+◌, Bool, false, cond, ◌||◌, List, [], ◌∷◌, eqb}
-- a register byte, a plain byte, or a big-endian number of two bytes or of four
pub use Rattle.takes.specs.declared.table.Kind.{Kind}
pub use Rattle.takes.specs.declared.table.Kind.TheVariants.{Register as register, Byte as byte, Half as half, Word as word}

pub data Row : Type 0 where
  ◌has◌ : ℕ → List Kind → Row

infix 80 ◌has◌
abbrev pub operations : List Row
operations =
    -- get d n
    1 has (register ∷ word ∷ [])
    -- give a
    ∷ 2 has (register ∷ [])
    -- step d a i
    ∷ 3 has (register ∷ register ∷ word ∷ [])
    -- read d a w
    ∷ 4 has (register ∷ register ∷ byte ∷ [])
    -- write a w v
    ∷ 5 has (register ∷ byte ∷ word ∷ [])
    -- left d a
    ∷ 6 has (register ∷ register ∷ [])
    -- copy d a b n
    ∷ 7 has (register ∷ register ∷ register ∷ word ∷ [])
    -- fill d a v n
    ∷ 8 has (register ∷ register ∷ byte ∷ word ∷ [])
    -- lock a
    ∷ 9 has (register ∷ [])
    -- unlock a
    ∷ 10 has (register ∷ [])
    -- again d k
    ∷ 11 has (register ∷ half ∷ [])
    -- set d n
    ∷ 12 has (register ∷ word ∷ [])
    -- grid d a rows columns row column
    ∷ 13 has (register ∷ register ∷ byte ∷ byte ∷ byte ∷ byte ∷ [])
    ∷ []

abbrev pub known_in : List Row → ℕ → Bool
known_in [] op = false
known_in ((n has ks) ∷ rows) op = eqb n op || known_in rows op

abbrev pub kinds_in : List Row → ℕ → List Kind
kinds_in [] op = []
kinds_in ((n has ks) ∷ rows) op = cond (eqb n op) ks (kinds_in rows op)

-- whether the table has the operation
unfoldable pub known : ℕ → Bool
known op = known_in operations op

-- the kinds of its fields
unfoldable pub kinds_of : ℕ → List Kind
kinds_of op = kinds_in operations op

-- the bytes that a field takes
abbrev pub size : Kind → ℕ
size register = 1
size byte = 1
size half = 2
size word = 4

abbrev pub sizes : List Kind → ℕ
sizes [] = 0
sizes (k ∷ ks) = size k + sizes ks

-- a record's length byte: the operation byte and the fields
abbrev pub length_of : ℕ → ℕ
length_of op = 1 + sizes (kinds_of op)
