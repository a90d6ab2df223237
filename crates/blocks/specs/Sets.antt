-- Sets of aligned blocks that don't overlap, each locked or not (request 7 of document 02), the one table of each, and the set that an undamaged table
-- stands for.
use Rattle.std.specs.Prelude.{◌≡◌, ℕ, zero, suc, ◌+◌, ◌-◌, ◌*◌, ◌%◌, ◌^◌, Bool, true, false, cond, not, ◌&&◌, List, [], ◌∷◌, length, ◌==◌, slice_index}
use mathlib.Core.List.{Memᴰ}
use Rattle.blocks.specs.Blocks.{base, Block, holds, Aligned, order_in, Referent, Missing, Found}
use Rattle.blocks.specs.Tables.{entry_order, entry_locked, entry_of, damaged_by}

-- a block of a set, and whether it is locked
pub record Pair : Type 0 where
  pub block : Block
  pub locked : Bool

-- the blocks alone
abbrev pub ranges : List Pair → List Block
ranges [] = []
ranges (p ∷ ps) = p.block ∷ ranges ps

-- A set is given by a list of its members. Two lists are the same set if they have the same members.
abbrev pub SameSet : List Pair → List Pair → Type 0
SameSet ps rs = ((p : Pair) → Memᴰ p ps → Memᴰ p rs) × ((p : Pair) → Memᴰ p rs → Memᴰ p ps)

-- aligned blocks of the arena, no two of which share an address
pub record PairSet (t m : ℕ) (ps : List Pair) : Type 0 where
  pub aligned : (p : Pair) → Memᴰ p ps → Aligned t m p.block
  pub apart : (p r : Pair) → Memᴰ p ps → Memᴰ r ps → (q : ℕ) → holds p.block q ≡ true → holds r.block q ≡ true → p ≡ r

-- the block that holds the address q
unfoldable pub referent_of : List Block → ℕ → Referent
referent_of [] q = Missing
referent_of (b ∷ bs) q = cond (holds b q) (Found b.start b.order) (referent_of bs q)

-- whether it is locked
unfoldable pub locked_of : List Pair → ℕ → Bool
locked_of [] q = false
locked_of (p ∷ ps) q = cond (holds p.block q) p.locked (locked_of ps q)

-- the entry of the slot at the address a: that of the block which holds it, 0 where none does
abbrev pub entry_at : List Pair → ℕ → ℕ
entry_at ps a = entry_of (order_in (referent_of (ranges ps) a)) (locked_of ps a)

-- the entries of k slots of 2 ^ t bytes, from the address a on
unfoldable pub entries_from : ℕ → List Pair → ℕ → ℕ → List ℕ
entries_from t ps a zero = []
entries_from t ps a (suc k) = entry_at ps a ∷ entries_from t ps (a + 2 ^ t) k

-- the table of a set of blocks
unfoldable pub table_of : ℕ → ℕ → List Pair → List ℕ
table_of t m ps = entries_from t ps base (2 ^ (m - t))

-- the block that the entry x says at slot i, its first
abbrev pub pair_at : ℕ → ℕ → ℕ → Pair
pair_at t i x = record { block = record { start = base + i * 2 ^ t; order = entry_order x }; locked = entry_locked x }

-- the blocks of the slots from i on, each read at its first slot, where the slot's number is a multiple of the block's slots
unfoldable pub pairs_from : ℕ → ℕ → List ℕ → List Pair
pairs_from t i [] = []
pairs_from t i (x ∷ s) =
    cond (not (x == 0) && i % 2 ^ (entry_order x - t) == 0) (pair_at t i x ∷ pairs_from t (suc i) s) (pairs_from t (suc i) s)

-- the set that a table reads back as
abbrev pub pairs_of : ℕ → List ℕ → List Pair
pairs_of t s = pairs_from t 0 s

-- s is a table of the set: each slot of a block has the block's order and lock, and each slot of no block has 0
pub record IsTable (t m : ℕ) (ps : List Pair) (s : List ℕ) : Type 0 where
  pub slots : length s ≡ 2 ^ (m - t)
  pub taken : (p : Pair) → Memᴰ p ps → (i : ℕ) → holds p.block (base + i * 2 ^ t) ≡ true → slice_index s i ≡ entry_of p.block.order p.locked
  pub free : (i : ℕ) → ((p : Pair) → Memᴰ p ps → holds p.block (base + i * 2 ^ t) ≡ false) → slice_index s i ≡ 0

-- Demand 2: every set of aligned blocks that don't overlap has one table, and every undamaged table reads back as that one set.
pub record OneTable (t m : ℕ) : Type 0 where
  pub has-table : (ps : List Pair) → PairSet t m ps → IsTable t m ps (table_of t m ps)
  pub only-table : (ps : List Pair) → PairSet t m ps → (s : List ℕ) → IsTable t m ps s → s ≡ table_of t m ps
  pub undamaged : (ps : List Pair) → PairSet t m ps → damaged_by t m (table_of t m ps) ≡ false
  pub reads-back : (ps : List Pair) → PairSet t m ps → SameSet (pairs_of t (table_of t m ps)) ps
  pub is_set : (s : List ℕ) → length s ≡ 2 ^ (m - t) → damaged_by t m s ≡ false → PairSet t m (pairs_of t s)
  pub is-table : (s : List ℕ) → length s ≡ 2 ^ (m - t) → damaged_by t m s ≡ false → s ≡ table_of t m (pairs_of t s)
