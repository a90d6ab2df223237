-- Document 01, "Blocks and their table", with request 7 of document 02: the table of an arena of 2 ^ m bytes with slots of 2 ^ t bytes. An entry is 0 for
-- a free slot, else it says the order e of the block that has the slot, 2 ^ (e - t) slots in all, and whether the block is locked.
use Rattle.std.specs.Prelude.{ℕ, zero, suc, ◌+◌, ◌-◌, ◌/◌, ◌^◌, Bool, false, cond, not, ◌&&◌, ◌||◌, List, length, ◌==◌, nat_le, nat_lt, slice_index}
use Rattle.blocks.specs.Blocks.{base, floor, Referent, Missing, Found}

-- some k below n passes the test
unfoldable pub any : ℕ → (ℕ → Bool) → Bool
any zero test = false
any (suc n) test = test n || any n test

-- the top bit of an entry, which says that the block is locked
abbrev pub lock_bit : ℕ
lock_bit = 128

-- the order that an entry says: its other bits
unfoldable pub entry_order : ℕ → ℕ
entry_order x = cond (nat_le lock_bit x) (x - lock_bit) x

-- whether it says that the block is locked
abbrev pub entry_locked : ℕ → Bool
entry_locked x = nat_le lock_bit x

-- the entry of each slot of a block of order e
abbrev pub entry_of : ℕ → Bool → ℕ
entry_of e locked = cond locked (lock_bit + e) e

-- one of the slots of the aligned range of 2 ^ e bytes round slot i, e being the order that the entry x says, has another entry
unfoldable pub torn : ℕ → List ℕ → ℕ → ℕ → Bool
torn t s i x = let e = entry_order x in any (2 ^ (e - t)) (λ k. not (slice_index s (floor (e - t) i + k) == x))

-- slot i, whose entry is x, shows damage: x is neither 0 nor says an order from t to m, or the range round i is torn
unfoldable pub bad : ℕ → ℕ → List ℕ → ℕ → ℕ → Bool
bad t m s i x = not (x == 0) && (not (nat_le t (entry_order x) && nat_le (entry_order x) m) || torn t s i x)

-- some slot of the table shows damage
unfoldable pub damaged_by : ℕ → ℕ → List ℕ → Bool
damaged_by t m s = any (length s) (λ i. bad t m s i (slice_index s i))

-- slot i is free
abbrev pub free_in : List ℕ → ℕ → Bool
free_in s i = slice_index s i == 0

-- the aligned block round the address q, of the order that the entry of q's slot says; an entry 0 is none
abbrev pub block_round : ℕ → ℕ → Referent
block_round zero q = Missing
block_round (suc x) q = let e = entry_order (suc x) in Found (base + floor e (q - base)) e

-- the block that holds the address q is locked, by the entry of q's slot; past the table's end there is no entry
unfoldable pub locked_in : ℕ → List ℕ → ℕ → Bool
locked_in t s q = nat_le base q && entry_locked (slice_index s ((q - base) / 2 ^ t))

-- the block that holds the address q, by the entry of q's slot and rounding
unfoldable pub referent_in : ℕ → List ℕ → ℕ → Referent
referent_in t s q =
    cond (nat_le base q && nat_lt ((q - base) / 2 ^ t) (length s)) (block_round (slice_index s ((q - base) / 2 ^ t)) q) Missing
