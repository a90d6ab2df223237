-- What the parts of the code say to each other of the address that is sought, the damage scan and the search by halves. Document 01 has none of it:
-- the functions `referent_in`, `damaged` and `find_place` promise the definitions `referent_in`, `damaged_by` and `place_in`. Where `all_free` is given
-- another test than that of free slots, it says that all of the slots pass it.
use Rattle.std.specs.Prelude.{◌≡◌, ℕ, zero, suc, ◌+◌, ◌-◌, ◌*◌, ◌/◌, ◌%◌, ◌^◌, ◌<◌, ◌≤◌, Bool, false, cond, not, ◌&&◌, ◌||◌, List, length, ℤ, pos}
use Rattle.std.specs.Prelude.{negsuc, ◌==◌, nat_le, slice_index}
use Rattle.blocks.specs.Tables.{entry_order, damaged_by, free_in}
use Rattle.blocks.specs.Placing.{all_free, place_in, Place, At, Nothing}

-- ---- the address that is sought
-- How the code holds an exact address that may be negative: as 0 where it is, which lies below the arena like it.
abbrev pub from_zero : ℤ → ℕ
from_zero (pos q) = q
from_zero (negsuc n) = 0

-- ---- the scan
-- slot i has the entry x
abbrev pub has_entry : List ℕ → ℕ → ℕ → Bool
has_entry s x i = slice_index s i == x

-- r tells of the n first slots whether they pass the test that `post` computes of an entry
abbrev pub Tells : (ℕ → Bool → Type 0) → List ℕ → ℕ → Bool → Type 0
Tells post s n r =
    (test : ℕ → Bool) → ((x : ℕ) (b : Bool) → x < 256 → post x b → b ≡ test x) → r ≡ all_free (λ i. test (slice_index s i)) 0 n

-- the entry x speaks of its slot alone: the slot is free, or a block
unfoldable pub single : ℕ → ℕ → Bool
single t x = x == 0 || entry_order x == t

-- the entry x can stand in the table of an arena of order m: it is that of a free slot, or says an order from t to m
abbrev pub stands : (t m x : ℕ) → Bool
stands t m x = x == 0 || (nat_le t (entry_order x) && nat_le (entry_order x) m)

-- a block with the entry x can begin, or end, before slot k
abbrev pub can_part : (t x k : ℕ) → Bool
can_part t x k = k % 2 ^ (entry_order x - t) == 0

-- slot k parts well from the slot before it, where there is one: it has its entry, or the blocks of both can part here; and its own entry can stand there
abbrev pub parts_well : (t m : ℕ) → List ℕ → ℕ → Bool
parts_well t m s k =
    (k == 0 || (slice_index s k == slice_index s (k - 1) || (can_part t (slice_index s k) k && can_part t (slice_index s (k - 1)) k)))
    && stands t m (slice_index s k)

-- ---- the search
-- slot i is free, or, where `free` is false, taken
abbrev pub as_free : List ℕ → Bool → ℕ → Bool
as_free s free i = cond free (free_in s i) (not (free_in s i))

-- the n slots from i on as a number: bit k is 1 where slot i + k is free
unfoldable pub bits_of : (ℕ → Bool) → (i n : ℕ) → ℕ
bits_of f i zero = 0
bits_of f i (suc n) = cond (f i) 1 0 + 2 * bits_of f (suc i) n

-- a place as a number, the smaller the better the place is: by its order, and of equals by its slot; no place is worse than any
unfoldable pub key_of : Place → ℕ
key_of Nothing = 1114112
key_of (At s k) = k * 65536 + s

-- the place that a key tells
abbrev pub place_at : ℕ → Place
place_at n = cond (n == 1114112) Nothing (At (n % 65536) (n / 65536))

-- r answers for the part of order k at the slot `from`, whatever the slots outside it are: the part's free ones are the bits, and it is not all free
abbrev pub SearchedBits : (t bits from k e r : ℕ) → Type 0
SearchedBits t bits from k e r =
    (f : ℕ → Bool) → bits ≡ bits_of f from (2 ^ (k - t)) → all_free f from (2 ^ (k - t)) ≡ false → r ≡ key_of (place_in f t from k e)

-- what the bits alone decide of it: none is free, all are, or it has the order that is sought; else 0, and its halves have to be looked at
abbrev pub decided_by : (t bits from k e : ℕ) → ℕ
decided_by t bits from k e =
    cond (bits == 0) 1114112 (cond (bits == 2 ^ 2 ^ (k - t) - 1) (k * 65536 + from) (cond (k == e) 1114112 0))

-- the list p is the part of order k, at the slot `from`, of the undamaged table s of an arena, and one that halving the arena gives
pub record PartOf (t : ℕ) (s : List ℕ) (from k : ℕ) (p : List ℕ) : Type 0 where
  pub top : ℕ
  pub slots : length s ≡ 2 ^ (top - t)
  pub whole : damaged_by t top s ≡ false
  pub high : k ≤ top
  pub index : ℕ
  pub place : from ≡ index * 2 ^ (k - t)
  pub inside : from + 2 ^ (k - t) ≤ length s
  pub entries : (i : ℕ) → i < 2 ^ (k - t) → slice_index p i ≡ slice_index s (from + i)

-- r answers for it, in whatever table it is
abbrev pub SearchedPart : ℕ → List ℕ → (from k e r : ℕ) → Type 0
SearchedPart t p from k e r = (s : List ℕ) → PartOf t s from k p → r ≡ key_of (place_in (free_in s) t from k e)
