-- Document 01, "Placing a block", over an arbitrary test `f i`: slot i is free. A slot has 2 ^ t bytes. An arena of order m has 2 ^ m bytes,
-- so 2 ^ (m - t) slots, and begins at the slot `from`: a half of an arena is again one.
use Rattle.std.specs.Prelude.{ℕ, zero, suc, ◌+◌, ◌-◌, ◌*◌, ◌/◌, ◌^◌, Bool, true, cond, not, ◌&&◌, ◌||◌, ◌==◌, Option, Some, None}
use Rattle.blocks.specs.declared.Place.{Place as FoundPlace}

-- a free range, by its first slot and its order, or none
pub data Place : Type 0 where
  At : (slot order : ℕ) → Place
  Nothing : Place

-- how the code says it
abbrev pub as_place : Option FoundPlace → Place
as_place None = Nothing
as_place (Some p) = At p.slot p.order

-- the n slots from i on are all free
unfoldable pub all_free : (ℕ → Bool) → ℕ → ℕ → Bool
all_free f i zero = true
all_free f i (suc n) = f i && all_free f (suc i) n

-- The ranges of order k in an arena are numbered from its start: 0, 1, .., 2 ^ (m - k) - 1. The slot at which range b begins:
unfoldable pub range_start : (t from k b : ℕ) → ℕ
range_start t from k b = from + b * 2 ^ (k - t)

-- range b of order k is free
unfoldable pub free_range : (ℕ → Bool) → (t from k b : ℕ) → Bool
free_range f t from k b = all_free f (range_start t from k b) (2 ^ (k - t))

-- it is the whole arena, or the range of order k + 1 round it is not free
unfoldable pub maximal : (ℕ → Bool) → (t from m k b : ℕ) → Bool
maximal f t from m k b = k == m || not (free_range f t from (suc k) (b / 2))

-- an answer, or another where it is none
abbrev pub or_else : Place → Place → Place
or_else Nothing y = y
or_else (At s k) y = At s k

-- of the n ranges of order k from number b on, the first that passes p; range b begins at the slot s b
unfoldable pub lowest : (ℕ → Bool) → (ℕ → ℕ) → (k b n : ℕ) → Place
lowest p s k b zero = Nothing
lowest p s k b (suc n) = cond (p b) (At (s b) k) (lowest p s k (suc b) n)

-- the lowest range of order k that is free and maximal
unfoldable pub at_order : (ℕ → Bool) → (t from m k : ℕ) → Place
at_order f t from m k =
    lowest (λ b. free_range f t from k b && maximal f t from m k b) (range_start t from k) k 0 (2 ^ (m - k))

-- that of the first order that has one, of the n orders from k up
unfoldable pub from_order : (ℕ → Bool) → (t from m k n : ℕ) → Place
from_order f t from m k zero = Nothing
from_order f t from m k (suc n) = or_else (at_order f t from m k) (from_order f t from m (suc k) n)

-- The place for a block of order e: the maximal free range of the smallest order at least e, of equals the lowest.
unfoldable pub place_in : (ℕ → Bool) → (t from m e : ℕ) → Place
place_in f t from m e = from_order f t from m e (suc m - e)
