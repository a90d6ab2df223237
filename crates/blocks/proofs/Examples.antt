-- The definitions computed on small tables: an arena of 64 bytes, 4 slots of 16. To unfold `damage` or `placed` is to unfold all that it computes with.
use Rattle.std.proofs.Common.{◌≡◌, ℕ, Bool, true, false, List, [], ◌∷◌, pos, negsuc, refl}
use Rattle.blocks.specs.Blocks.{floor, Missing, Found}
use Rattle.blocks.specs.Tables.{any, entry_order, torn, bad, damaged_by, free_in, locked_in, referent_in}
use Rattle.blocks.specs.Sets.{Pair, referent_of, locked_of, entries_from, table_of, pairs_from, pairs_of}
use Rattle.blocks.specs.Pointers.{sought, signed, exact_sum}
use Rattle.blocks.specs.Orders.{order_of, needed_order}
use Rattle.blocks.specs.Placing.{all_free, range_start, free_range, maximal, lowest, at_order, from_order, place_in, Place, At, Nothing}
use Rattle.blocks.proofs.Parting.{even-undamaged}

damage : List ℕ → Bool
unfolding any entry_order torn bad damaged_by floor
damage s = damaged_by 4 6 s

-- a block of two slots, a free slot and a block of one
whole : damage (5 ∷ 5 ∷ 0 ∷ 4 ∷ []) ≡ false
unfolding damage
whole = refl

-- two slots that are no aligned range
askew : damage (0 ∷ 5 ∷ 5 ∷ 0 ∷ []) ≡ true
unfolding damage
askew = refl

overwritten : damage (6 ∷ 6 ∷ 6 ∷ 0 ∷ []) ≡ true
unfolding damage
overwritten = refl

too-low : damage (0 ∷ 0 ∷ 3 ∷ 0 ∷ []) ≡ true
unfolding damage
too-low = refl

too-high : damage (7 ∷ 7 ∷ 7 ∷ 7 ∷ []) ≡ true
unfolding damage
too-high = refl

-- a locked block of one slot beside one that is not
locked : damage (133 ∷ 133 ∷ 132 ∷ 4 ∷ []) ≡ false
unfolding damage
locked = refl

-- a row of blocks of two slots, by the theorem on even rows
even-row : damaged_by 4 8 (5 ∷ 5 ∷ 5 ∷ 5 ∷ 5 ∷ 5 ∷ 5 ∷ 5 ∷ 5 ∷ 5 ∷ 5 ∷ 5 ∷ 5 ∷ 5 ∷ 5 ∷ 5 ∷ []) ≡ false
unfolding entry_order all_free
even-row = even-undamaged 4 5 (5 ∷ 5 ∷ 5 ∷ 5 ∷ 5 ∷ 5 ∷ 5 ∷ 5 ∷ 5 ∷ 5 ∷ 5 ∷ 5 ∷ 5 ∷ 5 ∷ 5 ∷ 5 ∷ []) refl refl refl

-- a block one of whose slots is not locked
half-locked : damage (133 ∷ 5 ∷ 0 ∷ 0 ∷ []) ≡ true
unfolding damage
half-locked = refl

-- the bit alone, with an order below that of a slot, and with one above that of the arena
no-orders : (damage (0 ∷ 128 ∷ 0 ∷ 0 ∷ []) ≡ true) × (damage (0 ∷ 131 ∷ 0 ∷ 0 ∷ []) ≡ true) × (damage (135 ∷ 135 ∷ 135 ∷ 135 ∷ []) ≡ true)
unfolding damage
no-orders = (refl, refl, refl)

one : Pair
one = record { block = record { start = 65584; order = 4 }; locked = true }

wide : Pair
wide = record { block = record { start = 65536; order = 5 }; locked = false }

table-of-two : table_of 4 6 (one ∷ wide ∷ []) ≡ 5 ∷ 5 ∷ 0 ∷ 132 ∷ []
unfolding one wide table_of entries_from referent_of locked_of
table-of-two = refl

read_back : pairs_of 4 (5 ∷ 5 ∷ 0 ∷ 132 ∷ []) ≡ wide ∷ one ∷ []
unfolding one wide entry_order pairs_from
read_back = refl

in_block : referent_in 4 (5 ∷ 5 ∷ 0 ∷ 4 ∷ []) 65560 ≡ Found 65536 5
unfolding entry_order referent_in floor
in_block = refl

in-locked-block : (referent_in 4 (133 ∷ 133 ∷ 0 ∷ 4 ∷ []) 65560 ≡ Found 65536 5) × (locked_in 4 (133 ∷ 133 ∷ 0 ∷ 4 ∷ []) 65560 ≡ true)
unfolding entry_order referent_in locked_in floor
in-locked-block = (refl, refl)

in-free-slot : referent_in 4 (5 ∷ 5 ∷ 0 ∷ 4 ∷ []) 65568 ≡ Missing
unfolding entry_order referent_in floor
in-free-slot = refl

-- eight before the arena leads up, eight past a block's end down, and an address below 16 to a negative one
upwards : sought 4 2147549176 ≡ pos 65544
unfolding sought
upwards = refl

downwards : sought 4 2147549223 ≡ pos 65559
unfolding sought
downwards = refl

negative : sought 4 2147483655 ≡ negsuc 8
unfolding sought
negative = refl

back_one : exact_sum 65568 4294967295 ≡ pos 65567
unfolding signed
back_one = refl

placed : List ℕ → ℕ → Place
unfolding place_in from_order at_order lowest maximal free_range range_start all_free
placed s e = place_in (free_in s) 4 0 6 e

smallest : placed (0 ∷ 0 ∷ 4 ∷ 0 ∷ []) 4 ≡ At 3 4
unfolding placed
smallest = refl

next : placed (0 ∷ 0 ∷ 4 ∷ 0 ∷ []) 5 ≡ At 0 5
unfolding placed
next = refl

no-place : placed (0 ∷ 0 ∷ 4 ∷ 0 ∷ []) 6 ≡ Nothing
unfolding placed
no-place = refl

-- free neighbours that are not halves of one range are not joined
no-halves : placed (4 ∷ 0 ∷ 0 ∷ 4 ∷ []) 5 ≡ Nothing
unfolding placed
no-halves = refl

orders : (order_of 32 ≡ 5) × (order_of 65536 ≡ 16) × (order_of 48 ≡ 0) × (needed_order 4 6 1 ≡ 4) × (needed_order 4 6 17 ≡ 5) × (needed_order 4 6 64 ≡ 6)
unfolding order_of needed_order
orders = (refl, refl, refl, refl, refl, refl)
