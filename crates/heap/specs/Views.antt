-- What a call is judged by. A view is made of a table, and once more of the ledger's pairs; the rules and values are said once, over a view.
use Rattle.std.specs.Prelude.{ℕ, ◌+◌, ◌*◌, ◌^◌, Bool, true, false}
use Rattle.blocks.specs.Blocks.{base, left_in, Referent}
use Rattle.blocks.specs.Pointers.{pointer_referent}
use Rattle.blocks.specs.Orders.{needed_order}
use Rattle.blocks.specs.Placing.{place_in, Place, At, Nothing}

-- the order of a slot in every public call
abbrev pub slot_order : ℕ
slot_order = 4

pub record View : Type 0 where
  -- the order of a slot, and that of the arena
  pub slot : ℕ
  pub order : ℕ
  pub wrong-sizes : Bool
  pub damaged : Bool
  -- slot i is free
  pub free : ℕ → Bool
  -- the block that holds an address, and whether it is locked
  pub referent : ℕ → Referent
  pub locked : ℕ → Bool
  -- the step i from the pointer p stays in p's referent
  pub inside : ℕ → ℕ → Bool

-- the referent ("home") of a pointer, plain or marked
abbrev pub referent_of_pointer : View → ℕ → Referent
referent_of_pointer w p = pointer_referent w.slot w.referent p

-- bytes from p to its referent's end
abbrev pub left_from : View → ℕ → ℕ
left_from w p = left_in (referent_of_pointer w p) p

-- the order that a get of n bytes needs, and the range that it takes
abbrev pub needed_for : ℕ → View → ℕ
needed_for n w = needed_order w.slot w.order n

abbrev pub place_for : ℕ → View → Place
place_for n w = place_in w.free w.slot 0 w.order (needed_for n w)

abbrev pub no_place : Place → Bool
no_place Nothing = true
no_place (At s k) = false

-- the address of a place's first slot, a slot having 2 ^ t bytes
abbrev pub place_address : ℕ → Place → ℕ
place_address t Nothing = 0
place_address t (At s k) = base + s * 2 ^ t

-- the start of the block that a get of n bytes gives
abbrev pub start_for : ℕ → View → ℕ
start_for n w = place_address w.slot (place_for n w)
