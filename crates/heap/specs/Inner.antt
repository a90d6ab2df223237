-- What the parts of a call's code say to each other. Only the contracts of inner functions cite these: no customer's call rests on them, and document 01
-- has none of them.
use Rattle.std.specs.Prelude.{◌≡◌, ℕ, zero, suc, ◌-◌, ◌^◌, ◌<◌, ◌≤◌, true, false, cond, not, List, [], ◌∷◌, length, Result, Ok, Err, ◌==◌, nat_eq}
use Rattle.common.specs.declared.reasons.Refusal.{Refusal}
use Rattle.common.specs.Numbers.{number_of}
use Rattle.common.specs.Refusals.{◌when◌, first}
use Rattle.blocks.specs.declared.Block.{Block}
use Rattle.blocks.specs.Blocks.{base, floor, Referent, Missing, Found}
use Rattle.blocks.specs.Tables.{damaged_by}
use Rattle.blocks.specs.Pointers.{exact_sum, wrapped_sum, check_bits, in_reach}
use Rattle.blocks.specs.Orders.{order_of}
use Rattle.heap.specs.Views.{View, slot_order, referent_of_pointer}
use Rattle.heap.specs.Rules.{argument_rules, home_rules, plain_rules}
use Rattle.heap.specs.Effects.{pointer_at, accepted, refused}
use Rattle.heap.specs.Heaps.{heap_of, wrong_sizes, heap_step, heap_call}
use Rattle.heap.specs.declared.Answer.{Answer}
use Rattle.heap.specs.declared.Call.{Call}

-- the order of a heap with these buffers, 0 where the lengths are not those of one
unfoldable pub heap_order : ℕ → List ℕ → List ℕ → ℕ
heap_order t a tab = let m = order_of (length a) in cond (wrong_sizes t m (heap_of a tab)) 0 m

-- the lengths fit an arena of 2 ^ m bytes in slots of 2 ^ t, and the table is undamaged
pub record Sound (t m : ℕ) (a tab : List ℕ) : Type 0 where
  pub slot-low : 1 ≤ t
  pub slot-high : t ≤ m
  pub low : 5 ≤ m
  pub high : m ≤ 16
  pub size : length a ≡ 2 ^ m
  pub slots : length tab ≡ 2 ^ (m - t)
  pub whole : damaged_by t m tab ≡ false

-- and the call's arguments are in range
pub record Ready (t m : ℕ) (c : Call) (a tab : List ℕ) : Type 0 where
  pub sound : Sound t m a tab
  pub arguments : first (argument_rules m c) ≡ 0

-- a public call that has been judged, the arena's order being m: it is ready, and so it is the call in slots of its order
pub record Judged (c : Call) (a tab : List ℕ) (m : ℕ) : Type 0 where
  pub ready : Ready slot_order m c a tab
  pub same : heap_step slot_order m c (heap_of a tab) ≡ heap_call c (heap_of a tab)

-- the refusal of a call before it is carried out, on a heap of order m, 0 for none: n is the arguments' refusal, 0 for none
abbrev pub before_call : (t m n : ℕ) → List ℕ → ℕ
before_call t m n tab = first (8 when nat_eq m 0 ∷ n when not (n == 0) ∷ 20 when damaged_by t m tab ∷ [])

-- where a pointer leads: to the number that refuses it, or to the block of its referent, by its start and order
pub data Located : Type 0 where
  Refused : ℕ → Located
  Inside : (start order : ℕ) → Located

-- how the code says it
abbrev pub located_of : Result Block Refusal → Located
located_of (Ok block) = Inside block.start block.order
located_of (Err reason) = Refused (number_of reason)

-- by the first of the rules that judge it and its referent (the first case never occurs: a missing referent is refused)
abbrev pub located_by : ℕ → Referent → Located
located_by zero Missing = Refused 0
located_by zero (Found s e) = Inside s e
located_by (suc n) r = Refused (suc n)

abbrev pub located : View → ℕ → Located
located w p = located_by (first (home_rules w p)) (referent_of_pointer w p)

-- the same of a pointer that must be plain
abbrev pub located_plain : View → ℕ → Located
located_plain w p = located_by (first (plain_rules w p)) (referent_of_pointer w p)

-- the number, 0 for a block
abbrev pub number_in : Located → ℕ
number_in (Refused n) = n
number_in (Inside s e) = 0

-- the block of order e at s holds h; q is the address that is stepped from
pub record Holding (t s e h q : ℕ) : Type 0 where
  pub slot-low : 1 ≤ t
  pub slot-high : t ≤ 16
  pub order : e ≤ 16
  pub low : base ≤ s
  pub high : s < 2 ^ 31 - 2 ^ 17
  pub round : s ≡ floor e h
  pub near : q < 2 ^ 31

-- the answer of a step that has a referent
unfoldable pub stepped_in : (t s e h q i : ℕ) → Answer
stepped_in t s e h q i =
    let z = exact_sum q i in
    cond (check_bits e h (wrapped_sum q i)) (accepted (pointer_at true z)) (cond (in_reach t (Found s e) z) (accepted (pointer_at false z)) (refused 24))
