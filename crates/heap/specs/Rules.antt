-- Document 01, "Refused by the input" and "Refused by the state", with requests 6 to 8 and 10 of document 02: the refusals of each call, in the order in which
-- they are judged.
use Rattle.std.specs.Prelude.{ℕ, ◌*◌, ◌^◌, Bool, false, not, ◌||◌, ltb, leb, List, [], ◌∷◌, ◌++◌, ◌==◌, nat_le, nat_lt}
use Rattle.common.specs.Refusals.{Refusal, ◌when◌}
use Rattle.blocks.specs.Blocks.{missing, Referent, Missing, Found}
use Rattle.blocks.specs.Pointers.{marked, address, sought, outside_at, exact_sum, in_reach}
use Rattle.heap.specs.Views.{View, referent_of_pointer, left_from, place_for, no_place}
use Rattle.heap.specs.declared.Call.{Call}
use Rattle.heap.specs.declared.Call.TheVariants.{Get, Give, Step, Read, Write, Left, Copy, Fill, SetLock, Grid}

abbrev pub bad_width : ℕ → Bool
bad_width k = not (k == 1 || (k == 2 || k == 4))

-- By the arguments alone, in an arena of 2 ^ m bytes: n of a get, the width k, v too large for its width, a place outside its grid.
unfoldable pub argument_rules : ℕ → Call → List Refusal
argument_rules m (Get n) = 10 when (n == 0 || nat_lt (2 ^ m) n) ∷ []
argument_rules m (Give p) = []
argument_rules m (Step p i) = []
argument_rules m (Read p k) = 11 when bad_width k ∷ []
argument_rules m (Write p k v) = 11 when bad_width k ∷ 12 when leb (256 ^ k) v ∷ []
argument_rules m (Left p) = []
argument_rules m (Copy p q n) = []
argument_rules m (Fill p v n) = []
argument_rules m (SetLock p l) = []
argument_rules m (Grid p rows columns row column) = 30 when (nat_le rows row || nat_le columns column) ∷ []

-- a pointer's referent is sought outside the arena
abbrev pub outside_arena : View → ℕ → Bool
outside_arena w p = outside_at w.order (sought w.slot p)

-- it has no referent
abbrev pub dead : View → ℕ → Bool
dead w p = missing (referent_of_pointer w p)

-- What refuses a pointer by the state, in every call that needs its referent: it is sought outside the arena, else at a free slot.
abbrev pub home_rules : View → ℕ → List Refusal
home_rules w p = 27 when outside_arena w p ∷ 22 when dead w p ∷ []

-- In every call but step it must be plain as well. That is judged after these two, so only a marked pointer that has a referent is refused for its mark.
abbrev pub plain_rules : View → ℕ → List Refusal
plain_rules w p = home_rules w p ++ (13 when marked p ∷ [])

-- of a copy's two pointers: one is enough, whichever it is, so the number decides and not the pointer
abbrev pub both_plain : View → ℕ → ℕ → List Refusal
both_plain w p q = 27 when (outside_arena w p || outside_arena w q) ∷ 22 when (dead w p || dead w q) ∷ 13 when (marked p || marked q) ∷ []

abbrev pub not_start : Referent → ℕ → Bool
not_start Missing p = false
not_start (Found s e) p = not (s == p)

-- the step leaves the referent and its reach
abbrev pub beyond : View → ℕ → ℕ → Bool
beyond w p i = not (w.inside p i || in_reach w.slot (referent_of_pointer w p) (exact_sum (address p) i))

-- What refuses a call that stores into p's block, be it no byte at all, or gives it back: it is locked. This is judged last, so p is plain and has a referent.
abbrev pub lock_rules : View → ℕ → List Refusal
lock_rules w p = 28 when w.locked p ∷ []

-- By the state: no place, no referent, a marked pointer, not a block's start, beyond the reach, past the referent's end, a locked block (21, 27, 22, 13, 23,
-- 24, 25, 28).
unfoldable pub state_rules : Call → View → List Refusal
state_rules (Get n) w = 21 when no_place (place_for n w) ∷ []
state_rules (Give p) w = plain_rules w p ++ (23 when not_start (referent_of_pointer w p) p ∷ lock_rules w p)
state_rules (Step p i) w = home_rules w p ++ (24 when beyond w p i ∷ [])
state_rules (Read p k) w = plain_rules w p ++ (25 when ltb (left_from w p) k ∷ [])
state_rules (Write p k v) w = plain_rules w p ++ (25 when ltb (left_from w p) k ∷ lock_rules w p)
state_rules (Left p) w = plain_rules w p
state_rules (Copy p q n) w = both_plain w p q ++ lock_rules w p
state_rules (Fill p v n) w = plain_rules w p ++ lock_rules w p
state_rules (SetLock p l) w = plain_rules w p
state_rules (Grid p rows columns row column) w = plain_rules w p ++ (25 when ltb (left_from w p) (rows * columns) ∷ [])

-- All of them: 8, the arguments' (10 to 12, 30), 20, the state's.
unfoldable pub rules : Call → View → List Refusal
rules c w = 8 when w.wrong-sizes ∷ (argument_rules w.order c ++ (20 when w.damaged ∷ state_rules c w))

-- Of check and show, which are in no list of calls: 8, 20, 27, 22, 13, which are left's too (`address-left` in heap/proofs).
unfoldable pub address_rules : View → ℕ → List Refusal
address_rules w p = 8 when w.wrong-sizes ∷ 20 when w.damaged ∷ plain_rules w p
