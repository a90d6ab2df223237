-- Each arm is given whether p is marked and which half of its slot it lies in, so `sought` computes; sums and differences stay in 32 bits.
use Rattle.std.proofs.Common.{◌≡◌, ℕ, ◌+◌, ◌-◌, ◌%◌, ◌^◌, ◌<◌, ◌≤◌, true, sym, ap, ◌∙◌, ap₂, arith, pow_pos, pow_mono}
use Rattle.blocks.specs.Pointers.{mark_bit, marked, address}
use Rattle.blocks.specs.Inner.{from_zero}
use Rattle.blocks.proofs.Referents.{sought-plain, sought-up, sought-down, sought-negative}
use Rattle.blocks.proofs.sought_address.Goals as goal
use Rattle.blocks.proofs.sought_address.Goals.{After-size_of, Else-not-is_marked, Else-q-slot}

pub returns-then-not-is_marked : goal.returns-then-not-is_marked
returns-then-not-is_marked c =
    c.address_of-q.ensures
    ∙ sym (ap from_zero (sought-plain _ _ (sym c.is_marked.ensures ∙ c.if-not-is_marked.true)))

-- where p is marked: that it is, and its address
module _ (c : Else-not-is_marked) where
  abbrev t : ℕ
  t = c.args.t

  abbrev pointer : ℕ
  pointer = c.args.p

  abbrev q : ℕ
  q = c.address_of-q.result

  is-marked : marked pointer ≡ true
  is-marked = sym c.is_marked.ensures ∙ c.if-not-is_marked.false

  is_address : q ≡ address pointer
  is_address = c.address_of-q.ensures

  below-mark : q < 2 ^ 31
  below-mark =
      let x : address pointer ≡ pointer - mark_bit = rw is-marked in
      omega (arith, is_address, c.ranges.p.fits)

  slot_small : 2 ^ t ≤ 2 ^ 16
  slot_small = pow_mono {i = t} {j = 16} (omega arith)

-- and the sizes of a slot and of its half
module _ (c : After-size_of) where
  slot_is : c.size_of-slot.result ≡ 2 ^ c.args.t
  slot_is = c.size_of-slot.ensures

  rest-is : c.address_of-q.result % c.size_of-slot.result ≡ address c.args.p % 2 ^ c.args.t
  rest-is = ap₂ ◌%◌ c.address_of-q.ensures slot_is

  half_is : c.size_of.result ≡ 2 ^ (c.args.t - 1)
  half_is = c.size_of.ensures

-- in its lower half
module _ (c : Else-q-slot) where
  in-lower : address c.args.p % 2 ^ c.args.t < 2 ^ (c.args.t - 1)
  in-lower = omega (arith, c.if-q-slot.false, ap₂ ◌%◌ c.address_of-q.ensures c.size_of-slot.ensures, c.size_of.ensures)

pub nonzero_rem-q : goal.nonzero_rem-q
nonzero_rem-q c = rw c.size_of-slot.ensures (pow_pos _)

pub size_of-requires : goal.size_of-requires
size_of-requires c = omega arith

pub overflow_add-result : goal.overflow_add-result
overflow_add-result c =
    omega (
      arith,
      below-mark (goal.at.overflow_add-result c).Else-not-is_marked,
      slot_is (goal.at.overflow_add-result c).After-size_of,
      slot_small
          (goal.at.overflow_add-result c).Else-not-is_marked,
    )

pub returns-then-q-slot : goal.returns-then-q-slot
returns-then-q-slot c =
    ap₂ ◌+◌ (is_address (goal.at.returns-then-q-slot c).Else-not-is_marked) (slot_is (goal.at.returns-then-q-slot c).After-size_of)
    ∙ sym (ap from_zero (sought-up c.args.t c.args.p (is-marked (goal.at.returns-then-q-slot c).Else-not-is_marked)
    (omega (arith, c.if-q-slot.true, rest-is (goal.at.returns-then-q-slot c).After-size_of, half_is (goal.at.returns-then-q-slot c).After-size_of))))

pub returns-then-q-slot-2 : goal.returns-then-q-slot-2
returns-then-q-slot-2 c =
    let low = in-lower (goal.at.returns-then-q-slot-2 c).Else-q-slot in
    sym (ap from_zero (sought-negative c.args.t c.args.p (is-marked (goal.at.returns-then-q-slot-2 c).Else-not-is_marked) low
    (omega (
      arith,
      c.if-q-slot-2.true,
      is_address (goal.at.returns-then-q-slot-2 c).Else-not-is_marked,
      slot_is
          (goal.at.returns-then-q-slot-2 c).After-size_of,
    ))))

pub returns : goal.returns
returns c =
    let low = in-lower (goal.at.returns c).Else-q-slot in
    ap₂ ◌-◌ (is_address (goal.at.returns c).Else-not-is_marked) (slot_is (goal.at.returns c).After-size_of)
    ∙ sym (ap from_zero (sought-down c.args.t c.args.p (is-marked (goal.at.returns c).Else-not-is_marked) low
    (omega (arith, c.if-q-slot-2.false, is_address (goal.at.returns c).Else-not-is_marked, slot_is (goal.at.returns c).After-size_of))))
