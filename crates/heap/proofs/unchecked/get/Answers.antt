-- With no place the call is refused (`get_none`). A place is a free range of at least the order that is needed, so the block's entries and its cleared
-- bytes lie in the table and the arena (`get-slots`, `get-bytes`), and what is stored and answered is the call's outcome (`get-done`).
use Rattle.std.proofs.Common.{◌≡◌, ◌+◌, ◌*◌, ◌^◌, ◌≤◌, length, sym, ap, ◌∙◌, arith, rules}
use Rattle.blocks.specs.Placing.{place_in, At, as_place}
use Rattle.blocks.specs.Tables.{free_in}
use Rattle.blocks.proofs.Orders.{Needed}
use Rattle.heap.proofs.Placing.{needed, needed-top, get_none, get-slots, get-bytes, get-done}
use Rattle.heap.proofs.unchecked.get.Goals as goal
use Rattle.heap.proofs.unchecked.get.Goals.{After-needed_order-e, In_ok-place}

order-needed : (c : After-needed_order-e) → Needed c.args.t c.args.m c.args.n c.needed_order-e.result
order-needed c = needed c.requires c.needed_order-e.ensures

order-top : (c : After-needed_order-e) → c.needed_order-e.result ≤ 16
order-top c = needed-top c.requires c.needed_order-e.ensures

-- where there is a place
found : (c : In_ok-place) → let p = c.in_ok-place.place in At p.slot p.order ≡ place_in (free_in c.args.table.now) c.args.t 0 c.args.m c.needed_order-e.result
found c = sym (ap as_place c.in_ok-place.ensures.ok_part) ∙ c.find_place.ensures

-- the bytes of its block
bytes : (c : In_ok-place) → let n = length c.args.arena.now in
    (c.in_ok-place.place.slot * 2 ^ c.args.t + 2 ^ c.needed_order-e.result ≤ n) × (n ≤ 2 ^ 16)
bytes c = get-bytes c.requires c.needed_order-e.ensures (found c)

pub find_place-requires : goal.find_place-requires
find_place-requires c =
    let s = c.requires.sound in
    let n = order-needed c in
    (s.slot-low, n.low, n.high, s.high, s.slots, s.whole)

pub returns-in_err-place : goal.returns-in_err-place
returns-in_err-place c =
    let h = get_none c.requires c.needed_order-e.ensures (sym (ap as_place c.in_err-place.ensures.ok_part) ∙ c.find_place.ensures) in
    search rules

pub slots_of-requires : goal.slots_of-requires
slots_of-requires c = let n = (goal.at.slots_of-requires c).After-needed_order-e in ((order-needed n).low, order-top n)

pub entry_of-requires : goal.entry_of-requires
entry_of-requires c = order-top (goal.at.entry_of-requires c).After-needed_order-e

pub fill-requires : goal.fill-requires
fill-requires c =
    omega (arith, get-slots c.requires c.needed_order-e.ensures (found (goal.at.fill-requires c).In_ok-place), c.slots_of.ensures)

pub overflow_mul-at : goal.overflow_mul-at
overflow_mul-at c = record { fits = rw c.size_of.ensures (omega (arith, bytes (goal.at.overflow_mul-at c).In_ok-place)) }

pub size_of-requires-2 : goal.size_of-requires-2
size_of-requires-2 c = order-top (goal.at.size_of-requires-2 c).After-needed_order-e

pub fill-requires-2 : goal.fill-requires-2
fill-requires-2 c = rw (c.size_of.ensures, c.size_of-2.ensures) (bytes (goal.at.fill-requires-2 c).In_ok-place).0

pub overflow_cast-result : goal.overflow_cast-result
overflow_cast-result c = record { fits = rw c.size_of.ensures (omega (arith, bytes (goal.at.overflow_cast-result c).In_ok-place)) }

pub overflow_add-result : goal.overflow_add-result
overflow_add-result c = record { fits = rw c.size_of.ensures (omega (arith, bytes (goal.at.overflow_add-result c).In_ok-place)) }

pub returns : goal.returns
returns c =
    let h = found (goal.at.returns c).In_ok-place in
    let cleared = rw (c.size_of.ensures, c.size_of-2.ensures) at c.fill-2.ensures in
    let entered = rw (c.slots_of.ensures, c.entry_of.ensures) at c.fill.ensures in
    rw c.size_of.ensures (get-done c.requires c.needed_order-e.ensures h cleared entered)
