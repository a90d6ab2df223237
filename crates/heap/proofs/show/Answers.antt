-- By left's answer for the same p: refused, the part is empty (`shown-refused`), and else left's value is the part's length, and the part lies in the arena
-- (`shown-inside`, `shown-accepted`).
use Rattle.std.proofs.Common.{◌+◌, ◌-◌, ◌≤◌, length, refl, arith}
use Rattle.blocks.specs.Blocks.{base}
use Rattle.common.proofs.Numbers.{some-number}
use Rattle.heap.proofs.Showing.{shown-inside, shown-refused, shown-accepted}
use Rattle.heap.proofs.show.Goals as goal
use Rattle.heap.proofs.show.Goals.{In-Ok}

-- what an accepted left says of the part
inside : (c : In-Ok) → (base ≤ c.args.p) × (c.args.p - base + c.in-Ok.count ≤ length c.args.arena.now)
inside c = shown-inside _ _ c.args.table.now _ c.in-Ok.ensures refl

pub returns-in_default : goal.returns-in_default
returns-in_default c =
    let a = c.args in
    let e = shown-refused a.p a.arena.now a.table.now _ c.in_default.ensures (some-number _) a.arena.ref_ptr.0 a.arena.ref_ptr.1 in
    record { part = e.0; by_left = e.1.0; place = e.1.1 }

pub overflow_sub-at : goal.overflow_sub-at
overflow_sub-at c = (inside c).0

pub slice_bounds-result-end-2 : goal.slice_bounds-result-end-2
slice_bounds-result-end-2 c = omega (arith, (inside c).1)

pub returns : goal.returns
returns c =
    let a = c.args in
    let e = shown-accepted a.p a.arena.now a.table.now _ c.in-Ok.ensures refl a.arena.ref_ptr.0 a.arena.ref_ptr.1 in
    record { part = e.0; by_left = e.1.0; place = e.1.1 }
