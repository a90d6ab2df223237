-- The invariant: what is still to be tried gives what the whole search gives.
use Rattle.std.proofs.Common.{◌≡◌, ◌-◌}
use Rattle.blocks.specs.Orders.{needed_from, needed_order}
use Rattle.blocks.proofs.needed_order.Given as goal

abbrev pub invariant-loop-e : goal.invariant-loop-e
invariant-loop-e l = needed_order l.t l.m l.n ≡ needed_from l.n (l.m - l.e) l.e
