-- The invariant: what is still to be tried gives what the whole search gives.
use Rattle.std.proofs.Common.{◌≡◌, ◌-◌}
use Rattle.blocks.specs.Orders.{order_from, order_of}
use Rattle.blocks.proofs.order_of.Given as goal

abbrev pub invariant-loop-m : goal.invariant-loop-m
invariant-loop-m l = order_of l.len ≡ order_from l.len (17 - l.m) l.m
