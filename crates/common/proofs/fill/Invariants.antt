-- The invariant: each element passed so far is v.
use Rattle.std.proofs.Common.{◌≡◌, replicate, take}
use Rattle.common.proofs.fill.Given as goal

abbrev pub invariant-loop-x : goal.invariant-loop-x
invariant-loop-x l = take l.x-index l.x-items ≡ replicate l.x-index l.v
