-- The loop's invariant (`Rewriting`): up to the place the slice has the file's bytes, behind it what was there. A refused file and a slice that is too short
-- are told before the loop; each turn writes the record that was read, whose bytes are the file's.
use Prim.Native.Nat.{◌-◌}
use lib.ListN.{length}
use Rattle.takes.proofs.Rewriting.{Rewriting}
use Rattle.takes.proofs.writer.rewrite.Given as goal

abbrev pub invariant-loop-at : goal.invariant-loop-at
invariant-loop-at l = Rewriting l.file l.initial.out l.out l.at

abbrev pub decreases-loop-at : goal.decreases-loop-at
decreases-loop-at l = length l.file - l.at
