-- The loop's invariant (`Judging`): the records still to come give what the whole file gives, with those counted so far. It ends at a record that is refused,
-- whose number is the file's, at an again that does not go back, or at the file's end.
use Prim.Native.Nat.{◌-◌}
use lib.ListN.{length}
use Rattle.takes.proofs.WholeFiles.{Judging}
use Rattle.takes.proofs.files.judge.Given as goal

abbrev pub invariant-loop-at : goal.invariant-loop-at
invariant-loop-at l = Judging l.file l.at l.count

abbrev pub decreases-loop-at : goal.decreases-loop-at
decreases-loop-at l = length l.file - l.at
