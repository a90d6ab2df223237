-- The loop keeps `Replays`: a ledger agrees with the heap, and what it gives for the calls to come is what the list gives. So at the end the heap is as the
-- ledger leaves it (`replays-end`), and refused the buffers are as they were (`refused-is`).
use Rattle.history.proofs.Replaying.{Replays}
use Rattle.history.proofs.replay.Given as goal

abbrev pub invariant-loop-i : goal.invariant-loop-i
invariant-loop-i l = Replays l.m l.calls l.initial.out l.arena l.table l.out l.i
