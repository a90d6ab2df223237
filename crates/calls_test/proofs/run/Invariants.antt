-- It ends: what is left of the text grows shorter with each line.
use Rattle.std.proofs.Common.{length}
use Rattle.calls_test.proofs.run.Given as goal

abbrev pub decreases-loop-command : goal.decreases-loop-command
decreases-loop-command g l = length l.rest
