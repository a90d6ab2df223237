-- The fields still to come have a high register where the whole record has.
use lib.ListN.{length}
use Rattle.takes.proofs.Rows.{Seeking}
use Rattle.takes.proofs.writer.high_in_values.Given as goal

abbrev pub invariant-loop-kind : goal.invariant-loop-kind
invariant-loop-kind l = Seeking l.kinds l.values (length l.yielded)
