-- What is still to be put, at the place reached, gives the whole.
use lib.ListN.{length}
use Rattle.takes.proofs.Rows.{Putting}
use Rattle.takes.proofs.writer.put_fields.Given as goal

abbrev pub invariant-loop-kind : goal.invariant-loop-kind
invariant-loop-kind l = Putting l.kinds l.values l.initial.out l.out l.at (length l.yielded)
