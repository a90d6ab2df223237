-- The loop keeps `Going`: what is still to come gives what the whole run gives. A file that was judged has no refused record, so each is read without
-- judging it again, at its place, which is known of every record up to the one that is due.
use Rattle.runner.proofs.Running.{Going}
use Rattle.runner.proofs.carry_out.Given as goal

abbrev pub invariant-loop-done : goal.invariant-loop-done
invariant-loop-done l = Going l.m l.most l.file l.initial.answers l.arena l.table l.registers.values l.places l.answers l.due l.done
