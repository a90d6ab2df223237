-- The loop's invariant: the part is all free, or all taken, where the rows that are left are.
use Rattle.std.proofs.Common.{cond, not, eqb}
use Rattle.blocks.proofs.Chunks.{LeftOf}
use Rattle.blocks.proofs.search.uniform.Given as goal

abbrev pub invariant-loop-row : goal.invariant-loop-row
invariant-loop-row l = LeftOf (λ y. cond (eqb l.x 0) (eqb y 0) (not (eqb y 0))) 16 l.part l.row-iterator
