-- The invariant: storing the k bytes that are left of `rest` gives what storing all of v gives. Each turn stores the lowest of them (`write-turn`).
use mathlib.Core.Path.{◌≡◌}
use Rattle.common.specs.Bytes.{over, bytes_of}
use Rattle.common.proofs.write_number.Given as goal

abbrev pub invariant-loop-k : goal.invariant-loop-k
invariant-loop-k l = over l.s l.at (bytes_of l.k l.rest) ≡ over l.initial.s l.at (bytes_of l.w l.v)
