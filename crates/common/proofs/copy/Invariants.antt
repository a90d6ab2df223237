-- The invariant: what is still to be copied gives what the whole copy gives. In rising order that is what lies above the bytes copied, in falling order what
-- lies below them.
use Prim.Native.Nat.{◌+◌, ◌-◌, ◌≤◌, ◌<◌}
use mathlib.Core.Path.{◌≡◌}
use Rattle.common.specs.Bytes.{copied}
use Rattle.common.proofs.copy.Given as goal

abbrev pub invariant-loop-done : goal.invariant-loop-done
invariant-loop-done l =
    (l.done ≤ l.c)
    × (l.to ≤ l.from → copied l.s (l.to + l.done) l.s (l.from + l.done) (l.c - l.done) ≡ copied l.initial.s l.to l.initial.s l.from l.c)
    × (l.from < l.to → copied l.s l.to l.s l.from (l.c - l.done) ≡ copied l.initial.s l.to l.initial.s l.from l.c)

abbrev pub decreases-loop-done : goal.decreases-loop-done
decreases-loop-done l = l.c - l.done
