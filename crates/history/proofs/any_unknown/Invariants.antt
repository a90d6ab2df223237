-- The loop's invariant: what is asked of all calls is asked of those that are left. A call with an unknown operation answers it (`unknown-found`), and any
-- other is passed over (`known-here`).
use Prim.Native.Nat.{◌-◌, ◌*◌}
use mathlib.Core.Path.{◌≡◌}
use Rattle.history.specs.Replaying.{call_length, call_count, unknown_from}
use Rattle.history.proofs.any_unknown.Given as goal

abbrev pub invariant-loop-i : goal.invariant-loop-i
invariant-loop-i l =
    unknown_from l.calls 0 (call_count l.calls) ≡ unknown_from l.calls (l.i * call_length) (call_count l.calls - l.i)
