-- The loop's invariant: it tells of the slots from i on.
use Rattle.std.proofs.Common.{◌≡◌, ℕ, ◌-◌, ◌<◌, Bool, slice_index}
use Rattle.blocks.specs.Placing.{all_free}
use Rattle.blocks.proofs.scan.row_passes.Given as goal

abbrev pub invariant-loop-i : goal.invariant-loop-i
invariant-loop-i g l =
    (test : ℕ → Bool) → ((x : ℕ) (b : Bool) → x < 256 → goal.F-post g l.test x b → b ≡ test x)
    → l.same ≡ all_free (λ i. test (slice_index l.row i)) l.i (16 - l.i)
