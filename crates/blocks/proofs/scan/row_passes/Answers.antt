use Rattle.std.proofs.Common.{◌≡◌, ℕ, ◌-◌, ◌+◌, ◌≤◌, Bool, true, false, ◌&&◌, sym, ◌∙◌, arith}
use mathlib.Core.Bool.{and_comm}
use Rattle.blocks.specs.Placing.{all_free}
use Rattle.blocks.proofs.FreeRuns.{all_none, all-before}
use Rattle.blocks.proofs.scan.row_passes.Goals as goal

-- one slot more
before : (f : ℕ → Bool) (k i : ℕ) (a b : Bool) → i ≡ k + 1 → i ≤ 16 → a ≡ all_free f i (16 - i) → b ≡ f k → a && b ≡ all_free f k (16 - k)
before f k i a b e h p q = rw (p, q, e) (and_comm (all_free f (k + 1) (16 - (k + 1))) (f k) ∙ sym (all-before f k 16 (omega arith)))

pub loop-i-init : goal.loop-i-init
loop-i-init g c test computes = sym (all_none _ _ _ (omega arith))

pub loop-i-preserved-then-not-test : goal.loop-i-preserved-then-not-test
loop-i-preserved-then-not-test g c test computes =
    let x = c.type_inv.row (c.loop-i.i - 1) in
    let fails : false ≡ test _ = sym c.if-not-test.true ∙ computes _ _ (omega arith) c.test.ensures in
    sym (and_comm c.loop-i.same false) ∙ before _ (c.loop-i.i - 1) c.loop-i.i _ _ (omega arith) (omega arith) (c.loop-i.invariant test computes) fails

pub loop-i-preserved : goal.loop-i-preserved
loop-i-preserved g c test computes =
    let x = c.type_inv.row (c.loop-i.i - 1) in
    let passes : true ≡ test _ = sym c.if-not-test.false ∙ computes _ _ (omega arith) c.test.ensures in
    sym (and_comm c.loop-i.same true) ∙ before _ (c.loop-i.i - 1) c.loop-i.i _ _ (omega arith) (omega arith) (c.loop-i.invariant test computes) passes

pub returns : goal.returns
returns g c test computes =
    let none : c.loop-i.i ≡ 0 = omega arith in
    rw none at c.loop-i.invariant test computes
