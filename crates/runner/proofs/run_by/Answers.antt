-- Each refusal is the first that applies at its return. Past them all the run is what the records leave.
use Rattle.std.proofs.Common.{◌≡◌, false, true, not, ◌&&◌, ℕ, Option, Some, None, Ok, eqb, sym, ap, arith, rules}
use borrow.Author.Tests.{eqb-true, eq-eqb, not-false, lt-ltb, le-ltb}
use Rattle.std.specs.Option.{option_eq}
use Rattle.common.specs.Numbers.{number_of}
use Rattle.heap.specs.Views.{slot_order}
use Rattle.heap.specs.Heaps.{heap_of, wrong_sizes}
use Rattle.heap.specs.Registers.{registers_at_first}
use Rattle.heap.proofs.Lengths.{order_other, order-this}
use Rattle.runner.specs.TakeRuns.{crowded, screenful, ran_of}
use Rattle.runner.specs.Inner.{Runnable}
use Rattle.runner.proofs.RunRefusals.{judge-refused, Judged, judge-accepted, screen-full, screen-room, no-screen}
use Rattle.runner.proofs.RunRefusals.{by-file, by-screen, by-sizes, by-room, run-done}
use Rattle.runner.proofs.run_by.Goals as goal
use Rattle.runner.proofs.run_by.Goals.{In_ok-judged, Else-ne, Else-short, Joined-else-panel}
use Rattle.runner.proofs.run_by.Goals.{else-panel-via-then-panel+else-crowded, else-panel-via-else-panel}

-- the order that was found is another than m, or it is m
not-the-order : (o : Option ℕ) (m : ℕ) → true ≡ not (option_eq eqb o (Some m)) → o ≡ Some m → ⊥
not-the-order None m e p = cc
not-the-order (Some k) m e p = let same : k ≡ m = cc in let x = rw (eq-eqb k m same) at e in absurd cc

the-order : (o : Option ℕ) (m : ℕ) → false ≡ not (option_eq eqb o (Some m)) → o ≡ Some m
the-order None m e = absurd cc
the-order (Some k) m e = ap Some (eqb-true k m (not-false (eqb k m) (sym e)))

pub returns-in_err-judged : goal.returns-in_err-judged
returns-in_err-judged c =
    let a = c.args in
    let reason = c.in_err-judged.field-0.0 in
    let e : ran_of c.from_residual.result
    ≡ record { number = number_of reason; registers = record { values = registers_at_first }; count = 0; stopped = false } = search rules in
    rw e
    (by-file a.panel a.file.now a.budget a.arena.now a.table.now a.answers.now reason (judge-refused a.file.now reason c.in_err-judged.ensures))

-- past the file's own refusals
good : (c : In_ok-judged) → Judged c.args.file.now c.in_ok-judged.judged
good c = judge-accepted c.args.file.now c.in_ok-judged.judged c.in_ok-judged.ensures

pub returns-then-crowded : goal.returns-then-crowded
returns-then-crowded c =
    let a = c.args in
    let g = good (goal.at.returns-then-crowded c).In_ok-judged in
    by-screen a.panel a.file.now a.budget a.arena.now a.table.now a.answers.now g.judged
    (screen-full a.panel a.file.now _ g.count c.if-panel.true (lt-ltb screenful _ c.if-crowded.true))

-- past the screen's
listed : (c : Joined-else-panel) → Judged c.args.file.now c.in_ok-judged.judged → (c.args.panel && crowded c.args.file.now) ≡ false
listed c g =
    elim c.else-panel.branch [
      | else-panel-via-then-panel+else-crowded w
          ↦ screen-room c.args.panel c.args.file.now _ g.count (le-ltb screenful _ w.if-crowded.false)
      | else-panel-via-else-panel w ↦ no-screen c.args.panel c.args.file.now w.if-panel.false
    ]

pub returns-then-ne : goal.returns-then-ne
returns-then-ne c =
    let a = c.args in
    let g = good (goal.at.returns-then-ne c).In_ok-judged in
    by-sizes a.panel a.file.now a.budget a.arena.now a.table.now a.answers.now g.judged (listed (goal.at.returns-then-ne c).Joined-else-panel g)
    (rw g.size (order_other slot_order c.in_ok-judged.judged.size a.arena.now a.table.now c.order_of.ensures (not-the-order _ _ c.if-ne.ensures)))

-- past the lengths
fits : (c : Else-ne) → Judged c.args.file.now c.in_ok-judged.judged
    → wrong_sizes slot_order c.in_ok-judged.judged.size (heap_of c.args.arena.now c.args.table.now) ≡ false
fits c g =
    order-this slot_order c.in_ok-judged.judged.size c.args.arena.now c.args.table.now c.order_of.ensures (the-order _ _ c.if-ne.ensures)

pub returns-then-short : goal.returns-then-short
returns-then-short c =
    let a = c.args in
    let g = good (goal.at.returns-then-short c).In_ok-judged in
    by-room a.panel a.file.now a.budget a.arena.now a.table.now a.answers.now g.judged (listed (goal.at.returns-then-short c).Joined-else-panel g)
    (rw g.size (fits (goal.at.returns-then-short c).Else-ne g)) (omega (arith, c.min-most.ensures, c.if-short.true))

-- past them all
runnable : (c : Else-short) → Judged c.args.file.now c.in_ok-judged.judged
    → wrong_sizes slot_order c.in_ok-judged.judged.size (heap_of c.args.arena.now c.args.table.now) ≡ false
    → Runnable c.in_ok-judged.judged.size c.min-most.result c.args.file.now c.args.arena.now c.args.table.now c.args.answers.now
runnable c g f =
    record { judged = g.judged; same = g.size; fits = f; few = omega (arith, c.min-most.ensures); room = omega (arith, c.if-short.false) }

pub carry_out-run-requires-clause-runnable : goal.carry_out-run-requires-clause-runnable
carry_out-run-requires-clause-runnable c =
    let g = good (goal.at.carry_out-run-requires-clause-runnable c).In_ok-judged in
    runnable (goal.at.carry_out-run-requires-clause-runnable c).Else-short g (fits (goal.at.carry_out-run-requires-clause-runnable c).Else-ne g)

-- the records are carried out, and the buffers are back
pub returns : goal.returns
returns c =
    let a = c.args in
    let g = good (goal.at.returns c).In_ok-judged in
    let k = c.carry_out-run in
    run-done a.panel a.file.now a.budget a.arena.now a.table.now a.answers.now c.in_ok-judged.judged.size c.min-most.result (omega (arith, c.min-most.ensures))
    (runnable (goal.at.returns c).Else-short g (fits (goal.at.returns c).Else-ne g)) (listed (goal.at.returns c).Joined-else-panel g)
    (ran_of (Ok k.result)) k.new.arena k.new.table k.new.answers k.ensures
