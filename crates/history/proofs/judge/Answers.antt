-- The tests that a path has passed say which refusal of the list is the first that applies (`replay-number`).
use Prim.Native.Nat.{◌*◌, ◌%◌}
use mathlib.Core.Path.{◌≡◌, refl, sym, ◌∙◌, ap}
use mathlib.Core.Bool.{false, not}
use native.Mathlib.Omega.{arith}
use lib.Dec.{eqb}
use lib.ListN.{length}
use borrow.Author.Tests.{eq-eqb, lt-ltb, le-ltb}
use Rattle.std.proofs.Common.{rules}
use Rattle.heap.specs.Views.{slot_order}
use Rattle.heap.specs.Heaps.{heap_of, view_of}
use Rattle.heap.specs.Answers.{answer_length}
use Rattle.heap.proofs.Judging.{order-found, order-missing, order-fits}
use Rattle.history.specs.Replaying.{call_length, call_count, unknown_from}
use Rattle.history.proofs.Replaying.{replay-number}
use Rattle.history.proofs.judge.Goals as goal
use Rattle.history.proofs.judge.Goals.{Else-any_unknown, In_ok-m}

-- what each test that was passed says
module _ (c : Else-any_unknown) where
  whole-calls : not (eqb (length c.args.calls.now % call_length) 0) ≡ false
  whole-calls = ap not (eq-eqb _ _ c.if-calls-ne0.false)

  all_known : let s = c.args.calls.now in unknown_from s 0 (call_count s) ≡ false
  all_known = sym c.any_unknown.ensures ∙ c.if-any_unknown.false

good-sizes : (c : In_ok-m) → let s = c.args in (view_of (heap_of s.arena.now s.table.now)).wrong-sizes ≡ false
good-sizes c = order-fits _ _ (order-found slot_order _ _ (sym c.in_ok-m.ensures.ok_part ∙ c.order_of.ensures))

pub returns-in_err-m-clause-number : goal.returns-in_err-m-clause-number
returns-in_err-m-clause-number c =
    let s = c.args in
    let e = (goal.at.returns-in_err-m-clause-number c).Else-any_unknown in
    let h = replay-number s.calls.now s.arena.now s.table.now s.out.now (whole-calls e) (all_known e)
    (order-missing slot_order _ _ (sym c.in_err-m.ensures.ok_part ∙ c.order_of.ensures)) refl in
    search rules

pub returns-then-out-calls-clause-number : goal.returns-then-out-calls-clause-number
returns-then-out-calls-clause-number c =
    let s = c.args in
    let e = (goal.at.returns-then-out-calls-clause-number c).Else-any_unknown in
    replay-number s.calls.now s.arena.now s.table.now s.out.now (whole-calls e) (all_known e)
    (good-sizes (goal.at.returns-then-out-calls-clause-number c).In_ok-m) (lt-ltb (length s.out.now) (answer_length * call_count s.calls.now) (omega arith))

pub returns-clause-number : goal.returns-clause-number
returns-clause-number c =
    let s = c.args in
    let e = (goal.at.returns-clause-number c).Else-any_unknown in
    replay-number s.calls.now s.arena.now s.table.now s.out.now (whole-calls e) (all_known e)
    (good-sizes (goal.at.returns-clause-number c).In_ok-m) (le-ltb (length s.out.now) (answer_length * call_count s.calls.now) (omega arith))
