-- The check is judged as left is, test by test (`sizes-refused`, `judged-refused`, `judged-ready`): refused, it says what left does (`check-refused`), and else
-- it is `unchecked::check`, in slots of the public calls' order (`check-ordered`).
use Rattle.std.proofs.Common.{◌≡◌, ℕ, List, [], ◌∷◌, sym, refl, ◌∙◌, arith, rules, ne_eqb}
use Rattle.common.specs.Refusals.{◌when◌, first}
use Rattle.blocks.specs.Tables.{damaged_by}
use Rattle.heap.specs.Views.{slot_order}
use Rattle.heap.specs.Rules.{argument_rules}
use Rattle.heap.specs.Inner.{before_call}
use Rattle.heap.specs.declared.Call.TheVariants.{Left}
use Rattle.heap.proofs.Judging.{Sized, order-found, order-missing, sizes-refused, judged-refused, judged-ready, check-refused, check-ordered}
use Rattle.heap.proofs.check.Goals as goal
use Rattle.heap.proofs.check.Goals.{In_ok-m}

-- where there is an order
module _ (c : In_ok-m) where
  sized : Sized slot_order c.args.arena.now c.args.table.now c.in_ok-m.m
  sized = order-found slot_order _ _ (sym c.in_ok-m.ensures.ok_part ∙ c.order_of.ensures)

pub returns-in_err-m : goal.returns-in_err-m
returns-in_err-m c =
    let a = c.args in
    let misfit = order-missing slot_order _ _ (sym c.in_err-m.ensures.ok_part ∙ c.order_of.ensures) in
    let h = check-refused a.p a.i (λ z. omega arith) (sizes-refused (Left a.p) _ _ misfit) in
    search rules

pub damaged-requires : goal.damaged-requires
damaged-requires c = let s = sized c in (omega arith, omega (arith, s.low), s.high, s.slots)

-- left's arguments are not refused, so what is said of the table is its judging
judged : (p : ℕ) {a tab : List ℕ} {m k : ℕ} → Sized slot_order a tab m → k ≡ first (20 when damaged_by slot_order m tab ∷ [])
    → k ≡ before_call slot_order m (first (argument_rules m (Left p))) tab
unfolding argument_rules
judged p {m = m} s h = rw (ne_eqb m 0 (λ z. omega (arith, s.low))) h

pub returns-then-damaged : goal.returns-then-damaged
returns-then-damaged c =
    let a = c.args in
    let s = sized (goal.at.returns-then-damaged c).In_ok-m in
    check-refused a.p a.i (λ z. omega arith)
    (judged-refused (Left a.p) s (judged a.p s (rw (sym c.damaged.ensures ∙ c.if-damaged.true))) (λ z. omega arith))

pub check-requires : goal.check-requires
check-requires c =
    let s = sized (goal.at.check-requires c).In_ok-m in
    (judged-ready (Left c.args.p) s (judged c.args.p s (rw (sym c.damaged.ensures ∙ c.if-damaged.false))) refl).ready.sound

pub returns : goal.returns
returns c = c.check.ensures ∙ check-ordered _ _ (sized (goal.at.returns c).In_ok-m)
