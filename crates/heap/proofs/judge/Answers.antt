-- What `order_of` ensures says whether the lengths fit (`sizes-refused`), and where they do what `before_call` ensures is the rest of the judging
-- (`judged-refused`, `judged-ready`).
use Rattle.std.proofs.Common.{sym, refl, ◌∙◌, arith, rules}
use Rattle.heap.specs.Views.{slot_order}
use Rattle.heap.proofs.Judging.{Sized, order-found, order-missing, sizes-refused, judged-refused, judged-ready}
use Rattle.common.proofs.Numbers.{some-number}
use Rattle.heap.proofs.judge.Goals as goal
use Rattle.heap.proofs.judge.Goals.{In_ok-m}

-- where there is an order
module _ (c : In_ok-m) where
  sized : Sized slot_order c.args.arena.now c.args.table.now c.in_ok-m.m
  sized = order-found slot_order _ _ (sym c.in_ok-m.ensures.ok_part ∙ c.order_of.ensures)

pub returns-in_err-m-clause-refused : goal.returns-in_err-m-clause-refused
returns-in_err-m-clause-refused c =
    let h = sizes-refused c.args.call _ _ (order-missing slot_order _ _ (sym c.in_err-m.ensures.ok_part ∙ c.order_of.ensures)) in
    search rules

pub before_call-requires : goal.before_call-requires
before_call-requires c = let s = sized c in (omega arith, omega (arith, s.low), s.high, s.slots)

pub returns-in_err-before_call-clause-refused : goal.returns-in_err-before_call-clause-refused
returns-in_err-before_call-clause-refused c =
    let h = judged-refused _ (sized (goal.at.returns-in_err-before_call-clause-refused c).In_ok-m) c.in_err-before_call.ensures (some-number _) in
    search rules

pub returns-clause-ready : goal.returns-clause-ready
returns-clause-ready c = judged-ready _ (sized (goal.at.returns-clause-ready c).In_ok-m) c.in_ok-before_call.ensures refl
