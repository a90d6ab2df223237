use Rattle.std.proofs.Common.{sym, refl, ◌∙◌, arith}
use Rattle.blocks.specs.Orders.{order_of}
use Rattle.blocks.proofs.Orders.{order-next}
use Rattle.blocks.proofs.order_of.Goals as goal

pub loop-m-init : goal.loop-m-init
unfolding order_of
loop-m-init c = refl

pub loop-m-preserved : goal.loop-m-preserved
loop-m-preserved c = c.loop-m.invariant ∙ order-next _ _ (omega arith) (λ q. c.if-len-size_of.false (q ∙ sym c.size_of.ensures))
