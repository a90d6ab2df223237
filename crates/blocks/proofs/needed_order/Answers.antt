use Rattle.std.proofs.Common.{refl, ◌∙◌, arith}
use Rattle.blocks.specs.Orders.{needed_order}
use Rattle.blocks.proofs.Orders.{needed-next}
use Rattle.blocks.proofs.needed_order.Goals as goal

pub loop-e-init : goal.loop-e-init
unfolding needed_order
loop-e-init c = refl

pub loop-e-preserved : goal.loop-e-preserved
loop-e-preserved c = c.loop-e.invariant ∙ needed-next c.args.n c.args.m c.loop-e.e (omega arith) (omega (arith, c.size_of.ensures))
