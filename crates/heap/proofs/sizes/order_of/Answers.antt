-- Where the shift does not give the table's length there is no order (`order-unfit`), and where it does the order is that of the arena's length
-- (`order-fit`).
use Rattle.std.proofs.Common.{◌∙◌}
use Rattle.heap.proofs.Lengths.{order-unfit, order-fit}
use Rattle.heap.proofs.sizes.order_of.Goals as goal

pub returns-then-arena-t : goal.returns-then-arena-t
returns-then-arena-t c = order-unfit _ _ _ c.requires c.if-arena-t.true

pub returns : goal.returns
returns c = c.order_of.ensures ∙ order-fit _ _ _ c.requires c.if-arena-t.false
