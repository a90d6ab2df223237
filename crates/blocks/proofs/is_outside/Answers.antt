-- Past the arena's last slot.
use Rattle.blocks.proofs.Outside.{outside_above}
use Rattle.blocks.proofs.is_outside.Goals as goal

pub returns : goal.returns
returns c = let pre = c.requires in outside_above _ _ _ c.if-q-lt-BASE.false pre.1 _ pre.3
