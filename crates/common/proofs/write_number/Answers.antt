use Rattle.std.proofs.Common.{◌∙◌, sym, arith}
use Rattle.common.proofs.Loops.{write-turn, write-end}
use Rattle.common.proofs.write_number.Goals as goal

pub loop-k-preserved : goal.loop-k-preserved
loop-k-preserved c =
    sym (write-turn c.loop-k.s c.args.at c.loop-k.k c.loop-k.rest (omega arith) (omega arith)) ∙ c.loop-k.invariant

pub returns : goal.returns
returns c = sym (write-end c.loop-k.s c.args.at c.loop-k.k c.loop-k.rest (omega arith)) ∙ c.loop-k.invariant
