use Rattle.std.proofs.Common.{◌<◌, ◌≡◌, ◌+◌, rules, arith, get_or, ◌∙◌}
use Rattle.std.proofs.lemmas.List.Edits.{get_or-between}
use Rattle.common.specs.Bytes.{big_endian}
use Rattle.common.proofs.Loops.{read-turn, read_fits}
use Rattle.common.proofs.read_number.Goals as goal

pub loop-x-init : goal.loop-x-init
unfolding big_endian
loop-x-init c = search rules

pub overflow_mul-v : goal.overflow_mul-v
overflow_mul-v c = record { fits = omega (arith, read_fits c.loop-x.x-index c.loop-x.v 0 c.loop-x.invariant.1 (omega arith) (omega arith)) }

module _ (c : goal.After-from) where
  is-byte : c.from.result ≡ get_or c.args.s.now (c.args.at + c.loop-x.x-index) 0
  is-byte = let a = c.args in c.from.ensures ∙ get_or-between a.s.now a.at (a.at + a.w) c.loop-x.x-index 0 (omega arith)

  is-less : c.from.result < 256
  is-less = omega (arith, is-byte, c.type_inv.s (c.args.at + c.loop-x.x-index))

pub overflow_add-v : goal.overflow_add-v
overflow_add-v c = record { fits = omega (arith, read_fits c.loop-x.x-index c.loop-x.v c.from.result c.loop-x.invariant.1 (is-less c) (omega arith)) }

pub loop-x-preserved : goal.loop-x-preserved
loop-x-preserved c = rw read-turn (cc (is-byte c), (read_fits c.loop-x.x-index c.loop-x.v c.from.result c.loop-x.invariant.1 (is-less c) (omega arith)).0)
