-- The xor and the shift are the definition; that they test membership in the aligned block is `check-holds`.
use Rattle.std.proofs.Common.{refl}
use Rattle.blocks.specs.Pointers.{check_bits}
use Rattle.blocks.proofs.Checks.{check-holds}
use Rattle.blocks.proofs.same_block.Goals as goal

pub returns : goal.returns
unfolding check_bits
returns c = record { by_bits = refl; by_range = check-holds c.args.e c.args.h c.args.r }
