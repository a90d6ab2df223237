-- Two bytes of the file make the number.
use native.Mathlib.Omega.{arith}
use native.Mathlib.Nat.{add-zero}
use Rattle.common.specs.Bytes.{big_endian}
use Rattle.takes.proofs.unchecked.index_at.Goals as goal

pub returns : goal.returns
unfolding big_endian
returns c = rw (add-zero c.args.at) (omega (arith, c.from.ensures, c.from-2.ensures))
