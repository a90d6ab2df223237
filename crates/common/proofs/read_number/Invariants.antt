-- The invariant: v is the number of the bytes read, which as many bytes can hold, so that a turn stays below 2 ^ 32.
use Prim.Native.Nat.{◌^◌, ◌<◌}
use mathlib.Core.Path.{◌≡◌}
use Rattle.common.specs.Bytes.{big_endian}
use Rattle.common.proofs.read_number.Given as goal

abbrev pub invariant-loop-x : goal.invariant-loop-x
invariant-loop-x l = (l.v ≡ big_endian l.s l.at l.x-index) × (l.v < 256 ^ l.x-index)
