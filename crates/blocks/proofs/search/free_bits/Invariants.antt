-- The loop's invariant: `bits` are those of the slots that were read, the last ones.
use Rattle.std.proofs.Common.{◌≡◌, ◌-◌, length}
use Rattle.std.specs.Slice.Iter.{iter_rest}
use Rattle.std.specs.Iterator.Adapters.{rev_source}
use Rattle.blocks.specs.Tables.{free_in}
use Rattle.blocks.specs.Inner.{bits_of}
use Rattle.blocks.proofs.Chunks.{Unread}
use Rattle.blocks.proofs.search.free_bits.Given as goal

abbrev pub invariant-loop-x : goal.invariant-loop-x
invariant-loop-x l =
    let rest = iter_rest (rev_source l.x-iterator) in
    record { unread : Unread l.part rest; bits : l.bits ≡ bits_of (free_in l.part) (length rest) (length l.part - length rest) }
