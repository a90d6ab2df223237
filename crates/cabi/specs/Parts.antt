-- Showing a sample to C: the part of the arena by its offset and its length.
use Rattle.std.specs.Prelude.{ℕ, length}
use Rattle.heap.specs.Heaps.{Heap, pointer_number, shown, shown_from}
use Rattle.cabi.specs.declared.Part.{Part}

abbrev pub part_of : ℕ → Heap → Part
part_of p h = record { number = pointer_number h p; offset = shown_from p h; length = length (shown p h) }
