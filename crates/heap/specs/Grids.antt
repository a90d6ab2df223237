-- Request 10, "Patterns as grids": the addresses of a grid's places, by the public call on any heap.
use Rattle.std.specs.Prelude.{◌≡◌, ℕ, ◌+◌, ◌*◌, ◌<◌, ◌≤◌, false}
use Rattle.blocks.specs.Pointers.{marked}
use Rattle.heap.specs.Views.{referent_of_pointer}
use Rattle.heap.specs.Heaps.{Heap, view_of, heap_call}
use Rattle.heap.specs.declared.Answer.{Answer}
use Rattle.heap.specs.declared.Call.TheVariants.{Grid}

-- one grid: rows × columns bytes from p on
module _ (p rows columns : ℕ) where
  -- what the call answers for a place of it
  abbrev pub answer_at : Heap → (row column : ℕ) → Answer
  answer_at h row column = (heap_call (Grid p rows columns row column) h).answer

  pub record GridPlaces : Type 0 where
    -- Two accepted places have one address only if they are one place. Other calls may have been made between the two, so each has its own heap.
    pub apart : (h k : Heap) (row column row' column' : ℕ) → (answer_at h row column).number ≡ 0 → (answer_at k row' column').number ≡ 0
        → (answer_at h row column).value ≡ (answer_at k row' column').value → (row ≡ row') × (column ≡ column')
    -- where one place is accepted, every place of the grid is
    pub whole : (h : Heap) (row column row' column' : ℕ) → (answer_at h row column).number ≡ 0 → row' < rows → column' < columns
        → (answer_at h row' column').number ≡ 0
    -- an accepted place is one of the grid's bytes
    pub inside : (h : Heap) (row column : ℕ) → (answer_at h row column).number ≡ 0
        → (p ≤ (answer_at h row column).value) × ((answer_at h row column).value < p + rows * columns)
    -- its address is plain, and has p's referent
    pub plain : (h : Heap) (row column : ℕ) → (answer_at h row column).number ≡ 0 → marked (answer_at h row column).value ≡ false
    pub home : (h : Heap) (row column : ℕ) → (answer_at h row column).number ≡ 0
        → referent_of_pointer (view_of h) (answer_at h row column).value ≡ referent_of_pointer (view_of h) p
