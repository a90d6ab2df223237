-- The memory of a program that runs any file.
use Rattle.std.specs.Prelude.{◌*◌, ◌≤◌, ℕ, ◌≡◌, false, List, length}
use Rattle.takes.specs.Files.{size_byte, file_number}
use Rattle.heap.specs.Views.{slot_order}
use Rattle.heap.specs.Heaps.{heap_of, wrong_sizes}
use Rattle.heap.specs.Answers.{answer_length}
use Rattle.runner.specs.TakeRuns.{most_steps}

-- an arena and a table of the file's size, where it is accepted, and room for the answers of the largest budget
pub record Fitting (file a tab out : List ℕ) : Type 0 where
  pub sizes : file_number file ≡ 0 → wrong_sizes slot_order (size_byte file) (heap_of a tab) ≡ false
  pub answers : answer_length * most_steps ≤ length out
