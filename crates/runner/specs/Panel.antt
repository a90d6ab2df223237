-- Document 02, "Panel takes": what the panel's run and the upload's, given and lent the same, the budget too, have in common.
use Rattle.std.specs.Prelude.{ℕ, ◌≤◌, ◌<◌, ◌≡◌, List, length}
use Rattle.takes.specs.Files.{file_number, records_of}
use Rattle.heap.specs.Heaps.{Heap}
use Rattle.runner.specs.TakeRuns.{screenful, run_settled, run_of, panel_of}

-- Outcomes are compared whole: number, registers, count, whether it stopped, arena, table and answer slice.
pub record PanelAsUpload (file : List ℕ) (b : ℕ) (h : Heap) (out : List ℕ) : Type 0 where
  -- a take that the panel accepts
  pub accepted : (panel_of file b h out).number ≡ 0 → panel_of file b h out ≡ run_of file b h out
  -- one that its screen can list, refused or not
  pub listed : length (records_of file) ≤ screenful → panel_of file b h out ≡ run_of file b h out
  -- one that is bad in itself, however many records it has
  pub bad : (file_number file ≡ 0 → ⊥) → panel_of file b h out ≡ run_of file b h out
  -- a good one that the screen can't list is refused 26, whatever is lent
  pub refused : file_number file ≡ 0 → screenful < length (records_of file) → panel_of file b h out ≡ run_settled 26 file b h out
