-- Panel takes: the two callers' rules differ in 26 alone, so where 26 does not apply, or a number before it does, the outcomes are one.
use Prim.Native.Nat.{ℕ, ◌<◌}
use mathlib.Core.Path.{◌≡◌, sym, ◌∙◌}
use mathlib.Core.Bool.{true, false}
use mathlib.Core.List.{List}
use native.Mathlib.Omega.{arith}
use lib.ListN.{length}
use borrow.Author.Tests.{ne_eqb, lt-ltb, le-ltb}
use Rattle.common.specs.Refusals.{first}
use Rattle.common.proofs.Refusals.{clear-one, clear-number}
use Rattle.takes.specs.Files.{file_number, records_of}
use Rattle.heap.specs.Heaps.{Heap}
use Rattle.runner.specs.TakeRuns.{screenful, crowded, run_rules, run_settled, run_by, run_of, panel_of}
use Rattle.runner.specs.Panel.{PanelAsUpload}
use Rattle.runner.proofs.RunRefusals.{settled-number}

module _ (file : List ℕ) (b : ℕ) (h : Heap) (out : List ℕ) where
  -- what the screen can list
  uncrowded : crowded file ≡ false → panel_of file b h out ≡ run_of file b h out
  unfolding run_by
  uncrowded s = rw s

  -- 26 is no acceptance
  accepted-listed : (panel_of file b h out).number ≡ 0 → crowded file ≡ false
  unfolding run_by
  accepted-listed z =
      let clean = (clear-number (file_number file) _ (sym (settled-number (first (run_rules true file b h out)) file b h out) ∙ z)).1 in
      (clear-one 26 (crowded file) _ (λ z. omega arith) clean).0

  bad-file : (file_number file ≡ 0 → ⊥) → panel_of file b h out ≡ run_of file b h out
  unfolding run_by
  bad-file d = rw (ne_eqb (file_number file) 0 d)

  crowded-file : file_number file ≡ 0 → screenful < length (records_of file) → panel_of file b h out ≡ run_settled 26 file b h out
  unfolding run_by
  crowded-file z l = rw (z, lt-ltb screenful (length (records_of file)) l)

  pub panel-as-upload : PanelAsUpload file b h out
  panel-as-upload = record {
    accepted = λ z. uncrowded (accepted-listed z);
    listed = λ l. uncrowded (le-ltb screenful (length (records_of file)) l);
    bad = bad-file;
    refused = crowded-file;
  }
