-- What an accepted file is known to have, since no rule refused it, and how many records at most.
use Prim.Native.Nat.{ℕ, ◌≤◌}
use mathlib.Core.Path.{◌≡◌}
use mathlib.Core.Bool.{false}
use mathlib.Core.List.{List}
use native.Mathlib.Omega.{arith}
use lib.ListN.{length}
use Rattle.takes.specs.Files.{walk_from, head_length, stray_from, file_number, records_of}
use Rattle.takes.proofs.Walks.{from-spans}
use Rattle.takes.proofs.WholeFiles.{Head, head-accepted, file-accepted}
use Rattle.runner.specs.Inner.{most_records}

pub record Accepted (file : List ℕ) : Type 0 where
  pub head : Head file
  pub straight : stray_from 0 (records_of file) ≡ false
  pub records : (walk_from file head_length).number ≡ 0

pub accepted-file : (file : List ℕ) → file_number file ≡ 0 → Accepted file
accepted-file file e =
    let a = file-accepted file e in
    record { head = head-accepted file a.head; straight = a.straight; records = a.records }

pub few-records : (file : List ℕ) → file_number file ≡ 0 → length (records_of file) ≤ most_records
unfolding records_of
few-records file e =
    let h = (accepted-file file e).head in
    omega (arith, from-spans file head_length h.both, h.short)
