-- Demand 2: every set of aligned blocks that don't overlap has one table, and every undamaged table reads back as that one set.
use Rattle.std.proofs.Common.{ℕ, ◌<◌, ◌≤◌}
use Rattle.blocks.specs.Sets.{OneTable, pairs_of}
use Rattle.blocks.specs.Tables.{lock_bit}
use Rattle.blocks.proofs.Reading.{reads-as-set, read_set, read_table}
use Rattle.blocks.proofs.Sets.{set-ranges}
use Rattle.blocks.proofs.SetTables.{is-table-of, table-only, table-undamaged}

-- an order from the top bit up would look like a lock
pub one_table : (t m : ℕ) → 1 ≤ t → t ≤ m → m < lock_bit → OneTable t m
one_table t m one le top =
    record {
      has-table = is-table-of t m one le top;
      only-table = table-only t m one le top;
      undamaged = λ ps set. table-undamaged t m one le top ps (set-ranges set);
      reads-back = reads-as-set t m one le top;
      is_set = read_set t m one top;
      is-table = λ s len good. table-only t m one le top (pairs_of t s) (read_set t m one top s len good) s (read_table t m one top s len good);
    }
