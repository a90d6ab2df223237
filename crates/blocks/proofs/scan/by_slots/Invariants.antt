-- Of the outer loop: every slot passed is good. Of the inner one: every slot of the range that was passed has the entry x, and pairs were passed.
-- The measures are what is left of the table and of the range.
use Rattle.std.proofs.Common.{◌≡◌, ℕ, ◌-◌, ◌%◌, ◌<◌, ◌≤◌, length, get_or}
use Rattle.blocks.proofs.Tables.{Good}
use Rattle.blocks.proofs.scan.by_slots.Given as goal

abbrev pub invariant-loop-k : goal.invariant-loop-k
invariant-loop-k l = record {
  in_range : (l.from ≤ l.k) × (l.k ≤ l.to);
  pairs : (l.k - l.from) % 2 ≡ 0;
  same : (j : ℕ) → j < l.k → l.from ≤ j → get_or l.table j 0 ≡ l.x;
}

abbrev pub decreases-loop-k : goal.decreases-loop-k
decreases-loop-k l = l.to - l.k

abbrev pub invariant-loop-i : goal.invariant-loop-i
invariant-loop-i l = record { in_range : l.i ≤ length l.table; good : (j : ℕ) → j < l.i → Good l.t l.m l.table j }

abbrev pub decreases-loop-i : goal.decreases-loop-i
decreases-loop-i l = length l.table - l.i
