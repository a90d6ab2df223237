-- Of the outer loop: every slot passed is good, and rows were passed. Of the inner one: each slot of the range that was passed has the entry x, and rows were
-- passed. The measures are what is left of the table, and of the range.
use Rattle.std.proofs.Common.{◌≡◌, ℕ, ◌-◌, ◌%◌, ◌<◌, ◌≤◌, length, get_or}
use Rattle.blocks.proofs.Tables.{Good}
use Rattle.blocks.proofs.scan.by_rows.Given as goal

abbrev pub invariant-loop-at : goal.invariant-loop-at
invariant-loop-at l = record {
  low : l.from ≤ l.at;
  high : l.at ≤ l.to;
  rows : (l.at - l.from) % 16 ≡ 0;
  alike : (k : ℕ) → k < l.at → l.from ≤ k → get_or l.table k 0 ≡ get_or l.table l.i 0;
}

abbrev pub decreases-loop-at : goal.decreases-loop-at
decreases-loop-at l = l.to - l.at

abbrev pub invariant-loop-i : goal.invariant-loop-i
invariant-loop-i l = record {
  in_range : l.i ≤ length l.table;
  rows : l.i % 16 ≡ 0;
  good : (j : ℕ) → j < l.i → Good l.t l.m l.table j;
}

abbrev pub decreases-loop-i : goal.decreases-loop-i
decreases-loop-i l = length l.table - l.i
