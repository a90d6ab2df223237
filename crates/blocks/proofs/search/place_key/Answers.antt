-- A small arena is one row, a larger one is searched by halves; both are called with the whole table.
use Rattle.std.proofs.Common.{◌-◌, ◌^◌, ◌≤◌, arith, pow_mono}
use Rattle.blocks.proofs.search.place_key.Goals as goal
use Rattle.blocks.proofs.search.place_key.Goals.{Start}

-- the arena has at most 32,768 slots
module _ (c : Start) where
  small : 2 ^ (c.args.m - c.args.t) ≤ 2 ^ 15
  small = pow_mono {i = c.args.m - c.args.t} {j = 15} (omega arith)

pub search_row-requires : goal.search_row-requires
search_row-requires c =
    (omega arith, omega arith, omega arith, omega arith, omega arith, c.requires.4, omega (arith, small (goal.at.search_row-requires c).Start))

pub search-requires : goal.search-requires
search-requires c =
    (omega arith, omega arith, omega arith, omega arith, c.requires.4, omega (arith, small (goal.at.search-requires c).Start))
