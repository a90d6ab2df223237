-- All ones is 2 ^ slots - 1, of at most sixteen slots.
use Rattle.std.proofs.Common.{◌-◌, ◌^◌, ◌≤◌, arith, pow_mono}
use Rattle.blocks.proofs.search.decided.Goals as goal

pub size_of-requires : goal.size_of-requires
size_of-requires c =
    let few : 2 ^ (c.args.k - c.args.t) ≤ 2 ^ 4 = pow_mono {i = c.args.k - c.args.t} {j = 4} (omega arith) in
    omega (arith, c.size_of-n.ensures)
