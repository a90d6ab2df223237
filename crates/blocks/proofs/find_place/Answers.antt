-- In an arena of at most 32,768 slots a key tells its place.
use Rattle.std.proofs.Common.{◌+◌, ◌-◌, ◌^◌, ◌≤◌, ap, ◌∙◌, arith, pow_mono}
use Rattle.blocks.specs.Inner.{place_at}
use Rattle.blocks.proofs.Keys.{place-within, key-place}
use Rattle.blocks.proofs.Searches.{part-arena}
use Rattle.blocks.proofs.find_place.Goals as goal

pub returns : goal.returns
returns c =
    let a = c.args in
    let s = a.table.now in
    let small : 2 ^ (a.m - a.t) ≤ 2 ^ 15 = pow_mono {i = a.m - a.t} {j = 15} (omega arith) in
    let found = c.place_key.ensures s (part-arena a.t a.m s c.requires.4 c.requires.5) in
    let within = place-within _ a.t 0 a.m a.e (omega arith) (omega arith) (omega arith) in
    c.place.ensures ∙ ap place_at found ∙ key-place 0 (0 + 2 ^ (a.m - a.t)) a.e (omega arith) _ within
