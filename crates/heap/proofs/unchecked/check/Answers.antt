-- `locate_plain` leads p to a number, which refuses the check (`check-led-refused`), or to a block, of whose order `passes` answers (`check-found`).
use Rattle.std.proofs.Common.{◌≡◌, Bool, true, false, refl, rules}
use Rattle.std.specs.Int.{from_bool}
use Rattle.heap.specs.Heaps.{bit}
use Rattle.heap.proofs.Stepping.{check-led-refused, check-order, check-found}
use Rattle.heap.proofs.unchecked.check.Goals as goal

as_bit : (b : Bool) → from_bool b ≡ bit b
as_bit true = refl
as_bit false = refl

pub returns-in_err-block : goal.returns-in_err-block
returns-in_err-block c =
    let h = check-led-refused c.requires c.args.p c.args.i c.in_err-block.ensures in
    search rules

pub passes-requires : goal.passes-requires
passes-requires c = check-order {a = c.args.arena.now} c.requires _ c.args.i c.in_ok-block.ensures

pub returns : goal.returns
returns c =
    rw (c.from.ensures, as_bit) (check-found c.requires _ _ c.in_ok-block.ensures c.passes.ensures.by_bits)
