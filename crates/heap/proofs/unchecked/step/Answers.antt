-- `locate` leads p to a number, which refuses the call (`step-missing`), or to a block, which holds the address at which p's referent is sought
-- (`found-holding`): then the answer is that of `stepped` (`step-done`).
use Rattle.std.proofs.Common.{arith, rules}
use Rattle.heap.proofs.Accesses.{found-holding}
use Rattle.heap.proofs.Stepping.{step-missing, step-done}
use Rattle.heap.proofs.unchecked.step.Goals as goal

pub returns-in_err-block : goal.returns-in_err-block
returns-in_err-block c =
    let h = step-missing c.requires c.in_err-block.ensures in
    search rules

pub stepped-requires : goal.stepped-requires
stepped-requires c =
    rw (c.sought_address.ensures, c.address_of.ensures)
    (found-holding c.args.t c.args.m c.args.arena.now c.args.table.now c.requires.sound c.args.p (omega arith) c.in_ok-block.ensures)

pub returns : goal.returns
returns c = step-done c.requires c.in_ok-block.ensures c.sought_address.ensures c.address_of.ensures c.stepped.ensures
