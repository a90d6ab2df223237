-- Where there is a block at the address that is sought, the table being undamaged, the address lies inside (`found_inside`), so no rule refuses the pointer; a
-- negative address is held as 0, where no block is either (`referent-from-zero`).
use Rattle.std.proofs.Common.{sym, ap, ◌∙◌}
use Rattle.blocks.specs.Tables.{referent_in}
use Rattle.blocks.specs.Pointers.{sought}
use Rattle.blocks.proofs.Referents.{referent-from-zero}
use Rattle.blocks.proofs.Outside.{found_inside}
use Rattle.heap.proofs.refusals.locate.Goals as goal

pub returns-in-Some : goal.returns-in-Some
returns-in-Some c =
    let a = c.args in
    let f =
    sym (referent-from-zero a.t a.table.now (sought a.t a.p)) ∙ sym (ap (referent_in a.t a.table.now) c.sought_address-h.ensures) ∙ sym c.in-Some.ensures in
    rw (found_inside a.t a.m a.table.now c.requires.3 c.requires.4 (sought a.t a.p) _ _ f, f)
