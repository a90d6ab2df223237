-- What `order_of` ensures says whether the lengths fit (`fresh-refused`), and where they do the two fills leave all zero (`fresh-done`).
use Rattle.std.proofs.Common.{sym, ◌∙◌, rules}
use lib.ListN.{length-replicate}
use Rattle.common.proofs.Bytes.{over-whole}
use Rattle.heap.specs.Views.{slot_order}
use Rattle.heap.proofs.Judging.{order-found, order-missing, fresh-refused, fresh-done}
use Rattle.heap.proofs.fresh.Goals as goal

pub returns-in_err-ok_or : goal.returns-in_err-ok_or
returns-in_err-ok_or c =
    let h = fresh-refused _ _ (order-missing slot_order _ _ (sym c.in_err-ok_or.ensures.ok_part ∙ c.order_of.ensures)) in
    search rules

pub returns : goal.returns
returns c =
    let h = fresh-done _ _ (order-found slot_order _ _ (sym c.in_ok-ok_or.ensures.ok_part ∙ c.order_of.ensures)) in
    rw (
      c.fill.ensures ∙ over-whole _ _ (length-replicate _ _),
      c.fill-2.ensures ∙ over-whole _ _ (length-replicate _ _),
    ) h
