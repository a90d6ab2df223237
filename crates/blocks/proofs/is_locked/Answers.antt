-- One law for each way: below the arena, past the table, and a slot, whose entry says it.
use Rattle.std.proofs.Common.{◌≡◌, ℕ, get_or, sym, ap, ◌∙◌, le-leb}
use borrow.Author.Tests.{lt-leb}
use lib.ListN.{get_or-eq_default}
use Rattle.blocks.specs.Blocks.{base}
use Rattle.blocks.specs.Tables.{entry_locked, locked_in}
use Rattle.blocks.proofs.Slots.{slot_of}
use Rattle.blocks.proofs.is_locked.Goals as goal
use Rattle.blocks.proofs.is_locked.Goals.{Else-q-lt-BASE}

pub returns-then-q-lt-BASE : goal.returns-then-q-lt-BASE
unfolding locked_in
returns-then-q-lt-BASE c = rw (lt-leb base _ c.if-q-lt-BASE.true)

-- where the table ends before the slot, and where it has it
module _ (c : Else-q-lt-BASE) where
  abbrev slot : ℕ
  slot = slot_of c.args.t c.args.q

  by-entry : let a = c.args in locked_in a.t a.table.now a.q ≡ entry_locked (get_or a.table.now slot 0)
  unfolding locked_in
  by-entry = rw (le-leb base c.args.q c.if-q-lt-BASE.false)

pub returns-then-table-i : goal.returns-then-table-i
returns-then-table-i c =
    sym (by-entry (goal.at.returns-then-table-i c).Else-q-lt-BASE ∙ ap entry_locked (get_or-eq_default c.args.table.now 0 c.if-table-i.true))

pub returns : goal.returns
returns c = ap entry_locked c.from.ensures ∙ sym (by-entry (goal.at.returns c).Else-q-lt-BASE)
