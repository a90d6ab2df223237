-- One law for each way: below the arena, past the table, a free slot, and a taken one, whose entry says the order by which the address is rounded down to its
-- block. In an undamaged table it is an order of the arena, so that the block's start fits in 32 bits.
use Rattle.std.proofs.Common.{◌≡◌, ℕ, ◌+◌, ◌-◌, ◌*◌, ◌/◌, get_or, sym, refl, ap, ◌∙◌, div-mul-le_self, arith, pow_pos}
use lib.Pow.{shr_le}
use Rattle.blocks.specs.Blocks.{base, floor, Found}
use Rattle.blocks.specs.Tables.{block_round, referent_in}
use Rattle.blocks.proofs.Referents.{referent-below, referent-past, referent-entry, round-some}
use Rattle.blocks.proofs.Slots.{slot_of}
use Rattle.blocks.proofs.Tables.{undamaged-whole}
use Rattle.blocks.proofs.referent_in.Goals as goal
use Rattle.blocks.proofs.referent_in.Goals.{Else-table-i}

pub returns-then-q-lt-BASE : goal.returns-then-q-lt-BASE
returns-then-q-lt-BASE c = sym (referent-below _ _ _ c.if-q-lt-BASE.true)

pub overflow_cast-i : goal.overflow_cast-i
overflow_cast-i c = let a = c.args in omega (arith, shr_le (a.q - base) a.t)

pub returns-then-table-i : goal.returns-then-table-i
returns-then-table-i c = sym (referent-past _ _ _ c.if-q-lt-BASE.false c.if-table-i.true)

-- where the table has the slot: its entry, and the referent by it
module _ (c : Else-table-i) where
  abbrev entry : ℕ
  entry = get_or c.args.table.now (slot_of c.args.t c.args.q) 0

  by-entry : let a = c.args in referent_in a.t a.table.now a.q ≡ block_round entry a.q
  by-entry = let a = c.args in referent-entry a.t a.table.now a.q c.if-q-lt-BASE.false c.if-table-i.false

pub returns-then-entry-eq0 : goal.returns-then-entry-eq0
returns-then-entry-eq0 c = sym (by-entry (goal.at.returns-then-entry-eq0 c).Else-table-i ∙ ap (λ (x : ℕ). block_round x c.args.q) c.if-entry-eq0.true)

pub size_of-size-requires : goal.size_of-size-requires
size_of-size-requires c =
    let whole = undamaged-whole c.args.t c.args.m c.args.table.now c.requires.4 _ ((get_or c.args.table.now (slot_of c.args.t c.args.q) 0)) _
    c.if-table-i.false refl refl c.if-entry-eq0.false in
    omega (arith, whole.high, c.order_in-e.ensures)

pub nonzero_div-start : goal.nonzero_div-start
nonzero_div-start c = rw c.size_of-size.ensures (pow_pos _)

pub overflow_mul-start : goal.overflow_mul-start
overflow_mul-start c = omega (arith, div-mul-le_self (c.args.q - base) c.size_of-size.result)

pub overflow_add-start : goal.overflow_add-start
overflow_add-start c = omega (arith, div-mul-le_self (c.args.q - base) c.size_of-size.result)

pub returns : goal.returns
unfolding floor
returns c =
    let q = c.args.q in
    ap (λ (x : ℕ). Found (base + (q - base) / x * x) c.order_in-e.result) c.size_of-size.ensures
    ∙ sym (by-entry (goal.at.returns c).Else-table-i ∙ round-some ((get_or c.args.table.now (slot_of c.args.t c.args.q) 0)) _ q c.if-entry-eq0.false
    (sym c.order_in-e.ensures))
