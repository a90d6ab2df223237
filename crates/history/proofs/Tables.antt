-- The table of a set of blocks, stamped with x in the slots of a block, is the table of the changed set, where entries change in that block alone.
use Prim.Native.Nat.{ℕ, ◌+◌, ◌-◌, ◌*◌, ◌^◌, ◌≤◌, ◌<◌}
use mathlib.Core.Path.{◌≡◌, refl, sym, ◌∙◌, ap, subst}
use mathlib.Core.Bool.{Bool, true, false}
use mathlib.Core.List.{List}
use native.Mathlib.Omega.{arith}
use lib.Dec.{ltb}
use lib.ListN.{length, get_or, replicate, length-replicate, get_or-replicate}
use lib.Seq.{ext_get_or}
use borrow.Author.Tests.{ltb-true, ltb-false}
use Rattle.common.specs.Bytes.{over}
use Rattle.common.proofs.Bytes.{length_over, over-before, over-in, over-after}
use Rattle.blocks.specs.Blocks.{base, holds, Aligned}
use Rattle.blocks.specs.declared.Block.{Block}
use Rattle.blocks.specs.Sets.{Pair, ranges, entry_at, table_of}
use Rattle.blocks.specs.Tables.{lock_bit}
use Rattle.blocks.proofs.Sets.{BlockSet}
use Rattle.blocks.proofs.SetTables.{table-length, table-entry}
use Rattle.blocks.proofs.Slots.{slot_of, slot-start, Slots, slots-of, held-slots, slots-held}

module _ (t m : ℕ) (one : 1 ≤ t) (le : t ≤ m) (top : m < lock_bit) (ps rs : List Pair) (old : BlockSet t m (ranges ps)) (new : BlockSet t m (ranges rs))
    (b : Block) (a : Aligned t m b) (x : ℕ)
    (inside : (q : ℕ) → holds b q ≡ true → entry_at rs q ≡ x) (others : (q : ℕ) → holds b q ≡ false → entry_at rs q ≡ entry_at ps q) where
  z : Slots t m b
  z = slots-of t m b a

  -- the block holds its own slots
  taken : (i : ℕ) → z.first ≤ i → i < z.first + 2 ^ (b.order - t) → holds b (base + i * 2 ^ t) ≡ true
  taken i lo hi =
      let s : slot_of t (base + i * 2 ^ t) ≡ i = slot-start t i in
      slots-held t m b z (base + i * 2 ^ t) (record { past = omega arith; low = omega arith; high = omega arith })

  untaken : (i : ℕ) → ((z.first ≤ i → i < z.first + 2 ^ (b.order - t) → ⊥)) → holds b (base + i * 2 ^ t) ≡ false
  untaken i n = go (holds b (base + i * 2 ^ t)) refl
    where
      go : (u : Bool) → holds b (base + i * 2 ^ t) ≡ u → u ≡ false
      go true h =
          let s : slot_of t (base + i * 2 ^ t) ≡ i = slot-start t i in
          let k = held-slots t m b z (base + i * 2 ^ t) h in
          absurd (n (omega (arith, k.low)) (omega (arith, k.high)))
      go false h = refl

  abbrev xs : List ℕ
  xs = replicate (2 ^ (b.order - t)) x

  len-xs : length xs ≡ 2 ^ (b.order - t)
  len-xs = length-replicate (2 ^ (b.order - t)) x

  fits : z.first + length xs ≤ length (table_of t m ps)
  fits = omega (arith, len-xs, table-length t m ps, z.within)

  entry : (i : ℕ) → get_or (over (table_of t m ps) z.first xs) i 0 ≡ entry_at rs (base + i * 2 ^ t)
  entry i = go (ltb i z.first) (ltb i (z.first + 2 ^ (b.order - t))) refl refl
    where
      kept : (n : holds b (base + i * 2 ^ t) ≡ false) → get_or (table_of t m ps) i 0 ≡ entry_at rs (base + i * 2 ^ t)
      kept n = table-entry t m one le top ps old i ∙ sym (others (base + i * 2 ^ t) n)

      go : (u v : Bool) → ltb i z.first ≡ u → ltb i (z.first + 2 ^ (b.order - t)) ≡ v
          → get_or (over (table_of t m ps) z.first xs) i 0 ≡ entry_at rs (base + i * 2 ^ t)
      go true v p q =
          let lo : i < z.first = ltb-true _ _ p in
          over-before (table_of t m ps) z.first xs fits i lo ∙ kept (untaken i (λ c d. omega arith))
      go false true p q =
          let lo : z.first ≤ i = ltb-false _ _ p in
          let hi : i < z.first + 2 ^ (b.order - t) = ltb-true _ _ q in
          let at : z.first + (i - z.first) ≡ i = omega arith in
          subst (λ (k : ℕ). get_or (over (table_of t m ps) z.first xs) k 0 ≡ get_or xs (i - z.first) 0) at
          (over-in (table_of t m ps) z.first xs fits (i - z.first) (omega (arith, len-xs)))
          ∙ (get_or-replicate (2 ^ (b.order - t)) (i - z.first) x 0 (omega arith) ∙ sym (inside (base + i * 2 ^ t) (taken i lo hi)))
      go false false p q =
          let hi : z.first + 2 ^ (b.order - t) ≤ i = ltb-false _ _ q in
          over-after (table_of t m ps) z.first xs fits i (omega (arith, len-xs)) ∙ kept (untaken i (λ c d. omega arith))

  pub stamped-table : over (table_of t m ps) (slot_of t b.start) xs ≡ table_of t m rs
  stamped-table =
      let f : slot_of t b.start ≡ z.first = ap (slot_of t) z.start ∙ slot-start t z.first in
      rw f
      (ext_get_or 0 (over (table_of t m ps) z.first xs) (table_of t m rs)
      (length_over (table_of t m ps) z.first xs fits ∙ (table-length t m ps ∙ sym (table-length t m rs)))
      (λ i l. entry i ∙ sym (table-entry t m one le top rs new i)))
