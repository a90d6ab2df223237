-- The blocks that a table reads back as, and the set that an undamaged table stands for. A block is read back just where a slot has its entry and is its
-- first (`Read`); in an undamaged table each slot of a block leads to that one.
use Rattle.std.proofs.Common.{◌≡◌, ℕ, zero, suc, ◌+◌, ◌-◌, ◌*◌, ◌/◌, ◌%◌, ◌^◌, ◌<◌, ◌≤◌, Bool, true, false, cond, not, ◌&&◌, eqb, List, [], ◌∷◌, length, get_or}
use Rattle.std.proofs.Common.{sym, refl, ap, ◌∙◌, subst, ap₂, ⊎_elim, add-zero, add-suc, suc-add, div-add-mod', zero-add, arith, pow_pos, eq-eqb, ne_eqb}
use Rattle.std.proofs.Common.{eqb-true}
use mathlib.Core.Bool.{false≢true}
use mathlib.Core.List.Memᴰ
use mathlib.Core.List.{Memᴰ}
use native.Mathlib.Nat.{mul-mod_left}
use native.Mathlib.Decide.{dec_lt}
use borrow.Author.Tests.{eqb-false, not-true}
use lib.ListN.{get_or-eq_default}
use Rattle.blocks.specs.Blocks.{base, floor, Block, holds, Aligned, Referent, Missing, Found}
use Rattle.blocks.specs.Sets.{Pair, ranges, PairSet, IsTable, SameSet, referent_of, locked_of, table_of, pair_at, pairs_from, pairs_of}
use Rattle.blocks.specs.Tables.{lock_bit, entry_order, entry_locked, entry_of, damaged_by, block_round, referent_in}
use Rattle.common.proofs.Booleans.{and_left, and_right}
use Rattle.blocks.proofs.Floors.{floor-quotient, floor-le, lt-floor, floor-multiple}
use Rattle.blocks.proofs.Referents.{referent-entry}
use Rattle.blocks.proofs.Sets.{pair, BlockSet, set-ranges, round-held, found-member, found-pair, found-aligned}
use Rattle.blocks.proofs.SetTables.{table-length, table_taken, table-free, member-entry}
use Rattle.blocks.proofs.Slots.{block, slot_of, slot-start, Slots, slots-of, aligned-of, slots-round, held-slots, slots-held}
use Rattle.blocks.proofs.Tables.{Whole, order-of-entry, lock-of-entry, entry-of-both, entry-taken, undamaged-whole}

-- p is read at slot `at` of the slots from i on: the entry says its order and its lock, and the slot's number is a multiple of the block's slots
pub record Read (t i : ℕ) (s : List ℕ) (p : Pair) : Type 0 where
  pub at : ℕ
  pub inside : at < length s
  pub taken : get_or s at 0 ≡ 0 → ⊥
  pub says : entry_order (get_or s at 0) ≡ p.block.order
  pub locks : entry_locked (get_or s at 0) ≡ p.locked
  pub start : p.block.start ≡ base + (i + at) * 2 ^ t
  pub first : (i + at) % 2 ^ (p.block.order - t) ≡ 0

module _ (t : ℕ) (p : Pair) where
  later : (i x : ℕ) (s : List ℕ) → Read t (suc i) s p → Read t i (x ∷ s) p
  later i x s r =
      let q : suc i + r.at ≡ i + suc r.at = rw (suc-add, add-suc) in
      record {
        at = suc r.at;
        inside = omega (arith, r.inside);
        taken = r.taken;
        says = r.says;
        locks = r.locks;
        start = rw q at r.start;
        first = rw q at r.first;
      }

  pub read_out : (i : ℕ) (s : List ℕ) → Memᴰ p (pairs_from t i s) → Read t i s p
  unfolding pairs_from
  read_out i [] h = absurd (Memᴰ.not-nil h)
  read_out i (x ∷ s) h = go (not (eqb x 0) && eqb (i % 2 ^ (entry_order x - t)) 0) refl h (read_out (suc i) s)
    where
      here : not (eqb x 0) && eqb (i % 2 ^ (entry_order x - t)) 0 ≡ true → p ≡ pair_at t i x → Read t i (x ∷ s) p
      here w q =
          let o : p.block.order ≡ entry_order x = ap (λ (r : Pair). r.block.order) q in
          record {
            at = 0;
            inside = omega arith;
            taken = eqb-false x 0 (not-true (eqb x 0) (and_left _ _ w));
            says = sym o;
            locks = sym (ap (λ (r : Pair). r.locked) q);
            start = rw add-zero (ap (λ (r : Pair). r.block.start) q);
            first = rw (add-zero, o) (eqb-true _ _ (and_right (not (eqb x 0)) _ w));
          }

      go : (c : Bool) → not (eqb x 0) && eqb (i % 2 ^ (entry_order x - t)) 0 ≡ c
          → Memᴰ p (cond c (pair_at t i x ∷ pairs_from t (suc i) s) (pairs_from t (suc i) s))
          → (Memᴰ p (pairs_from t (suc i) s) → Read t (suc i) s p) → Read t i (x ∷ s) p
      go true w k ih = ⊎_elim (here w) (λ j. later i x s (ih j)) (Memᴰ.cases_cons k)
      go false w k ih = later i x s (ih k)

  read-at : (i : ℕ) (s : List ℕ) (j : ℕ) → j < length s → (get_or s j 0 ≡ 0 → ⊥) → entry_order (get_or s j 0) ≡ p.block.order
      → entry_locked (get_or s j 0) ≡ p.locked → p.block.start ≡ base + (i + j) * 2 ^ t → (i + j) % 2 ^ (p.block.order - t) ≡ 0
      → Memᴰ p (pairs_from t i s)
  unfolding pairs_from
  read-at i [] j l n o k b f = absurd (omega arith)
  read-at i (x ∷ s) zero l n o k b f =
      let q : p ≡ pair_at t i x = λ j. record { block = record { start = (rw add-zero at b) j; order = sym o j }; locked = sym k j } in
      let w : eqb (i % 2 ^ (entry_order x - t)) 0 ≡ true = eq-eqb (i % 2 ^ (entry_order x - t)) 0 (rw o (rw add-zero at f)) in
      rw (ne_eqb x 0 n, w) (Memᴰ.head q)
  read-at i (x ∷ s) (suc j) l n o k b f =
      let q : i + suc j ≡ suc i + j = rw (suc-add, add-suc) in
      go (not (eqb x 0) && eqb (i % 2 ^ (entry_order x - t)) 0) (read-at (suc i) s j (omega arith) n o k (rw q at b) (rw q at f))
    where
      go : (c : Bool) → Memᴰ p (pairs_from t (suc i) s)
          → Memᴰ p (cond c (pair_at t i x ∷ pairs_from t (suc i) s) (pairs_from t (suc i) s))
      go true k = Memᴰ.tail k
      go false k = k

  pub read-in : (i : ℕ) (s : List ℕ) → Read t i s p → Memᴰ p (pairs_from t i s)
  read-in i s r = read-at i s r.at r.inside r.taken r.says r.locks r.start r.first

-- a number without a remainder by 2 ^ e, of those within 2 ^ e of a multiple, is the multiple
only-multiple : (e i j : ℕ) → i * 2 ^ e ≤ j → j < i * 2 ^ e + 2 ^ e → j % 2 ^ e ≡ 0 → j ≡ i * 2 ^ e
only-multiple e i j lo hi r = omega (arith, div-add-mod' j (2 ^ e), floor-quotient e j, floor-multiple e i j lo hi)

-- the table of a set reads back as the set
module _ (t m : ℕ) (one : 1 ≤ t) (le : t ≤ m) (top : m < lock_bit) (ps : List Pair) (set : PairSet t m ps) where
  abbrev blocks : BlockSet t m (ranges ps)
  blocks = set-ranges set

  read-member : (p : Pair) → Memᴰ p (pairs_of t (table_of t m ps)) → Memᴰ p ps
  read-member p h = go (referent_of (ranges ps) here) refl
    where
      r : Read t 0 (table_of t m ps) p
      r = read_out t p 0 (table_of t m ps) h

      here : ℕ
      here = base + r.at * 2 ^ t

      go : (x : Referent) → referent_of (ranges ps) here ≡ x → Memᴰ p ps
      go Missing w = absurd (r.taken (table-free t m one le top ps blocks r.at w))
      go (Found s e) w =
          let n = found-member (ranges ps) here s e w in
          let al = found-aligned t m (ranges ps) blocks here s e w in
          let z = slots-of t m (block s e) al in
          let j = held-slots t m (block s e) z here n.held in
          let slot : slot_of t here ≡ r.at = slot-start t r.at in
          let entry = table_taken t m one le top ps blocks r.at s e w in
          let below : e < lock_bit = omega (arith, al.high) in
          let o : p.block.order ≡ e = sym r.says ∙ ap entry_order entry ∙ order-of-entry e (locked_of ps here) below in
          let k : p.locked ≡ locked_of ps here = sym r.locks ∙ ap entry_locked entry ∙ lock-of-entry e (locked_of ps here) below in
          let f : r.at % 2 ^ (e - t) ≡ 0 = subst (λ (x : ℕ). r.at % 2 ^ (x - t) ≡ 0) o (rw zero-add at r.first) in
          let a : r.at ≡ z.first =
          only-multiple (e - t) z.index r.at (omega (arith, j.low, z.multiple)) (omega (arith, j.high, z.multiple)) f ∙ sym z.multiple in
          let b : p.block.start ≡ here = rw zero-add at r.start in
          let u : p.block.start ≡ s = b ∙ ap (λ (x : ℕ). base + x * 2 ^ t) a ∙ sym z.start in
          Memᴰ.cast (λ i. record { block = record { start = u i; order = o i }; locked = k i }) (found-pair ps here s e w)

  member-read : (p : Pair) → Memᴰ p ps → Memᴰ p (pairs_of t (table_of t m ps))
  member-read p h =
      let b = p.block in
      let a = set.aligned p h in
      let z = slots-of t m b a in
      let here : slot_of t (base + z.first * 2 ^ t) ≡ z.first = slot-start t z.first in
      let n : 0 < 2 ^ (b.order - t) = pow_pos (b.order - t) in
      let w = slots-held t m b z (base + z.first * 2 ^ t) (record { past = omega arith; low = omega arith; high = omega arith }) in
      let entry = member-entry t m one le top ps set p h z.first w in
      let below : b.order < lock_bit = omega (arith, a.high) in
      read-in t p 0 (table_of t m ps)
      (record {
        at = z.first;
        inside = omega (arith, table-length t m ps, z.within);
        taken = λ e. entry-taken b.order p.locked (λ x. omega (arith, a.low)) (sym entry ∙ e);
        says = ap entry_order entry ∙ order-of-entry b.order p.locked below;
        locks = ap entry_locked entry ∙ lock-of-entry b.order p.locked below;
        start = rw zero-add z.start;
        first = rw (zero-add, z.multiple) (mul-mod_left z.index (2 ^ (b.order - t)));
      })

  pub reads-as-set : SameSet (pairs_of t (table_of t m ps)) ps
  reads-as-set = (read-member, member-read)

-- an undamaged table reads back as a set whose table it is
module _ (t m : ℕ) (one : 1 ≤ t) (top : m < lock_bit) (s : List ℕ) (len : length s ≡ 2 ^ (m - t)) (good : damaged_by t m s ≡ false) where
  -- where a block is read, it has its entry in each of its slots
  module _ (p : Pair) (h : Memᴰ p (pairs_of t s)) where
    r : Read t 0 s p
    r = read_out t p 0 s h

    abbrev b : Block
    b = p.block

    whole : Whole t m s r.at (get_or s r.at 0) b.order
    whole = undamaged-whole t m s good r.at (get_or s r.at 0) b.order r.inside refl r.says r.taken

    -- the entry is that of its order and its lock
    entry-is : get_or s r.at 0 ≡ entry_of b.order p.locked
    entry-is = sym (entry-of-both (get_or s r.at 0)) ∙ ap₂ entry_of r.says r.locks

    start-at : b.start ≡ base + floor (b.order - t) r.at * 2 ^ t
    start-at =
        let e : b.start ≡ base + r.at * 2 ^ t = rw zero-add at r.start in
        let f : r.at % 2 ^ (b.order - t) ≡ 0 = rw zero-add at r.first in
        let z : r.at ≡ floor (b.order - t) r.at = omega (arith, div-add-mod' r.at (2 ^ (b.order - t)), floor-quotient (b.order - t) r.at) in
        e ∙ ap (λ (x : ℕ). base + x * 2 ^ t) z

    abbrev slots : Slots t m b
    slots = slots-round t m r.at b.start b.order whole.low whole.high (rw len at r.inside) start-at

    read-aligned : Aligned t m b
    read-aligned = aligned-of t m b whole.low whole.high slots

    read-entry : (q : ℕ) → holds b q ≡ true → get_or s (slot_of t q) 0 ≡ entry_of b.order p.locked
    read-entry q w = let j = held-slots t m b slots q w in whole.entries (slot_of t q) j.low j.high ∙ entry-is

    read-referent : (q : ℕ) → holds b q ≡ true → referent_in t s q ≡ Found b.start b.order
    read-referent q w =
        let j = held-slots t m b slots q w in
        referent-entry t s q j.past (omega (arith, j.high, slots.within, len))
        ∙ ap (λ (x : ℕ). block_round x q) (read-entry q w)
        ∙ round-held t m b p.locked one top read-aligned q w

    read-lock : (q : ℕ) → holds b q ≡ true → entry_locked (get_or s (slot_of t q) 0) ≡ p.locked
    read-lock q w = ap entry_locked (read-entry q w) ∙ lock-of-entry b.order p.locked (omega (arith, whole.high))

  pub read_set : PairSet t m (pairs_of t s)
  read_set =
      record {
        aligned = read-aligned;
        apart = λ p r i j q x y.
            let e : Found p.block.start p.block.order ≡ Found r.block.start r.block.order =
            sym (read-referent p i q x) ∙ read-referent r j q y in
            let u : p.block.start ≡ r.block.start = cc in
            let v : p.block.order ≡ r.block.order = cc in
            let l : p.locked ≡ r.locked = sym (read-lock p i q x) ∙ read-lock r j q y in
            λ k. record { block = record { start = u k; order = v k }; locked = l k };
      }

  -- the block round a taken slot i, whose entry is x
  module _ (i x : ℕ) (l : i < length s) (w : Whole t m s i x (entry_order x)) (n : x ≡ 0 → ⊥) where
    abbrev levels : ℕ
    levels = entry_order x - t

    abbrev round : Pair
    round = pair (base + floor levels i * 2 ^ t) (entry_order x) (entry_locked x)

    round-read : Memᴰ round (pairs_of t s)
    round-read =
        let entry : get_or s (floor levels i) 0 ≡ x = w.entries (floor levels i) (omega arith) (omega (arith, pow_pos levels)) in
        read-in t round 0 s
        (record {
          at = floor levels i;
          inside = omega (arith, floor-le levels i);
          taken = λ z. n (sym entry ∙ z);
          says = ap entry_order entry;
          locks = ap entry_locked entry;
          start = rw zero-add;
          first = rw (zero-add, floor-quotient) (mul-mod_left (i / 2 ^ levels) (2 ^ levels));
        })

    round-holds : holds round.block (base + i * 2 ^ t) ≡ true
    round-holds =
        let here : slot_of t (base + i * 2 ^ t) ≡ i = slot-start t i in
        slots-held t m round.block (slots-round t m i round.block.start (entry_order x) w.low w.high (rw len at l) refl) (base + i * 2 ^ t)
        (record { past = omega arith; low = omega (arith, floor-le levels i); high = omega (arith, lt-floor levels i) })

  pub read_table : IsTable t m (pairs_of t s) s
  read_table =
      record {
        slots = len;
        taken = λ p h i w. subst (λ (x : ℕ). get_or s x 0 ≡ entry_of p.block.order p.locked) (slot-start t i) (read-entry p h (base + i * 2 ^ t) w);
        free = λ i h. not_taken i h (get_or s i 0) refl (dec_lt i (length s));
      }
    where
      not_taken : (i : ℕ) → ((p : Pair) → Memᴰ p (pairs_of t s) → holds p.block (base + i * 2 ^ t) ≡ false)
          → (x : ℕ) → get_or s i 0 ≡ x → Dec (i < length s) → x ≡ 0
      not_taken i h zero q d = refl
      not_taken i h (suc x) q (no d) = sym q ∙ get_or-eq_default s 0 (omega arith)
      not_taken i h (suc x) q (yes l) =
          let n : (suc x ≡ 0 → ⊥) = λ z. omega arith in
          let w = undamaged-whole t m s good i (suc x) (entry_order (suc x)) l q refl n in
          absurd (false≢true (sym (h _ (round-read i (suc x) l w n)) ∙ round-holds i (suc x) l w n))
