-- The table of a set of blocks with their locks: its entries, its referents, its locks, its free slots, and that it is undamaged and the only one. Each is
-- read off the block of the set that holds a slot's first address.
use Rattle.std.proofs.Common.{◌≡◌, ℕ, zero, suc, ◌+◌, ◌-◌, ◌*◌, ◌^◌, ◌<◌, ◌≤◌, Bool, true, false, eqb, List, length, get_or, sym, refl, ap, ◌∙◌, ap₂, inl, inr}
use Rattle.std.proofs.Common.{add-zero, mul-le-mul_right, suc-mul, le-div_iff_mul-le, zero-mul, arith, ext_get_or, pow_pos, ne_eqb, le-leb}
use mathlib.Core.List.{Memᴰ}
use native.Mathlib.Decide.{dec_lt}
use borrow.Author.Tests.{lt-leb}
use lib.ListN.{get_or-eq_default}
use Rattle.blocks.specs.Blocks.{base, floor, holds, missing, order_in, Referent, Missing, Found}
use Rattle.blocks.specs.Sets.{Pair, ranges, PairSet, IsTable, referent_of, locked_of, entry_at, entries_from, table_of}
use Rattle.blocks.specs.Tables.{lock_bit, entry_locked, entry_of, damaged_by, free_in, block_round, locked_in, referent_in}
use Rattle.blocks.proofs.Floors.{floor-le, lt-floor, pow-split, floor-multiple}
use Rattle.blocks.proofs.Referents.{referent-below, referent-past, referent-entry}
use Rattle.blocks.proofs.Sets.{BlockSet, found-member, missing-none, none-missing, member-found, found-aligned, found-round, outside-missing}
use Rattle.blocks.proofs.Sets.{referent-slot, pair, range-in, range-out, set-ranges, found-pair, none-locked, locked-whole, locked-slot, member-locked}
use Rattle.blocks.proofs.Slots.{block, slot_of, slot-start, slots-of, held-slots, slots-held}
use Rattle.blocks.proofs.Tables.{Good, Whole, order-of-entry, lock-of-entry, entry-taken, undamaged, free-good, whole-good}

entries-length : (t : ℕ) (ps : List Pair) (a k : ℕ) → length (entries_from t ps a k) ≡ k
unfolding entries_from
entries-length t ps a zero = refl
entries-length t ps a (suc k) = ap suc (entries-length t ps (a + 2 ^ t) k)

entries_at : (t : ℕ) (ps : List Pair) (a k i : ℕ) → i < k → get_or (entries_from t ps a k) i 0 ≡ entry_at ps (a + i * 2 ^ t)
unfolding entries_from
entries_at t ps a zero i l = absurd (omega arith)
entries_at t ps a (suc k) zero l = rw (zero-mul, add-zero)
entries_at t ps a (suc k) (suc i) l =
    let q : a + 2 ^ t + i * 2 ^ t ≡ a + suc i * 2 ^ t = omega (arith, suc-mul i (2 ^ t)) in
    entries_at t ps (a + 2 ^ t) k i (omega arith) ∙ ap (entry_at ps) q

pub table-length : (t m : ℕ) (ps : List Pair) → length (table_of t m ps) ≡ 2 ^ (m - t)
unfolding table_of
table-length t m ps = entries-length t ps base (2 ^ (m - t))

-- the entry of an address that no block holds, and of one that a block holds
pub entry-missing : (ps : List Pair) (q : ℕ) → referent_of (ranges ps) q ≡ Missing → entry_at ps q ≡ 0
entry-missing ps q h = ap₂ (λ (r : Referent) (l : Bool). entry_of (order_in r) l) h (none-locked ps q h)

entry_found : (ps : List Pair) (q s e : ℕ) → referent_of (ranges ps) q ≡ Found s e → entry_at ps q ≡ entry_of e (locked_of ps q)
entry_found ps q s e h = ap (λ (r : Referent). entry_of (order_in r) (locked_of ps q)) h

module _ (t m : ℕ) (one : 1 ≤ t) (le : t ≤ m) (top : m < lock_bit) (ps : List Pair) (set : BlockSet t m (ranges ps)) where
  size : 2 ^ m ≡ 2 ^ (m - t) * 2 ^ t
  size = pow-split t m le

  -- a slot past the table's end lies outside the arena
  past : (i : ℕ) → 2 ^ (m - t) ≤ i → base + 2 ^ m ≤ base + i * 2 ^ t
  past i l = omega (arith, size, mul-le-mul_right (2 ^ t) l)

  -- the entry of a slot is its block's, also past the table's end, where there is none
  pub table-entry : (i : ℕ) → get_or (table_of t m ps) i 0 ≡ entry_at ps (base + i * 2 ^ t)
  unfolding table_of
  table-entry i = elim (dec_lt i (2 ^ (m - t))) [
    | yes l ↦ entries_at t ps base (2 ^ (m - t)) i l
    | no l ↦
        get_or-eq_default (table_of t m ps) 0 (omega (arith, table-length t m ps))
        ∙ sym (entry-missing ps _ (outside-missing t m (ranges ps) set (base + i * 2 ^ t) (inr (past i (omega arith)))))
  ]

  pub table_taken : (i s e : ℕ) → referent_of (ranges ps) (base + i * 2 ^ t) ≡ Found s e → get_or (table_of t m ps) i 0 ≡ entry_of e
      (locked_of ps (base + i * 2 ^ t))
  table_taken i s e h = table-entry i ∙ entry_found ps _ s e h

  pub table-free : (i : ℕ) → referent_of (ranges ps) (base + i * 2 ^ t) ≡ Missing → get_or (table_of t m ps) i 0 ≡ 0
  table-free i h = table-entry i ∙ entry-missing ps _ h

  taken-order : (q s e : ℕ) → referent_of (ranges ps) q ≡ Found s e → e ≡ 0 → ⊥
  taken-order q s e h z = omega (arith, (found-aligned t m (ranges ps) set q s e h).low)

  pub free-missing : (i : ℕ) → free_in (table_of t m ps) i ≡ missing (referent_of (ranges ps) (base + i * 2 ^ t))
  free-missing i = go (referent_of (ranges ps) (base + i * 2 ^ t)) refl
    where
      go : (r : Referent) → referent_of (ranges ps) (base + i * 2 ^ t) ≡ r → free_in (table_of t m ps) i ≡ missing r
      go Missing h = ap (λ (x : ℕ). eqb x 0) (table-free i h)
      go (Found s e) h = ap (λ (x : ℕ). eqb x 0) (table_taken i s e h) ∙ ne_eqb _ 0 (entry-taken e (locked_of ps (base + i * 2 ^ t)) (taken-order _ s e h))

  -- by the entry of its slot each address has the entry of its block
  slot-entry : (q : ℕ) → base ≤ q → get_or (table_of t m ps) (slot_of t q) 0 ≡ entry_at ps q
  slot-entry q l =
      table-entry (slot_of t q)
      ∙ sym (ap₂ (λ (r : Referent) (x : Bool). entry_of (order_in r) x) (referent-slot t m (ranges ps) set q l) (locked-slot t m ps set q l))

  -- by the table and rounding each address has the referent that the set gives it
  pub referent-same : (q : ℕ) → referent_in t (table_of t m ps) q ≡ referent_of (ranges ps) q
  referent-same q = elim (dec_lt q base) [
    | yes l ↦ referent-below t (table_of t m ps) q l ∙ sym (outside-missing t m (ranges ps) set q (inl l))
    | no l ↦ inside (omega arith) (dec_lt (slot_of t q) (2 ^ (m - t)))
  ]
    where
      some : (r : Referent) → referent_of (ranges ps) q ≡ r → block_round (entry_at ps q) q ≡ r
      some Missing h = ap (λ (x : ℕ). block_round x q) (entry-missing ps q h)
      some (Found s e) h = ap (λ (x : ℕ). block_round x q) (entry_found ps q s e h) ∙ found-round t m (ranges ps) set (locked_of ps q) one top q s e h

      inside : base ≤ q → Dec (slot_of t q < 2 ^ (m - t)) → referent_in t (table_of t m ps) q ≡ referent_of (ranges ps) q
      inside l (yes k) =
          referent-entry t (table_of t m ps) q l (omega (arith, table-length t m ps))
          ∙ ap (λ (x : ℕ). block_round x q) (slot-entry q l)
          ∙ some (referent_of (ranges ps) q) refl
      inside l (no k) =
          let x : 2 ^ (m - t) * 2 ^ t ≤ q - base = (le-div_iff_mul-le (pow_pos t)).0 (omega arith) in
          referent-past t (table_of t m ps) q l (omega (arith, table-length t m ps)) ∙ sym (outside-missing t m (ranges ps) set q (inr (omega (arith, size))))

  -- and the lock
  pub locked-same : (q : ℕ) → locked_in t (table_of t m ps) q ≡ locked_of ps q
  unfolding locked_in
  locked-same q = elim (dec_lt q base) [
    | yes l ↦ rw (lt-leb base q l) (sym (none-locked ps q (outside-missing t m (ranges ps) set q (inl l))))
    | no l ↦ rw (le-leb base q (omega arith)) (ap entry_locked (slot-entry q (omega arith)) ∙ some (referent_of (ranges ps) q) refl)
  ]
    where
      some : (r : Referent) → referent_of (ranges ps) q ≡ r → entry_locked (entry_at ps q) ≡ locked_of ps q
      some Missing h = ap entry_locked (entry-missing ps q h) ∙ sym (none-locked ps q h)
      some (Found s e) h =
          ap entry_locked (entry_found ps q s e h)
          ∙ lock-of-entry e (locked_of ps q) (omega (arith, (found-aligned t m (ranges ps) set q s e h).high))

  -- the aligned range round a taken slot is its block, and each of the block's slots has its entry
  taken-whole : (i s e : ℕ) → referent_of (ranges ps) (base + i * 2 ^ t) ≡ Found s e
      → Whole t m (table_of t m ps) i (entry_of e (locked_of ps (base + i * 2 ^ t))) e
  taken-whole i s e h =
      let a = found-aligned t m (ranges ps) set _ s e h in
      let z = slots-of t m (block s e) a in
      let n = found-member (ranges ps) _ s e h in
      let j = held-slots t m (block s e) z _ n.held in
      let here : slot_of t (base + i * 2 ^ t) ≡ i = slot-start t i in
      let f : floor (e - t) i ≡ z.first =
      floor-multiple (e - t) z.index i (omega (arith, j.low, z.multiple)) (omega (arith, j.high, z.multiple)) ∙ sym z.multiple in
      record {
        order = order-of-entry e (locked_of ps (base + i * 2 ^ t)) (omega (arith, a.high));
        low = a.low;
        high = a.high;
        entries = λ k lo hi.
            let there : slot_of t (base + k * 2 ^ t) ≡ k = slot-start t k in
            let held = slots-held t m (block s e) z (base + k * 2 ^ t) (record { past = omega arith; low = omega arith; high = omega arith }) in
            table_taken k s e (member-found t m (ranges ps) set (block s e) _ n.mem held)
            ∙ ap (entry_of e) (locked-whole t m ps set _ s e h (base + k * 2 ^ t) held);
      }

  slot-good : (i : ℕ) → Good t m (table_of t m ps) i
  slot-good i = go (referent_of (ranges ps) (base + i * 2 ^ t)) refl
    where
      go : (r : Referent) → referent_of (ranges ps) (base + i * 2 ^ t) ≡ r → Good t m (table_of t m ps) i
      go Missing h = free-good t m (table_of t m ps) i (table-free i h)
      go (Found s e) h =
          let l = locked_of ps (base + i * 2 ^ t) in
          let n = entry-taken e l (taken-order _ s e h) in
          whole-good t m (table_of t m ps) i (entry_of e l) e n (taken-whole i s e h) i (floor-le (e - t) i) (lt-floor (e - t) i)

  pub table-undamaged : damaged_by t m (table_of t m ps) ≡ false
  table-undamaged = undamaged t m (table_of t m ps) (λ i l. slot-good i)

module _ (t m : ℕ) (one : 1 ≤ t) (le : t ≤ m) (top : m < lock_bit) (ps : List Pair) (set : PairSet t m ps) where
  abbrev blocks : BlockSet t m (ranges ps)
  blocks = set-ranges set

  -- each slot of a member has its entry
  pub member-entry : (p : Pair) → Memᴰ p ps → (i : ℕ) → holds p.block (base + i * 2 ^ t) ≡ true
      → get_or (table_of t m ps) i 0 ≡ entry_of p.block.order p.locked
  member-entry p i k h =
      table_taken t m one le top ps blocks k p.block.start p.block.order (member-found t m (ranges ps) blocks p.block _ (range-in p ps i) h)
      ∙ ap (entry_of p.block.order) (member-locked set p _ i h)

  pub is-table-of : IsTable t m ps (table_of t m ps)
  is-table-of =
      record {
        slots = table-length t m ps;
        taken = member-entry;
        free = λ i h.
            table-free t m one le top ps blocks i
            (none-missing (ranges ps) _ (λ b j. let r = range-out b ps j in rw (← r.is) (h r.whose r.mem)));
      }

  pub table-only : (s : List ℕ) → IsTable t m ps s → s ≡ table_of t m ps
  table-only s h = ext_get_or 0 s (table_of t m ps) (h.slots ∙ sym (table-length t m ps)) (λ i l. go i (referent_of (ranges ps) (base + i * 2 ^ t)) refl)
    where
      go : (i : ℕ) (r : Referent) → referent_of (ranges ps) (base + i * 2 ^ t) ≡ r → get_or s i 0 ≡ get_or (table_of t m ps) i 0
      go i Missing e =
          h.free i (λ p j. missing-none (ranges ps) _ e p.block (range-in p ps j)) ∙ sym (table-free t m one le top ps blocks i e)
      go i (Found u e) w =
          h.taken (pair u e (locked_of ps (base + i * 2 ^ t))) (found-pair ps _ u e w) i (found-member (ranges ps) _ u e w).held
          ∙ sym (table_taken t m one le top ps blocks i u e w)
