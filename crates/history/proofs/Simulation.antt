-- One call: a heap and a ledger that agree look alike to every rule (`view-same`), so they answer alike, and agree again (`step_same`).
use Prim.Native.Nat.{ℕ, zero, suc, ◌+◌, ◌-◌, ◌*◌, ◌%◌, ◌^◌, ◌≤◌, ◌<◌}
use mathlib.Core.Path.{◌≡◌, refl, sym, ◌∙◌, ap, ap₂, subst, fun_ext}
use mathlib.Core.Bool.{Bool, true, false, cond, false≢true}
use mathlib.Core.List.{List, [], ◌∷◌, ◌++◌, Memᴰ}
use native.Mathlib.Omega.{arith}
use lib.Dec.{ltb}
use lib.IntN.{ℤ, pos, negsuc, nat_abs, pos-ne-negsuc}
use lib.ListN.{length}
use lib.Pow.{pow_pos, pow_mono}
use borrow.Author.Tests.{eqb-true, not-false}
use Rattle.common.specs.Refusals.{Refusal, first}
use Rattle.blocks.specs.Blocks.{base, floor, holds, Aligned, missing, start_in, order_in, Referent, Missing, Found}
use Rattle.blocks.specs.declared.Block.{Block}
use Rattle.blocks.specs.Tables.{lock_bit, entry_of, damaged_by, free_in, locked_in, referent_in}
use Rattle.blocks.specs.Sets.{Pair, ranges, referent_of, locked_of, entry_at, table_of}
use Rattle.blocks.specs.Pointers.{mark_bit, marked, address, sought, referent_at, exact_sum, wrapped_sum, check_at, within}
use Rattle.blocks.proofs.Floors.{floor-multiple, floor-base}
use Rattle.blocks.proofs.Sets.{pair, held_low, held_high, found-member, member-found, found-aligned}
use Rattle.blocks.proofs.SetTables.{table-length, entry-missing, free-missing, referent-same, locked-same, table-undamaged}
use Rattle.blocks.proofs.Checks.{check-exact}
use Rattle.blocks.proofs.Slots.{block}
use Rattle.heap.specs.Views.{View, referent_of_pointer}
use Rattle.heap.specs.Rules.{rules, argument_rules, state_rules, not_start}
use Rattle.heap.specs.Effects.{value, stored, Outcome, settled, judged}
use Rattle.heap.specs.Heaps.{Heap, heap_of, inside_by_check, heap_view, stamped, entered, heap_step}
use Rattle.heap.specs.Changes.{Change, adds, change_of}
use Rattle.heap.specs.Inner.{Sound}
use Rattle.heap.specs.declared.Call.{Call}
use Rattle.heap.specs.declared.Call.TheVariants.{Get, Give, SetLock}
use Rattle.common.proofs.Refusals.{clear}
use Rattle.heap.proofs.Judging.{sound-sized, sizes-right}
use Rattle.heap.proofs.Changes.{Changing, gets, gives-back, sets-lock, keeps-all, changing}
use Rattle.history.specs.Ledgers.{Ledger, ledger_view, without, relocked, kept, ledger_step}
use Rattle.history.proofs.Agreement.{Proper, Orders, Agree, Same}
use Rattle.history.proofs.Pairs.{holds_by, proper-set, whole, dropped-in, dropped-out, dropped-proper, added-in, added_out, added-proper}
use Rattle.history.proofs.Locks.{same-ranges, ranges-without, ranges-relocked, ranges-added}
use Rattle.history.proofs.Locks.{without-locked, added-locked, added-others, relocked-in, relocked-out}
use Rattle.history.proofs.Gets.{got, got-placed}
use Rattle.history.proofs.Stores.{stored-length, plain, store}
use Rattle.history.proofs.Tables.{stamped-table}

-- ---- the two views

-- a marked pointer's referent is sought at most a slot away from its address
sought-near : (t p h : ℕ) → sought t p ≡ pos h → address p ≤ h + 2 ^ t
unfolding sought
sought-near t p h e = go (marked p) (ltb (address p % 2 ^ t) (2 ^ (t - 1))) (ltb (address p) (2 ^ t)) refl e
  where
    go : (u v w : Bool) → marked p ≡ u
        → cond u (cond v (cond w (negsuc (2 ^ t - suc (address p))) (pos (address p - 2 ^ t))) (pos (address p + 2 ^ t))) (pos p) ≡ pos h
        → address p ≤ h + 2 ^ t
    go true true true x k = absurd (pos-ne-negsuc h _ (sym k))
    go true true false x k = let z : address p - 2 ^ t ≡ h = ap nat_abs k in omega arith
    go true false w x k = let z : address p + 2 ^ t ≡ h = ap nat_abs k in omega arith
    go false v w x k =
        let z : p ≡ h = ap nat_abs k in
        let y : address p ≡ p = ap (λ (u : Bool). cond u (p - mark_bit) p) x in omega arith

module _ {t m : ℕ} {bs : List Block} (os : Orders t m) (proper : Proper t m bs) (p i : ℕ) where
  -- the check of the wrapped sum, by the referent's order, tells whether the exact sum lies in the referent
  inside-same : inside_by_check t (referent_at (referent_of bs) (sought t p)) p i ≡ within (referent_at (referent_of bs) (sought t p)) (exact_sum (address p) i)
  unfolding inside_by_check within
  inside-same = go (sought t p) refl
    where
      at : (h : ℕ) → sought t p ≡ pos h → (x : Referent) → referent_of bs h ≡ x → inside_by_check t x p i ≡ within x (exact_sum (address p) i)
      at h e Missing k = refl
      at h e (Found s o) k =
          let a : Aligned t m (block s o) = found-aligned t m bs (proper-set proper) h s o k in
          let held = (found-member bs h s o k).held in
          let lo : s ≤ h = held_low (block s o) h held in
          let hi : h < s + 2 ^ o = held_high (block s o) h held in
          let st : s ≡ base + a.index * 2 ^ o = a.place in
          let ins : s + 2 ^ o ≤ base + 2 ^ m = a.inside in
          let om : o ≤ m = a.high in
          let size : 2 ^ m ≤ 2 ^ 16 = pow_mono os.high in
          let slot : 2 ^ t ≤ 2 ^ m = pow_mono os.slot-high in
          let near : address p ≤ h + 2 ^ t = sought-near t p h e in
          let fl : floor o h ≡ s =
          floor-base o h (omega (arith, os.high)) (omega arith)
          ∙ ap (λ (x : ℕ). base + x) (floor-multiple o a.index (h - base) (omega arith) (omega arith)) ∙ sym st in
          ap (λ (x : ℤ). check_at o x (wrapped_sum (address p) i)) e
          ∙ check-exact o h (address p) i (omega (arith, os.high)) (omega arith) (omega arith)
          ∙ ap (λ (x : ℕ). within (Found x o) (exact_sum (address p) i)) fl

      go : (z : ℤ) → sought t p ≡ z → inside_by_check t (referent_at (referent_of bs) z) p i ≡ within (referent_at (referent_of bs) z) (exact_sum (address p) i)
      go (pos h) e = at h e (referent_of bs h) refl
      go (negsuc n) e = refl

-- an order is below the top bit of an entry
top_bit : {t m : ℕ} → Orders t m → m < lock_bit
top_bit os = omega (arith, os.high)

module _ {t m : ℕ} (os : Orders t m) (h : Heap) (l : Ledger) (g : Agree t m h l) where
  -- the lengths fit and the table is undamaged, so a list of calls never scans it
  pub agree-sound : Sound t m h.arena h.table
  agree-sound =
      record {
        slot-low = os.slot-low;
        slot-high = os.slot-high;
        low = os.low;
        high = os.high;
        size = g.size;
        slots = ap length g.table ∙ table-length t m l.pairs;
        whole = ap (damaged_by t m) g.table ∙ table-undamaged t m os.slot-low os.slot-high (top_bit os) l.pairs (proper-set g.proper);
      }

  pub view-same : heap_view t m h ≡ ledger_view t m l
  view-same =
      let one = os.slot-low in
      let le = os.slot-high in
      let top = top_bit os in
      let bs : List Block = ranges l.pairs in
      let set = proper-set g.proper in
      let a = sizes-right t h.arena h.table (sound-sized t h.arena h.table agree-sound) in
      let d = agree-sound.whole in
      let f : (i : ℕ) → free_in h.table i ≡ missing (referent_of bs (base + i * 2 ^ t)) =
      λ i. ap (λ (x : List ℕ). free_in x i) g.table ∙ free-missing t m one le top l.pairs set i in
      let r : referent_in t h.table ≡ referent_of bs =
      fun_ext (λ q. ap (λ (x : List ℕ). referent_in t x q) g.table ∙ referent-same t m one le top l.pairs set q) in
      let k : (q : ℕ) → locked_in t h.table q ≡ locked_of l.pairs q =
      λ q. ap (λ (x : List ℕ). locked_in t x q) g.table ∙ locked-same t m one le top l.pairs set q in
      let n : (p i : ℕ) → inside_by_check t (referent_at (referent_in t h.table) (sought t p)) p i
      ≡ within (referent_at (referent_of bs) (sought t p)) (exact_sum (address p) i) =
      λ p i. ap (λ (x : ℕ → Referent). inside_by_check t (referent_at x (sought t p)) p i) r ∙ inside-same os g.proper p i in
      λ i. record {
        slot = t;
        order = m;
        wrong-sizes = a i;
        damaged = d i;
        free = λ j. f j i;
        referent = r i;
        locked = λ q. k q i;
        inside = λ p j. n p j i;
      }

-- ---- the calls

module _ {t m : ℕ} (os : Orders t m) (l : Ledger) (proper : Proper t m (ranges l.pairs)) where
  abbrev ps : List Pair
  ps = l.pairs

  abbrev bs : List Block
  bs = ranges ps

  abbrev w : View
  w = ledger_view t m l

  -- the pairs that a call leaves, and their table
  record Paired (c : Change) : Type 0 where
    table : entered c w (table_of t m ps) ≡ table_of t m (kept c w ps)
    still : Proper t m (ranges (kept c w ps))

  -- what is stamped in one block leaves the table of the changed pairs
  stamps : (rs : List Pair) → Proper t m (ranges rs) → (b : Block) → Aligned t m b → (x : ℕ)
      → ((q : ℕ) → holds b q ≡ true → entry_at rs q ≡ x) → ((q : ℕ) → holds b q ≡ false → entry_at rs q ≡ entry_at ps q)
      → stamped t (table_of t m ps) b.start b.order x ≡ table_of t m rs
  stamps rs new = stamped-table t m os.slot-low os.slot-high (top_bit os) ps rs (proper-set proper) (proper-set new)

  -- the entry of an address by its referent and its lock
  entry-by : (rs : List Pair) (q : ℕ) {r : Referent} {k : Bool} → referent_of (ranges rs) q ≡ r → locked_of rs q ≡ k → entry_at rs q ≡ entry_of (order_in r) k
  entry-by rs q x y = ap₂ (λ (r : Referent) (k : Bool). entry_of (order_in r) k) x y

  -- ---- get

  get-paired : (n : ℕ) → first (rules (Get n) w) ≡ 0 → Paired (adds n)
  unfolding entered kept
  get-paired n z =
      let b : Block = got t m l n in
      let c : Pair = pair b.start b.order false in
      let g = got-placed os l proper n z in
      let are = ranges-added ps c in
      let longer : Proper t m (ranges (ps ++ (c ∷ []))) = subst (Proper t m) (sym are) (added-proper b proper g.aligned g.free) in
      record {
        table =
            stamps (ps ++ (c ∷ [])) longer b g.aligned b.order
            (λ q x. entry-by _ q (same-ranges q are ∙ added-in bs b q (g.free q x) x) (added-locked ps c q (g.free q x) x))
            (λ q x. entry-by _ q (same-ranges q are ∙ added_out bs b q x) (added-others ps c q x));
        still = longer;
      }

  -- ---- give

  module _ (p e : ℕ) (found : referent_of bs p ≡ Found p e) where
    -- no block that starts at p holds an address outside the block
    away : (q : ℕ) → holds (block p e) q ≡ false → (o : ℕ) → referent_of bs q ≡ Found p o → ⊥
    away q k o y =
        let held = (found-member bs q p o y).held in
        let v : referent_of bs p ≡ Found p o = whole proper p o q y p (holds_by (block p o) p (omega arith) (omega (arith, pow_pos o))) in
        let z : o ≡ e = cc in
        false≢true (sym k ∙ subst (λ (x : ℕ). holds (block p x) q ≡ true) z held)

    away-lock : (q : ℕ) → holds (block p e) q ≡ false → locked_of (without p ps) q ≡ locked_of ps q
    away-lock q k =
        without-locked p q ps
        (λ b i h y. away q k b.order (member-found t m bs (proper-set proper) b q i h ∙ ap (λ (x : ℕ). Found x b.order) y))

  without-still : (p : ℕ) → Proper t m (ranges (without p ps))
  without-still p = subst (Proper t m) (sym (ranges-without p ps)) (dropped-proper p proper)

  give-table : (p : ℕ) (x : Referent) → referent_of bs p ≡ x → missing x ≡ false → not_start x p ≡ false
      → stamped t (table_of t m ps) p (order_in x) 0 ≡ table_of t m (without p ps)
  give-table p Missing y k n = absurd (false≢true (sym k))
  give-table p (Found s e) y k n =
      let f : referent_of bs p ≡ Found p e = y ∙ ap (λ (i : ℕ). Found i e) (eqb-true s p (not-false _ n)) in
      let are = ranges-without p ps in
      stamps (without p ps) (without-still p) (block p e) (found-aligned t m bs (proper-set proper) p p e f) 0
      (λ q h. entry-missing (without p ps) q (same-ranges q are ∙ dropped-in proper p e q (whole proper p e p f q h)))
      (λ q h. entry-by (without p ps) q (same-ranges q are ∙ dropped-out proper p q (away p e f q h)) (away-lock p e f q h))

  -- ---- lock and unlock

  module _ (p s e : ℕ) (found : referent_of bs p ≡ Found s e) where
    held : holds (block s e) p ≡ true
    held = (found-member bs p s e found).held

    -- a block that shares an address with that of p is that of p
    shares : (b : Block) → Memᴰ b bs → (q : ℕ) → holds (block s e) q ≡ true → holds b q ≡ true → block s e ≡ b
    shares b i q x y = (proper-set proper).apart (block s e) b (found-member bs p s e found).mem i q x y

    own-lock : (l : Bool) (q : ℕ) → holds (block s e) q ≡ true → locked_of (relocked p l ps) q ≡ l
    own-lock l q h =
        relocked-in p q l ps (λ b i x. subst (λ (c : Block). holds c p ≡ true) (shares b i q h x) held) (ap missing (whole proper s e p found q h))

    other-lock : (l : Bool) (q : ℕ) → holds (block s e) q ≡ false → locked_of (relocked p l ps) q ≡ locked_of ps q
    other-lock l q h = relocked-out p q l ps (λ b i x. go b i x (holds b p) refl)
      where
        go : (b : Block) → Memᴰ b bs → holds b q ≡ true → (u : Bool) → holds b p ≡ u → u ≡ false
        go b i x true y = absurd (false≢true (sym h ∙ subst (λ (c : Block). holds c q ≡ true) (sym (shares b i p held y)) x))
        go b i x false y = refl

  relocked-still : (p : ℕ) (l : Bool) → Proper t m (ranges (relocked p l ps))
  relocked-still p l = subst (Proper t m) (sym (ranges-relocked p l ps)) proper

  lock-table : (p : ℕ) (l : Bool) (x : Referent) → referent_of bs p ≡ x → missing x ≡ false
      → stamped t (table_of t m ps) (start_in x) (order_in x) (entry_of (order_in x) l) ≡ table_of t m (relocked p l ps)
  lock-table p l Missing y k = absurd (false≢true (sym k))
  lock-table p l (Found s e) y k =
      let are = ranges-relocked p l ps in
      stamps (relocked p l ps) (relocked-still p l) (block s e) (found-aligned t m bs (proper-set proper) p s e y) (entry_of e l)
      (λ q h. entry-by (relocked p l ps) q (same-ranges q are ∙ whole proper s e p y q h) (own-lock p s e y l q h))
      (λ q h. entry-by (relocked p l ps) q (same-ranges q are) (other-lock p s e y l q h))

  accepted-paired : {c : Call} → Changing c → first (rules c w) ≡ 0 → Paired (change_of c)
  unfolding rules argument_rules state_rules entered kept
  accepted-paired (gets n) z = get-paired n z
  accepted-paired (gives-back p) z =
      let c = clear (rules (Give p) w) refl z in
      record { table = give-table p (referent_of_pointer w p) (plain l proper p (c 13)) (c 22) (c 23); still = without-still p }
  accepted-paired (sets-lock p k) z =
      let c = clear (rules (SetLock p k) w) refl z in
      record { table = lock-table p k (referent_of_pointer w p) (plain l proper p (c 13)) (c 22); still = relocked-still p k }
  accepted-paired (keeps-all e) z = rw e (record { table = refl; still = proper })

-- an accepted call leaves the two in agreement
pub accepted-agree : {t m : ℕ} → Orders t m → (h : Heap) (l : Ledger) → Agree t m h l → (c : Call) → let w = ledger_view t m l in first (rules c w) ≡ 0
    → Agree t m (heap_of (stored c w h.arena) (entered (change_of c) w h.table))
    (record { pairs = kept (change_of c) w l.pairs; bytes = stored c w l.bytes })
accepted-agree {t} {m} os h l g c z =
    let w : View = ledger_view t m l in
    let p = accepted-paired os l g.proper (changing c) z in
    record {
      bytes = ap (stored c w) g.bytes;
      size = stored-length (store os l g.proper c z) h.arena g.size;
      table = ap (entered (change_of c) w) g.table ∙ p.table;
      proper = p.still;
    }

-- Both judged by one list of refusals, with one value: the rest is that accepted calls agree.
judged-same : {t m : ℕ} (h h' : Heap) (l l' : Ledger) → Agree t m h l → (rs : List Refusal) (v v' : ℕ) → v ≡ v' → (first rs ≡ 0 → Agree t m h' l')
    → Same t m (judged rs h v h') (judged rs l v' l')
judged-same {t} {m} h h' l l' g rs v v' e new = go (first rs) refl
  where
    go : (a : ℕ) → first rs ≡ a → Same t m (settled a h v h') (settled a l v' l')
    go zero x = record { answer = λ i. record { number = 0; value = e i }; agree = new x }
    go (suc a) x = record { answer = refl; agree = g }

pub step_same : {t m : ℕ} → Orders t m → (h : Heap) (l : Ledger) → Agree t m h l → (c : Call) → Same t m (heap_step t m c h) (ledger_step t m c l)
unfolding heap_step ledger_step
step_same {t} {m} os h l g c =
    let w : View = ledger_view t m l in
    let step : View → Outcome Heap =
    λ u. judged (rules c u) h (value c u h.arena) (heap_of (stored c u h.arena) (entered (change_of c) u h.table)) in
    subst (λ (u : View). Same t m (step u) (ledger_step t m c l)) (sym (view-same os h l g))
    (judged-same h _ l _ g (rules c w) (value c w h.arena) (value c w l.bytes) (ap (value c w) g.bytes) (accepted-agree os h l g c))
