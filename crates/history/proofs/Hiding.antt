-- One accepted call on two arenas over the same pairs, which may differ in the bytes of one block: its value is the same (`value_same`), and what it leaves
-- differs in that block's range at most (`outside-next`). While the block lives, a call that does not reveal it takes no byte from it, or puts back into it
-- what it took. Once it was given back, every byte taken lies in a block, and there the arenas are equal: a get clears all of the block that it adds
-- (`kept-live`).
use Prim.Native.Nat.{ℕ, ◌+◌, ◌-◌, ◌^◌, ◌≤◌, ◌<◌}
use mathlib.Core.Path.{◌≡◌, refl, sym, ◌∙◌, ap}
use mathlib.Core.Bool.{Bool, true, false, not, ◌&&◌, ◌||◌, true≢false, false≢true}
use mathlib.Core.List.{List}
use native.Mathlib.Omega.{arith}
use lib.ListN.{length, get_or, drop}
use lib.Seq.{get_or-take, get_or-drop}
use borrow.Author.Tests.{ltb-false, eqb-true, eqb-false}
use Rattle.common.specs.Refusals.{first}
use Rattle.common.proofs.Bytes.{big_endian-same, over-same}
use Rattle.blocks.specs.Blocks.{base, holds, missing, Referent, Missing, Found}
use Rattle.blocks.specs.declared.Block.{Block}
use Rattle.blocks.specs.Sets.{Pair, ranges, referent_of}
use Rattle.blocks.specs.Pointers.{marked}
use Rattle.common.proofs.Booleans.{and-false-left, or-false-left, or-false-right}
use Rattle.blocks.proofs.Sets.{held_low, held_high}
use Rattle.blocks.proofs.Slots.{block}
use Rattle.blocks.proofs.Tables.{none_passes}
use Rattle.heap.specs.Views.{View, left_from}
use Rattle.heap.specs.Rules.{rules, argument_rules, state_rules, dead}
use Rattle.heap.specs.Effects.{copy_count, value, stored, accepted}
use Rattle.heap.specs.Changes.{Change, adds, removes, relocks, keeps, change_of}
use Rattle.heap.specs.declared.Call.{Call}
use Rattle.heap.specs.declared.Call.TheVariants.{Get, Give, Step, Read, Write, Left, Copy, Fill, SetLock, Grid}
use Rattle.common.proofs.Refusals.{clear}
use Rattle.heap.proofs.Changes.{Changing, gets, gives-back, sets-lock, keeps-all, changing}
use Rattle.history.specs.Ledgers.{Ledger, ledger_view, kept}
use Rattle.history.specs.Histories.{removes_at, gives_back}
use Rattle.history.specs.Noninterference.{reveals, EqualOutside}
use Rattle.history.proofs.Agreement.{Proper, Orders}
use Rattle.history.proofs.Pairs.{whole, dropped, dropped-in, dropped-out, dropped-live, added-found, added_out}
use Rattle.history.proofs.Locks.{same-ranges, ranges-without, ranges-relocked, ranges-added}
use Rattle.history.proofs.Gets.{got, got-placed}
use Rattle.history.proofs.Stores.{Store, Home, home, home-holds, store, stored-length}

-- what two arenas hold at i after the call: what was stored there, or what they held
stored_same : {c : Call} {w : View} (s : Store c w) (a a' : List ℕ) → length a ≡ 2 ^ w.order → length a' ≡ 2 ^ w.order → (i : ℕ)
    → ((j : ℕ) → j < s.count → s.at + j ≡ i → get_or (s.bytes a) j 0 ≡ get_or (s.bytes a') j 0)
    → ((s.at ≤ i → i < s.at + s.count → ⊥) → get_or a i 0 ≡ get_or a' i 0)
    → get_or (stored c w a) i 0 ≡ get_or (stored c w a') i 0
stored_same s a a' e e' i new old =
    let n : length (s.bytes a) ≡ s.count = s.counted a e in
    let n' : length (s.bytes a') ≡ s.count = s.counted a' e' in
    ap (λ (x : List ℕ). get_or x i 0) (s.stores a)
    ∙ over-same a a' s.at (s.bytes a) (s.bytes a') (n ∙ sym n') (omega (arith, s.fits)) (omega (arith, s.fits)) i
    (λ j l. new j (omega arith)) (λ o. old (λ x y. o x (omega arith)))
    ∙ sym (ap (λ (x : List ℕ). get_or x i 0) (s.stores a'))

-- How the block b stands, where f gives the block that holds an address. While b lives: it is one of the blocks. Once it was given back: the arenas
-- are equal wherever a block lies, so what still differs lies in free slots.
abbrev pub Standing : Bool → Block → (ℕ → Referent) → List ℕ → List ℕ → Type 0
Standing false b f a a' = f b.start ≡ Found b.start b.order
Standing true b f a a' = (i : ℕ) → missing (f (base + i)) ≡ false → get_or a i 0 ≡ get_or a' i 0

-- what an accepted call makes of two arenas over the pairs ps, which w is the view of
pub record OnBoth (c : Call) (w : View) (ps : List Pair) (b : Block) (a a' : List ℕ) (given : Bool) : Type 0 where
  pub values : value c w a ≡ value c w a'
  pub outside : EqualOutside b (stored c w a) (stored c w a')
  pub standing :
      Standing (given || gives_back b.start c (accepted (value c w a))) b (referent_of (ranges (kept (change_of c) w ps))) (stored c w a) (stored c w a')

module _ {t m : ℕ} (os : Orders t m) (l : Ledger) (proper : Proper t m (ranges l.pairs)) where
  abbrev w : View
  w = ledger_view t m l

  abbrev bs : List Block
  bs = ranges l.pairs

  -- the ranges of the pairs that a change leaves
  abbrev left : Change → List Block
  left c = ranges (kept c w l.pairs)

  abbrev added : ℕ → Block
  added n = got t m l n

  abbrev store_of : (c : Call) → first (rules c w) ≡ 0 → Store c w
  store_of c z = store os l proper c z

  -- ---- the pairs that an accepted call leaves

  -- a block stays until its start is given
  kept-found : (c : Change) (s e : ℕ) → removes_at c s ≡ false → referent_of bs s ≡ Found s e → referent_of (left c) s ≡ Found s e
  unfolding kept
  kept-found (adds n) s e g h = same-ranges s (ranges-added l.pairs _) ∙ added-found bs (added n) s s e h
  kept-found (removes p) s e g h =
      same-ranges s (ranges-without p l.pairs) ∙ dropped-out proper p s (λ o y. let z : p ≡ s = cc in eqb-false p s g z) ∙ h
  kept-found (relocks p k) s e g h = same-ranges s (ranges-relocked p k l.pairs) ∙ h
  kept-found keeps s e g h = h

  -- once it is given, no block holds an address of it
  given_back : (c : Change) (s e : ℕ) → removes_at c s ≡ true → referent_of bs s ≡ Found s e
      → (q : ℕ) → missing (referent_of (left c) q) ≡ false → holds (block s e) q ≡ false
  unfolding kept
  given_back (adds n) s e g h q k = absurd (false≢true g)
  given_back (removes p) s e g h q k = go (holds (block s e) q) refl
    where
      go : (u : Bool) → holds (block s e) q ≡ u → u ≡ false
      go true v =
          let gone : referent_of (dropped s bs) q ≡ Missing = dropped-in proper s e q (whole proper s e s h q v) in
          let rest : referent_of (left (removes p)) q ≡ referent_of (dropped s bs) q =
          same-ranges q (ranges-without p l.pairs ∙ ap (λ (x : ℕ). dropped x bs) (eqb-true p s g)) in
          absurd (false≢true (sym k ∙ ap missing (rest ∙ gone)))
      go false v = refl
  given_back (relocks p k) s e g h q x = absurd (false≢true g)
  given_back keeps s e g h q k = absurd (false≢true g)

  -- a place in a block was in one before, unless the call stored there
  kept-live : {c : Call} → Changing c → (z : first (rules c w) ≡ 0) (i : ℕ)
      → ((store_of c z).at ≤ i → i < (store_of c z).at + (store_of c z).count → ⊥)
      → missing (referent_of (left (change_of c)) (base + i)) ≡ false → missing (referent_of bs (base + i)) ≡ false
  unfolding kept store
  kept-live (gets n) z i o k =
      ap missing (sym (same-ranges (base + i) (ranges-added l.pairs _) ∙ added_out bs (added n) (base + i) (go (holds (added n) (base + i)) refl))) ∙ k
    where
      go : (u : Bool) → holds (added n) (base + i) ≡ u → u ≡ false
      go true h =
          let a = (got-placed os l proper n z).aligned in
          let lo = held_low (added n) (base + i) h in
          let hi = held_high (added n) (base + i) h in
          absurd (o (omega (arith, a.place)) (omega (arith, a.place)))
      go false h = refl
  kept-live (gives-back p) z i o k = dropped-live proper p (base + i) (ap missing (sym (same-ranges (base + i) (ranges-without p l.pairs))) ∙ k)
  kept-live (sets-lock p x) z i o k = ap missing (sym (same-ranges (base + i) (ranges-relocked p x l.pairs))) ∙ k
  kept-live (keeps-all e) z i o k = rw e at k

  -- ---- the two arenas

  module _ (b : Block) (a a' : List ℕ) (size : length a ≡ 2 ^ m) (out : EqualOutside b a a')
      (given : Bool) (known : Standing given b (referent_of bs) a a') where
    size' : length a' ≡ 2 ^ m
    size' = sym out.sizes ∙ size

    -- a byte that a call takes, j past the pointer p: any once b was given back, before that one outside b
    byte-same : (p : ℕ) → Home l proper p → (j : ℕ) → j < left_from w p → (given ≡ false → holds b (p + j) ≡ false)
        → get_or a (p - base + j) 0 ≡ get_or a' (p - base + j) 0
    byte-same p h j v q = go given known q
      where
        at : base + (p - base + j) ≡ p + j
        at = omega (arith, h.above, h.low)

        go : (g : Bool) → Standing g b (referent_of bs) a a' → (g ≡ false → holds b (p + j) ≡ false) → get_or a (p - base + j) 0 ≡ get_or a' (p - base + j) 0
        go false s r = out.bytes (p - base + j) (ap (holds b) at ∙ r refl)
        go true s r =
            let found = whole proper h.start h.order p h.found (p + j) (home-holds l proper p h j v) in
            s (p - base + j) (ap missing (ap (referent_of bs) at ∙ found))

    -- before b is given back, the call does not reveal it
    abbrev Quiet : Call → Type 0
    Quiet c = given ≡ false → reveals b c (accepted (value c w a)) ≡ false

    value_same : (c : Call) → first (rules c w) ≡ 0 → Quiet c → value c w a ≡ value c w a'
    unfolding rules argument_rules state_rules value
    value_same (Get n) z r = refl
    value_same (Give p) z r = refl
    value_same (Step p i) z r = refl
    value_same (Read p k) z r =
        let c = clear (rules (Read p k) w) refl z in
        let wide : k ≤ left_from w p = ltb-false (left_from w p) k (c 25) in
        big_endian-same a a' (p - base) k
        (λ j v. byte-same p (home l proper p (c 13) (c 22)) j (omega arith) (λ g. none_passes (λ i. holds b (p + i)) k j (r g) v))
    value_same (Write p k v) z r = refl
    value_same (Left p) z r = refl
    value_same (Copy p q n) z r = refl
    value_same (Fill p v n) z r = refl
    value_same (SetLock p x) z r = refl
    value_same (Grid p rows columns row column) z r = refl

    -- the bytes that it stores, at places outside b or once b was given back
    bytes_same : (c : Call) (z : first (rules c w) ≡ 0) → Quiet c → (j : ℕ) → j < (store_of c z).count
        → (given ≡ false → holds b (base + ((store_of c z).at + j)) ≡ false)
        → get_or ((store_of c z).bytes a) j 0 ≡ get_or ((store_of c z).bytes a') j 0
    unfolding rules argument_rules state_rules value store
    bytes_same (Get n) z r j v k = refl
    bytes_same (Give p) z r j v k = refl
    bytes_same (Step p i) z r j v k = refl
    bytes_same (Read p i) z r j v k = refl
    bytes_same (Write p i x) z r j v k = refl
    bytes_same (Left p) z r j v k = refl
    bytes_same (Copy p q n) z r j v k =
        let c = clear (rules (Copy p q n) w) refl z in
        let to = home l proper p (or-false-left _ _ (c 13)) (or-false-left _ _ (c 22)) in
        let from = home l proper q (or-false-right (marked p) _ (c 13)) (or-false-right (dead w p) _ (c 22)) in
        let at : base + (p - base + j) ≡ p + j = omega (arith, to.above, to.low) in
        let taken : (x : List ℕ) → _ = λ x. get_or-take (copy_count w p q n) (drop (q - base) x) j 0 v ∙ get_or-drop (q - base) x j 0 in
        taken a
        ∙ byte-same q from j (omega arith)
        (λ g.
        and-false-left (holds b (q + j)) _ (none_passes (λ i. holds b (q + i) && not (holds b (p + i))) (copy_count w p q n) j (r g) v)
        (ap not (ap (holds b) (sym at) ∙ k g)))
        ∙ sym (taken a')
    bytes_same (Fill p x n) z r j v k = refl
    bytes_same (SetLock p x) z r j v k = refl
    bytes_same (Grid p rows columns row column) z r j v k = refl

    outside-next : (c : Call) → first (rules c w) ≡ 0 → Quiet c → EqualOutside b (stored c w a) (stored c w a')
    outside-next c z r =
        let s = store_of c z in
        record {
          sizes = stored-length s a size ∙ sym (stored-length s a' size');
          bytes = λ i k.
              stored_same s a a' size size' i (λ j v e. bytes_same c z r j v (λ g. ap (λ (x : ℕ). holds b (base + x)) e ∙ k)) (λ o. out.bytes i k);
        }

    standing-next : (c : Call) → first (rules c w) ≡ 0 → Quiet c
        → Standing (given || gives_back b.start c (accepted (value c w a))) b (referent_of (left (change_of c))) (stored c w a) (stored c w a')
    standing-next c z r = go given refl known (removes_at (change_of c) b.start) refl
      where
        -- the number of an accepted give is 0, which leaves `&& true` of `gives_back`
        go : (g : Bool) → given ≡ g → Standing g b (referent_of bs) a a' → (u : Bool) → removes_at (change_of c) b.start ≡ u
            → Standing (g || u && true) b (referent_of (left (change_of c))) (stored c w a) (stored c w a')
        go true e s u x =
            λ i k.
            stored_same (store_of c z) a a' size size' i
            (λ j v y. bytes_same c z r j v (λ f. absurd (true≢false (sym e ∙ f)))) (λ o. s i (kept-live (changing c) z i o k))
        go false e s false x = kept-found (change_of c) b.start b.order x s
        go false e s true x = λ i k. (outside-next c z r).bytes i (given_back (change_of c) b.start b.order x s (base + i) k)

    pub on_both : (c : Call) → first (rules c w) ≡ 0 → Quiet c → OnBoth c w l.pairs b a a' given
    on_both c z r = record { values = value_same c z r; outside = outside-next c z r; standing = standing-next c z r }
