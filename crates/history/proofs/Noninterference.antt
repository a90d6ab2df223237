-- Request 5, "My hidden sound". Take two heaps with equal tables whose arenas differ at most inside one live block. For every list of the eleven calls in
-- which, before the block is given back,
--   by_bytes     no accepted read shows a byte of it and no accepted copy carries a byte out of it, or
--   by-pointers  no read and no copy source lies in it,
-- both heaps give the same answers, their tables stay equal, and their arenas stay equal outside the block's old range.
--
-- A call is judged by lengths and table, which are the same. Refused, it leaves both heaps as they were, sound or not. Accepted, it found the table sound.
-- Such a table reads back as pairs, and by these the two heaps answer alike and store alike outside the block's range (`on_both`). Once the block was given
-- back, they are also equal wherever a block lies. One induction over the list serves both forms, before and after the give.
use Prim.Native.Nat.{ℕ, zero, suc}
use mathlib.Core.Path.{◌≡◌, refl, sym, ◌∙◌, ap, ap₂, subst}
use mathlib.Core.Bool.{Bool, true, false, not, ◌||◌, or-false, and-false}
use mathlib.Core.List.{List, [], ◌∷◌}
use lib.ListN.{length}
use borrow.Author.Tests.{not-true}
use Rattle.common.specs.Refusals.{first}
use Rattle.blocks.specs.Blocks.{Referent, Found}
use Rattle.blocks.specs.declared.Block.{Block}
use Rattle.blocks.specs.Tables.{referent_in}
use Rattle.blocks.specs.Sets.{ranges, referent_of}
use Rattle.blocks.specs.Orders.{order_of}
use Rattle.common.proofs.Booleans.{and_left, and_right, or-false-left, or-false-right, or_true_right, eqb-suc}
use Rattle.heap.specs.Views.{View, slot_order}
use Rattle.heap.specs.Rules.{rules}
use Rattle.heap.specs.Effects.{value, stored, Outcome, settled, judged, accepted}
use Rattle.heap.specs.Heaps.{Heap, heap_of, heap_view, view_of, entered, heap_step, heap_call}
use Rattle.heap.specs.Changes.{change_of}
use Rattle.heap.specs.declared.Answer.{Answer}
use Rattle.heap.specs.declared.Call.{Call}
use Rattle.heap.proofs.Judging.{accepted-ready}
use Rattle.history.specs.Ledgers.{Ledger, ledger_view}
use Rattle.history.specs.CallLists.{run}
use Rattle.history.specs.Histories.{removes_at, gives_back}
use Rattle.history.specs.Noninterference.{reveals, source_in, none_barred, EqualOutside, Twins, Undisclosed, Noninterference}
use Rattle.history.proofs.Agreement.{Orders, Agree}
use Rattle.history.proofs.Simulation.{view-same, accepted-agree}
use Rattle.history.proofs.Soundness.{SoundHeap, read_ledger, sound-orders, sound-agree, sound-view}
use Rattle.history.proofs.Hiding.{Standing, on_both}
use Rattle.history.proofs.Sources.{elsewhere-quiet}

-- the block that holds an address, by the heap's table
abbrev referents : ℕ → Heap → ℕ → Referent
referents t h = referent_in t h.table

-- between two calls: the heaps differ at most in the bytes of b, and how b stands by whether it was given back
record Between (t : ℕ) (given : Bool) (b : Block) (h k : Heap) : Type 0 where
  tables : h.table ≡ k.table
  arenas : EqualOutside b h.arena k.arena
  standing : Standing given b (referents t h) h.arena k.arena

-- a call's two outcomes
record AlikeOutcomes (t : ℕ) (given : Bool) (b : Block) (o o' : Outcome Heap) : Type 0 where
  answer : o.answer ≡ o'.answer
  states : Between t given b o.state o'.state

-- a call is judged by the lengths and the table alone
view-twin : (t m : ℕ) (h k : Heap) → h.table ≡ k.table → length h.arena ≡ length k.arena → heap_view t m h ≡ heap_view t m k
view-twin t m h k e n = rw (e, n)

-- One call, by the view w of the first heap.
module _ (b : Block) (h k : Heap) (c : Call) where
  -- what it leaves of either heap, the first refusal being n, by the first one's table
  abbrev after : View → ℕ → Heap → Outcome Heap
  after w n i = settled n i (value c w i.arena) (heap_of (stored c w i.arena) (entered (change_of c) w h.table))

  -- the second heap's call, by the first one's view
  other-call : h.table ≡ k.table → length h.arena ≡ length k.arena → heap_call c k ≡ after (view_of h) (first (rules c (view_of h))) k
  unfolding heap_call heap_step
  other-call e n =
      let call : View → List ℕ → Outcome Heap =
      λ w s. judged (rules c w) k (value c w k.arena) (heap_of (stored c w k.arena) (entered (change_of c) w s)) in
      ap (λ (o : ℕ). call (heap_view slot_order o k) k.table) (sym (ap order_of n))
      ∙ ap₂ call (sym (view-twin slot_order (order_of (length h.arena)) h k e n)) (sym e)

  -- whether b was given back by then
  abbrev given_by : Bool → View → ℕ → Bool
  given_by given w n = given || gives_back b.start c (after w n h).answer

  -- that an accepted call keeps the two alike
  abbrev KeepsAlike : ℕ → Bool → View → Type 0
  KeepsAlike t given w =
      first (rules c w) ≡ 0 → (given ≡ false → reveals b c (after w 0 h).answer ≡ false)
      → AlikeOutcomes t (given_by given w 0) b (after w 0 h) (after w 0 k)

  accepted-alike : {t m : ℕ} (given : Bool) → Between t given b h k → SoundHeap t m h → KeepsAlike t given (heap_view t m h)
  accepted-alike {t} {m} given p s = subst (KeepsAlike t given) (sym (sound-view h s)) by-pairs
    where
      os : Orders t m
      os = sound-orders h s

      l : Ledger
      l = read_ledger t h

      g : Agree t m h l
      g = sound-agree h s

      found : (i : Heap) (j : Ledger) → Agree t m i j → referents t i ≡ referent_of (ranges j.pairs)
      found i j e = ap (λ (u : View). u.referent) (view-same os i j e)

      w : View
      w = ledger_view t m l

      by-pairs : KeepsAlike t given w
      by-pairs z q =
          let known = subst (λ (f : ℕ → Referent). Standing given b f h.arena k.arena) (found h l g) p.standing in
          let n = on_both os l g.proper b h.arena k.arena s.size p.arenas given known c z q in
          record {
            answer = ap accepted n.values;
            states =
                record {
                  tables = refl;
                  arenas = n.outside;
                  standing =
                      subst (λ (f : ℕ → Referent). Standing (given_by given w 0) b f (after w 0 h).state.arena (after w 0 k).state.arena)
                      (sym (found _ _ (accepted-agree os h l g c z))) n.standing;
                };
          }

  call-alike : (given : Bool) → Between slot_order given b h k → (given ≡ false → reveals b c (heap_call c h).answer ≡ false)
      → AlikeOutcomes slot_order (given || gives_back b.start c (heap_call c h).answer) b (heap_call c h) (heap_call c k)
  unfolding heap_call heap_step
  call-alike given p q =
      subst (AlikeOutcomes slot_order _ b (heap_call c h)) (sym (other-call p.tables p.arenas.sizes)) (go (first (rules c w)) refl q)
    where
      w : View
      w = view_of h

      go : (n : ℕ) → first (rules c w) ≡ n → (given ≡ false → reveals b c (after w n h).answer ≡ false)
          → AlikeOutcomes slot_order (given_by given w n) b (after w n h) (after w n k)
      go zero z q = accepted-alike given p (accepted-ready c h.arena h.table z).0.sound z q
      go (suc n) z q =
          let still : given_by given w (suc n) ≡ given = rw (eqb-suc n, and-false (removes_at (change_of c) b.start)) (or-false given) in
          record { answer = refl; states = subst (λ (u : Bool). Between slot_order u b h k) (sym still) p }

-- Where each call that is not barred reveals nothing while the block lives, a list without barred calls discloses nothing.
module _ (barred : Call → Answer → Bool) (b : Block)
    (quiet : (h : Heap) → referents slot_order h b.start ≡ Found b.start b.order → (c : Call)
    → barred c (heap_call c h).answer ≡ false → reveals b c (heap_call c h).answer ≡ false) where
  run-alike : (given : Bool) (cs : List Call) (h k : Heap) → Between slot_order given b h k
      → (given ≡ false → none_barred barred b.start cs (run heap_call cs h).answers ≡ true) → Undisclosed b h k cs
  unfolding run none_barred
  run-alike given [] h k p q = record { answers = refl; tables = p.tables; arenas = p.arenas }
  run-alike given (c ∷ cs) h k p q =
      let x : Answer = (heap_call c h).answer in
      let live : given ≡ false → referents slot_order h b.start ≡ Found b.start b.order =
      λ g. subst (λ (u : Bool). Standing u b (referents slot_order h) h.arena k.arena) g p.standing in
      let o = call-alike b h k c given p (λ g. quiet h (live g) c (not-true _ (and_left _ _ (q g)))) in
      let r = run-alike (given || gives_back b.start c x) cs (heap_call c h).state (heap_call c k).state o.states
      (λ g. or_true_right _ _ (and_right (not (barred c x)) _ (q (or-false-left given _ g))) (or-false-right given _ g)) in
      record { answers = ap₂ (λ (y : Answer) (ys : List Answer). y ∷ ys) o.answer r.answers; tables = r.tables; arenas = r.arenas }

  undisclosed : (h k : Heap) (cs : List Call) → Twins b h k → none_barred barred b.start cs (run heap_call cs h).answers ≡ true → Undisclosed b h k cs
  undisclosed h k cs t q = run-alike false cs h k (record { tables = t.tables; arenas = t.arenas; standing = t.live }) (λ g. q)

pub noninterference : Noninterference
noninterference =
    record {
      by_bytes = λ b. undisclosed (reveals b) b (λ h f c e. e);
      by-pointers = λ b. undisclosed (λ c x. source_in b c) b (elsewhere-quiet b);
    }
