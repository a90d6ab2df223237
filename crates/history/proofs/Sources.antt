-- While a block lives, a read or a copy whose source pointer does not lie in it reveals no byte of it: an accepted one takes its bytes from its pointer's
-- referent, which is another block (`elsewhere`). A refused one takes none.
use Prim.Native.Nat.{ℕ, zero, suc, ◌+◌, ◌≤◌, ◌<◌}
use mathlib.Core.Path.{◌≡◌, refl, sym, ◌∙◌, ap, subst}
use mathlib.Core.Bool.{Bool, true, false, not, ◌&&◌, false≢true}
use mathlib.Core.List.{List}
use native.Mathlib.Omega.{arith}
use borrow.Author.Tests.{ltb-false}
use Rattle.common.specs.Refusals.{first}
use Rattle.blocks.specs.Blocks.{holds, Found}
use Rattle.blocks.specs.declared.Block.{Block}
use Rattle.blocks.specs.Sets.{ranges, referent_of}
use Rattle.blocks.specs.Tables.{referent_in}
use Rattle.blocks.specs.Pointers.{marked}
use Rattle.common.proofs.Booleans.{or-false-right, eqb-suc}
use Rattle.blocks.proofs.Sets.{found-member}
use Rattle.blocks.proofs.Slots.{block}
use Rattle.blocks.proofs.Tables.{any_false}
use Rattle.heap.specs.Views.{View, slot_order, left_from}
use Rattle.heap.specs.Rules.{rules, argument_rules, state_rules, dead}
use Rattle.heap.specs.Effects.{copy_count, value, stored, settled, accepted}
use Rattle.heap.specs.Heaps.{Heap, heap_of, heap_view, view_of, entered, heap_step, heap_call}
use Rattle.heap.specs.Changes.{change_of}
use Rattle.heap.specs.declared.Call.{Call}
use Rattle.heap.specs.declared.Call.TheVariants.{Get, Give, Step, Read, Write, Left, Copy, Fill, SetLock, Grid}
use Rattle.common.proofs.Refusals.{clear}
use Rattle.heap.proofs.Judging.{accepted-ready}
use Rattle.history.specs.Ledgers.{Ledger, ledger_view}
use Rattle.history.specs.Noninterference.{reveals, source_in}
use Rattle.history.proofs.Agreement.{Proper}
use Rattle.history.proofs.Pairs.{holds_by, proper-set}
use Rattle.history.proofs.Stores.{Home, home, home-holds}
use Rattle.history.proofs.Soundness.{SoundHeap, read_ledger, sound-agree, sound-view}

refused-quiet : (b : Block) (c : Call) (n : ℕ) → reveals b c (record { number = suc n; value = 0 }) ≡ false
refused-quiet b (Get k) n = refl
refused-quiet b (Give p) n = refl
refused-quiet b (Step p i) n = refl
refused-quiet b (Read p k) n = rw (eqb-suc n)
refused-quiet b (Write p k v) n = refl
refused-quiet b (Left p) n = refl
refused-quiet b (Copy p q k) n = rw (eqb-suc n)
refused-quiet b (Fill p v k) n = refl
refused-quiet b (SetLock p k) n = refl
refused-quiet b (Grid p rows columns row column) n = refl

module _ {t m : ℕ} (l : Ledger) (proper : Proper t m (ranges l.pairs)) (b : Block)
    (live : referent_of (ranges l.pairs) b.start ≡ Found b.start b.order) where
  abbrev w : View
  w = ledger_view t m l

  -- no block but the referent of p holds the bytes from p to that block's end
  elsewhere : (p : ℕ) → Home l proper p → holds b p ≡ false → (j : ℕ) → j < left_from w p → holds b (p + j) ≡ false
  elsewhere p h n j v = go (holds b (p + j)) refl
    where
      c : Block
      c = block h.start h.order

      go : (u : Bool) → holds b (p + j) ≡ u → u ≡ false
      go true k =
          let among = (found-member (ranges l.pairs) p h.start h.order h.found).mem in
          let b-among = (found-member (ranges l.pairs) b.start b.start b.order live).mem in
          let one : c ≡ b = (proper-set proper).apart c b among b-among (p + j) (home-holds l proper p h j v) k in
          absurd (false≢true (sym n ∙ subst (λ (d : Block). holds d p ≡ true) one (holds_by c p h.low h.high)))
      go false k = refl

  accepted-quiet : (c : Call) (a : List ℕ) → source_in b c ≡ false → first (rules c w) ≡ 0 → reveals b c (accepted (value c w a)) ≡ false
  unfolding rules argument_rules state_rules value
  accepted-quiet (Get n) a e z = refl
  accepted-quiet (Give p) a e z = refl
  accepted-quiet (Step p i) a e z = refl
  accepted-quiet (Read p k) a e z =
      let c = clear (rules (Read p k) w) refl z in
      let wide : k ≤ left_from w p = ltb-false (left_from w p) k (c 25) in
      any_false _ k (λ j v. elsewhere p (home l proper p (c 13) (c 22)) e j (omega arith))
  accepted-quiet (Write p k v) a e z = refl
  accepted-quiet (Left p) a e z = refl
  accepted-quiet (Copy p q n) a e z =
      let c = clear (rules (Copy p q n) w) refl z in
      let from = home l proper q (or-false-right (marked p) _ (c 13)) (or-false-right (dead w p) _ (c 22)) in
      any_false _ (copy_count w p q n) (λ j v. ap (λ (u : Bool). u && not (holds b (p + j))) (elsewhere q from e j (omega arith)))
  accepted-quiet (Fill p v n) a e z = refl
  accepted-quiet (SetLock p k) a e z = refl
  accepted-quiet (Grid p rows columns row column) a e z = refl

-- a sound heap's blocks are the pairs that its table reads back as
sound-quiet : {t m : ℕ} (b : Block) (h : Heap) → referent_in t h.table b.start ≡ Found b.start b.order → (c : Call) → SoundHeap t m h
    → source_in b c ≡ false → let w = heap_view t m h in first (rules c w) ≡ 0 → reveals b c (accepted (value c w h.arena)) ≡ false
sound-quiet {t} b h live c s e =
    let v = sound-view h s in
    let found = sym (ap (λ (u : View). u.referent b.start) v) ∙ live in
    subst (λ (u : View). first (rules c u) ≡ 0 → reveals b c (accepted (value c u h.arena)) ≡ false) (sym v)
    (accepted-quiet (read_ledger t h) (sound-agree h s).proper b found c h.arena e)

-- an accepted public call found the heap sound
pub elsewhere-quiet : (b : Block) (h : Heap) → referent_in slot_order h.table b.start ≡ Found b.start b.order → (c : Call)
    → source_in b c ≡ false → reveals b c (heap_call c h).answer ≡ false
unfolding heap_call heap_step
elsewhere-quiet b h live c e = go (first (rules c w)) refl
  where
    w : View
    w = view_of h

    new : Heap
    new = heap_of (stored c w h.arena) (entered (change_of c) w h.table)

    go : (n : ℕ) → first (rules c w) ≡ n → reveals b c (settled n h (value c w h.arena) new).answer ≡ false
    go zero z = sound-quiet b h live c (accepted-ready c h.arena h.table z).0.sound e z
    go (suc n) z = refused-quiet b c n
