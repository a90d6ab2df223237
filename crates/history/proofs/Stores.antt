-- What an accepted call stores, by cases of the call: bytes at one place, which lie in the arena, since those left from a pointer on do (`left-fits`).
use Prim.Native.Nat.{ℕ, ◌+◌, ◌-◌, ◌^◌, ◌≤◌, ◌<◌}
use mathlib.Core.Path.{◌≡◌, refl, sym, ◌∙◌, ap}
use mathlib.Core.Bool.{true, false, false≢true}
use mathlib.Core.List.{List, []}
use native.Mathlib.Omega.{arith}
use lib.ListN.{length, replicate, take, drop, length-replicate, length-drop}
use lib.Seq.{length-take-le}
use borrow.Author.Tests.{ltb-false}
use Rattle.common.specs.Refusals.{first}
use Rattle.common.specs.Bytes.{over, bytes_of, copied}
use Rattle.common.proofs.Bytes.{over_none, length_over, length-bytes_of}
use Rattle.blocks.specs.Blocks.{base, holds, Aligned, missing, left_in, Referent, Missing, Found}
use Rattle.blocks.specs.declared.Block.{Block}
use Rattle.blocks.specs.Sets.{ranges, referent_of}
use Rattle.blocks.specs.Pointers.{marked, sought}
use Rattle.common.proofs.Booleans.{or-false-left, or-false-right}
use Rattle.blocks.proofs.Sets.{held_low, held_high, found-member, found-aligned}
use Rattle.blocks.proofs.Slots.{block}
use Rattle.heap.specs.Views.{View, referent_of_pointer, left_from, needed_for, start_for}
use Rattle.heap.specs.Rules.{rules, argument_rules, state_rules, dead}
use Rattle.heap.specs.Effects.{copy_count, fill_count, stored}
use Rattle.heap.specs.declared.Call.{Call}
use Rattle.heap.specs.declared.Call.TheVariants.{Get, Give, Step, Read, Write, Left, Copy, Fill, SetLock, Grid}
use Rattle.common.proofs.Refusals.{clear}
use Rattle.history.specs.Ledgers.{Ledger, ledger_view}
use Rattle.history.proofs.Agreement.{Proper, Orders}
use Rattle.history.proofs.Gets.{got-placed}
use Rattle.history.proofs.Pairs.{holds_by, proper-set}

-- The bytes may depend on those before; their place and number do not.
pub record Store (c : Call) (w : View) : Type 0 where
  pub at : ℕ
  pub count : ℕ
  pub fits : at + count ≤ 2 ^ w.order
  pub bytes : List ℕ → List ℕ
  pub counted : (b : List ℕ) → length b ≡ 2 ^ w.order → length (bytes b) ≡ count
  pub stores : (b : List ℕ) → stored c w b ≡ over b at (bytes b)

abbrev store_nothing : (c : Call) (w : View) → ((b : List ℕ) → stored c w b ≡ b) → Store c w
store_nothing c w e =
    record { at = 0; count = 0; fits = omega arith; bytes = λ b. []; counted = λ b l. refl; stores = λ b. e b ∙ sym (over_none b 0) }

pub stored-length : {c : Call} {w : View} → Store c w → (b : List ℕ) → length b ≡ 2 ^ w.order → length (stored c w b) ≡ 2 ^ w.order
stored-length s b e = ap length (s.stores b) ∙ length_over b s.at (s.bytes b) (omega (arith, s.fits, s.counted b e)) ∙ e

module _ {t m : ℕ} (l : Ledger) (proper : Proper t m (ranges l.pairs)) where
  abbrev bs : List Block
  bs = ranges l.pairs

  abbrev w : View
  w = ledger_view t m l

  -- a plain pointer's referent is the pair that holds it
  pub plain : (p : ℕ) → marked p ≡ false → referent_of bs p ≡ referent_of_pointer w p
  unfolding sought
  plain p k = rw k

  -- the pair that a plain pointer refers to, the bytes from the pointer to that pair's end, and that they lie in the arena
  pub record Home (p : ℕ) : Type 0 where
    pub start : ℕ
    pub order : ℕ
    pub found : referent_of bs p ≡ Found start order
    pub left : left_from w p ≡ start + 2 ^ order - p
    pub above : base ≤ start
    pub low : start ≤ p
    pub high : p < start + 2 ^ order
    pub inside : start + 2 ^ order ≤ base + 2 ^ m

  pub home : (p : ℕ) → marked p ≡ false → dead w p ≡ false → Home p
  home p n d = go (referent_of_pointer w p) (plain p n) d
    where
      go : (x : Referent) → referent_of bs p ≡ x → missing x ≡ false → Home p
      go Missing q k = absurd (false≢true (sym k))
      go (Found s e) q k =
          let a : Aligned t m (block s e) = found-aligned t m bs (proper-set proper) p s e q in
          let held = (found-member bs p s e q).held in
          record {
            start = s;
            order = e;
            found = q;
            left = ap (λ (x : Referent). left_in x p) (sym (plain p n) ∙ q);
            above = omega (arith, a.place);
            low = held_low (block s e) p held;
            high = held_high (block s e) p held;
            inside = a.inside;
          }

  pub left-fits : (p : ℕ) → Home p → (p - base) + left_from w p ≤ 2 ^ m
  left-fits p h = omega (arith, h.left, h.above, h.low, h.high, h.inside)

  -- each byte from p to the pair's end is one of the pair's
  pub home-holds : (p : ℕ) (h : Home p) (j : ℕ) → j < left_from w p → holds (block h.start h.order) (p + j) ≡ true
  home-holds p h j v = holds_by (block h.start h.order) (p + j) (omega (arith, h.low)) (omega (arith, h.left))

module _ {t m : ℕ} (os : Orders t m) (l : Ledger) (proper : Proper t m (ranges l.pairs)) where
  abbrev v : View
  v = ledger_view t m l

  unfoldable pub store : (c : Call) → first (rules c v) ≡ 0 → Store c v
  unfolding rules argument_rules state_rules stored copied
  store (Get n) z =
      let a = (got-placed os l proper n z).aligned in
      let size : ℕ = 2 ^ needed_for n v in
      record {
        at = start_for n v - base;
        count = size;
        fits = omega (arith, a.place, a.inside);
        bytes = λ b. replicate size 0;
        counted = λ b e. length-replicate size 0;
        stores = λ b. refl;
      }
  store (Give p) z = store_nothing (Give p) v (λ b. refl)
  store (Step p i) z = store_nothing (Step p i) v (λ b. refl)
  store (Read p k) z = store_nothing (Read p k) v (λ b. refl)
  store (Write p k x) z =
      let c = clear (rules (Write p k x) v) refl z in
      record {
        at = p - base;
        count = k;
        fits = omega (arith, left-fits l proper p (home l proper p (c 13) (c 22)), ltb-false (left_from v p) k (c 25));
        bytes = λ b. bytes_of k x;
        counted = λ b e. length-bytes_of k x;
        stores = λ b. refl;
      }
  store (Left p) z = store_nothing (Left p) v (λ b. refl)
  store (Copy p q n) z =
      let c = clear (rules (Copy p q n) v) refl z in
      let k : ℕ = copy_count v p q n in
      let to = left-fits l proper p (home l proper p (or-false-left _ _ (c 13)) (or-false-left _ _ (c 22))) in
      let from = left-fits l proper q (home l proper q (or-false-right (marked p) _ (c 13)) (or-false-right (dead v p) _ (c 22))) in
      record {
        at = p - base;
        count = k;
        fits = omega (arith, to);
        bytes = λ b. take k (drop (q - base) b);
        counted = λ b e. length-take-le k (drop (q - base) b) (omega (arith, from, length-drop (q - base) b));
        stores = λ b. refl;
      }
  store (SetLock p k) z = store_nothing (SetLock p k) v (λ b. refl)
  store (Grid p rows columns row column) z = store_nothing (Grid p rows columns row column) v (λ b. refl)
  store (Fill p x n) z =
      let c = clear (rules (Fill p x n) v) refl z in
      let k : ℕ = fill_count v p n in
      record {
        at = p - base;
        count = k;
        fits = omega (arith, left-fits l proper p (home l proper p (c 13) (c 22)));
        bytes = λ b. replicate k x;
        counted = λ b e. length-replicate k x;
        stores = λ b. refl;
      }
