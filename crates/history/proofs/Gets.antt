-- The block that an accepted get adds: it is aligned and was free, since the placing rule finds only ranges that are (`place-sound`).
use Prim.Native.Nat.{ℕ, ◌+◌, ◌-◌, ◌*◌, ◌^◌, ◌≤◌}
use mathlib.Core.Path.{◌≡◌, refl, sym, ◌∙◌, ap}
use mathlib.Core.Bool.{true, false, false≢true}
use mathlib.Core.List.{List}
use native.Mathlib.Omega.{arith}
use native.Mathlib.Nat.{mul_assoc, zero-add}
use lib.Dec.{eqb}
use lib.Pow.{pow-add, pow_mono}
use borrow.Author.Tests.{ltb-false}
use Rattle.common.specs.Refusals.{first}
use Rattle.blocks.specs.Blocks.{base, holds, Aligned, Missing}
use Rattle.blocks.specs.declared.Block.{Block}
use Rattle.blocks.specs.Sets.{ranges, referent_of}
use Rattle.blocks.specs.Placing.{Place, At, Nothing}
use Rattle.common.proofs.Booleans.{or-false-right}
use Rattle.blocks.proofs.Floors.{pow-split}
use Rattle.blocks.proofs.Orders.{Needed, needed-order}
use Rattle.blocks.proofs.Places.{range_inside, FreePlace, place-sound}
use Rattle.blocks.proofs.Slots.{block, Slots, aligned-of}
use Rattle.heap.specs.Views.{View, needed_for, place_for, no_place, place_address, start_for}
use Rattle.heap.specs.Rules.{rules, argument_rules, state_rules}
use Rattle.heap.specs.declared.Call.TheVariants.{Get}
use Rattle.common.proofs.Refusals.{clear}
use Rattle.history.specs.Ledgers.{Ledger, ledger_view}
use Rattle.history.proofs.Agreement.{Proper, Orders}
use Rattle.history.proofs.Pairs.{unheld, free-slots}

-- the block of order e at the start of the range found is aligned, and no pair holds an address of it
pub record Placed (t m : ℕ) (bs : List Block) (b : Block) : Type 0 where
  pub aligned : Aligned t m b
  pub free : (q : ℕ) → holds b q ≡ true → referent_of bs q ≡ Missing

module _ (t m e : ℕ) (bs : List Block) (p : Proper t m bs) (low : t ≤ e) (s k : ℕ) (w : FreePlace (unheld t bs) t 0 m e s k) where
  at : s ≡ w.number * 2 ^ (k - t)
  at = w.start ∙ zero-add _

  -- the range begins at a multiple of the block's slots, which are at most its own
  mul : s ≡ w.number * 2 ^ (k - e) * 2 ^ (e - t)
  mul =
      let z : (k - e) + (e - t) ≡ k - t = omega (arith, w.low) in
      at ∙ ap (λ (x : ℕ). w.number * x) (ap (λ (x : ℕ). 2 ^ x) (sym z) ∙ pow-add 2 (k - e) (e - t))
      ∙ sym (mul_assoc w.number (2 ^ (k - e)) (2 ^ (e - t)))

  smaller : 2 ^ (e - t) ≤ 2 ^ (k - t)
  smaller = pow_mono (omega (arith, w.low))

  ends : s + 2 ^ (e - t) ≤ 2 ^ (m - t)
  ends = omega (arith, at, smaller, range_inside t m k w.number (omega (arith, w.low)) w.high w.among)

  abbrev at-start : Slots t m (block (base + s * 2 ^ t) e)
  at-start = record { first = s; start = refl; size = pow-split t e low; within = ends; index = w.number * 2 ^ (k - e); multiple = mul }

  placed : Placed t m bs (block (base + s * 2 ^ t) e)
  placed =
      record {
        aligned = aligned-of t m (block (base + s * 2 ^ t) e) low (omega (arith, w.low, w.high)) at-start;
        free = free-slots p (block (base + s * 2 ^ t) e) at-start (λ i l. w.free i (omega (arith, smaller)));
      }

-- the block that a get adds to the pairs
abbrev pub got : (t m : ℕ) → Ledger → ℕ → Block
got t m l n = let w = ledger_view t m l in block (start_for n w) (needed_for n w)

module _ {t m : ℕ} (os : Orders t m) (l : Ledger) (proper : Proper t m (ranges l.pairs)) (n : ℕ) where
  abbrev v : View
  v = ledger_view t m l

  at_place : Needed t m n (needed_for n v) → (x : Place) → place_for n v ≡ x → no_place x ≡ false
      → Placed t m (ranges l.pairs) (block (place_address t x) (needed_for n v))
  at_place need Nothing q y = absurd (false≢true (sym y))
  at_place need (At s k) q y =
      let free = place-sound (unheld t (ranges l.pairs)) t 0 m (needed_for n v) s k (omega (arith, need.high)) q in
      placed t m (needed_for n v) (ranges l.pairs) proper need.low s k free

  pub got-placed : first (rules (Get n) v) ≡ 0 → Placed t m (ranges l.pairs) (got t m l n)
  unfolding rules argument_rules state_rules
  got-placed z =
      let c = clear (rules (Get n) v) refl z in
      at_place (needed-order t m n os.slot-high (ltb-false (2 ^ m) n (or-false-right (eqb n 0) _ (c 10)))) (place_for n v) refl (c 21)
