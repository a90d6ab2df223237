-- The order of a heap's lengths as the code finds it: the table's length is the arena's, shifted right by the slot's order, and the arena's has an order.
use Rattle.std.proofs.Common.{◌≡◌, ℕ, zero, suc, ◌/◌, ◌^◌, ◌≤◌, Bool, true, false, cond, List, length, Option, Some, None, sym, refl, ap, ◌∙◌, arith}
use mathlib.Core.Bool.{false≢true}
use native.Mathlib.Decide.{dec_lt}
use Rattle.blocks.specs.Orders.{order_of, unless_zero}
use Rattle.blocks.proofs.Floors.{pow-quotient}
use Rattle.blocks.proofs.Orders.{order-sound}
use Rattle.heap.specs.Heaps.{heap_of, wrong_sizes}
use Rattle.heap.specs.Inner.{heap_order}
use Rattle.heap.proofs.Judging.{Sized, fits-sized, sizes-right, order-found}

module _ (t : ℕ) (a tab : List ℕ) (low : t ≤ 5) where
  abbrev o : ℕ
  o = order_of (length a)

  slots-computed : Sized t a tab o → length a / 2 ^ t ≡ length tab
  slots-computed s = ap (λ (n : ℕ). n / 2 ^ t) s.size ∙ pow-quotient t o (omega (arith, s.low)) ∙ sym s.slots

  -- where the lengths don't fit each other there is none
  pub order-unfit : (length a / 2 ^ t ≡ length tab → ⊥) → None ≡ unless_zero (heap_order t a tab)
  unfolding heap_order
  order-unfit n = go (wrong_sizes t o (heap_of a tab)) refl
    where
      go : (b : Bool) → wrong_sizes t o (heap_of a tab) ≡ b → None ≡ unless_zero (cond b 0 o)
      go true e = refl
      go false e = absurd (n (slots-computed (fits-sized t a tab o e)))

  -- and where they do it is the arena's
  pub order-fit : length a / 2 ^ t ≡ length tab → unless_zero o ≡ unless_zero (heap_order t a tab)
  unfolding heap_order
  order-fit q = ap unless_zero (go (wrong_sizes t o (heap_of a tab)) refl)
    where
      sized : (o ≡ 0 → ⊥) → Sized t a tab o
      sized n =
          let s = order-sound (length a) n in
          let y = sym q ∙ ap (λ (n : ℕ). n / 2 ^ t) s.size ∙ pow-quotient t o (omega (arith, s.low)) in
          record { same = refl; low = s.low; high = omega (arith, s.high); size = s.size; slots = y }

      go : (b : Bool) → wrong_sizes t o (heap_of a tab) ≡ b → o ≡ cond b 0 o
      go false e = refl
      go true e =
          elim (dec_lt 0 o) [
            | yes l ↦ let x = sizes-right t a tab (sized (λ z. omega arith)) in absurd (false≢true (sym x ∙ e))
            | no l ↦ omega arith
          ]

-- the order that the code finds, against another: that of a file
module _ (t m : ℕ) (a tab : List ℕ) {found : Option ℕ} (q : found ≡ unless_zero (heap_order t a tab)) where
  pub order_other : (found ≡ Some m → ⊥) → wrong_sizes t m (heap_of a tab) ≡ true
  unfolding heap_order
  order_other n = go (wrong_sizes t m (heap_of a tab)) refl
    where
      some : (k : ℕ) → 5 ≤ k → unless_zero k ≡ Some k
      some zero l = absurd (omega arith)
      some (suc k) l = refl

      go : (b : Bool) → wrong_sizes t m (heap_of a tab) ≡ b → b ≡ true
      go true e = refl
      go false e =
          let s = fits-sized t a tab m e in
          let right : wrong_sizes t (order_of (length a)) (heap_of a tab) ≡ false = rw (← s.same) e in
          absurd (n (q ∙ rw (right, ← s.same) (some m s.low)))

  pub order-this : found ≡ Some m → wrong_sizes t m (heap_of a tab) ≡ false
  order-this e = sizes-right t a tab (order-found t a tab (sym e ∙ q))
