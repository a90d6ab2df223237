-- A call that has been judged up to its state, by its list of refusals. The list's first is that of 8, the arguments' own first, 20 and the state's
-- (`rules-first`), which is the order in which the code finds them (`judge`).
use Rattle.std.proofs.Common.{◌≡◌, ℕ, zero, suc, ◌-◌, ◌^◌, ◌≤◌, Bool, true, false, cond, not, eqb, leb, List, [], ◌∷◌, length, replicate, sym, refl, ap, ◌∙◌}
use Rattle.std.proofs.Common.{Some, None, subst, ap₂, arith, eq-eqb, ne_eqb, eqb-true, le-leb, leb-true}
use borrow.Author.Tests.{eqb-false, not-false}
use Rattle.common.specs.Refusals.{Refusal, ◌when◌, first}
use Rattle.common.proofs.Refusals.{positive, clear, cond_of, first-stays, numbered, first-append}
use Rattle.common.proofs.Booleans.{and_left, and_right, and_both}
use Rattle.blocks.proofs.Orders.{order-power}
use Rattle.blocks.specs.Tables.{damaged_by}
use Rattle.blocks.specs.Orders.{smallest_arena, largest_arena, is_arena_order, order_of, unless_zero}
use Rattle.heap.specs.Views.{View, slot_order}
use Rattle.heap.specs.Rules.{argument_rules, state_rules, rules, address_rules}
use Rattle.heap.specs.Effects.{value, stored, Outcome, settled}
use Rattle.heap.specs.Heaps.{Heap, heap_of, wrong_sizes, heap_view, view_of, entered, heap_step, heap_call, heap_fresh, fresh_heap}
use Rattle.heap.specs.Heaps.{pointer_number, bit, check_step, heap_check, outcome}
use Rattle.heap.specs.Changes.{change_of}
use Rattle.heap.specs.Inner.{heap_order, before_call, Sound, Ready, Judged}
use Rattle.heap.specs.declared.Call.{Call}
use Rattle.heap.specs.declared.Call.TheVariants.{Get, Give, Step, Read, Write, Left, Copy, Fill, SetLock, Grid}
use Rattle.heap.proofs.Settling.{answer, settled-refused, settled-number}

arguments-positive : (m : ℕ) (c : Call) → positive (argument_rules m c) ≡ true
unfolding argument_rules
arguments-positive m (Get n) = refl
arguments-positive m (Give p) = refl
arguments-positive m (Step p i) = refl
arguments-positive m (Read p w) = refl
arguments-positive m (Write p w v) = refl
arguments-positive m (Left p) = refl
arguments-positive m (Copy p q n) = refl
arguments-positive m (Fill p v n) = refl
arguments-positive m (SetLock p l) = refl
arguments-positive m (Grid p rows columns row column) = refl

-- a call's rules: 8, the arguments' refusal n, 0 for none, 20, and the rest
abbrev judging : Bool → ℕ → Bool → List Refusal → List Refusal
judging b n d rs = 8 when b ∷ numbered n ∷ 20 when d ∷ rs

pub rules-first : (c : Call) (w : View)
    → first (rules c w) ≡ first (judging w.wrong-sizes (first (argument_rules w.order c)) w.damaged (state_rules c w))
unfolding rules
rules-first c w =
    ap (cond w.wrong-sizes 8) (first-append (argument_rules w.order c) (20 when w.damaged ∷ state_rules c w) (arguments-positive w.order c))

-- where none applies
judging-clear : (b : Bool) (n : ℕ) (d : Bool) (rs : List Refusal) → first (judging b n d rs) ≡ 0 → (b ≡ false) × (n ≡ 0) × (d ≡ false) × (first rs ≡ 0)
judging-clear b n d rs z = go b (eqb n 0) refl d z
  where
    go : (b e : Bool) → eqb n 0 ≡ e → (d : Bool) → cond b 8 (cond (not e) n (cond d 20 (first rs))) ≡ 0 → (b ≡ false) × (n ≡ 0) × (d ≡ false) × (first rs ≡ 0)
    go true e x d z = absurd (omega arith)
    go false false x d z = absurd (eqb-false n 0 x z)
    go false true x true z = absurd (omega arith)
    go false true x false z = (refl, eqb-true n 0 x, refl, z)

-- The lengths, by the order of the arena's: that of a heap in slots of 2 ^ t bytes, t at most the smallest order of an arena.
module _ (t : ℕ) (a tab : List ℕ) where
  abbrev o : ℕ
  o = order_of (length a)

  pub record Sized (m : ℕ) : Type 0 where
    pub same : m ≡ o
    pub low : 5 ≤ m
    pub high : m ≤ 16
    pub size : length a ≡ 2 ^ m
    pub slots : length tab ≡ 2 ^ (m - t)

  pub fits-sized : (m : ℕ) → wrong_sizes t m (heap_of a tab) ≡ false → Sized m
  fits-sized m n =
      let x = not-false _ n in
      let y = and_left (is_arena_order m) _ x in
      let z = and_right (is_arena_order m) _ x in
      let low = leb-true smallest_arena m (and_left _ _ y) in
      let high = leb-true m largest_arena (and_right (leb smallest_arena m) _ y) in
      let size = eqb-true _ _ (and_left _ _ z) in
      record {
        same = sym (ap order_of size ∙ order-power m low high);
        low = low;
        high = high;
        size = size;
        slots = eqb-true _ _ (and_right (eqb (length a) (2 ^ m)) _ z);
      }

  -- a sound heap has these lengths, and no damage
  pub sized-sound : {m : ℕ} → 1 ≤ t → t ≤ 5 → Sized m → damaged_by t m tab ≡ false → Sound t m a tab
  sized-sound l h s d =
      record { slot-low = l; slot-high = omega (arith, s.low); low = s.low; high = s.high; size = s.size; slots = s.slots; whole = d }

  pub sound-sized : {m : ℕ} → Sound t m a tab → Sized m
  sound-sized {m} s =
      record { same = sym (ap order_of s.size ∙ order-power m s.low s.high); low = s.low; high = s.high; size = s.size; slots = s.slots }

  pub sizes-right : {m : ℕ} → Sized m → wrong_sizes t m (heap_of a tab) ≡ false
  sizes-right {m} s =
      ap not (and_both (and_both (le-leb smallest_arena m s.low) (le-leb m largest_arena s.high)) (and_both (eq-eqb _ _ s.size) (eq-eqb _ _ s.slots)))

-- a call that is refused by the number k
pub refused-step : (t m : ℕ) (c : Call) (a tab : List ℕ) {k : ℕ} → k ≡ first (rules c (heap_view t m (heap_of a tab))) → (k ≡ 0 → ⊥)
    → outcome (answer k 0) a tab ≡ heap_step t m c (heap_of a tab)
unfolding heap_step
refused-step t m c a tab {k = k} q n = rw (← q) (settled-refused k (heap_of a tab) _ _ n)

-- a call on a sound heap that its arguments refuse
pub argument-refused : {t m : ℕ} (c : Call) {a tab : List ℕ} {k : ℕ} → Sound t m a tab → k ≡ first (argument_rules m c) → (k ≡ 0 → ⊥)
    → outcome (answer k 0) a tab ≡ heap_step t m c (heap_of a tab)
argument-refused {t = t} {m = m} c {a = a} {tab = tab} {k = k} s q n =
    let x : k ≡ first (rules c (heap_view t m (heap_of a tab))) = rw (rules-first, sizes-right t a tab (sound-sized t a tab s), ← q, ne_eqb k 0 n) in
    refused-step t m c a tab x n

module _ (t m : ℕ) (c : Call) (a tab : List ℕ) (z : Ready t m c a tab) where
  abbrev w : View
  w = heap_view t m (heap_of a tab)

  -- no argument is refused by the number k
  pub argument-clear : (k : ℕ) → cond_of k (argument_rules m c) ≡ false
  argument-clear = clear (argument_rules m c) (arguments-positive m c) z.arguments

  pub ready-first : first (rules c w) ≡ first (state_rules c w)
  ready-first = rules-first c w ∙ rw (sizes-right t a tab (sound-sized t a tab z.sound), z.arguments, z.sound.whole)

  pub step-refused : (k : ℕ) → k ≡ first (state_rules c w) → (k ≡ 0 → ⊥) → outcome (answer k 0) a tab ≡ heap_step t m c (heap_of a tab)
  step-refused k q n = refused-step t m c a tab (q ∙ sym ready-first) n

  pub step-accepted : first (state_rules c w) ≡ 0
      → outcome (answer 0 (value c w a)) (stored c w a) (entered (change_of c) w tab) ≡ heap_step t m c (heap_of a tab)
  unfolding heap_step
  step-accepted q = rw (ready-first, q)

-- an order as the code says it
order-is : (k : ℕ) {m : ℕ} → Some m ≡ unless_zero k → k ≡ m
order-is zero q = cc
order-is (suc k) q = cc

no-order : (k : ℕ) → None ≡ unless_zero k → k ≡ 0
no-order zero q = refl
no-order (suc k) q = cc

-- What the order that the code finds says of the lengths: those of a heap of that order, or of none.
module _ (t : ℕ) (a tab : List ℕ) where
  abbrev misfit : Bool
  misfit = wrong_sizes t (order_of (length a)) (heap_of a tab)

  pub order-found : {m : ℕ} → Some m ≡ unless_zero (heap_order t a tab) → Sized t a tab m
  unfolding heap_order
  order-found {m} q = go misfit refl q
    where
      go : (b : Bool) → misfit ≡ b → Some m ≡ unless_zero (cond b 0 (order_of (length a))) → Sized t a tab m
      go true e x = absurd cc
      go false e x = subst (Sized t a tab) (order-is _ x) (fits-sized t a tab (order_of (length a)) e)

  -- 8 by the order that is found, 0 for none
  pub order-sizes : (m : ℕ) → m ≡ heap_order t a tab → wrong_sizes t m (heap_of a tab) ≡ eqb m 0
  unfolding heap_order
  order-sizes m q = go misfit refl q
    where
      go : (b : Bool) → misfit ≡ b → m ≡ cond b 0 (order_of (length a)) → wrong_sizes t m (heap_of a tab) ≡ eqb m 0
      go true e x = rw x
      go false e x =
          let s = fits-sized t a tab (order_of (length a)) e in
          rw x (e ∙ sym (ne_eqb (order_of (length a)) 0 (λ z. omega (arith, s.low))))

  pub order-missing : None ≡ unless_zero (heap_order t a tab) → misfit ≡ true
  unfolding heap_order
  order-missing q = go misfit refl (no-order _ q)
    where
      go : (b : Bool) → misfit ≡ b → cond b 0 (order_of (length a)) ≡ 0 → misfit ≡ true
      go true e x = e
      go false e x = let s = fits-sized t a tab (order_of (length a)) e in absurd (omega (arith, s.low))

-- ---- the public calls

-- a call that is not refused
pub accepted-ready : (c : Call) (a tab : List ℕ) → first (rules c (view_of (heap_of a tab))) ≡ 0
    → Ready slot_order (order_of (length a)) c a tab × (first (state_rules c (view_of (heap_of a tab))) ≡ 0)
accepted-ready c a tab z =
    let w : View = view_of (heap_of a tab) in
    let (x, u, d, g) = judging-clear w.wrong-sizes (first (argument_rules w.order c)) w.damaged (state_rules c w) (sym (rules-first c w) ∙ z) in
    (record { sound = sized-sound slot_order a tab (omega arith) (omega arith) (fits-sized slot_order a tab w.order x) d; arguments = u }, g)

-- The judging of a public call, by what `order_of` and `before_call` ensure. The lengths are none of a heap:
pub sizes-refused : (c : Call) (a tab : List ℕ) → wrong_sizes slot_order (order_of (length a)) (heap_of a tab) ≡ true
    → outcome (answer 8 0) a tab ≡ heap_call c (heap_of a tab)
unfolding heap_call rules
sizes-refused c a tab e = refused-step slot_order (order_of (length a)) c a tab (rw e) (λ z. omega arith)

-- or they are, and k is what refuses the call then, 0 for nothing.
module _ (c : Call) {a tab : List ℕ} {m k : ℕ} (s : Sized slot_order a tab m) (h : k ≡ before_call slot_order m (first (argument_rules m c)) tab) where
  abbrev x : View
  x = heap_view slot_order m (heap_of a tab)

  abbrev before : List Refusal → List Refusal
  before = judging (eqb m 0) (first (argument_rules m c)) x.damaged

  ordered-first : first (rules c x) ≡ first (before (state_rules c x))
  ordered-first =
      rules-first c x
      ∙ ap (λ (b : Bool). first (judging b (first (argument_rules m c)) x.damaged (state_rules c x)))
      (sizes-right slot_order a tab s ∙ sym (ne_eqb m 0 (λ z. omega (arith, s.low))))

  pub judged-refused : (k ≡ 0 → ⊥) → outcome (answer k 0) a tab ≡ heap_call c (heap_of a tab)
  unfolding heap_call
  judged-refused n =
      let number = h ∙ sym (first-stays (before []) (state_rules c x) (λ z. n (h ∙ z))) ∙ sym ordered-first in
      rw (← s.same) (refused-step slot_order m c a tab number n)

  pub judged-ready : k ≡ 0 → Judged c a tab m
  unfolding heap_call
  judged-ready z =
      let (_, u, d, _) = judging-clear (eqb m 0) (first (argument_rules m c)) x.damaged [] (sym h ∙ z) in
      record {
        ready = record { sound = sized-sound slot_order a tab (omega arith) (omega arith) s d; arguments = u };
        same = ap (λ (o : ℕ). heap_step slot_order o c (heap_of a tab)) s.same;
      }

-- the number of a call's answer
pub call-number : (c : Call) (h : Heap) → (heap_call c h).answer.number ≡ first (rules c (view_of h))
unfolding heap_call heap_step
call-number c h = settled-number (first (rules c (view_of h))) _ _ _

-- check and show are judged as left is
pub address-left : (p : ℕ) (w : View) → address_rules w p ≡ rules (Left p) w
unfolding address_rules rules argument_rules state_rules
address-left p w = refl

pub address-number : (p : ℕ) (h : Heap) → pointer_number h p ≡ first (rules (Left p) (view_of h))
address-number p h = ap first (address-left p (view_of h))

pub check-number : (p i : ℕ) (h : Heap) → (heap_check p i h).number ≡ first (rules (Left p) (view_of h))
unfolding heap_check check_step
check-number p i h = settled-number (first (address_rules (view_of h) p)) (bit ((view_of h).inside p i)) h h ∙ address-number p h

-- refused, the check says what left does
pub check-refused : (p i : ℕ) {k : ℕ} {a tab : List ℕ} → (k ≡ 0 → ⊥) → outcome (answer k 0) a tab ≡ heap_call (Left p) (heap_of a tab)
    → answer k 0 ≡ heap_check p i (heap_of a tab)
unfolding heap_check check_step
check-refused p i {k} {a} {tab} n e =
    let h : Heap = heap_of a tab in
    let v : ℕ = bit ((view_of h).inside p i) in
    let number : k ≡ first (address_rules (view_of h) p) = ap (λ x. x.answer.number) e ∙ call-number (Left p) h ∙ sym (address-number p h) in
    ap (λ (x : Outcome Heap). x.answer) (settled-refused k h v h n ∙ ap (λ (x : ℕ). settled x h v h) number)

pub check-ordered : (p i : ℕ) {m : ℕ} {a tab : List ℕ} → Sized slot_order a tab m → check_step slot_order m p i (heap_of a tab) ≡ heap_check p i (heap_of a tab)
unfolding heap_check
check-ordered p i {a = a} {tab = tab} s = ap (λ (o : ℕ). check_step slot_order o p i (heap_of a tab)) s.same

-- Fresh: on buffers whose lengths fit it leaves the fresh heap of their order.
pub fresh-heap : (m : ℕ) (a tab : List ℕ) → wrong_sizes slot_order m (heap_of a tab) ≡ false
    → heap_fresh (heap_of a tab) ≡ record { answer = answer 0 0; state = fresh_heap m }
unfolding heap_fresh
fresh-heap m a tab z =
    let s = fits-sized slot_order a tab m z in
    let n : (view_of (heap_of a tab)).wrong-sizes ≡ false = rw (← s.same) z in
    rw n (ap₂ (λ (n k : ℕ). outcome (answer 0 0) (replicate n 0) (replicate k 0)) s.size s.slots)

module _ (a tab : List ℕ) where
  pub fresh-refused : wrong_sizes slot_order (order_of (length a)) (heap_of a tab) ≡ true → outcome (answer 8 0) a tab ≡ heap_fresh (heap_of a tab)
  unfolding heap_fresh
  fresh-refused e = rw e

  pub order-fits : {m : ℕ} → Sized slot_order a tab m → (view_of (heap_of a tab)).wrong-sizes ≡ false
  order-fits s = rw (← s.same) (sizes-right slot_order a tab s)

  pub fresh-done : {m : ℕ} → Sized slot_order a tab m → outcome (answer 0 0) (replicate (length a) 0) (replicate (length tab) 0) ≡ heap_fresh (heap_of a tab)
  unfolding heap_fresh
  fresh-done s = rw (order-fits s)
