-- The outcomes of get, give, lock and unlock: a block put where the placing rule says, a free range of at least its order (`place-sound`), and a block taken
-- away or stamped anew, whose slots are those from its start on (`slots-of`).
use Rattle.std.proofs.Common.{◌≡◌, ℕ, ◌+◌, ◌-◌, ◌*◌, ◌/◌, ◌^◌, ◌≤◌, Bool, true, false, cond, not, ◌||◌, eqb, ltb, List, [], ◌∷◌, length, replicate, sym, refl}
use Rattle.std.proofs.Common.{ap, ◌∙◌, subst, mul-le-mul_right, add-mul, arith, pow_mono, ltb-false, eq-eqb, ne_eqb}
use Rattle.common.specs.Refusals.{◌when◌, first}
use Rattle.common.specs.Bytes.{over}
use Rattle.blocks.specs.Blocks.{base, start_in, order_in}
use Rattle.blocks.specs.Tables.{entry_of, free_in, locked_in}
use Rattle.blocks.specs.Orders.{needed_order}
use Rattle.blocks.specs.Placing.{place_in, Place, At, Nothing}
use Rattle.common.proofs.Booleans.{or-false-right}
use Rattle.blocks.proofs.Floors.{pow-split}
use Rattle.blocks.proofs.Orders.{Needed, needed-order}
use Rattle.blocks.proofs.Places.{place-sound, range_inside}
use Rattle.blocks.proofs.Slots.{slot_of, slot-start, slots-of}
use Rattle.heap.specs.Views.{View, referent_of_pointer, needed_for, place_for, no_place, place_address, start_for}
use Rattle.heap.specs.Rules.{not_start, lock_rules, argument_rules, state_rules}
use Rattle.heap.specs.Effects.{value, stored, cleared}
use Rattle.heap.specs.Heaps.{heap_of, heap_view, stamped, entered, heap_step, outcome}
use Rattle.heap.specs.Inner.{Ready}
use Rattle.heap.specs.declared.Call.{Call}
use Rattle.heap.specs.declared.Call.TheVariants.{Get, Give, SetLock}
use Rattle.heap.proofs.Settling.{answer}
use Rattle.heap.proofs.Judging.{argument-clear, step-refused, step-accepted}
use Rattle.heap.proofs.Accesses.{Led, led-found, home-first, unlocked-accepted}

-- Of a get that is ready: the order that it needs, and the place for it.
module _ {t m n : ℕ} {a tab : List ℕ} (z : Ready t m (Get n) a tab) {e : ℕ} (q : e ≡ needed_order t m n) where
  abbrev v : View
  v = heap_view t m (heap_of a tab)

  requested : eqb n 0 || ltb (2 ^ m) n ≡ false
  unfolding argument_rules
  requested = argument-clear t m (Get n) a tab z 10

  pub needed : Needed t m n e
  needed =
      subst (λ (k : ℕ). Needed t m n k) (sym q)
      (needed-order t m n z.sound.slot-high (ltb-false (2 ^ m) n (or-false-right (eqb n 0) _ requested)))

  pub needed-top : e ≤ 16
  needed-top = omega (arith, needed.high, z.sound.high)

  place-is : {x : Place} → x ≡ place_in (free_in tab) t 0 m e → place_for n v ≡ x
  place-is h = ap (place_in (free_in tab) t 0 m) (sym q) ∙ sym h

  pub get_none : Nothing ≡ place_in (free_in tab) t 0 m e → outcome (answer 21 0) a tab ≡ heap_step t m (Get n) (heap_of a tab)
  unfolding state_rules
  get_none h = step-refused t m (Get n) a tab z 21 (sym (ap (λ (x : Place). first (21 when no_place x ∷ [])) (place-is h))) (λ x. omega arith)

  -- the place's slots and bytes
  module _ {s k : ℕ} (h : At s k ≡ place_in (free_in tab) t 0 m e) where
    pub get-slots : s + 2 ^ (e - t) ≤ length tab
    get-slots =
        let f = place-sound (free_in tab) t 0 m e s k (omega (arith, needed.high)) (sym h) in
        let r = range_inside t m k f.number (omega (arith, needed.low, f.low)) f.high f.among in
        let l : e - t ≤ k - t = omega (arith, f.low) in
        let p : 2 ^ (e - t) ≤ 2 ^ (k - t) = pow_mono l in
        omega (arith, f.start, z.sound.slots)

    pub get-bytes : (s * 2 ^ t + 2 ^ e ≤ length a) × (length a ≤ 2 ^ 16)
    get-bytes =
        let x : 2 ^ e ≡ 2 ^ (e - t) * 2 ^ t = pow-split t e needed.low in
        let y : 2 ^ m ≡ 2 ^ (m - t) * 2 ^ t = pow-split t m z.sound.slot-high in
        let l : s + 2 ^ (e - t) ≤ 2 ^ (m - t) = omega (arith, get-slots, z.sound.slots) in
        let u : 2 ^ m ≤ 2 ^ 16 = pow_mono z.sound.high in
        (omega (arith, mul-le-mul_right (2 ^ t) l, add-mul s (2 ^ (e - t)) (2 ^ t), z.sound.size), omega (arith, z.sound.size))

    pub get-done : {a' tab' : List ℕ} → a' ≡ over a (s * 2 ^ t) (replicate (2 ^ e) 0) → tab' ≡ over tab s (replicate (2 ^ (e - t)) (entry_of e false))
        → outcome (answer 0 (base + s * 2 ^ t)) a' tab' ≡ heap_step t m (Get n) (heap_of a tab)
    unfolding state_rules value stored entered
    get-done {a'} {tab'} ae te =
        let placed = place-is h in
        let d : base + s * 2 ^ t - base ≡ s * 2 ^ t = omega arith in
        let f : (base + s * 2 ^ t - base) / 2 ^ t ≡ s = slot-start t s in
        let am : a' ≡ cleared a (start_for n v - base) (needed_for n v) = ae ∙ rw (placed, d, ← q) in
        let tm : tab' ≡ stamped t tab (start_for n v) (needed_for n v) (entry_of (needed_for n v) false) = te ∙ rw (placed, f, ← q) in
        let xm : base + s * 2 ^ t ≡ start_for n v = sym (ap (place_address t) placed) in
        rw (xm, am, tm) (step-accepted t m (Get n) a tab z (ap (λ (y : Place). first (21 when no_place y ∷ [])) placed))

-- The slots of the block of order e at s, to which p leads, lie in the table: `at` is the block's place in the arena, k how many it has.
pub block-slots : {t m p s e at k : ℕ} {c : Call} {a tab : List ℕ} → Led t m c a tab p s e → at ≡ s - base → k ≡ 2 ^ (e - t) → at / 2 ^ t + k ≤ length tab
block-slots {t} {m} {s = s} {e = e} d o k =
    let b = slots-of t m (record { start = s; order = e }) d.within.aligned in
    let i : slot_of t s ≡ b.first = ap (slot_of t) b.start ∙ slot-start t b.first in
    omega (arith, b.within, d.ready.sound.slots, ap (λ (x : ℕ). x / 2 ^ t) o)

-- Of a give: p is the block's start, or else it is refused.
module _ {t m p : ℕ} {a tab : List ℕ} {s e : ℕ} (d : Led t m (Give p) a tab p s e) where
  abbrev u : View
  u = heap_view t m (heap_of a tab)

  own_first : (b : Bool) → eqb s p ≡ b → first (state_rules (Give p) u) ≡ cond (not b) 23 (first (lock_rules u p))
  unfolding state_rules
  own_first b h = home-first d (23 when not_start (referent_of_pointer u p) p ∷ lock_rules u p) refl ∙ rw (led-found d, h)

  pub give-inside : (s ≡ p → ⊥) → outcome (answer 23 0) a tab ≡ heap_step t m (Give p) (heap_of a tab)
  give-inside n = step-refused t m (Give p) a tab d.ready 23 (sym (own_first false (ne_eqb s p n))) (λ x. omega arith)

  pub give-last : s ≡ p → first (state_rules (Give p) u) ≡ first (lock_rules u p)
  give-last q = own_first true (eq-eqb s p q)

  pub give-done : s ≡ p → locked_in t tab p ≡ false → {at k : ℕ} → at ≡ p - base → k ≡ 2 ^ (e - t)
      → {tab' : List ℕ} → tab' ≡ over tab (at / 2 ^ t) (replicate k 0) → outcome (answer 0 0) a tab' ≡ heap_step t m (Give p) (heap_of a tab)
  unfolding value stored entered
  give-done q n {at} {k} o c te =
      let tm : over tab (at / 2 ^ t) (replicate k 0) ≡ stamped t tab p (order_in (referent_of_pointer u p)) 0 = rw (o, c, led-found d) in
      rw (te, tm) (unlocked-accepted d (give-last q) n)

-- Of a lock or an unlock: the block's entries become x.
pub lock-done : {t m p s e : ℕ} {l : Bool} {a tab : List ℕ} → Led t m (SetLock p l) a tab p s e → {at k x : ℕ} → at ≡ s - base → k ≡ 2 ^ (e - t)
    → x ≡ entry_of e l → {tab' : List ℕ} → tab' ≡ over tab (at / 2 ^ t) (replicate k x)
    → outcome (answer 0 0) a tab' ≡ heap_step t m (SetLock p l) (heap_of a tab)
unfolding state_rules value stored entered
lock-done {t} {m} {p} {s} {e} {l} {a} {tab} d {at} {k} {x} o c i te =
    let u : View = heap_view t m (heap_of a tab) in
    let h = referent_of_pointer u p in
    let tm : over tab (at / 2 ^ t) (replicate k x) ≡ stamped t tab (start_in h) (order_in h) (entry_of (order_in h) l) = rw (o, c, i, led-found d) in
    rw (te, tm) (step-accepted t m (SetLock p l) a tab d.ready (home-first d [] refl))
