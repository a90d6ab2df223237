-- What a call may rely on of a pointer's referent, and the outcomes of the calls that go by it. The proofs of `unchecked` cite these over the values of their
-- places: what `locate_plain` found, in a step `locate`, what `left_in` and `offset` gave, what was stored and answered.
use Rattle.std.proofs.Common.{◌≡◌, ℕ, ◌+◌, ◌-◌, ◌*◌, ◌/◌, ◌^◌, ◌<◌, ◌≤◌, min, max, Bool, true, false, cond, ◌||◌, eqb, ltb, List, [], ◌∷◌, ◌++◌, length}
use Rattle.std.proofs.Common.{replicate, sym, refl, ap, ◌∙◌, subst, ap₂, add-mul, mul-div_cancel, arith, pow_pos, pow_mono, le-ltb, lt-ltb, eqb-true, leb-false}
use borrow.Author.Tests.{not-false}
use Rattle.common.specs.Refusals.{Refusal, ◌when◌, first}
use Rattle.common.specs.Bytes.{big_endian, bytes_of, over, copied}
use Rattle.blocks.specs.Blocks.{base, floor, Aligned, left_in, Referent, Found}
use Rattle.blocks.specs.Tables.{locked_in}
use Rattle.blocks.specs.Pointers.{mark_bit, marked, address, sought}
use Rattle.blocks.specs.Inner.{from_zero}
use Rattle.blocks.proofs.Floors.{pow-split, floor-same}
use Rattle.blocks.proofs.Referents.{referent-block, referent-from-zero}
use Rattle.heap.specs.Views.{View, referent_of_pointer, left_from}
use Rattle.heap.specs.Rules.{bad_width, outside_arena, dead, plain_rules, both_plain, lock_rules, argument_rules, state_rules}
use Rattle.heap.specs.Effects.{grid_address, value, stored}
use Rattle.heap.specs.Heaps.{heap_of, heap_view, entered, heap_step, outcome}
use Rattle.heap.specs.Inner.{Sound, Ready, Holding, Refused, Inside, located_by, located, located_plain, number_in}
use Rattle.heap.specs.Changes.{change_of}
use Rattle.heap.specs.declared.Call.{Call}
use Rattle.heap.specs.declared.Call.TheVariants.{Read, Write, Left, Copy, Fill, Grid}
use Rattle.common.proofs.Refusals.{cond_of, first-stays, first-goes-on}
use Rattle.heap.proofs.Settling.{answer}
use Rattle.heap.proofs.Judging.{argument-clear, step-refused, step-accepted}
use Rattle.heap.proofs.Homes.{located-refused, plain-has-home, is_plain, home-inside, plain-inside, plain-number}

-- a block of an arena starts at a multiple of its size
aligned-floor : (t m s e : ℕ) → e ≤ 16 → Aligned t m (record { start = s; order = e }) → floor e s ≡ s
unfolding floor
aligned-floor t m s e l g =
    let x : s ≡ (2 ^ (16 - e) + g.index) * 2 ^ e =
    g.place ∙ ap (λ (y : ℕ). y + g.index * 2 ^ e) (pow-split e 16 l) ∙ sym (add-mul (2 ^ (16 - e)) g.index (2 ^ e)) in
    ap (λ (y : ℕ). y * 2 ^ e) (ap (λ (y : ℕ). y / 2 ^ e) x ∙ mul-div_cancel (2 ^ (16 - e) + g.index) (pow_pos e)) ∙ sym x

address-low : (p : ℕ) → p < 2 ^ 32 → address p < 2 ^ 31
address-low p l = go (marked p) refl
  where
    go : (b : Bool) → marked p ≡ b → cond b (p - mark_bit) p < 2 ^ 31
    go true n = omega arith
    go false n = leb-false mark_bit p n

-- the block of order e at s, in an arena of 2 ^ m bytes in slots of 2 ^ t, holds the address h
pub record Within (t m s e h : ℕ) : Type 0 where
  pub aligned : Aligned t m (record { start = s; order = e })
  pub order : e ≤ 16
  pub above : base ≤ s
  pub low : s ≤ h
  pub high : h < s + 2 ^ e
  pub inside : s + 2 ^ e ≤ base + 2 ^ m
  pub top : base + 2 ^ m ≤ 2 ^ 17

module _ (t m : ℕ) (a tab : List ℕ) (g : Sound t m a tab) where
  abbrev w : View
  w = heap_view t m (heap_of a tab)

  pub found_within : (p s e : ℕ) → referent_of_pointer w p ≡ Found s e → Within t m s e (from_zero (sought t p))
  found_within p s e f =
      let b = referent-block t m tab g.slots g.whole (from_zero (sought t p)) s e (referent-from-zero t tab (sought t p) ∙ f) in
      let x : s + 2 ^ e ≤ base + 2 ^ m = b.aligned.inside in
      record {
        aligned = b.aligned;
        order = omega (arith, b.aligned.high, g.high);
        above = omega (arith, b.aligned.place);
        low = b.low;
        high = b.high;
        inside = x;
        top = omega (arith, pow_mono g.high);
      }

  pub plain-within : (p s e : ℕ) → marked p ≡ false → referent_of_pointer w p ≡ Found s e → Within t m s e p
  unfolding sought
  plain-within p s e n f = subst (λ (x : ℕ). Within t m s e x) (rw n) (found_within p s e f)

  pub found-holding : (p : ℕ) {s e : ℕ} → p < 2 ^ 32 → Inside s e ≡ located w p → Holding t s e (from_zero (sought t p)) (address p)
  found-holding p {s} {e} l f =
      let x = found_within p s e (home-inside w p f).1 in
      let r : floor e s ≡ s = aligned-floor t m s e x.order x.aligned in
      record {
        slot-low = g.slot-low;
        slot-high = omega (arith, g.slot-high, g.high);
        order = x.order;
        low = x.above;
        high = omega (arith, x.inside, x.top);
        round = sym r ∙ sym (floor-same e s (from_zero (sought t p)) (omega (arith, x.low)) (omega (arith, x.high)));
        near = address-low p l;
      }

-- a width that is one of the three
pub narrow : {t m : ℕ} {c : Call} {a tab : List ℕ} → Ready t m c a tab → (k : ℕ) → cond_of 11 (argument_rules m c) ≡ bad_width k → k ≤ 4
narrow {t} {m} {c} {a} {tab} z k n = go (eqb k 1) (eqb k 2) refl refl (not-false _ (sym n ∙ argument-clear t m c a tab z 11))
  where
    go : (x y : Bool) → eqb k 1 ≡ x → eqb k 2 ≡ y → (x || (y || eqb k 4)) ≡ true → k ≤ 4
    go true y u v w = omega (arith, eqb-true k 1 u)
    go false true u v w = omega (arith, eqb-true k 2 v)
    go false false u v w = omega (arith, eqb-true k 4 w)

-- ---- a call that is ready, and goes by the referent of its pointer p first and then by rules of its own

-- Where rs, the rules that judge p, lead it to a number, k, that refuses the call.
pub led-refused : {t m : ℕ} {c : Call} {a tab : List ℕ} {k : ℕ} → Ready t m c a tab → (p : ℕ) (rs own : List Refusal)
    → let v = heap_view t m (heap_of a tab) in
    (first rs ≡ 0 → dead v p ≡ false) → state_rules c v ≡ rs ++ own → Refused k ≡ located_by (first rs) (referent_of_pointer v p)
    → outcome (answer k 0) a tab ≡ heap_step t m c (heap_of a tab)
led-refused {t} {m} {c} {a} {tab} {k} z p rs own home q found =
    let (n, some) = located-refused (first rs) (referent_of_pointer (heap_view t m (heap_of a tab)) p) home k found in
    step-refused t m c a tab z k (sym (ap first q ∙ first-stays rs own (λ x. some (sym n ∙ x)) ∙ n)) some

-- p is plain, and leads to the block of order e at s
pub record Led (t m : ℕ) (c : Call) (a tab : List ℕ) (p s e : ℕ) : Type 0 where
  pub ready : Ready t m c a tab
  pub found : Inside s e ≡ located_plain (heap_view t m (heap_of a tab)) p
  pub within : Within t m s e p

-- by what `locate_plain` finds in the table alone
module _ {t m : ℕ} {c : Call} {a tab : List ℕ} (z : Ready t m c a tab) (p : ℕ) where
  abbrev v : View
  v = heap_view t m (heap_of a tab)

  -- a number refuses the call
  pub plain-refused : (own : List Refusal) → state_rules c v ≡ plain_rules v p ++ own → {k : ℕ} → Refused k ≡ located_plain (heap_view t m (heap_of [] tab)) p
      → outcome (answer k 0) a tab ≡ heap_step t m c (heap_of a tab)
  plain-refused own q found = led-refused z p (plain_rules v p) own (plain-has-home v p) q found

  -- and a block holds p
  pub led : {s e : ℕ} → Inside s e ≡ located_plain (heap_view t m (heap_of [] tab)) p → Led t m c a tab p s e
  led {s} {e} found =
      let (n, h) = plain-inside v p found in
      record { ready = z; found = found; within = plain-within t m a tab z.sound p s e (is_plain v p n) h }

module _ {t m : ℕ} {c : Call} {a tab : List ℕ} {p s e : ℕ} (d : Led t m c a tab p s e) where
  abbrev seen : View
  seen = heap_view t m (heap_of a tab)

  passed : (first (plain_rules seen p) ≡ 0) × (referent_of_pointer seen p ≡ Found s e)
  passed = plain-inside seen p d.found

  pub led-found : referent_of_pointer seen p ≡ Found s e
  led-found = passed.1

  -- so the call is judged by its own rules
  pub home-first : (own : List Refusal) → state_rules c seen ≡ plain_rules seen p ++ own → first (state_rules c seen) ≡ first own
  home-first own q = ap first q ∙ first-goes-on (plain_rules seen p) own refl passed.0

  pub left-asks : (e ≤ 16) × (s ≤ p) × (p < s + 2 ^ e) × (s < 2 ^ 31)
  left-asks = let x = d.within in (x.order, x.low, x.high, omega (arith, x.inside, x.top))

  pub at_base : base ≤ p
  at_base = omega (arith, d.within.above, d.within.low)

  -- k bytes from p on lie in the arena
  pub room : {at : ℕ} → at ≡ p - base → (k : ℕ) → k ≤ left_in (Found s e) p → at + k ≤ length a
  room o k l = let x = d.within in omega (arith, x.above, x.low, x.inside, pow_pos m, d.ready.sound.size)

  pub left_is : {l : ℕ} → l ≡ left_in (Found s e) p → l ≡ left_from seen p
  left_is q = q ∙ ap (λ (h : Referent). left_in h p) (sym led-found)

  -- where c needs k bytes from p on, and is judged by `last` after that
  module _ (k : ℕ) (last : List Refusal) (q : state_rules c seen ≡ plain_rules seen p ++ (25 when ltb (left_from seen p) k ∷ last)) where
    own_first : (b : Bool) → ltb (left_in (Found s e) p) k ≡ b → first (state_rules c seen) ≡ cond b 25 (first last)
    own_first b h = home-first _ q ∙ rw (led-found, h)

    pub short-refused : left_in (Found s e) p < k → outcome (answer 25 0) a tab ≡ heap_step t m c (heap_of a tab)
    short-refused h = step-refused t m c a tab d.ready 25 (sym (own_first true (lt-ltb (left_in (Found s e) p) k h))) (λ x. omega arith)

    pub long-first : k ≤ left_in (Found s e) p → first (state_rules c seen) ≡ first last
    long-first h = own_first false (le-ltb (left_in (Found s e) p) k h)

  -- where only the lock is left to judge
  module _ (q : first (state_rules c seen) ≡ first (lock_rules seen p)) where
    pub locked-refused : locked_in t tab p ≡ true → outcome (answer 28 0) a tab ≡ heap_step t m c (heap_of a tab)
    locked-refused h = step-refused t m c a tab d.ready 28 (sym (q ∙ rw h)) (λ x. omega arith)

    pub unlocked-accepted : locked_in t tab p ≡ false
        → outcome (answer 0 (value c seen a)) (stored c seen a) (entered (change_of c) seen tab) ≡ heap_step t m c (heap_of a tab)
    unlocked-accepted h = step-accepted t m c a tab d.ready (q ∙ rw h)

-- The outcomes: l is what is left from p, and `at` its place in the arena.
module _ {t m p s e : ℕ} {a tab : List ℕ} where
  pub left-done : Led t m (Left p) a tab p s e → {l : ℕ} → l ≡ left_in (Found s e) p → outcome (answer 0 l) a tab ≡ heap_step t m (Left p) (heap_of a tab)
  unfolding state_rules value stored entered
  left-done d q = rw (left_is d q) (step-accepted t m (Left p) a tab d.ready (home-first d [] refl))

  module _ {w : ℕ} {at : ℕ} (o : at ≡ p - base) (fits : w ≤ left_in (Found s e) p) where
    pub read_done : Led t m (Read p w) a tab p s e → {x : ℕ} → x ≡ big_endian a at w → outcome (answer 0 x) a tab ≡ heap_step t m (Read p w) (heap_of a tab)
    unfolding state_rules value stored entered
    read_done d x = rw (x, o) (step-accepted t m (Read p w) a tab d.ready (long-first d w [] refl fits))

    pub write_done : {v : ℕ} → Led t m (Write p w v) a tab p s e → locked_in t tab p ≡ false → {b : List ℕ} → b ≡ over a at (bytes_of w v)
        → outcome (answer 0 0) b tab ≡ heap_step t m (Write p w v) (heap_of a tab)
    unfolding state_rules value stored entered
    write_done d n x = rw (x, o) (unlocked-accepted d (long-first d w _ refl fits) n)

  pub grid-done : {rows columns row column : ℕ} → rows * columns ≤ left_in (Found s e) p → Led t m (Grid p rows columns row column) a tab p s e
      → outcome (answer 0 (grid_address p columns row column)) a tab ≡ heap_step t m (Grid p rows columns row column) (heap_of a tab)
  unfolding state_rules value stored entered
  grid-done {rows} {columns} {row} {column} fits d =
      step-accepted t m (Grid p rows columns row column) a tab d.ready (long-first d (rows * columns) [] refl fits)

  pub fill-last : {v n : ℕ} → Led t m (Fill p v n) a tab p s e
      → let w = heap_view t m (heap_of a tab) in first (state_rules (Fill p v n) w) ≡ first (lock_rules w p)
  unfolding state_rules
  fill-last d = home-first d _ refl

  pub fill_done : {v n l k at : ℕ} → Led t m (Fill p v n) a tab p s e → locked_in t tab p ≡ false → l ≡ left_in (Found s e) p → k ≡ min n l → at ≡ p - base
      → {b : List ℕ} → b ≡ over a at (replicate k v) → outcome (answer 0 k) b tab ≡ heap_step t m (Fill p v n) (heap_of a tab)
  unfolding value stored entered
  fill_done d f q u o x = rw (x, o, u, left_is d q) (unlocked-accepted d (fill-last d) f)

-- ---- a copy, from y to p

-- of two lists with the same falling numbers, k the first: the greater of their firsts is that of the list that asks either
either : (k : ℕ) (a b : Bool) {x y z : ℕ} → x ≤ k → y ≤ k → z ≡ max x y → cond (a || b) k z ≡ max (cond a k x) (cond b k y)
either k true true l u e = omega arith
either k true false l u e = omega arith
either k false true l u e = omega arith
either k false false l u e = e

at_most : (k n : ℕ) (b : Bool) {x : ℕ} → n ≤ k → x ≤ k → cond b n x ≤ k
at_most k n true l u = l
at_most k n false l u = u

module _ {t m p y n : ℕ} {a tab : List ℕ} (z : Ready t m (Copy p y n) a tab) where
  abbrev x : View
  x = heap_view t m (heap_of a tab)

  -- the number of its pointers is the greater of theirs
  numbers-first : first (both_plain x p y) ≡ max (number_in (located_plain x p)) (number_in (located_plain x y))
  numbers-first =
      either 27 (outside_arena x p) (outside_arena x y) (below p) (below y)
      (either 22 (dead x p) (dead x y) (at_most 22 13 (marked p) (omega arith) (omega arith)) (at_most 22 13 (marked y) (omega arith) (omega arith))
      (either 13 (marked p) (marked y) (omega arith) (omega arith) refl))
      ∙ ap₂ max (sym (plain-number x p)) (sym (plain-number x y))
    where
      below : (v : ℕ) → first (22 when dead x v ∷ 13 when marked v ∷ []) ≤ 27
      below v = at_most 27 22 (dead x v) (omega arith) (at_most 27 13 (marked v) (omega arith) (omega arith))

  -- so it is refused where one of them is
  pub both-refused : {k : ℕ} → k ≡ max (number_in (located_plain x p)) (number_in (located_plain x y)) → (k ≡ 0 → ⊥)
      → outcome (answer k 0) a tab ≡ heap_step t m (Copy p y n) (heap_of a tab)
  unfolding state_rules
  both-refused {k} q some =
      let number = q ∙ sym numbers-first in
      step-refused t m (Copy p y n) a tab z k (number ∙ sym (first-stays (both_plain x p y) (lock_rules x p) (λ r. some (number ∙ r)))) some

  -- and where both lead to a block only the lock is left to judge
  pub copy-last : {s e s2 e2 : ℕ} → Inside s e ≡ located_plain x p → Inside s2 e2 ≡ located_plain x y
      → first (state_rules (Copy p y n) x) ≡ first (lock_rules x p)
  unfolding state_rules
  copy-last d f = first-goes-on (both_plain x p y) (lock_rules x p) refl (numbers-first ∙ rw (← d, ← f))

-- and else it stores as many bytes as both referents have left
pub copy_done : {t m p y n : ℕ} {a tab : List ℕ} {s e s2 e2 k at from : ℕ} → Led t m (Copy p y n) a tab p s e → Led t m (Copy p y n) a tab y s2 e2
    → locked_in t tab p ≡ false → k ≡ min n (min (left_in (Found s e) p) (left_in (Found s2 e2) y)) → at ≡ p - base → from ≡ y - base
    → {b : List ℕ} → b ≡ copied a at a from k → outcome (answer 0 k) b tab ≡ heap_step t m (Copy p y n) (heap_of a tab)
unfolding value stored entered
copy_done {n = n} d f free q o u x =
    let count = q ∙ ap₂ (λ (i j : ℕ). min n (min i j)) (left_is d refl) (left_is f refl) in
    rw (x, o, u, count) (unlocked-accepted d (copy-last d.ready d.found f.found) free)
