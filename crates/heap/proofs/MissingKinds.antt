-- What 27 and 22 tell of a call's pointers: of each call's list, the conditions of the two numbers are tests of its pointers (`Listed`), so the laws of
-- ordered lists say which holds where a number is given, and which number is given where one holds; and inside the arena a pointer has no referent exactly
-- where it is sought at a free slot (`free-is`).
use Rattle.std.proofs.Common.{◌≡◌, ℕ, ◌-◌, ◌/◌, ◌^◌, ◌≤◌, Bool, true, false, not, ◌&&◌, ◌||◌, ◌⊎◌, List, [], ◌∷◌, ◌++◌, length, ℤ, pos, negsuc, sym, refl, ap}
use Rattle.std.proofs.Common.{◌∙◌, subst, inl, inr, arith}
use mathlib.Core.Bool.{false≢true}
use Rattle.common.specs.Refusals.{Refusal, first, any_of, is_one_of}
use Rattle.blocks.specs.Blocks.{base, missing}
use Rattle.blocks.specs.Tables.{free_in, referent_in}
use Rattle.blocks.specs.Orders.{smallest_arena}
use Rattle.blocks.specs.Pointers.{sought, referent_at, outside_at}
use Rattle.heap.specs.Views.{View, slot_order}
use Rattle.heap.specs.Rules.{outside_arena, dead, argument_rules, state_rules, rules}
use Rattle.heap.specs.Heaps.{Heap, heap_view, view_of, heap_call, pointer_number, heap_check}
use Rattle.heap.specs.MissingKinds.{pointers_of, free_at, at_free_slot, judged_before, Tells}
use Rattle.heap.specs.declared.Call.{Call}
use Rattle.heap.specs.declared.Call.TheVariants.{Get, Give, Step, Read, Write, Left, Copy, Fill, SetLock, Grid}
use Rattle.common.proofs.Booleans.{and_right, or-none, or_cases, or_right, or-false-left, or-false-right}
use Rattle.common.proofs.Refusals.{all_of, cond_of, once, given, up_to, earlier, numbers_to, reached, one-of-more}
use Rattle.blocks.proofs.Outside.{missing-free}
use Rattle.heap.proofs.Judging.{fits-sized, call-number, address-number, check-number}

-- in the list rs, 27 and 22 test the pointers ps, in this order, and 8 comes before
record Listed (w : View) (ps : List ℕ) (rs : List Refusal) : Type 0 where
  once-27 : once 27 rs ≡ true
  once-22 : once 22 rs ≡ true
  test-27 : cond_of 27 rs ≡ any_of (outside_arena w) ps
  test-22 : cond_of 22 rs ≡ any_of (dead w) ps
  after-27 : cond_of 27 (up_to 22 rs) ≡ any_of (outside_arena w) ps
  after-8 : cond_of 8 (up_to 22 rs) ≡ w.wrong-sizes
  to-27 : any_of (outside_arena w) ps ≡ true → all_of (is_one_of (27 ∷ judged_before)) (numbers_to 27 rs) ≡ true
  to-22 : any_of (dead w) ps ≡ true → all_of (is_one_of (22 ∷ 27 ∷ judged_before)) (numbers_to 22 rs) ≡ true

module _ (w : View) where
  single : (p : ℕ) (rs : List Refusal) → once 27 rs ≡ true → once 22 rs ≡ true → cond_of 27 rs ≡ outside_arena w p → cond_of 22 rs ≡ dead w p
      → cond_of 27 (up_to 22 rs) ≡ outside_arena w p → cond_of 8 (up_to 22 rs) ≡ w.wrong-sizes
      → all_of (is_one_of (27 ∷ judged_before)) (numbers_to 27 rs) ≡ true → all_of (is_one_of (22 ∷ 27 ∷ judged_before)) (numbers_to 22 rs) ≡ true
      → Listed w (p ∷ []) rs
  single p rs a b c d e f g h =
      record {
        once-27 = a;
        once-22 = b;
        test-27 = c ∙ or-none (outside_arena w p);
        test-22 = d ∙ or-none (dead w p);
        after-27 = e ∙ or-none (outside_arena w p);
        after-8 = f;
        to-27 = λ x. g;
        to-22 = λ x. h;
      }

  listed : (c : Call) → Listed w (pointers_of c) (rules c w)
  unfolding rules argument_rules state_rules
  listed (Get n) =
      record {
        once-27 = refl;
        once-22 = refl;
        test-27 = refl;
        test-22 = refl;
        after-27 = refl;
        after-8 = refl;
        to-27 = λ x. absurd (false≢true x);
        to-22 = λ x. absurd (false≢true x);
      }
  listed (Give p) = single p _ refl refl refl refl refl refl refl refl
  listed (Step p i) = single p _ refl refl refl refl refl refl refl refl
  listed (Read p k) = single p _ refl refl refl refl refl refl refl refl
  listed (Write p k v) = single p _ refl refl refl refl refl refl refl refl
  listed (Left p) = single p _ refl refl refl refl refl refl refl refl
  listed (Copy p q n) =
      let far = ap (λ (b : Bool). outside_arena w p || b) (or-none (outside_arena w q)) in
      record {
        once-27 = refl;
        once-22 = refl;
        test-27 = far;
        test-22 = ap (λ (b : Bool). dead w p || b) (or-none (dead w q));
        after-27 = far;
        after-8 = refl;
        to-27 = λ x. refl;
        to-22 = λ x. refl;
      }
  listed (Fill p v n) = single p _ refl refl refl refl refl refl refl refl
  listed (SetLock p l) = single p _ refl refl refl refl refl refl refl refl
  listed (Grid p rows columns row column) = single p _ refl refl refl refl refl refl refl refl

  -- by any view, 27 tells that a pointer is sought outside the arena, and 22 that one has no referent
  pub outside_told : (c : Call) → first (rules c w) ≡ 27 → any_of (outside_arena w) (pointers_of c) ≡ true
  outside_told c e = let on = listed c in sym on.test-27 ∙ given 26 (rules c w) on.once-27 e

  pub missing-told : (c : Call) → first (rules c w) ≡ 22 → any_of (dead w) (pointers_of c) ≡ true
  missing-told c e = let on = listed c in sym on.test-22 ∙ given 21 (rules c w) on.once-22 e

-- of the numbers that are judged before a home is asked for, a write or a grid has every one
pub judged-before : (p k v rows columns row column : ℕ) (w : View)
    → all_of (is_one_of (numbers_to 20 (rules (Write p k v) w) ++ numbers_to 20 (rules (Grid p rows columns row column) w))) judged_before ≡ true
unfolding rules argument_rules state_rules
judged-before p k v rows columns row column w = refl

-- of a table whose length fits, in slots of 2 ^ t
module _ (t m : ℕ) (h : Heap) (low : t ≤ m) (slots : length h.table ≡ 2 ^ (m - t)) where
  abbrev v : View
  v = heap_view t m h

  free-is : (p : ℕ) → not (outside_arena v p) && dead v p ≡ at_free_slot v p
  free-is p = at (sought t p)
    where
      inside : (q : ℕ) (b : Bool) → outside_at m (pos q) ≡ b
          → not b && missing (referent_in t h.table q) ≡ not b && free_in h.table ((q - base) / 2 ^ t)
      inside q true o = refl
      inside q false o = missing-free t m h.table slots low q o

      at : (z : ℤ) → not (outside_at m z) && missing (referent_at (referent_in t h.table) z) ≡ free_at v z
      at (pos q) = inside q (outside_at m (pos q)) refl
      at (negsuc n) = refl

  free-slots : (ps : List ℕ) → any_of (outside_arena v) ps ≡ false → any_of (dead v) ps ≡ true → any_of (at_free_slot v) ps ≡ true
  free-slots [] o d = d
  free-slots (p ∷ ps) o d = go (free-slots ps (or-false-right (outside_arena v p) _ o)) (or_cases (dead v p) (any_of (dead v) ps) d)
    where
      go : (any_of (dead v) ps ≡ true → any_of (at_free_slot v) ps ≡ true) → (dead v p ≡ true) ⊎ (any_of (dead v) ps ≡ true)
          → any_of (at_free_slot v) (p ∷ ps) ≡ true
      go next (inl x) = rw (← free-is p, or-false-left (outside_arena v p) _ o, x)
      go next (inr x) = or_right (at_free_slot v p) (next x)

  free-dead : (ps : List ℕ) → any_of (at_free_slot v) ps ≡ true → any_of (dead v) ps ≡ true
  free-dead [] x = x
  free-dead (p ∷ ps) x = go (free-dead ps) (or_cases (at_free_slot v p) (any_of (at_free_slot v) ps) x)
    where
      go : (any_of (at_free_slot v) ps ≡ true → any_of (dead v) ps ≡ true) → (at_free_slot v p ≡ true) ⊎ (any_of (at_free_slot v) ps ≡ true)
          → any_of (dead v) (p ∷ ps) ≡ true
      go next (inl y) = rw (and_right (not (outside_arena v p)) (dead v p) (free-is p ∙ y))
      go next (inr y) = or_right (dead v p) (next y)

-- by the table of any heap, in slots that no arena is smaller than
module _ (t m : ℕ) (l : t ≤ smallest_arena) (c : Call) (h : Heap) where
  abbrev w : View
  w = heap_view t m h

  abbrev ps : List ℕ
  ps = pointers_of c

  -- where the lengths fit, its pointers without a referent inside are those at a free slot
  sized : w.wrong-sizes ≡ false → (t ≤ m) × (length h.table ≡ 2 ^ (m - t))
  sized fit = let s = fits-sized t h.arena h.table m fit in (omega (arith, s.low), s.slots)

  enough : any_of (dead w) ps ≡ true → is_one_of (22 ∷ 27 ∷ judged_before) (first (rules c w)) ≡ true
  enough d = one-of-more (numbers_to 22 (rules c w)) (22 ∷ 27 ∷ judged_before) ((listed w c).to-22 d) _ (reached 22 (rules c w) ((listed w c).test-22 ∙ d))

  free-told : (b : Bool) → w.wrong-sizes ≡ b → any_of (at_free_slot w) ps ≡ true → is_one_of (22 ∷ 27 ∷ judged_before) (first (rules c w)) ≡ true
  unfolding rules
  free-told true e f = rw e
  free-told false e f = let s = sized e in enough (free-dead t m h s.0 s.1 ps f)

  pub rules-tell : Tells w ps (first (rules c w))
  rules-tell =
      let rs = rules c w in
      let on = listed w c in
      let inside : first rs ≡ 22 → any_of (outside_arena w) ps ≡ false = λ e. sym on.after-27 ∙ earlier 21 rs e 27 in
      record {
        tells-outside = outside_told w c;
        tells-inside = inside;
        tells-free = λ e.
            let s = sized (sym on.after-8 ∙ earlier 21 rs e 8) in
            free-slots t m h s.0 s.1 ps (inside e) (missing-told w c e);
        outside-enough = λ o. one-of-more (numbers_to 27 rs) (27 ∷ judged_before) (on.to-27 o) _ (reached 27 rs (on.test-27 ∙ o));
        free-enough = free-told w.wrong-sizes refl;
      }

pub call-tells : (c : Call) (h : Heap) → Tells (view_of h) (pointers_of c) (heap_call c h).answer.number
call-tells c h = subst (Tells (view_of h) (pointers_of c)) (sym (call-number c h)) (rules-tell slot_order _ (omega arith) c h)

-- show, whose number C is given, and check
pub address-tells : (p : ℕ) (h : Heap) → Tells (view_of h) (p ∷ []) (pointer_number h p)
address-tells p h = subst (Tells (view_of h) (p ∷ [])) (sym (address-number p h)) (rules-tell slot_order _ (omega arith) (Left p) h)

pub check-tells : (p i : ℕ) (h : Heap) → Tells (view_of h) (p ∷ []) (heap_check p i h).number
check-tells p i h = subst (Tells (view_of h) (p ∷ [])) (sym (check-number p i h)) (rules-tell slot_order _ (omega arith) (Left p) h)
