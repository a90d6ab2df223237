-- What 13 tells of a call's pointers: of each call's list, its condition is a test of those that must be plain, and in front of it that of 22 is one of the
-- same pointers, and 20 asks for damage (`Listed`), so the laws of ordered lists say what holds where 13 is given, and which number is given where one is
-- marked. Where each is sought in the arena and has a referent, neither 27 nor 22 is left of these (`outside_told`, `missing-told`).
use Rattle.std.proofs.Common.{◌≡◌, ℕ, Bool, true, false, ◌||◌, eqb, List, [], ◌∷◌, sym, refl, ap, ◌∙◌, subst, ne_eqb}
use mathlib.Core.Bool.{false≢true}
use Rattle.common.specs.Refusals.{Refusal, first, any_of, is_one_of}
use Rattle.blocks.specs.Pointers.{marked}
use Rattle.heap.specs.Views.{View}
use Rattle.heap.specs.Rules.{outside_arena, dead, argument_rules, state_rules, rules}
use Rattle.heap.specs.Heaps.{Heap, view_of, heap_call, pointer_number, heap_check}
use Rattle.heap.specs.MissingKinds.{pointers_of, judged_before}
use Rattle.heap.specs.DeadAndMarked.{plain_pointers, TellsMarks}
use Rattle.heap.specs.declared.Call.{Call}
use Rattle.heap.specs.declared.Call.TheVariants.{Get, Give, Step, Read, Write, Left, Copy, Fill, SetLock, Grid}
use Rattle.common.proofs.Booleans.{or-none, or_true_right}
use Rattle.common.proofs.Refusals.{all_of, cond_of, once, given, up_to, earlier, numbers_to, reached, one-of-more}
use Rattle.heap.proofs.Judging.{call-number, address-number, check-number}
use Rattle.heap.proofs.MissingKinds.{outside_told, missing-told}

-- in the list rs, 13 tests the pointers ps; and where one is marked, it stands behind 20, and behind 22, which tests them too
record Listed (w : View) (ps : List ℕ) (rs : List Refusal) : Type 0 where
  once-13 : once 13 rs ≡ true
  test-13 : cond_of 13 rs ≡ any_of marked ps
  after-22 : any_of marked ps ≡ true → cond_of 22 (up_to 13 rs) ≡ any_of (dead w) ps
  after-20 : any_of marked ps ≡ true → cond_of 20 (up_to 13 rs) ≡ w.damaged
  to-13 : any_of marked ps ≡ true → all_of (is_one_of (13 ∷ 22 ∷ 27 ∷ judged_before)) (numbers_to 13 rs) ≡ true

module _ (w : View) where
  none : (rs : List Refusal) → once 13 rs ≡ true → cond_of 13 rs ≡ any_of marked [] → Listed w [] rs
  none rs a b =
      record {
        once-13 = a;
        test-13 = b;
        after-22 = λ x. absurd (false≢true x);
        after-20 = λ x. absurd (false≢true x);
        to-13 = λ x. absurd (false≢true x);
      }

  single : (p : ℕ) (rs : List Refusal) → once 13 rs ≡ true → cond_of 13 rs ≡ marked p → cond_of 22 (up_to 13 rs) ≡ dead w p
      → cond_of 20 (up_to 13 rs) ≡ w.damaged → all_of (is_one_of (13 ∷ 22 ∷ 27 ∷ judged_before)) (numbers_to 13 rs) ≡ true → Listed w (p ∷ []) rs
  single p rs a b c d e =
      record {
        once-13 = a;
        test-13 = b ∙ or-none (marked p);
        after-22 = λ x. c ∙ or-none (dead w p);
        after-20 = λ x. d;
        to-13 = λ x. e;
      }

  listed : (c : Call) → Listed w (plain_pointers c) (rules c w)
  unfolding rules argument_rules state_rules
  listed (Get n) = none _ refl refl
  listed (Give p) = single p _ refl refl refl refl refl
  listed (Step p i) = none _ refl refl
  listed (Read p k) = single p _ refl refl refl refl refl
  listed (Write p k v) = single p _ refl refl refl refl refl
  listed (Left p) = single p _ refl refl refl refl refl
  listed (Copy p q n) =
      record {
        once-13 = refl;
        test-13 = ap (λ (b : Bool). marked p || b) (or-none (marked q));
        after-22 = λ x. ap (λ (b : Bool). dead w p || b) (or-none (dead w q));
        after-20 = λ x. refl;
        to-13 = λ x. refl;
      }
  listed (Fill p v n) = single p _ refl refl refl refl refl
  listed (SetLock p l) = single p _ refl refl refl refl refl
  listed (Grid p rows columns row column) = single p _ refl refl refl refl refl

  -- where one is marked that must be plain, they are all of the call's pointers
  all_plain : (c : Call) → any_of marked (plain_pointers c) ≡ true → pointers_of c ≡ plain_pointers c
  all_plain (Get n) x = refl
  all_plain (Give p) x = refl
  all_plain (Step p i) x = absurd (false≢true x)
  all_plain (Read p k) x = refl
  all_plain (Write p k v) x = refl
  all_plain (Left p) x = refl
  all_plain (Copy p q n) x = refl
  all_plain (Fill p v n) x = refl
  all_plain (SetLock p l) x = refl
  all_plain (Grid p rows columns row column) x = refl

  enough : (c : Call) → any_of marked (plain_pointers c) ≡ true → is_one_of (13 ∷ 22 ∷ 27 ∷ judged_before) (first (rules c w)) ≡ true
  enough c x =
      let on = listed c in
      one-of-more (numbers_to 13 (rules c w)) (13 ∷ 22 ∷ 27 ∷ judged_before) (on.to-13 x) _ (reached 13 (rules c w) (on.test-13 ∙ x))

  -- a number that would tell what none of them is, is not given
  untold : (c : Call) (k : ℕ) (f : ℕ → Bool) → (first (rules c w) ≡ k → any_of f (pointers_of c) ≡ true) → any_of marked (plain_pointers c) ≡ true
      → any_of f (plain_pointers c) ≡ false → eqb k (first (rules c w)) ≡ false
  untold c k f told x none = ne_eqb k (first (rules c w)) (λ e. false≢true (sym none ∙ ap (any_of f) (sym (all_plain c x)) ∙ told (sym e)))

  remaining : (c : Call) → any_of marked (plain_pointers c) ≡ true → any_of (outside_arena w) (plain_pointers c) ≡ false
      → any_of (dead w) (plain_pointers c) ≡ false → is_one_of (13 ∷ judged_before) (first (rules c w)) ≡ true
  remaining c x o d =
      let n = first (rules c w) in
      let some = one-of-more (13 ∷ 22 ∷ 27 ∷ judged_before) (22 ∷ 27 ∷ 13 ∷ judged_before) refl n (enough c x) in
      let not-22 = or_true_right (eqb 22 n) _ some (untold c 22 (dead w) (missing-told w c) x d) in
      or_true_right (eqb 27 n) _ not-22 (untold c 27 (outside_arena w) (outside_told w c) x o)

  pub rules-tell-marks : (c : Call) → TellsMarks w (plain_pointers c) (first (rules c w))
  rules-tell-marks c =
      let rs = rules c w in
      let on = listed c in
      let some : first rs ≡ 13 → any_of marked (plain_pointers c) ≡ true = λ e. sym on.test-13 ∙ given 12 rs on.once-13 e in
      record {
        tells-marked = some;
        tells-home = λ e. sym (on.after-22 (some e)) ∙ earlier 12 rs e 22;
        tells-whole = λ e. sym (on.after-20 (some e)) ∙ earlier 12 rs e 20;
        marked-enough = enough c;
        remains = remaining c;
      }

pub call-tells-marks : (c : Call) (h : Heap) → TellsMarks (view_of h) (plain_pointers c) (heap_call c h).answer.number
call-tells-marks c h = subst (TellsMarks (view_of h) (plain_pointers c)) (sym (call-number c h)) (rules-tell-marks (view_of h) c)

-- show, whose number C is given, and check
pub address-tells-marks : (p : ℕ) (h : Heap) → TellsMarks (view_of h) (p ∷ []) (pointer_number h p)
address-tells-marks p h = subst (TellsMarks (view_of h) (p ∷ [])) (sym (address-number p h)) (rules-tell-marks (view_of h) (Left p))

pub check-tells-marks : (p i : ℕ) (h : Heap) → TellsMarks (view_of h) (p ∷ []) (heap_check p i h).number
check-tells-marks p i h = subst (TellsMarks (view_of h) (p ∷ [])) (sym (check-number p i h)) (rules-tell-marks (view_of h) (Left p))
