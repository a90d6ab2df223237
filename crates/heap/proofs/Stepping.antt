-- A step: the code's sum, which wraps, and its comparisons with the referent's bounds, against the exact sum. The two are equal, or the exact one is negative
-- and the other past every block and its reach (`sum-cases`).
use Rattle.std.proofs.Common.{◌≡◌, ℕ, suc, ◌+◌, ◌-◌, ◌%◌, ◌^◌, ◌<◌, ◌≤◌, Bool, true, false, cond, not, ◌&&◌, ◌||◌, ltb, leb, ◌⊎◌, List, [], ◌∷◌, ℤ, pos, negsuc}
use Rattle.std.proofs.Common.{sym, refl, ap, ◌∙◌, ap₂, inl, inr, ⊎_elim, arith, pow_mono, ltb-true, le-ltb, lt-ltb, le-leb}
use mathlib.Core.Bool.{and-false}
use native.Mathlib.Decide.{dec_lt, dec_le}
use borrow.Author.Tests.{lt-leb}
use Rattle.common.specs.Refusals.{◌when◌, first}
use Rattle.blocks.specs.Blocks.{floor, Referent, Found}
use Rattle.blocks.specs.Pointers.{mark_bit, address, sought, referent_at, signed, exact_sum, wrapped_sum, check_bits, check_at, in_reach}
use Rattle.blocks.specs.Inner.{from_zero}
use Rattle.blocks.specs.Tables.{referent_in}
use Rattle.common.proofs.Refusals.{first-goes-on}
use Rattle.common.proofs.Booleans.{and_right, and_both, or_right}
use Rattle.blocks.proofs.Checks.{check-holds}
use Rattle.heap.specs.Views.{View, referent_of_pointer}
use Rattle.heap.specs.Rules.{home_rules, plain_rules, beyond, state_rules, address_rules}
use Rattle.heap.specs.Effects.{pointer_at, value, stored, Outcome, settled}
use Rattle.heap.specs.Heaps.{Heap, heap_of, heap_view, inside_by_check, entered, heap_step, bit, check_step, outcome}
use Rattle.heap.specs.Inner.{Sound, Ready, Holding, stepped_in, Refused, Inside, located, located_plain}
use Rattle.heap.specs.declared.Answer.{Answer}
use Rattle.heap.specs.declared.Call.TheVariants.{Step}
use Rattle.heap.proofs.Settling.{answer, settled-refused}
use Rattle.heap.proofs.Judging.{ready-first, sound-sized, sizes-right}
use Rattle.heap.proofs.Homes.{has-home, is_plain, home-inside, plain-inside, plain-to-number}
use Rattle.heap.proofs.Accesses.{found_within, led-refused}

-- of an address in the lower half, the exact sum is the one that wraps, or is negative, and the one that wraps lies in the upper half
sum-cases : (q i : ℕ) → q < 2 ^ 31 → (exact_sum q i ≡ pos (wrapped_sum q i)) ⊎ ((n : ℕ) × (exact_sum q i ≡ negsuc n) × (2 ^ 31 ≤ wrapped_sum q i))
unfolding signed
sum-cases q i l = go (dec_lt (i % 2 ^ 32) (2 ^ 31))
  where
    k : ℕ
    k = 2 ^ 32 - suc (i % 2 ^ 32)

    go : Dec (i % 2 ^ 32 < 2 ^ 31) → (exact_sum q i ≡ pos (wrapped_sum q i)) ⊎ ((n : ℕ) × (exact_sum q i ≡ negsuc n) × (2 ^ 31 ≤ wrapped_sum q i))
    go (yes p) = rw (lt-ltb (i % 2 ^ 32) (2 ^ 31) p) (inl (ap pos (omega arith)))
    go (no p) =
        rw (le-ltb (i % 2 ^ 32) (2 ^ 31) (omega arith), lt-ltb (i % 2 ^ 32) (2 ^ 32) (omega arith))
        (elim (dec_lt q (suc (2 ^ 32 - suc (i % 2 ^ 32)))) [
          | yes u ↦ rw (lt-ltb q (suc (2 ^ 32 - suc (i % 2 ^ 32))) u) (inr (_, refl, omega arith))
          | no u ↦ rw (le-ltb q (suc (2 ^ 32 - suc (i % 2 ^ 32))) (omega arith)) (inl (ap pos (omega arith)))
        ])

-- below a, or not below b
outside : (a b r : ℕ) → (a ≤ r → b ≤ r) → leb a r && ltb r b ≡ false
outside a b r f =
    elim (dec_le a r) [
      | yes l ↦ rw (le-ltb r b (f l), and-false)
      | no l ↦ rw (lt-leb a r (omega arith))
    ]

-- r is the code's sum
module _ (t s e h q i r : ℕ) (k : Holding t s e h q) (sum : r ≡ wrapped_sum q i) where
  abbrev reach : ℕ
  reach = 2 ^ (t - 1)

  abbrev reached : Bool
  reached = leb (s - reach) r && ltb r s || leb (s + 2 ^ e) r && ltb r (s + 2 ^ e + reach)

  pub reach-small : reach ≤ 2 ^ 15
  reach-small = pow_mono {i = t - 1} {j = 15} (omega (arith, k.slot-high))

  pub end_low : s + 2 ^ e + reach < 2 ^ 31
  end_low = omega (arith, k.high, pow_mono k.order, reach-small)

  unreached : 2 ^ 31 ≤ r → reached ≡ false
  unreached u =
      rw (outside (s - reach) s r (λ l. omega (arith, k.high)), outside (s + 2 ^ e) (s + 2 ^ e + reach) r (λ l. omega (arith, end_low)))

  cases : (exact_sum q i ≡ pos r) ⊎ ((n : ℕ) × (exact_sum q i ≡ negsuc n) × (2 ^ 31 ≤ r))
  cases = rw sum (sum-cases q i k.near)

  -- the reach, by the sum that wraps
  reach-wrapped : in_reach t (Found s e) (exact_sum q i) ≡ reached
  unfolding in_reach
  reach-wrapped =
      ⊎_elim (λ x. rw (x, le-ltb s reach (omega (arith, k.low, reach-small))))
      (λ (n, x, u). rw (x, le-ltb s reach (omega (arith, k.low, reach-small)), unreached u))
      cases

  -- where the check passes, or the sum is in reach, it is the exact one
  exact : r < s + 2 ^ e + reach → exact_sum q i ≡ pos r
  exact u = ⊎_elim (λ x. x) (λ (n, x, y). absurd (omega (arith, end_low))) cases

  passing : check_bits e h r ≡ true → r < s + 2 ^ e + reach
  passing p =
      let u : r < floor e h + 2 ^ e = ltb-true _ _ (and_right (leb (floor e h) r) _ (sym (check-holds e h r) ∙ p)) in
      omega (arith, k.round)

  pub stepped-inside : check_bits e h (wrapped_sum q i) ≡ true → answer 0 r ≡ stepped_in t s e h q i
  unfolding stepped_in
  stepped-inside p = rw (p, exact (passing (rw sum p)))

  module _ (p : check_bits e h (wrapped_sum q i) ≡ false) where
    in-reach : reached ≡ true → r < s + 2 ^ e + reach → answer 0 (mark_bit + r) ≡ stepped_in t s e h q i
    unfolding stepped_in
    in-reach u l = rw (p, reach-wrapped, u, exact l)

    pub stepped-before : s - reach ≤ r → r < s → answer 0 (mark_bit + r) ≡ stepped_in t s e h q i
    stepped-before l u = in-reach (rw (le-leb (s - reach) r l, lt-ltb r s u)) (omega arith)

    pub stepped-past : s + 2 ^ e ≤ r → r < s + 2 ^ e + reach → answer 0 (mark_bit + r) ≡ stepped_in t s e h q i
    stepped-past l u = in-reach (or_right (leb (s - reach) r && ltb r s) (and_both (le-leb _ _ l) (lt-ltb _ _ u))) u

    pub stepped-beyond : (s - reach ≤ r → s ≤ r) → (s + 2 ^ e ≤ r → s + 2 ^ e + reach ≤ r) → answer 24 0 ≡ stepped_in t s e h q i
    unfolding stepped_in
    stepped-beyond l u = rw (p, reach-wrapped, outside (s - reach) s r l, outside (s + 2 ^ e) (s + 2 ^ e + reach) r u)

-- a pointer with a referent is sought at an address from 0 up
sought-exact : (f : ℕ → Referent) (x : ℤ) (s e r : ℕ) → referent_at f x ≡ Found s e → check_at e x r ≡ check_bits e (from_zero x) r
sought-exact f (pos q) s e r g = refl
sought-exact f (negsuc n) s e r g = let y : ◌≡◌ {A = ℕ} 0 1 = cc in absurd (omega arith)

-- the step of a pointer that has a referent
module _ (t m : ℕ) (a tab : List ℕ) (p i s e : ℕ) (f : referent_at (referent_in t tab) (sought t p) ≡ Found s e) where
  abbrev h : ℕ
  h = from_zero (sought t p)

  abbrev passed : Bool
  passed = check_bits e h (wrapped_sum (address p) i)

  abbrev w : View
  w = heap_view t m (heap_of a tab)

  pub inside_is : w.inside p i ≡ passed
  unfolding inside_by_check
  inside_is = rw (f, sought-exact (referent_in t tab) (sought t p) s e (wrapped_sum (address p) i) f)

-- where `locate` leads it to a number
pub step-missing : {t m : ℕ} {a tab : List ℕ} {p i k : ℕ} → Ready t m (Step p i) a tab → Refused k ≡ located (heap_view t m (heap_of [] tab)) p
    → outcome (answer k 0) a tab ≡ heap_step t m (Step p i) (heap_of a tab)
unfolding state_rules
step-missing {t} {m} {a} {tab} {p} {i} z found =
    let v : View = heap_view t m (heap_of a tab) in
    led-refused z p (home_rules v p) (24 when beyond v p i ∷ []) (has-home v p) refl found

-- and is led there by no refusal
module _ {t m : ℕ} {a tab : List ℕ} {p i s e : ℕ} (g : Ready t m (Step p i) a tab) (l : Inside s e ≡ located (heap_view t m (heap_of a tab)) p) where
  abbrev v : View
  v = heap_view t m (heap_of a tab)

  abbrev f : referent_of_pointer v p ≡ Found s e
  f = (home-inside v p l).1

  abbrev x : ℤ
  x = exact_sum (address p) i

  abbrev b : Bool
  b = check_bits e (from_zero (sought t p)) (wrapped_sum (address p) i)

  judged-last : first (state_rules (Step p i) v) ≡ first (24 when beyond v p i ∷ [])
  unfolding state_rules
  judged-last = first-goes-on (home_rules v p) (24 when beyond v p i ∷ []) refl (home-inside v p l).0

  own_first : first (24 when beyond v p i ∷ []) ≡ cond (not (b || in_reach t (Found s e) x)) 24 0
  own_first = ap₂ (λ (c : Bool) (r : Referent). cond (not (c || in_reach t r x)) 24 0) (inside_is t m a tab p i s e f) f

  by-steps : outcome (stepped_in t s e (from_zero (sought t p)) (address p) i) a tab ≡ heap_step t m (Step p i) (heap_of a tab)
  unfolding stepped_in heap_step value stored entered state_rules
  by-steps =
      cases b (in_reach t (Found s e) x)
      ∙ ap₂ (λ (k v : ℕ). settled k (heap_of a tab) v (heap_of a tab))
      (sym (ready-first t m (Step p i) a tab g ∙ judged-last ∙ own_first))
      (ap (λ (c : Bool). pointer_at c x) (sym (inside_is t m a tab p i s e f)))
    where
      cases : (c r : Bool)
          → outcome (cond c (answer 0 (pointer_at true x)) (cond r (answer 0 (pointer_at false x)) (answer 24 0))) a tab
          ≡ settled (cond (not (c || r)) 24 0) (heap_of a tab) (pointer_at c x) (heap_of a tab)
      cases true r = refl
      cases false true = refl
      cases false false = refl

  -- what `stepped` answers, with h where p's referent is sought and q the address that is stepped from
  pub step-done : {h q : ℕ} → h ≡ from_zero (sought t p) → q ≡ address p → {r : Answer} → r ≡ stepped_in t s e h q i
      → outcome r a tab ≡ heap_step t m (Step p i) (heap_of a tab)
  step-done u w y = rw (y, u, w) by-steps

-- the check, in a heap that is sound, by what `locate_plain` finds in the table alone
module _ {t m : ℕ} {a tab : List ℕ} (g : Sound t m a tab) (p i : ℕ) where
  abbrev y : View
  y = heap_view t m (heap_of a tab)

  -- the answer where the first refusal is k and the step stays inside as b says
  abbrev told : ℕ → Bool → Answer
  told k b = (settled k (heap_of a tab) (bit b) (heap_of a tab)).answer

  address-first : first (address_rules y p) ≡ first (plain_rules y p)
  unfolding address_rules
  address-first = rw (sizes-right t a tab (sound-sized t a tab g), g.whole)

  check-is : told (first (plain_rules y p)) (y.inside p i) ≡ check_step t m p i (heap_of a tab)
  unfolding check_step
  check-is = ap (λ (k : ℕ). told k (y.inside p i)) (sym address-first)

  pub check-led-refused : {k : ℕ} → Refused k ≡ located_plain (heap_view t m (heap_of [] tab)) p → answer k 0 ≡ check_step t m p i (heap_of a tab)
  check-led-refused {k} found =
      let (e, w) = plain-to-number y p k found in
      ap (λ (o : Outcome Heap). o.answer) (settled-refused k (heap_of a tab) (bit (y.inside p i)) (heap_of a tab) w)
      ∙ ap (λ (j : ℕ). told j (y.inside p i)) (sym e) ∙ check-is

  module _ {s e : ℕ} (found : Inside s e ≡ located_plain (heap_view t m (heap_of [] tab)) p) where
    at_block : (first (plain_rules y p) ≡ 0) × (referent_of_pointer y p ≡ Found s e)
    at_block = plain-inside y p found

    pub check-order : e < 32
    check-order = omega (arith, (found_within t m a tab g p _ _ at_block.1).order)

    pub check-found : {b : Bool} → b ≡ check_bits e p (wrapped_sum p i) → answer 0 (bit b) ≡ check_step t m p i (heap_of a tab)
    unfolding sought
    check-found q =
        let (k, f) = at_block in
        let h : check_bits e (from_zero (sought t p)) (wrapped_sum (address p) i) ≡ check_bits e p (wrapped_sum p i) = rw (is_plain y p k) in
        ap₂ told (sym k) (q ∙ sym h ∙ sym (inside_is t m a tab p i s e f)) ∙ check-is
