-- 21 is the answer of exactly the gets for which no free range is large enough: the placing rule misses none that is (`unplaced`), and what it finds is
-- free (`got-free`).
use Prim.Native.Nat.{ℕ, suc, ◌+◌, ◌-◌, ◌*◌, ◌^◌, ◌≤◌, ◌<◌}
use mathlib.Core.Path.{◌≡◌, refl, sym, ◌∙◌, ap, subst}
use mathlib.Core.Bool.{Bool, true, false, cond, ◌||◌, false≢true}
use mathlib.Core.List.{List, [], ◌∷◌, ◌++◌, Memᴰ}
use native.Mathlib.Nat.{le_refl, suc-mul, zero-add, le_of_mul-le-mul_right}
use native.Mathlib.Omega.{arith}
use lib.Dec.{ltb, eqb}
use lib.ListN.{length, get_or, take}
use lib.Pow.{pow_pos}
use lib.Seq.{take_at, get_or_at}
use borrow.Author.Tests.{eqb-false, ne_eqb, ltb-false, le-ltb}
use Rattle.common.specs.Refusals.{first}
use Rattle.blocks.specs.Blocks.{base, holds, Aligned, missing}
use Rattle.blocks.specs.declared.Block.{Block}
use Rattle.blocks.specs.Sets.{ranges}
use Rattle.blocks.specs.Placing.{all_free, range_start, free_range, place_in, Place, At, Nothing}
use Rattle.common.proofs.Booleans.{or-false-left, or-false-right, true-together}
use Rattle.blocks.proofs.Halves.{sizes}
use Rattle.blocks.proofs.Places.{place-complete}
use Rattle.blocks.proofs.FreeRuns.{at_all}
use Rattle.blocks.proofs.Sets.{missing-none, none-missing}
use Rattle.blocks.proofs.Slots.{slot-start, Slots, slots-of, slots-held}
use Rattle.heap.specs.Views.{View, needed_for, place_for, no_place}
use Rattle.heap.specs.Rules.{rules, argument_rules, state_rules}
use Rattle.heap.specs.Effects.{Outcome}
use Rattle.heap.specs.Changes.{change_of}
use Rattle.heap.specs.declared.Answer.{Answer}
use Rattle.heap.specs.declared.Call.{Call}
use Rattle.heap.specs.declared.Call.TheVariants.{Get, Give, Step, Read, Write, Left, Copy, Fill, SetLock, Grid}
use Rattle.history.specs.Ledgers.{Ledger, ledger_view, ledger_step, empty_ledger}
use Rattle.history.specs.CallLists.{Run, run}
use Rattle.history.specs.Histories.{live_by, FreeByHistory, Starved, StarvedGet}
use Rattle.common.proofs.Refusals.{not-given}
use Rattle.heap.proofs.Settling.{settled-number}
use Rattle.history.proofs.Agreement.{Proper, Orders}
use Rattle.history.proofs.Live.{lives}
use Rattle.history.proofs.Pairs.{unheld}
use Rattle.history.proofs.Gets.{got, got-placed}

-- ---- a range that the placing rule does not find

-- the range shares no address with a block of the list
abbrev Unshared : List Block → Block → Type 0
Unshared bs r = (b : Block) → Memᴰ b bs → (q : ℕ) → holds b q ≡ true → holds r q ≡ true → ⊥

module _ (t m : ℕ) (bs : List Block) where
  unshared-free : (r : Block) (z : Slots t m r) → Unshared bs r → (i : ℕ) → i < 2 ^ (r.order - t) → unheld t bs (z.first + i) ≡ true
  unshared-free r z u i l =
      let s = slot-start t (z.first + i) in
      let q : ℕ = base + (z.first + i) * 2 ^ t in
      let held : holds r q ≡ true = slots-held t m r z q (record { past = omega arith; low = omega (arith, s); high = omega (arith, s) }) in
      ap missing (none-missing bs q (λ b k. true-together (holds b q) false (λ h. absurd (u b k q h held)) (λ e. absurd (false≢true e))))

  -- where the rule finds no place for order e, each aligned range of order e or more shares an address with a block
  unplaced : (e : ℕ) → place_in (unheld t bs) t 0 m e ≡ Nothing → (r : Block) → Aligned t m r → Unshared bs r → e ≤ r.order → ⊥
  unfolding free_range range_start
  unplaced e q r a u l =
      let z = slots-of t m r a in
      let k : ℕ = r.order in
      let w : ℕ = 2 ^ (k - t) in
      let x : suc z.index * w ≤ 2 ^ (m - k) * w = omega (arith, z.within, z.multiple, suc-mul z.index w, sizes t k m a.low a.high) in
      let y : all_free (unheld t bs) (0 + z.index * w) w ≡ true = rw (zero-add, ← z.multiple) (at_all (unheld t bs) z.first w (unshared-free r z u)) in
      false≢true (sym (place-complete (unheld t bs) t 0 m e q k z.index l a.high (le_of_mul-le-mul_right x (pow_pos (k - t)))) ∙ y)

-- ---- the range that a get takes

-- the block that an accepted get adds was free
got-free : {t m : ℕ} → Orders t m → (l : Ledger) → Proper t m (ranges l.pairs) → (n : ℕ) → first (rules (Get n) (ledger_view t m l)) ≡ 0
    → FreeByHistory t m (ranges l.pairs) (got t m l n)
got-free os l proper n e =
    let p = got-placed os l proper n e in
    record { aligned = p.aligned; unshared = λ b i q h k. false≢true (sym (missing-none (ranges l.pairs) q (p.free q k) b i) ∙ h) }

-- ---- the number 21

-- the number that a call answers is the first of its refusals
step-number : (t m : ℕ) (c : Call) (l : Ledger) → (ledger_step t m c l).answer.number ≡ first (rules c (ledger_view t m l))
unfolding ledger_step
step-number t m c l = settled-number (first (rules c (ledger_view t m l))) _ l _

-- the number n is 21 for exactly a starved get
abbrev Tells : (t m : ℕ) → List Block → Call → ℕ → Type 0
Tells t m live c n = let starved = StarvedGet t m live (change_of c) in (n ≡ 21 → starved) × (starved → n ≡ 21)

module _ {t m : ℕ} (os : Orders t m) (l : Ledger) (proper : Proper t m (ranges l.pairs)) where
  abbrev w : View
  w = ledger_view t m l

  full-starved : (n : ℕ) → first (rules (Get n) w) ≡ 21 → Starved t m (ranges l.pairs) n
  unfolding rules argument_rules state_rules
  full-starved n e = go (eqb n 0 || ltb (2 ^ m) n) refl (place_for n w) refl e
    where
      go : (u : Bool) → eqb n 0 || ltb (2 ^ m) n ≡ u → (x : Place) → place_for n w ≡ x → cond {A = ℕ} u 10 (cond {A = ℕ} (no_place x) 21 0) ≡ 21
          → Starved t m (ranges l.pairs) n
      go true a x b q = absurd (omega arith)
      go false a (At s k) b q = absurd (omega arith)
      go false a Nothing b q =
          let z : (n ≡ 0 → ⊥) = eqb-false n 0 (or-false-left _ _ a) in
          record {
            some = omega arith;
            fits = ltb-false (2 ^ m) n (or-false-right (eqb n 0) _ a);
            none = λ r f. unplaced t m (ranges l.pairs) (needed_for n w) b r f.aligned f.unshared;
          }

  starved-full : (n : ℕ) → Starved t m (ranges l.pairs) n → first (rules (Get n) w) ≡ 21
  unfolding rules argument_rules state_rules
  starved-full n s = go (no_place (place_for n w)) (rw (ne_eqb n 0 (λ e. omega (arith, s.some)), le-ltb (2 ^ m) n s.fits))
    where
      go : (u : Bool) → first (rules (Get n) w) ≡ cond {A = ℕ} u 21 0 → first (rules (Get n) w) ≡ 21
      go true e = e
      go false e = absurd (s.none _ (got-free os l proper n e) (le_refl _))

  -- by the rules of each call
  starved-by-rules : (c : Call) → Tells t m (ranges l.pairs) c (first (rules c w))
  unfolding rules argument_rules state_rules
  starved-by-rules (Get n) = (full-starved n, starved-full n)
  starved-by-rules (Give p) = (not-given 20 (rules (Give p) w) refl, λ x. absurd x)
  starved-by-rules (Step p i) = (not-given 20 (rules (Step p i) w) refl, λ x. absurd x)
  starved-by-rules (Read p k) = (not-given 20 (rules (Read p k) w) refl, λ x. absurd x)
  starved-by-rules (Write p k v) = (not-given 20 (rules (Write p k v) w) refl, λ x. absurd x)
  starved-by-rules (Left p) = (not-given 20 (rules (Left p) w) refl, λ x. absurd x)
  starved-by-rules (Copy p q n) = (not-given 20 (rules (Copy p q n) w) refl, λ x. absurd x)
  starved-by-rules (Fill p v n) = (not-given 20 (rules (Fill p v n) w) refl, λ x. absurd x)
  starved-by-rules (SetLock p k) = (not-given 20 (rules (SetLock p k) w) refl, λ x. absurd x)
  starved-by-rules (Grid p rows columns row column) = (not-given 20 (rules (Grid p rows columns row column) w) refl, λ x. absurd x)

  -- 21 is the answer of exactly the starved gets
  starved-number : (c : Call) → Tells t m (ranges l.pairs) c (ledger_step t m c l).answer.number
  starved-number c = subst (Tells t m (ranges l.pairs) c) (sym (step-number t m c l)) (starved-by-rules c)

-- ---- over a list of calls

module _ {S : Type 0} (step : Call → S → Outcome S) where
  length-answers : (cs : List Call) (s : S) → length (run step cs s).answers ≡ length cs
  unfolding run
  length-answers [] s = refl
  length-answers (c ∷ cs) s = ap suc (length-answers cs (step c s).state)

  answers-append : (cs ds : List Call) (s : S) → (run step (cs ++ ds) s).answers ≡ (run step cs s).answers ++ (run step ds (run step cs s).last).answers
  unfolding run
  answers-append [] ds s = refl
  answers-append (c ∷ cs) ds s = ap (λ (xs : List Answer). (step c s).answer ∷ xs) (answers-append cs ds (step c s).state)

  -- the answers before a call and its own, in a list of calls
  module _ (s : S) (before later : List Call) (c : Call) (xs ys : List Answer) (x : Answer)
      (split : (run step (before ++ (c ∷ later)) s).answers ≡ xs ++ (x ∷ ys)) (place : length xs ≡ length before) where
    parts : (run step before s).answers ++ (run step (c ∷ later) (run step before s).last).answers ≡ xs ++ (x ∷ ys)
    parts = sym (answers-append before (c ∷ later) s) ∙ split

    pub answers-before : xs ≡ (run step before s).answers
    answers-before = sym (take_at xs (x ∷ ys) _ refl) ∙ ap (take (length xs)) (sym parts) ∙ take_at _ _ _ (length-answers before s ∙ sym place)

    pub answer-at : x ≡ (step c (run step before s).last).answer
    unfolding run
    answer-at =
        sym (get_or_at xs x ys x _ refl) ∙ ap (λ (zs : List Answer). get_or zs (length xs) x) (sym parts)
        ∙ get_or_at (run step before s).answers _ (run step later (step c (run step before s).last).state).answers x _ (length-answers before s ∙ sym place)

-- the ledger's run
abbrev ledger_of : (t m : ℕ) → List Call → Run Ledger
ledger_of t m cs = run (ledger_step t m) cs (empty_ledger m)

pub room : {t m : ℕ} → Orders t m → (before later : List Call) (c : Call) (xs ys : List Answer) (x : Answer)
    → Proper t m (ranges (ledger_of t m before).last.pairs) → (ledger_of t m (before ++ (c ∷ later))).answers ≡ xs ++ (x ∷ ys) → length xs ≡ length before
    → Tells t m (live_by t m before xs) c x.number
room {t} {m} os before later c xs ys x proper split place =
    let l : Ledger = (ledger_of t m before).last in
    let own : x ≡ (ledger_step t m c l).answer = answer-at (ledger_step t m) (empty_ledger m) before later c xs ys x split place in
    let told : xs ≡ (ledger_of t m before).answers = answers-before (ledger_step t m) (empty_ledger m) before later c xs ys x split place in
    let live : live_by t m before xs ≡ ranges l.pairs = ap (live_by t m before) told ∙ lives t m before in
    subst (λ (y : Answer). Tells t m (live_by t m before xs) c y.number) (sym own)
    (subst (λ (bs : List Block). Tells t m bs c (ledger_step t m c l).answer.number) (sym live) (starved-number os l proper c))
