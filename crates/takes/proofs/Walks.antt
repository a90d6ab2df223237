-- The records from a place on: what is still to come, one record at a time.
use Prim.Native.Nat.{ℕ, zero, suc, ◌+◌, ◌-◌, ◌*◌, ◌≤◌, ◌<◌}
use mathlib.Core.Path.{◌≡◌, refl, sym, ◌∙◌, ap}
use mathlib.Core.Bool.{Bool, true, false}
use mathlib.Core.Logic.{inl, inr}
use mathlib.Core.List.{List}
use mathlib.Core.Option.{some}
use native.Mathlib.Omega.{arith}
use lib.Dec.{ltb}
use lib.ListN.{length, drop, length-drop}
use borrow.Author.Tests.{lt-ltb, le-ltb, ltb-true, ltb-false}
use Rattle.takes.specs.Reading.{length_byte, Given, record_refused, read_at}
use Rattle.takes.specs.Files.{Walk, ended, before, walk, walk_from}
use Rattle.takes.specs.declared.Record.{Record}
use Rattle.takes.proofs.Readings.{ReadCases, Whole, the_record, read_whole, read-cases, good-whole}

abbrev pub next_place : List ℕ → ℕ → ℕ
next_place s at = at + 1 + length_byte (drop at s)

pub whole-inside : (s : List ℕ) (at : ℕ) → Whole (drop at s) → (at < length s) × (at + 1 < next_place s at) × (next_place s at ≤ length s)
whole-inside s at w =
    let p : (length_byte (drop at s) ≡ 0 → ⊥) = w.nonzero in
    (omega (arith, length-drop at s, w.enough), omega (arith, w.enough), omega (arith, length-drop at s, w.enough))

module _ (s : List ℕ) where
  walk_end : (f at : ℕ) → length s ≤ at → walk f s at ≡ ended 0
  unfolding walk
  walk_end zero at h = refl
  walk_end (suc f) at h = rw (le-ltb at (length s) h)

  walk-on : (f at : ℕ) → Whole (drop at s) → walk (suc f) s at ≡ before (the_record (drop at s)) (walk f s (next_place s at))
  unfolding walk
  walk-on f at w = rw (lt-ltb at (length s) (whole-inside s at w).0, read_whole (drop at s) at w)

  walk-stop : (f at n : ℕ) → at < length s → read_at s at ≡ record_refused n → walk (suc f) s at ≡ ended n
  unfolding walk
  walk-stop f at n h e = rw (lt-ltb at (length s) h, e)

  walk-enough : (f g at : ℕ) → length s - at ≤ f → length s - at ≤ g → walk f s at ≡ walk g s at
  walk-enough zero g at h k = walk_end 0 at (omega arith) ∙ sym (walk_end g at (omega arith))
  walk-enough (suc f) zero at h k = walk_end (suc f) at (omega arith) ∙ sym (walk_end 0 at (omega arith))
  walk-enough (suc f) (suc g) at h k = go (ltb at (length s)) refl (walk-enough f g)
    where
      inside : at < length s → ((at : ℕ) → length s - at ≤ f → length s - at ≤ g → walk f s at ≡ walk g s at)
          → ReadCases (drop at s) at → walk (suc f) s at ≡ walk (suc g) s at
      inside l next (inl w) =
          let i = whole-inside s at w in
          walk-on f at w
          ∙ (ap (before (the_record (drop at s))) (next (next_place s at) (omega (arith, i.0, i.1, i.2)) (omega (arith, i.0, i.1, i.2)))
          ∙ sym (walk-on g at w))
      inside l next (inr (n, e)) = walk-stop f at (suc n) l e ∙ sym (walk-stop g at (suc n) l e)

      go : (b : Bool) → ltb at (length s) ≡ b → ((at : ℕ) → length s - at ≤ f → length s - at ≤ g → walk f s at ≡ walk g s at)
          → walk (suc f) s at ≡ walk (suc g) s at
      go true e next = inside (ltb-true at (length s) e) next (read-cases (drop at s) at)
      go false e next = let l : length s ≤ at = ltb-false at (length s) e in walk_end (suc f) at l ∙ sym (walk_end (suc g) at l)

  -- each record takes two bytes or more, its length byte and its operation
  abbrev Spans : ℕ → Type 0
  Spans f = (at : ℕ) → at ≤ length s → at + 2 * length (walk f s at).records ≤ length s

  walk-spans : (f : ℕ) → Spans f
  unfolding walk
  walk-spans zero at h = omega arith
  walk-spans (suc f) at h = go (ltb at (length s)) refl (walk-spans f)
    where
      inside : at < length s → Spans f → ReadCases (drop at s) at
          → at + 2 * length (walk (suc f) s at).records ≤ length s
      inside l next (inl w) =
          let i = whole-inside s at w in
          rw (walk-on f at w) (omega (arith, i.1, next (next_place s at) i.2))
      inside l next (inr (n, e)) = rw (walk-stop f at (suc n) l e) (omega arith)

      go : (b : Bool) → ltb at (length s) ≡ b → Spans f → at + 2 * length (walk (suc f) s at).records ≤ length s
      go true e next = inside (ltb-true at (length s) e) next (read-cases (drop at s) at)
      go false e next = rw (walk_end (suc f) at (ltb-false at (length s) e)) (omega arith)

  pub from-spans : (at : ℕ) → at ≤ length s → at + 2 * length (walk_from s at).records ≤ length s
  from-spans = walk-spans (length s)

  pub from_end : (at : ℕ) → length s ≤ at → walk_from s at ≡ ended 0
  from_end at h = walk_end (length s) at h

  one_more : (at : ℕ) → at < length s → length s ≡ suc (length s - 1)
  one_more at h = omega arith

  pub from_found : (at : ℕ) → Whole (drop at s) → walk_from s at ≡ before (the_record (drop at s)) (walk_from s (next_place s at))
  from_found at w =
      let i = whole-inside s at w in
      ap (λ (n : ℕ). walk n s at) (one_more at i.0)
      ∙ (walk-on (length s - 1) at w
      ∙ ap (before (the_record (drop at s))) (walk-enough (length s - 1) (length s) (next_place s at) (omega (arith, i.0, i.1, i.2)) (omega arith)))

  pub from-refused : (at n : ℕ) → at < length s → read_at s at ≡ record_refused n → walk_from s at ≡ ended n
  from-refused at n h e = ap (λ (k : ℕ). walk k s at) (one_more at h) ∙ walk-stop (length s - 1) at n h e

-- What the reader's answer says of the record at a place, where the records from there on are accepted.
pub record Next (s : List ℕ) (at : ℕ) (r : Record) (next : ℕ) : Type 0 where
  pub whole : Whole (drop at s)
  pub the-record : r ≡ the_record (drop at s)
  pub next-place : next ≡ next_place s at
  pub beyond : at + 1 < next
  pub inside : next ≤ length s
  pub to-come : walk_from s at ≡ before r (walk_from s next)

module _ (s : List ℕ) (at : ℕ) where
  module _ (good : (read_at s at).number ≡ 0) where
    pub next-judged : (next : ℕ) → next ≡ (read_at s at).next → Next s at (the_record (drop at s)) next
    next-judged next q =
        let w : Whole (drop at s) = good-whole s at good in
        let i = whole-inside s at w in
        let b : next ≡ next_place s at = q ∙ ap (λ (g : Given). g.next) (read_whole (drop at s) at w) in
        record { whole = w; the-record = refl; next-place = b; beyond = omega (arith, i.1); inside = omega (arith, i.2); to-come = rw b (from_found s at w) }

    pub found-next : (r : Record) (next : ℕ) → some r ≡ (read_at s at).found → next ≡ (read_at s at).next → Next s at r next
    found-next r next p q =
        let f : some r ≡ some (the_record (drop at s)) = p ∙ ap (λ (g : Given). g.found) (read_whole (drop at s) at (good-whole s at good)) in
        let a : r ≡ the_record (drop at s) = cc in
        rw a (next-judged next q)

  module _ (none-refused : (walk_from s at).number ≡ 0) (here : at < length s) where
    -- where the records from a place on are accepted, the next one is good
    pub accepted-here : (read_at s at).number ≡ 0
    accepted-here = go (read-cases (drop at s) at)
      where
        go : ReadCases (drop at s) at → (read_at s at).number ≡ 0
        go (inl w) = ap (λ (g : Given). g.number) (read_whole (drop at s) at w)
        go (inr (n, e)) = absurd (omega (arith, sym (ap (λ (w : Walk). w.number) (from-refused s at (suc n) here e)) ∙ none-refused))

    pub accepted-whole : Whole (drop at s)
    accepted-whole = good-whole s at accepted-here
