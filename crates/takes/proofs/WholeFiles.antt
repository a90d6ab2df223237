-- The judging of a whole file: what an accepted head is, and the loop over the records.
use Prim.Native.Nat.{ℕ, suc, ◌+◌, ◌≤◌, ◌<◌}
use mathlib.Core.Path.{◌≡◌, refl, sym, ◌∙◌, ap}
use mathlib.Core.Bool.{Bool, true, false, not, cond, ◌||◌}
use mathlib.Core.List.{List, [], ◌∷◌}
use native.Mathlib.Omega.{arith}
use native.Mathlib.Numerals.{add-one}
use lib.Dec.{eqb, leb, ltb}
use lib.ListN.{length, get_or, take}
use borrow.Author.Tests.{ltb-false, leb-true, eqb-true, ne_eqb, not-false}
use Rattle.takes.specs.Reading.{record_refused, read_at}
use Rattle.blocks.specs.Orders.{smallest_arena, largest_arena, is_arena_order}
use Rattle.takes.specs.Files.{Walk, ended, walk_from, head_length, longest, size_byte}
use Rattle.takes.specs.Files.{head_number, records_number, strays, stray_from, file_number, records_of, judgement}
use Rattle.takes.specs.Writing.{head_bytes}
use Rattle.takes.specs.declared.Record.{Record}
use Rattle.common.proofs.Booleans.{and_left, and_right, or-false-left, or-false-right}
use Rattle.common.proofs.Refusals.{clear-one, clear-number}
use Rattle.takes.proofs.Readings.{refused-reading}
use Rattle.takes.proofs.Walks.{Next, from_end, from-refused}

pub record Head (s : List ℕ) : Type 0 where
  pub first_byte : get_or s 0 0 ≡ 1
  pub both : head_length ≤ length s
  pub low : smallest_arena ≤ size_byte s
  pub high : size_byte s ≤ largest_arena
  pub short : length s ≤ longest

abbrev test-1 : List ℕ → Bool
test-1 s = eqb (length s) 0 || not (eqb (get_or s 0 0) 1)

abbrev test-2 : List ℕ → Bool
test-2 s = ltb (length s) head_length || not (is_arena_order (size_byte s))

pub head-accepted : (s : List ℕ) → head_number s ≡ 0 → Head s
unfolding head_number
head-accepted s h =
    let m : ℕ = size_byte s in
    let a = clear-one 1 (test-1 s) _ (λ z. omega arith) h in
    let b = clear-one 2 (test-2 s) _ (λ z. omega arith) a.1 in
    let d = clear-one 3 (ltb longest (length s)) 0 (λ z. omega arith) b.1 in
    let first_fine : not (eqb (get_or s 0 0) 1) ≡ false = or-false-right (eqb (length s) 0) _ a.0 in
    let size-fine : not (is_arena_order m) ≡ false = or-false-right (ltb (length s) head_length) _ b.0 in
    let sized : is_arena_order m ≡ true = not-false (is_arena_order m) size-fine in
    record {
      first_byte = eqb-true (get_or s 0 0) 1 (not-false (eqb (get_or s 0 0) 1) first_fine);
      both = ltb-false (length s) head_length (or-false-left (ltb (length s) head_length) _ b.0);
      low = leb-true smallest_arena m (and_left (leb smallest_arena m) (leb m largest_arena) sized);
      high = leb-true m largest_arena (and_right (leb smallest_arena m) (leb m largest_arena) sized);
      short = ltb-false longest (length s) d.0;
    }

pub head-bytes : (s : List ℕ) → Head s → head_bytes (size_byte s) ≡ take head_length s
head-bytes [] h = absurd (omega (arith, h.both))
head-bytes (x ∷ []) h = absurd (omega (arith, h.both))
head-bytes (x ∷ y ∷ s) h = ap (λ (n : ℕ). n ∷ y ∷ []) (sym h.first_byte)

module _ (s : List ℕ) where
  pub judged-head : (n : ℕ) → n ≡ head_number s → (n ≡ 0 → ⊥) → record { number = n; size = 0; count = 0 } ≡ judgement s
  unfolding file_number
  judged-head n e h = rw (← e, ne_eqb n 0 h, ne_eqb n 0 h)

  -- what an accepted file has: a good head, good records, and no again that does not go back
  pub record Accepted : Type 0 where
    pub head : head_number s ≡ 0
    pub straight : stray_from 0 (records_of s) ≡ false
    pub records : records_number s ≡ 0

  pub file-accepted : file_number s ≡ 0 → Accepted
  unfolding file_number
  file-accepted h =
      let a = clear-number (head_number s) _ h in
      let b = clear-one 29 (stray_from 0 (records_of s)) _ (λ z. omega arith) a.1 in
      record { head = a.0; straight = b.0; records = (clear-number (records_number s) 0 b.1).0 }

  -- where the loop stands: what is still to come gives what the whole file gives
  pub record Judging (at count : ℕ) : Type 0 where
    pub place : at ≤ length s
    pub few : count ≤ at
    pub number : (walk_from s at).number ≡ records_number s
    pub counted : count + length (walk_from s at).records ≡ length (walk_from s head_length).records
    pub stray : stray_from count (walk_from s at).records ≡ stray_from 0 (walk_from s head_length).records

  pub judging-start : head_length ≤ length s → Judging head_length 0
  judging-start h = record { place = h; few = omega arith; number = refl; counted = omega arith; stray = refl }

  -- the record that is next, and those after it
  stray-next : (at count : ℕ) (r : Record) (next : ℕ) → Judging at count → Next s at r next
      → strays count r || stray_from (count + 1) (walk_from s next).records ≡ stray_from 0 (walk_from s head_length).records
  unfolding stray_from
  stray-next at count r next j n =
      rw (add-one count) (sym (ap (λ (w : Walk). stray_from count w.records) n.to-come) ∙ j.stray)

  pub judging-turn : (at count : ℕ) (r : Record) (next : ℕ) → Judging at count → Next s at r next → strays count r ≡ false → Judging next (count + 1)
  judging-turn at count r next j n b =
      let e : length (walk_from s at).records ≡ suc (length (walk_from s next).records) = ap (λ (w : Walk). length w.records) n.to-come in
      record {
        place = n.inside;
        few = omega (arith, n.beyond, j.few);
        number = sym (ap (λ (w : Walk). w.number) n.to-come) ∙ j.number;
        counted = omega (arith, j.counted);
        stray = rw b at (stray-next at count r next j n);
      }

  module _ (head : 0 ≡ head_number s) where
    pub number_is : (n : ℕ) (b : Bool) → records_number s ≡ n → stray_from 0 (records_of s) ≡ b → file_number s ≡ cond b 29 (cond (not (eqb n 0)) n 0)
    unfolding file_number
    number_is n b e t = rw (← head, e, t)

    -- no record is left from a place on
    none-stray : (at count n : ℕ) → Judging at count → walk_from s at ≡ ended n → stray_from 0 (records_of s) ≡ false
    unfolding records_of stray_from
    none-stray at count n j w = sym j.stray ∙ ap (λ (w : Walk). stray_from count w.records) w

    pub judging-stray : (at count : ℕ) (r : Record) (next : ℕ) → Judging at count → Next s at r next → strays count r ≡ true
        → record { number = 29; size = 0; count = 0 } ≡ judgement s
    unfolding records_of
    judging-stray at count r next j n b =
        let t : stray_from 0 (records_of s) ≡ true =
        sym (stray-next at count r next j n) ∙ ap (λ (x : Bool). x || stray_from (count + 1) (walk_from s next).records) b in
        rw (number_is (records_number s) true refl t)

    pub judging-stop : (at count n : ℕ) → Judging at count → at < length s → n ≡ (read_at s at).number → (n ≡ 0 → ⊥)
        → record { number = n; size = 0; count = 0 } ≡ judgement s
    judging-stop at count n j h e d =
        let r : read_at s at ≡ record_refused n = sym (refused-reading s at n e d) in
        let z : records_number s ≡ n = sym j.number ∙ ap (λ (w : Walk). w.number) (from-refused s at n h r) in
        let f : eqb n 0 ≡ false = ne_eqb n 0 d in
        rw (number_is n false z (none-stray at count n j (from-refused s at n h r)), f, f)

    pub judging-end : (at count size : ℕ) → Judging at count → length s ≤ at → size ≡ size_byte s
        → record { number = 0; size = size; count = count } ≡ judgement s
    unfolding records_of
    judging-end at count size j h e =
        let w : walk_from s at ≡ ended 0 = from_end s at h in
        let z : records_number s ≡ 0 = sym j.number ∙ ap (λ (w : Walk). w.number) w in
        let l : length (walk_from s at).records ≡ 0 = ap (λ (w : Walk). length w.records) w in
        let c : count ≡ length (walk_from s head_length).records = omega (arith, j.counted) in
        rw (number_is 0 false z (none-stray at count 0 j w), e, c)
