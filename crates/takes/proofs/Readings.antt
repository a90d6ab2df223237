-- The reader's rules: what an accepted record is, and the answer at each of the code's returns.
use Prim.Native.Nat.{ℕ, suc, ◌+◌, ◌-◌, ◌≤◌, ◌<◌}
use mathlib.Core.Path.{◌≡◌, refl, sym, ◌∙◌, ap}
use mathlib.Core.Bool.{Bool, true, false, ◌||◌}
use mathlib.Core.Logic.{◌⊎◌, inl, inr}
use mathlib.Core.List.{List}
use mathlib.Core.Option.{some}
use native.Mathlib.Omega.{arith}
use native.Mathlib.Nat.{add-zero}
use lib.Dec.{eqb, ltb}
use lib.ListN.{length, get_or, drop, length-drop, drop_of_length-le}
use lib.Seq.{get_or-drop, drop-drop}
use borrow.Author.Tests.{lt-ltb, le-ltb, ltb-false, eq-eqb, ne_eqb, eqb-true, eqb-false}
use Rattle.heap.specs.OperationNumbers.{is_operation, number_of}
use Rattle.heap.specs.declared.operations.Operation.{Operation}
use Rattle.takes.specs.Operations.{known, kinds_of, sizes, length_of}
use Rattle.takes.specs.Records.{record_of}
use Rattle.takes.specs.Reading.{values, length_byte, operation_byte, field_values, high_register}
use Rattle.takes.specs.Reading.{Given, record_found, record_refused, read_rules, read_bytes, read_at}
use Rattle.takes.specs.Inner.{record_there}
use Rattle.takes.specs.declared.Record.{Record}
use Rattle.takes.proofs.Operations.{known-numbers, known-operation}
use Rattle.common.proofs.Booleans.{or-false-left, or-false-right}

-- some bytes start with a record that passes 4 to 7
pub record Whole (bs : List ℕ) : Type 0 where
  pub nonzero : length_byte bs ≡ 0 → ⊥
  pub enough : length_byte bs ≤ length bs - 1
  pub listed : known (operation_byte bs) ≡ true
  pub exact : length_byte bs ≡ length_of (operation_byte bs)
  pub low : high_register (kinds_of (operation_byte bs)) (field_values bs) ≡ false

abbrev pub the_record : List ℕ → Record
the_record bs = record_of (operation_byte bs) (field_values bs)

-- the record's bytes with the length byte
abbrev pub span : List ℕ → ℕ
span bs = 1 + length_byte bs

-- a record is whole, or it is refused with a number that is not 0
abbrev pub ReadCases : List ℕ → ℕ → Type 0
ReadCases bs at = Whole bs ⊎ ((n : ℕ) × (read_bytes bs at ≡ record_refused (suc n)))

module _ (bs : List ℕ) (at : ℕ) where
  abbrev short : Bool
  short = eqb (length_byte bs) 0 || ltb (length bs - 1) (length_byte bs)

  read-4 : short ≡ true → read_bytes bs at ≡ record_refused 4
  unfolding read_bytes read_rules
  read-4 h = rw h

  read-5 : short ≡ false → known (operation_byte bs) ≡ false → read_bytes bs at ≡ record_refused 5
  unfolding read_bytes read_rules
  read-5 h k = rw (h, k)

  read-6 : short ≡ false → known (operation_byte bs) ≡ true → eqb (length_byte bs) (length_of (operation_byte bs)) ≡ false → read_bytes bs at ≡ record_refused 6
  unfolding read_bytes read_rules
  read-6 h k l = rw (h, k, l)

  read-7 : short ≡ false → known (operation_byte bs) ≡ true → eqb (length_byte bs) (length_of (operation_byte bs)) ≡ true
      → high_register (kinds_of (operation_byte bs)) (field_values bs) ≡ true → read_bytes bs at ≡ record_refused 7
  unfolding read_bytes read_rules
  read-7 h k l v = rw (h, k, l, v)

  read-0 : short ≡ false → known (operation_byte bs) ≡ true → eqb (length_byte bs) (length_of (operation_byte bs)) ≡ true
      → high_register (kinds_of (operation_byte bs)) (field_values bs) ≡ false → read_bytes bs at ≡ record_found (the_record bs) (at + 1 + length_byte bs)
  unfolding read_bytes read_rules
  read-0 h k l v = rw (h, k, l, v)

  not_short : (length_byte bs ≡ 0 → ⊥) → length_byte bs ≤ length bs - 1 → short ≡ false
  not_short h k = rw (ne_eqb (length_byte bs) 0 h, le-ltb (length bs - 1) (length_byte bs) k)

  pub read_whole : Whole bs → read_bytes bs at ≡ record_found (the_record bs) (at + 1 + length_byte bs)
  read_whole w = read-0 (not_short w.nonzero w.enough) w.listed (eq-eqb (length_byte bs) (length_of (operation_byte bs)) w.exact) w.low

  pub read-cases : ReadCases bs at
  read-cases = by_4 short refl
    where
      by-7 : short ≡ false → known (operation_byte bs) ≡ true → eqb (length_byte bs) (length_of (operation_byte bs)) ≡ true
          → (b : Bool) → high_register (kinds_of (operation_byte bs)) (field_values bs) ≡ b → ReadCases bs at
      by-7 h k l true e = inr (6, read-7 h k l e)
      by-7 h k l false e =
          inl
          (record {
            nonzero = eqb-false (length_byte bs) 0 (or-false-left (eqb (length_byte bs) 0) (ltb (length bs - 1) (length_byte bs)) h);
            enough = ltb-false (length bs - 1) (length_byte bs) (or-false-right (eqb (length_byte bs) 0) (ltb (length bs - 1) (length_byte bs)) h);
            listed = k;
            exact = eqb-true (length_byte bs) (length_of (operation_byte bs)) l;
            low = e;
          })

      by-6 : short ≡ false → known (operation_byte bs) ≡ true → (b : Bool) → eqb (length_byte bs) (length_of (operation_byte bs)) ≡ b
          → ReadCases bs at
      by-6 h k true e = by-7 h k e (high_register (kinds_of (operation_byte bs)) (field_values bs)) refl
      by-6 h k false e = inr (5, read-6 h k e)

      by-5 : short ≡ false → (b : Bool) → known (operation_byte bs) ≡ b → ReadCases bs at
      by-5 h true e = by-6 h e (eqb (length_byte bs) (length_of (operation_byte bs))) refl
      by-5 h false e = inr (4, read-5 h e)

      by_4 : (b : Bool) → short ≡ b → ReadCases bs at
      by_4 true e = inr (3, read-4 e)
      by_4 false e = by-5 e (known (operation_byte bs)) refl

-- The code's returns. Past the end the length reads as 0.
module _ (s : List ℕ) (at : ℕ) where
  length_at : length_byte (drop at s) ≡ get_or s at 0
  length_at = get_or-drop at s 0 0 ∙ ap (λ (n : ℕ). get_or s n 0) (add-zero at)

  pub operation-at : operation_byte (drop at s) ≡ get_or s (at + 1) 0
  operation-at = get_or-drop at s 1 0

  pub past_end : length s ≤ at → record_refused 4 ≡ read_at s at
  past_end h = sym (read-4 (drop at s) at (rw (drop_of_length-le s h)))

  pub zero-length : get_or s at 0 ≡ 0 → record_refused 4 ≡ read_at s at
  zero-length h = sym (read-4 (drop at s) at (rw (length_at, h)))

  pub too_few : (get_or s at 0 ≡ 0 → ⊥) → length s - (at + 1) < get_or s at 0 → record_refused 4 ≡ read_at s at
  too_few nonzero h =
      let l : length (drop at s) - 1 < get_or s at 0 = omega (arith, length-drop at s) in
      sym (read-4 (drop at s) at (rw (length_at, ne_eqb (get_or s at 0) 0 nonzero, lt-ltb (length (drop at s) - 1) (get_or s at 0) l)))

-- Past 4: the record's bytes are there.
pub record Counted (s : List ℕ) (at : ℕ) : Type 0 where
  pub nonzero : get_or s at 0 ≡ 0 → ⊥
  pub enough : get_or s at 0 ≤ length s - (at + 1)

module _ {s : List ℕ} {at : ℕ} (k : Counted s at) where
  fine : short (drop at s) at ≡ false
  fine = not_short (drop at s) at (rw length_at k.nonzero) (rw length_at (omega (arith, length-drop at s, k.enough)))

  pub unlisted : is_operation (get_or s (at + 1) 0) ≡ false → record_refused 5 ≡ read_at s at
  unlisted h = sym (read-5 (drop at s) at fine (rw (operation-at s at, known-numbers (get_or s (at + 1) 0)) h))

  -- past 5: the operation is o
  module _ (o : Operation) (here : number_of o ≡ get_or s (at + 1) 0) where
    operation_is : operation_byte (drop at s) ≡ number_of o
    operation_is = operation-at s at ∙ sym here

    known_at : known (operation_byte (drop at s)) ≡ true
    known_at = rw operation_is (known-operation o)

    pub wrong-length : (get_or s at 0 ≡ length_of (number_of o) → ⊥) → record_refused 6 ≡ read_at s at
    wrong-length h = sym (read-6 (drop at s) at fine known_at (rw (length_at, operation_is) (ne_eqb (get_or s at 0) (length_of (number_of o)) h)))

    -- past 6: its fields are there
    module _ (same : get_or s at 0 ≡ length_of (number_of o)) where
      pub fields_fit : at + 2 + sizes (kinds_of (number_of o)) ≤ length s
      fields_fit = omega (arith, k.enough, k.nonzero)

      exact-at : eqb (length_byte (drop at s)) (length_of (operation_byte (drop at s))) ≡ true
      exact-at = rw operation_is (eq-eqb (length_byte (drop at s)) (length_of (number_of o)) (length_at s at ∙ same))

      high_is : high_register (kinds_of (number_of o)) (values (kinds_of (number_of o)) (drop (at + 2) s))
          ≡ high_register (kinds_of (operation_byte (drop at s))) (field_values (drop at s))
      high_is = rw (operation_is, drop-drop 2 at s)

      pub high-at : true ≡ high_register (kinds_of (number_of o)) (values (kinds_of (number_of o)) (drop (at + 2) s)) → record_refused 7 ≡ read_at s at
      high-at h = sym (read-7 (drop at s) at fine known_at exact-at (sym (h ∙ high_is)))

      pub good-at : false ≡ high_register (kinds_of (number_of o)) (values (kinds_of (number_of o)) (drop (at + 2) s)) → 0 ≡ (read_at s at).number
      good-at h = sym (ap (λ (g : Given). g.number) (read-0 (drop at s) at fine known_at exact-at (sym (h ∙ high_is))))

-- A reading by its number: a refused one has a number alone, and a good one has a whole record.
pub the_number : {n : ℕ} {g : Given} → record_refused n ≡ g → n ≡ g.number
the_number e = ap (λ (g : Given). g.number) e

module _ (s : List ℕ) (at : ℕ) where
  pub refused-reading : (n : ℕ) → n ≡ (read_at s at).number → (n ≡ 0 → ⊥) → record_refused n ≡ read_at s at
  refused-reading n e z = go (read-cases (drop at s) at)
    where
      go : ReadCases (drop at s) at → record_refused n ≡ read_at s at
      go (inl w) = absurd (z (e ∙ ap (λ (g : Given). g.number) (read_whole (drop at s) at w)))
      go (inr (k, f)) = ap record_refused (e ∙ ap (λ (g : Given). g.number) f) ∙ sym f

  module _ (good : (read_at s at).number ≡ 0) where
    pub good-whole : Whole (drop at s)
    good-whole = go (read-cases (drop at s) at)
      where
        go : ReadCases (drop at s) at → Whole (drop at s)
        go (inl w) = w
        go (inr (k, f)) = absurd (omega (arith, sym good ∙ ap (λ (g : Given). g.number) f))

    good-reading : read_at s at ≡ record_found (the_record (drop at s)) (at + 1 + length_byte (drop at s))
    good-reading = read_whole (drop at s) at good-whole

    -- what the inner reader takes from the file
    pub good-known : known (get_or s (at + 1) 0) ≡ true
    good-known = rw operation-at at good-whole.listed

    pub good-fits : at + 2 + sizes (kinds_of (get_or s (at + 1) 0)) ≤ length s
    good-fits = omega (arith, length-drop at s, good-whole.enough, rw operation-at at good-whole.exact, good-whole.nonzero)

    pub good-inside : (n : ℕ) → n ≡ get_or s at 0 → at + 1 + n ≤ length s
    good-inside n e = omega (arith, length-drop at s, good-whole.enough, good-whole.nonzero, length_at s at)

    pub good-record : (r : Record) → r ≡ record_there s at → some r ≡ (read_at s at).found
    good-record r e = rw (e, good-reading, operation-at, drop-drop 2 at s)

    pub good-next : (n : ℕ) → n ≡ get_or s at 0 → at + 1 + n ≡ (read_at s at).next
    good-next n e = rw (e, good-reading, length_at)

-- what a good record gives
pub ruleset of_good = (good-known, good-fits, good-inside, good-next, good-record)
