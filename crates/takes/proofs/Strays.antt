-- An again that does not go back, by the bytes of its record: no other operation of the table goes back, and its index stands behind its register.
use Prim.Native.Nat.{ℕ, ◌+◌}
use mathlib.Core.Path.{◌≡◌, refl, sym, ◌∙◌, ap}
use mathlib.Core.Bool.{true, false}
use mathlib.Core.List.{List}
use mathlib.Core.Option.{none}
use native.Mathlib.Nat.{add_assoc}
use lib.Dec.{leb}
use lib.ListN.{get_or, drop}
use lib.Seq.{drop-drop}
use Rattle.takes.specs.Operations.{known}
use Rattle.takes.specs.Records.{record_of, back_to}
use Rattle.takes.specs.Reading.{read_at}
use Rattle.takes.specs.Files.{not_before, strays}
use Rattle.takes.specs.Inner.{half_at, record_from, record_there, stray_at}
use Rattle.takes.proofs.Operations.{every-operation}
use Rattle.takes.proofs.Readings.{the_record, operation-at, good-known}
use Rattle.takes.proofs.Records.{again-is}

-- the operation again
abbrev pub again : ℕ
again = 11

abbrev pub GoesOn : ℕ → Type 0
GoesOn op = (op ≡ again → ⊥) → (vs : List ℕ) → back_to (record_of op vs) ≡ none

pub goes_on : (op : ℕ) → known op ≡ true → GoesOn op
unfolding record_of
goes_on =
    every-operation GoesOn (
      λ d vs. refl,
      (
        λ d vs. refl,
        (
          λ d vs. refl,
          (
            λ d vs. refl,
            (
              λ d vs. refl,
              (
                λ d vs. refl,
                (λ d vs. refl, (λ d vs. refl, (λ d vs. refl, (λ d vs. refl, (λ d vs. absurd (d refl), (λ d vs. refl, (λ d vs. refl, tt))))))),
              ),
            ),
          ),
        ),
      ),
    )

module _ (s : List ℕ) (at i : ℕ) where
  record_is : the_record (drop at s) ≡ record_there s at
  record_is = rw (operation-at s at, drop-drop 2 at s)

  pub another-goes-on : (read_at s at).number ≡ 0 → (get_or s (at + 1) 0 ≡ again → ⊥) → false ≡ stray_at s at i
  another-goes-on good d =
      sym (ap (strays i) record_is ∙ ap (not_before i) (goes_on (get_or s (at + 1) 0) (good-known s at good) d _))

  pub again-by-index : get_or s (at + 1) 0 ≡ again → (k : ℕ) → k ≡ half_at s (at + 3) → leb i k ≡ stray_at s at i
  again-by-index e k h =
      ap (leb i) (h ∙ ap (half_at s) (sym (add_assoc at 2 1)))
      ∙ sym (ap (strays i) (record_is ∙ (ap (record_from s (at + 2)) e ∙ sym (again-is s (at + 2)))))
