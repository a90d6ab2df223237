-- A file with neither again nor set: the old reader gives what today's gives at each of its records, and 29 refuses none.
use Prim.Native.Nat.{ℕ, zero, suc}
use mathlib.Core.Path.{◌≡◌, refl, sym, ◌∙◌, ap}
use mathlib.Core.Bool.{Bool, true, false, true≢false}
use mathlib.Core.Logic.{inl, inr}
use mathlib.Core.List.{List, [], ◌∷◌}
use mathlib.Core.Option.{none}
use lib.Dec.{ltb}
use lib.ListN.{length, drop}
use Rattle.common.proofs.Booleans.{or-false-left, or-false-right}
use Rattle.takes.specs.Records.{operation, back_to}
use Rattle.takes.specs.Reading.{operation_byte}
use Rattle.takes.specs.Files.{Walk, walk, head_length, stray_from, file_number, records_of}
use Rattle.takes.specs.JudgedBefore.{added, added_at, walk_before, records_before, number_before, added_from, has_added, NeitherJudgedAsBefore}
use Rattle.takes.specs.declared.Record.{Record}
use Rattle.takes.proofs.Readings.{ReadCases, the_record, read_whole, read-cases}
use Rattle.takes.proofs.Records.{sound}
use Rattle.takes.proofs.Strays.{again, goes_on}
use Rattle.takes.proofs.Walks.{next_place}
use Rattle.takes.proofs.RoundTrips.{remade, parted}

-- records of the operations that the table had
abbrev pub NoneAdded : List Record → Type 0
NoneAdded [] = Unit {0}
NoneAdded (r ∷ rs) = (added (operation r) ≡ false) × NoneAdded rs

-- none of them goes back, so 29 refuses none
none-goes-back : (r : Record) → added (operation r) ≡ false → back_to r ≡ none
none-goes-back r h =
    ap back_to (sym (remade r).0)
    ∙ goes_on (operation r) (sound r).in_table (λ (e : operation r ≡ again). true≢false (sym (ap added e) ∙ h)) _

no_stray : (i : ℕ) (rs : List Record) → NoneAdded rs → stray_from i rs ≡ false
unfolding stray_from
no_stray i [] h = refl
no_stray i (r ∷ rs) h = rw (none-goes-back r h.0) (no_stray (suc i) rs h.1)

module _ (file : List ℕ) where
  -- the records from a place on
  record Same (f at : ℕ) : Type 0 where
    same : walk f file at ≡ walk_before f file at
    old : NoneAdded (walk f file at).records

  walk_same : (f at : ℕ) → added_from f file at ≡ false → Same f at
  unfolding walk walk_before added_from
  walk_same zero at h = record { same = refl; old = tt }
  walk_same (suc f) at h = go (ltb at (length file)) refl (read-cases (drop at file) at) (walk_same f)
    where
      here : added_at file at ≡ false
      here = or-false-left (added_at file at) _ h

      go : (b : Bool) → ltb at (length file) ≡ b → ReadCases (drop at file) at → ((at : ℕ) → added_from f file at ≡ false → Same f at) → Same (suc f) at
      go false e c next = record { same = rw e; old = rw e tt }
      go true e (inl w) next =
          let g = read_whole (drop at file) at w in
          let n = next (next_place file at) (rw g at (or-false-right (added_at file at) _ h)) in
          let o : added (operation (the_record (drop at file))) ≡ false = rw (parted (operation_byte (drop at file)) w.listed _).0 (rw g at here) in
          record { same = rw (e, here, g, n.same); old = rw (e, g) (o, n.old) }
      go true e (inr (k, g)) next = record { same = rw (e, here, g); old = rw (e, g) tt }

  pub none-added : has_added file ≡ false → NoneAdded (records_of file)
  unfolding records_of
  none-added h = (walk_same (length file) head_length h).old

pub neither-judged-as-before : NeitherJudgedAsBefore
unfolding file_number number_before records_of records_before
neither-judged-as-before file h =
    let s = (walk_same file (length file) head_length h).same in
    record { number = rw (← s, no_stray 0 (records_of file) (none-added file h)); records = ap (λ (w : Walk). w.records) s }
