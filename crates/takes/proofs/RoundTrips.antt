-- Both round trips: of a record at a place, and of whole files.
use Prim.Native.Nat.{ℕ, zero, suc, ◌+◌, ◌-◌, ◌≤◌}
use mathlib.Core.Path.{◌≡◌, refl, sym, ◌∙◌, ap, ap₂}
use mathlib.Core.Bool.{Bool, true, false}
use mathlib.Core.List.{List, [], ◌∷◌, ◌++◌}
use native.Mathlib.Omega.{arith}
use native.Mathlib.Nat.{add_assoc}
use lib.Dec.{ltb}
use lib.ListN.{length, take, drop, length-append, length-drop, take-append-drop, drop_of_length-le}
use lib.Seq.{drop-drop, drop-append_seam}
use borrow.Author.Tests.{ltb-true, ltb-false}
use Rattle.takes.specs.Operations.{known, kinds_of, sizes, length_of}
use Rattle.takes.specs.Records.{operation, fields, record_of}
use Rattle.takes.specs.Reading.{length_byte, operation_byte, field_values, values, high_register}
use Rattle.takes.specs.Files.{Walk, before, walk_from, head_length, head_number, stray_from, records_of}
use Rattle.takes.specs.Writing.{value_bytes, record_bytes, records_bytes, file_of}
use Rattle.takes.specs.RoundTrips.{RecordFits, RecordsFit, Bytes, RoundTrips}
use Rattle.takes.specs.declared.Record.{Record}
use Rattle.takes.specs.declared.Record.TheVariants.{Get, Give, Step, Read, Write, Left, Copy, Fill, Lock, Unlock, Again, Set, Grid}
use Rattle.takes.proofs.Operations.{every-operation}
use Rattle.takes.proofs.Fields.{values-forth, fit_low, values-back}
use Rattle.takes.proofs.Records.{sound}
use Rattle.takes.proofs.Numbers.{bytes_drop}
use Rattle.takes.proofs.Heads.{good}
use Rattle.takes.proofs.Readings.{Whole, the_record}
use Rattle.takes.proofs.Walks.{next_place, whole-inside, from_end, from_found, accepted-whole}
use Rattle.takes.proofs.WholeFiles.{Head, head-accepted, head-bytes, file-accepted, number_is}

-- a record is made again from its parts
pub remade : (r : Record) → (record_of (operation r) (fields r) ≡ r) × (length (fields r) ≡ length (kinds_of (operation r)))
unfolding record_of kinds_of
remade (Get d n) = (refl, refl)
remade (Give a) = (refl, refl)
remade (Step d a i) = (refl, refl)
remade (Read d a w) = (refl, refl)
remade (Write a w v) = (refl, refl)
remade (Left d a) = (refl, refl)
remade (Copy d a b n) = (refl, refl)
remade (Fill d a v n) = (refl, refl)
remade (Lock a) = (refl, refl)
remade (Unlock a) = (refl, refl)
remade (Again d k) = (refl, refl)
remade (Set d n) = (refl, refl)
remade (Grid d a rows columns row column) = (refl, refl)

-- the parts of a record that was made of a row's fields
abbrev pub Parted : ℕ → Type 0
Parted op =
    (bs : List ℕ) → (operation (record_of op (values (kinds_of op) bs)) ≡ op) × (fields (record_of op (values (kinds_of op) bs)) ≡ values (kinds_of op) bs)

pub parted : (op : ℕ) → known op ≡ true → Parted op
unfolding record_of kinds_of
parted =
    every-operation Parted (
      λ bs. (refl, refl),
      (
        λ bs. (refl, refl),
        (
          λ bs. (refl, refl),
          (
            λ bs. (refl, refl),
            (
              λ bs. (refl, refl),
              (
                λ bs. (refl, refl),
                (
                  λ bs. (refl, refl),
                  (λ bs. (refl, refl), (λ bs. (refl, refl), (λ bs. (refl, refl), (λ bs. (refl, refl), (λ bs. (refl, refl), (λ bs. (refl, refl), tt)))))),
                ),
              ),
            ),
          ),
        ),
      ),
    )

-- A record's bytes read back.
module _ (r : Record) (fit : RecordFits r) (rest : List ℕ) where
  values-are : field_values (record_bytes r ++ rest) ≡ fields r
  unfolding record_bytes
  values-are = values-forth (kinds_of (operation r)) (fields r) rest fit (remade r).1

  length-is : length (record_bytes r ++ rest) ≡ 1 + length_of (operation r) + length rest
  unfolding record_bytes
  length-is = omega (arith, length-append (value_bytes (kinds_of (operation r)) (fields r)) rest, (sound r).bytes)

  pub written-whole : Whole (record_bytes r ++ rest)
  unfolding record_bytes
  written-whole =
      record {
        nonzero = λ z. absurd (omega arith);
        enough = omega (arith, length-is);
        listed = (sound r).in_table;
        exact = refl;
        low = rw values-are (fit_low (kinds_of (operation r)) (fields r) fit);
      }

  pub written-record : the_record (record_bytes r ++ rest) ≡ r
  unfolding record_bytes
  written-record = rw values-are (remade r).0

  pub written-span : 1 + length_byte (record_bytes r ++ rest) ≡ length (record_bytes r)
  unfolding record_bytes
  written-span = omega (arith, (sound r).bytes)

-- An accepted record's bytes are written back.
pub read_back : (bs : List ℕ) → Bytes bs → Whole bs → record_bytes (the_record bs) ≡ take (1 + length_byte bs) bs
unfolding record_bytes
read_back [] h w = absurd (w.nonzero refl)
read_back (x ∷ []) h w = absurd (w.nonzero (omega (arith, w.enough)))
read_back (x ∷ op ∷ bs) h w =
    let p = parted op w.listed bs in
    let l : sizes (kinds_of op) ≤ length bs = omega (arith, w.enough, w.exact) in
    let v : value_bytes (kinds_of op) (values (kinds_of op) bs) ≡ take (sizes (kinds_of op)) bs = values-back (kinds_of op) bs (bytes_drop 2 (x ∷ op ∷ bs) h) l
    in
    let e : 1 + x ≡ suc (suc (sizes (kinds_of op))) = omega (arith, w.exact) in
    rw (p.0, p.1, e, v) (ap (λ (n : ℕ). n ∷ op ∷ take (sizes (kinds_of op)) bs) (sym w.exact))

-- and its registers pass the writer
pub read_low : (bs : List ℕ) → Whole bs → high_register (kinds_of (operation (the_record bs))) (fields (the_record bs)) ≡ false
read_low bs w = let p = parted (operation_byte bs) w.listed (drop 2 bs) in rw (p.0, p.1) w.low

-- what stands at the place after a record
after : (s : List ℕ) (at : ℕ) → drop (next_place s at) s ≡ drop (1 + length_byte (drop at s)) (drop at s)
after s at = ap (λ (n : ℕ). drop n s) (add_assoc at 1 (length_byte (drop at s))) ∙ sym (drop-drop (1 + length_byte (drop at s)) at s)

-- Records that stand at a place up to the end are those that are walked.
walk-forth : (rs : List Record) (s : List ℕ) (at : ℕ) → RecordsFit rs → drop at s ≡ records_bytes rs → walk_from s at ≡ record { number = 0; records = rs }
unfolding records_bytes
walk-forth [] s at h e = from_end s at (omega (arith, length-drop at s, ap length e))
walk-forth (r ∷ rs) s at h e =
    let w : Whole (drop at s) = rw e (written-whole r h.0 (records_bytes rs)) in
    let t : the_record (drop at s) ≡ r = rw e (written-record r h.0 (records_bytes rs)) in
    let n : 1 + length_byte (drop at s) ≡ length (record_bytes r) = rw e (written-span r h.0 (records_bytes rs)) in
    let d : drop (next_place s at) s ≡ records_bytes rs = after s at ∙ rw (n, e) (drop-append_seam (record_bytes r) (records_bytes rs)) in
    from_found s at w ∙ rw (t, walk-forth rs s (next_place s at) h.1 d)

-- The records that are walked to the end stand there. `steps` bounds how many there are.
walk-back : (steps : ℕ) (s : List ℕ) (at : ℕ) → length s - at ≤ steps → Bytes s → (walk_from s at).number ≡ 0
    → records_bytes (walk_from s at).records ≡ drop at s
unfolding records_bytes
walk-back zero s at f h e = let l : length s ≤ at = omega arith in rw (from_end s at l, drop_of_length-le s l)
walk-back (suc steps) s at f h e = go (ltb at (length s)) refl (walk-back steps s)
  where
    go : (b : Bool) → ltb at (length s) ≡ b
        → ((at : ℕ) → length s - at ≤ steps → Bytes s → (walk_from s at).number ≡ 0 → records_bytes (walk_from s at).records ≡ drop at s)
        → records_bytes (walk_from s at).records ≡ drop at s
    go false t next = let l : length s ≤ at = ltb-false at (length s) t in rw (from_end s at l, drop_of_length-le s l)
    go true t next =
        let w : Whole (drop at s) = accepted-whole s at e (ltb-true at (length s) t) in
        let c : walk_from s at ≡ before (the_record (drop at s)) (walk_from s (next_place s at)) = from_found s at w in
        let i = whole-inside s at w in
        let n : (walk_from s (next_place s at)).number ≡ 0 = sym (ap (λ (x : Walk). x.number) c) ∙ e in
        rw (c, read_back (drop at s) (bytes_drop at s h) w, next (next_place s at) (omega (arith, i.0, i.1)) h n, after s at)
        (take-append-drop (1 + length_byte (drop at s)) (drop at s))

pub round-trips : RoundTrips
unfolding records_of
round-trips =
    record {
      written-reads-back =
          λ m rs low high fit short.
          let h : 0 ≡ head_number (file_of m rs) = good (file_of m rs) (λ z. absurd (omega arith)) refl (omega arith) low high short in
          let w : walk_from (file_of m rs) head_length ≡ record { number = 0; records = rs } = walk-forth rs (file_of m rs) head_length fit refl in
          record {
            number = number_is (file_of m rs) h 0 (stray_from 0 rs) (ap (λ (x : Walk). x.number) w) (ap (λ (x : Walk). stray_from 0 x.records) w);
            size = refl;
            records = ap (λ (x : Walk). x.records) w;
          };
      read-writes-back =
          λ file bytes accepted.
          let a = file-accepted file accepted in
          let h : Head file = head-accepted file a.head in
          ap₂ ◌++◌ (head-bytes file h) (walk-back (length file) file head_length (omega arith) bytes a.records) ∙ take-append-drop head_length file;
    }
