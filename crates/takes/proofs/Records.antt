-- The record of an operation from the bytes of its fields, and a record's bytes.
use Prim.Native.Nat.{ℕ, ◌+◌, ◌≤◌, ◌<◌}
use mathlib.Core.Path.{◌≡◌, refl, sym, ◌∙◌, ap}
use mathlib.Core.Bool.{true, false}
use mathlib.Core.List.{List, ◌∷◌, ◌++◌}
use native.Mathlib.Omega.{arith}
use native.Mathlib.Nat.{add-zero, zero-add}
use lib.ListN.{length, get_or, drop, set, length-set}
use Rattle.common.specs.Bytes.{bytes_of, over}
use Rattle.common.proofs.Bytes.{over_first}
use borrow.Author.Tests.{lt-ltb, le-ltb}
use Rattle.takes.specs.Operations.{Kind, known, kinds_of, sizes, length_of}
use Rattle.takes.specs.Records.{operation, fields, record_of}
use Rattle.takes.specs.Reading.{values, high_register}
use Rattle.takes.specs.Inner.{byte_at, half_at, word_at, get_at, give_at, step_at, read_fields_at, write_at, left_at, copy_at, fill_at, lock_at, unlock_at}
use Rattle.takes.specs.Inner.{again_at, set_at, grid_at, record_from}
use Rattle.takes.specs.Writing.{value_bytes, record_bytes, write_record}
use Rattle.takes.specs.Inner.{most_fields, padded}
use Rattle.takes.specs.declared.Record.{Record}
use Rattle.takes.specs.declared.Record.TheVariants.{Get, Give, Step, Read, Write, Left, Copy, Fill, Lock, Unlock, Again, Set, Grid}
use Rattle.takes.proofs.Fields.{start, size_of, byte-is, number_is}

-- A law for each operation: the record of its fields, which start at `at`, each taken from its own place in the file.
module _ (s : List ℕ) (at : ℕ) where
  -- a row's first field, a byte; its field k, where k bytes stand before it; and a number of four bytes or of two there
  byte-here : (ks : List Kind) → size_of ks 0 ≡ 1 → byte_at s at ≡ get_or (values ks (drop at s)) 0 0
  byte-here ks e = byte-is s at ks 0 at (sym (add-zero at)) e

  byte-from : (k : ℕ) (ks : List Kind) → start ks k ≡ k → size_of ks k ≡ 1 → byte_at s (at + k) ≡ get_or (values ks (drop at s)) k 0
  byte-from k ks p e = byte-is s at ks k (at + k) (rw p) e

  word-from : (k : ℕ) (ks : List Kind) → start ks k ≡ k → size_of ks k ≡ 4 → word_at s (at + k) ≡ get_or (values ks (drop at s)) k 0
  word-from k ks p e = number_is s at ks k (at + k) (rw p) 4 e

  half-from : (k : ℕ) (ks : List Kind) → start ks k ≡ k → size_of ks k ≡ 2 → half_at s (at + k) ≡ get_or (values ks (drop at s)) k 0
  half-from k ks p e = number_is s at ks k (at + k) (rw p) 2 e

  pub get-is : get_at s at ≡ record_from s at 1
  unfolding record_of kinds_of
  get-is = rw (byte-here (kinds_of 1) refl, word-from 1 (kinds_of 1) refl refl)

  pub give-is : give_at s at ≡ record_from s at 2
  unfolding record_of kinds_of
  give-is = rw (byte-here (kinds_of 2) refl)

  pub step_is : step_at s at ≡ record_from s at 3
  unfolding record_of kinds_of
  step_is = rw (byte-here (kinds_of 3) refl, byte-from 1 (kinds_of 3) refl refl, word-from 2 (kinds_of 3) refl refl)

  pub read_is : read_fields_at s at ≡ record_from s at 4
  unfolding record_of kinds_of
  read_is = rw (byte-here (kinds_of 4) refl, byte-from 1 (kinds_of 4) refl refl, byte-from 2 (kinds_of 4) refl refl)

  pub write-is : write_at s at ≡ record_from s at 5
  unfolding record_of kinds_of
  write-is = rw (byte-here (kinds_of 5) refl, byte-from 1 (kinds_of 5) refl refl, word-from 2 (kinds_of 5) refl refl)

  pub left_is : left_at s at ≡ record_from s at 6
  unfolding record_of kinds_of
  left_is = rw (byte-here (kinds_of 6) refl, byte-from 1 (kinds_of 6) refl refl)

  pub copy_is : copy_at s at ≡ record_from s at 7
  unfolding record_of kinds_of
  copy_is = rw (byte-here (kinds_of 7) refl, byte-from 1 (kinds_of 7) refl refl, byte-from 2 (kinds_of 7) refl refl, word-from 3 (kinds_of 7) refl refl)

  pub fill_is : fill_at s at ≡ record_from s at 8
  unfolding record_of kinds_of
  fill_is = rw (byte-here (kinds_of 8) refl, byte-from 1 (kinds_of 8) refl refl, byte-from 2 (kinds_of 8) refl refl, word-from 3 (kinds_of 8) refl refl)

  pub lock-is : lock_at s at ≡ record_from s at 9
  unfolding record_of kinds_of
  lock-is = rw (byte-here (kinds_of 9) refl)

  pub unlock-is : unlock_at s at ≡ record_from s at 10
  unfolding record_of kinds_of
  unlock-is = rw (byte-here (kinds_of 10) refl)

  pub again-is : again_at s at ≡ record_from s at 11
  unfolding record_of kinds_of
  again-is = rw (byte-here (kinds_of 11) refl, half-from 1 (kinds_of 11) refl refl)

  pub set_is : set_at s at ≡ record_from s at 12
  unfolding record_of kinds_of
  set_is = rw (byte-here (kinds_of 12) refl, word-from 1 (kinds_of 12) refl refl)

  pub grid-is : grid_at s at ≡ record_from s at 13
  unfolding record_of kinds_of
  grid-is =
      rw (
        byte-here (kinds_of 13) refl,
        byte-from 1 (kinds_of 13) refl refl,
        byte-from 2 (kinds_of 13) refl refl,
        byte-from 3 (kinds_of 13) refl refl,
        byte-from 4 (kinds_of 13) refl refl,
        byte-from 5 (kinds_of 13) refl refl,
      )

-- the record of an operation's fields, for each operation
pub ruleset records_there = (get-is, give-is, step_is, read_is, write-is, left_is, copy_is, fill_is, lock-is, unlock-is, again-is, set_is, grid-is)

pub record Sound (r : Record) : Type 0 where
  pub in_table : known (operation r) ≡ true
  pub bytes : length (value_bytes (kinds_of (operation r)) (fields r)) ≡ sizes (kinds_of (operation r))
  pub field-count : length (padded (fields r)) ≡ most_fields
  pub padded-high : high_register (kinds_of (operation r)) (padded (fields r)) ≡ high_register (kinds_of (operation r)) (fields r)
  pub padded-bytes : value_bytes (kinds_of (operation r)) (padded (fields r)) ≡ value_bytes (kinds_of (operation r)) (fields r)

pub sound : (r : Record) → Sound r
unfolding known kinds_of bytes_of
sound (Get d n) = record { in_table = refl; bytes = refl; field-count = refl; padded-high = refl; padded-bytes = refl }
sound (Give a) = record { in_table = refl; bytes = refl; field-count = refl; padded-high = refl; padded-bytes = refl }
sound (Step d a i) = record { in_table = refl; bytes = refl; field-count = refl; padded-high = refl; padded-bytes = refl }
sound (Read d a w) = record { in_table = refl; bytes = refl; field-count = refl; padded-high = refl; padded-bytes = refl }
sound (Write a w v) = record { in_table = refl; bytes = refl; field-count = refl; padded-high = refl; padded-bytes = refl }
sound (Left d a) = record { in_table = refl; bytes = refl; field-count = refl; padded-high = refl; padded-bytes = refl }
sound (Copy d a b n) = record { in_table = refl; bytes = refl; field-count = refl; padded-high = refl; padded-bytes = refl }
sound (Fill d a v n) = record { in_table = refl; bytes = refl; field-count = refl; padded-high = refl; padded-bytes = refl }
sound (Lock a) = record { in_table = refl; bytes = refl; field-count = refl; padded-high = refl; padded-bytes = refl }
sound (Unlock a) = record { in_table = refl; bytes = refl; field-count = refl; padded-high = refl; padded-bytes = refl }
sound (Again d k) = record { in_table = refl; bytes = refl; field-count = refl; padded-high = refl; padded-bytes = refl }
sound (Set d n) = record { in_table = refl; bytes = refl; field-count = refl; padded-high = refl; padded-bytes = refl }
sound (Grid d a rows columns row column) = record { in_table = refl; bytes = refl; field-count = refl; padded-high = refl; padded-bytes = refl }

-- The writer's returns, op and vs being the record taken apart.
module _ (r : Record) (out : List ℕ) (op : ℕ) (vs : List ℕ) (taken : (op ≡ operation r) × (vs ≡ padded (fields r))) where
  high_is : high_register (kinds_of op) vs ≡ high_register (kinds_of (operation r)) (fields r)
  high_is = rw (taken.0, taken.1) (sound r).padded-high

  bytes-are : record_bytes r ≡ length_of op ∷ op ∷ value_bytes (kinds_of op) vs
  unfolding record_bytes
  bytes-are = rw (taken.0, taken.1, (sound r).padded-bytes)

  count-is : length (record_bytes r) ≡ length_of op + 1
  unfolding record_bytes
  count-is = rw taken.0 (omega (arith, (sound r).bytes))

  pub write-high : true ≡ high_register (kinds_of op) vs → record { number = 7; count = 0; slice = out } ≡ write_record r out
  unfolding write_record
  write-high h = rw (← high_is, ← h)

  module _ (low : false ≡ high_register (kinds_of op) vs) where
    pub write-short : length out < length_of op + 1 → record { number = 9; count = 0; slice = out } ≡ write_record r out
    unfolding write_record
    write-short h = rw (← high_is, ← low, count-is, lt-ltb (length out) (length_of op + 1) h)

    pub write_done : (n : ℕ) (out' : List ℕ) → n ≡ length_of op → n + 1 ≤ length out
        → out' ≡ over (set (set out 0 n) 1 op) 2 (value_bytes (kinds_of op) vs) → record { number = 0; count = n + 1; slice = out' } ≡ write_record r out
    unfolding write_record over
    write_done n out' q h e =
        let b : record_bytes r ≡ n ∷ op ∷ value_bytes (kinds_of op) vs = rw q bytes-are in
        let l : length (record_bytes r) ≡ n + 1 = rw q count-is in
        let f : over out 0 (n ∷ op ∷ value_bytes (kinds_of op) vs) ≡ over (set (set out 0 n) 1 op) 2 (value_bytes (kinds_of op) vs) =
        over_first out 0 n (op ∷ value_bytes (kinds_of op) vs) (omega arith)
        ∙ over_first (set out 0 n) 1 op (value_bytes (kinds_of op) vs) (simp length-set (omega arith)) in
        let z : out' ≡ record_bytes r ++ drop (length (record_bytes r)) out =
        e ∙ (sym f ∙ (ap (over out 0) (sym b) ∙ ap (λ (k : ℕ). record_bytes r ++ drop k out) (zero-add (length (record_bytes r))))) in
        rw (← high_is, ← low, z, l, le-ltb (length out) (n + 1) h)
