-- A record that stands in a file, by the bytes of its fields: what it does with the values in its registers, and the register that its value goes to. One law
-- for each operation.
use Rattle.std.proofs.Common.{◌≡◌, ℕ, zero, suc, ◌+◌, ◌-◌, ◌<◌, List, [], ◌∷◌, true, false, cond, eqb, leb, drop, Some, None, arith}
use borrow.Author.Tests.{leb-false}
use lib.Seq.{drop-drop, get_or-drop}
use Rattle.common.proofs.Booleans.{or-false-left, or-false-right}
use Rattle.heap.specs.Registers.{register_count, held}
use Rattle.heap.specs.declared.Call.TheVariants.{Get, Give, Step, Read, Write, Left, Copy, Fill, SetLock, Grid}
use Rattle.takes.specs.Operations.{kinds_of}
use Rattle.takes.specs.declared.table.Kind.{Kind}
use Rattle.takes.specs.declared.table.Kind.TheVariants.{Register as register, Byte as byte, Half as half, Word as word}
use Rattle.takes.specs.Reading.{values, high_register, read_at}
use Rattle.takes.specs.Inner.{byte_at, half_at, word_at, registers_in, record_from}
use Rattle.takes.proofs.Fields.{number-one}
pub use Rattle.takes.proofs.Readings.{good-known, good-fits, good-inside}
use Rattle.takes.proofs.Readings.{operation-at, good-whole}
use Rattle.takes.proofs.Records.{get-is, give-is, step_is, read_is, write-is, left_is, copy_is, fill_is, lock-is, unlock-is, again-is, set_is, grid-is}
use Rattle.runner.specs.Inner.{issued_with}
use Rattle.runner.specs.declared.actions.Issued.{Issued}
use Rattle.runner.specs.declared.actions.Action.{Action}
use Rattle.runner.specs.declared.actions.Action.TheVariants.{Makes, Gives, GoesBack}

module _ (rs file : List ℕ) (at : ℕ) where
  -- the record of the operation n
  abbrev here : ℕ → Issued
  here n = issued_with rs (record_from file at n)

  -- what the register holds that the byte k names
  abbrev p : ℕ → ℕ
  p k = held rs (byte_at file (at + k))

  abbrev b : ℕ → ℕ
  b k = byte_at file (at + k)

  abbrev w : ℕ → ℕ
  w k = word_at file (at + k)

  abbrev to-d : Action → Issued
  to-d a = record { action = a; d = Some (byte_at file at) }

  abbrev nowhere : Action → Issued
  nowhere a = record { action = a; d = None }

  first : at + 0 ≡ at
  first = omega arith

  pub get-issued : to-d (Makes (Get (w 1))) ≡ here 1
  unfolding issued_with
  get-issued = rw (← get-is file at)

  pub give-issued : nowhere (Makes (Give (p 0))) ≡ here 2
  unfolding issued_with
  give-issued = rw (← give-is file at, first)

  pub step-issued : to-d (Makes (Step (p 1) (w 2))) ≡ here 3
  unfolding issued_with
  step-issued = rw (← step_is file at)

  pub read-issued : to-d (Makes (Read (p 1) (b 2))) ≡ here 4
  unfolding issued_with
  read-issued = rw (← read_is file at)

  pub write-issued : nowhere (Makes (Write (p 0) (b 1) (w 2))) ≡ here 5
  unfolding issued_with
  write-issued = rw (← write-is file at, first)

  pub left-issued : to-d (Makes (Left (p 1))) ≡ here 6
  unfolding issued_with
  left-issued = rw (← left_is file at)

  pub copy-issued : to-d (Makes (Copy (p 1) (p 2) (w 3))) ≡ here 7
  unfolding issued_with
  copy-issued = rw (← copy_is file at)

  pub fill-issued : to-d (Makes (Fill (p 1) (b 2) (w 3))) ≡ here 8
  unfolding issued_with
  fill-issued = rw (← fill_is file at)

  pub lock-issued : nowhere (Makes (SetLock (p 0) true)) ≡ here 9
  unfolding issued_with
  lock-issued = rw (← lock-is file at, first)

  pub unlock-issued : nowhere (Makes (SetLock (p 0) false)) ≡ here 10
  unfolding issued_with
  unlock-issued = rw (← unlock-is file at, first)

  pub again-issued : to-d (cond (eqb (p 0) 0) (Gives 0) (GoesBack (p 0 - 1) (half_at file (at + 1)))) ≡ here 11
  unfolding issued_with
  again-issued = rw (← again-is file at, first)

  pub set-issued : to-d (Gives (w 1)) ≡ here 12
  unfolding issued_with
  set-issued = rw (← set_is file at)

  pub grid-issued : to-d (Makes (Grid (p 1) (b 2) (b 3) (b 4) (b 5))) ≡ here 13
  unfolding issued_with
  grid-issued = rw (← grid-is file at)

pub ruleset issued_there = (
  get-issued,
  give-issued,
  step-issued,
  read-issued,
  write-issued,
  left-issued,
  copy-issued,
  fill-issued,
  lock-issued,
  unlock-issued,
  again-issued,
  set-issued,
  grid-issued,
)

-- none of the registers, which stand in the first bytes, is past the last
pub registers-low : (ks : List Kind) (file : List ℕ) (at : ℕ) → high_register ks (values ks (drop at file)) ≡ false → (k : ℕ) → k < registers_in ks
    → byte_at file (at + k) < register_count
registers-low [] file at h k l = absurd (omega arith)
registers-low (register ∷ ks) file at h zero l =
    let v = leb-false register_count _ (or-false-left (leb register_count _) (high_register ks (values ks (drop 1 (drop at file)))) h) in
    rw (number-one (drop at file) 0, get_or-drop at file 0 0) at v
registers-low (register ∷ ks) file at h (suc k) l =
    let more = or-false-right (leb register_count _) (high_register ks (values ks (drop 1 (drop at file)))) h in
    let e : at + 1 + k ≡ at + suc k = omega arith in
    rw (← e) (registers-low ks file (at + 1) (rw (drop-drop 1 at file) at more) k (omega arith))
registers-low (byte ∷ ks) file at h k l = absurd (omega arith)
registers-low (half ∷ ks) file at h k l = absurd (omega arith)
registers-low (word ∷ ks) file at h k l = absurd (omega arith)

-- those of a record that was judged and found good, o being its operation
pub registers-there : (file : List ℕ) (at o : ℕ) → (read_at file at).number ≡ 0 → o ≡ byte_at file (at + 1) → (k : ℕ) → k < registers_in (kinds_of o)
    → byte_at file (at + 2 + k) < register_count
registers-there file at o good e =
    let low = rw (operation-at file at, drop-drop 2 at file) at (good-whole file at good).low in registers-low (kinds_of o) file (at + 2) (rw e low)

-- what is known of such a record
pub ruleset of_accepted = (good-known, good-fits, good-inside, registers-there)
