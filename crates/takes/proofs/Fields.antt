-- Fields one after the other: where each stands, and that they are written and read back.
use Prim.Native.Nat.{ℕ, zero, suc, ◌+◌, ◌^◌, ◌≤◌, ◌<◌}
use mathlib.Core.Path.{◌≡◌, refl, sym, ◌∙◌, ap, ap₂}
use mathlib.Core.Bool.{Bool, true, false, false≢true}
use mathlib.Core.List.{List, [], ◌∷◌, ◌++◌, append_assoc}
use native.Mathlib.Omega.{arith}
use native.Mathlib.Nat.{add-zero}
use lib.ListN.{length, get_or, take, drop, length-drop}
use lib.Seq.{drop_at, take-add}
use lib.Dec.{leb}
use borrow.Author.Tests.{lt-leb, leb-false}
use Rattle.common.specs.Bytes.{big_endian, bytes_of}
use Rattle.common.proofs.Bytes.{length-bytes_of, number-drop, number-forth}
use Rattle.heap.specs.Registers.{register_count}
use Rattle.common.proofs.Booleans.{or-false-left, or-false-right}
use Rattle.takes.specs.Operations.{Kind, register, byte, half, word, size, sizes}
use Rattle.takes.specs.Reading.{values, is_high, high_register}
use Rattle.takes.specs.Writing.{value_bytes}
use Rattle.takes.specs.RoundTrips.{Fits, AllFit, Bytes}
use Rattle.takes.proofs.Numbers.{bytes_drop, number-back}

-- where the field k starts, and what it is: the number that stands there
abbrev pub start : List Kind → ℕ → ℕ
start ks k = sizes (take k ks)

abbrev pub size_of : List Kind → ℕ → ℕ
size_of ks k = sizes (take 1 (drop k ks))

value-at : (ks : List Kind) (bs : List ℕ) (k : ℕ) → get_or (values ks bs) k 0 ≡ big_endian bs (start ks k) (size_of ks k)
unfolding big_endian
value-at [] bs zero = refl
value-at [] bs (suc k) = refl
value-at (κ ∷ ks) bs zero = ap (big_endian bs 0) (sym (add-zero (size κ)))
value-at (κ ∷ ks) bs (suc k) = value-at ks (drop (size κ) bs) k ∙ number-drop (size κ) (start ks k) (size_of ks k) bs

pub number-one : (s : List ℕ) (at : ℕ) → big_endian s at 1 ≡ get_or s at 0
unfolding big_endian
number-one s at = let e : get_or s (at + 0) 0 ≡ get_or s at 0 = ap (λ (n : ℕ). get_or s n 0) (add-zero at) in omega arith

-- The field k of a record whose fields start at `at`, from its own place in the file.
module _ (s : List ℕ) (at : ℕ) (ks : List Kind) (k place : ℕ) (here : place ≡ at + start ks k) where
  field_is : big_endian s place (size_of ks k) ≡ get_or (values ks (drop at s)) k 0
  field_is = rw here (sym (value-at ks (drop at s) k ∙ number-drop at (start ks k) (size_of ks k) s))

  pub number_is : (w : ℕ) → size_of ks k ≡ w → big_endian s place w ≡ get_or (values ks (drop at s)) k 0
  number_is w e = rw e at field_is

  pub byte-is : size_of ks k ≡ 1 → get_or s place 0 ≡ get_or (values ks (drop at s)) k 0
  byte-is e = sym (number-one s place) ∙ (rw e at field_is)

-- Values that fit are read back from their bytes, and bytes that are read are written back.
fit_small : (κ : Kind) (v : ℕ) → Fits κ v → v < 256 ^ size κ
fit_small register v h = omega arith
fit_small byte v h = h
fit_small half v h = h
fit_small word v h = h

pub values-forth : (ks : List Kind) (vs rest : List ℕ) → AllFit ks vs → length vs ≡ length ks → values ks (value_bytes ks vs ++ rest) ≡ vs
values-forth [] [] rest h e = refl
values-forth [] (v ∷ vs) rest h e = absurd (omega arith)
values-forth (κ ∷ ks) [] rest h e = absurd (omega arith)
values-forth (κ ∷ ks) (v ∷ vs) rest h e =
    let more : List ℕ = value_bytes ks vs ++ rest in
    let f : (bytes_of (size κ) v ++ value_bytes ks vs) ++ rest ≡ bytes_of (size κ) v ++ more = append_assoc (bytes_of (size κ) v) (value_bytes ks vs) rest in
    rw f
    (ap₂ (λ (x : ℕ) (xs : List ℕ). x ∷ xs) (number-forth (size κ) v more (fit_small κ v h.0))
    (ap (values ks) (drop_at (bytes_of (size κ) v) more (size κ) (length-bytes_of (size κ) v)) ∙ values-forth ks vs rest h.1 (omega arith)))

pub values-back : (ks : List Kind) (bs : List ℕ) → Bytes bs → sizes ks ≤ length bs → value_bytes ks (values ks bs) ≡ take (sizes ks) bs
values-back [] bs h l = refl
values-back (κ ∷ ks) bs h l =
    ap₂ ◌++◌ (number-back (size κ) bs h (omega arith)) (values-back ks (drop (size κ) bs) (bytes_drop (size κ) bs h) (omega (arith, length-drop (size κ) bs)))
    ∙ sym (take-add (size κ) (sizes ks) bs)

not-high : (κ : Kind) (v : ℕ) → Fits κ v → is_high κ v ≡ false
not-high register v h = lt-leb register_count v h
not-high byte v h = refl
not-high half v h = refl
not-high word v h = refl

pub fit_low : (ks : List Kind) (vs : List ℕ) → AllFit ks vs → high_register ks vs ≡ false
fit_low [] vs h = refl
fit_low (κ ∷ ks) [] h = refl
fit_low (κ ∷ ks) (v ∷ vs) h = rw (not-high κ v h.0) (fit_low ks vs h.1)

-- a field that is a register is one of the sixteen, where no register is high
abbrev pub is_register : List Kind → ℕ → Bool
is_register [] k = false
is_register (register ∷ ks) zero = true
is_register (byte ∷ ks) zero = false
is_register (half ∷ ks) zero = false
is_register (word ∷ ks) zero = false
is_register (κ ∷ ks) (suc k) = is_register ks k

pub low_field : (ks : List Kind) (vs : List ℕ) (k : ℕ) → high_register ks vs ≡ false → is_register ks k ≡ true → get_or vs k 0 < register_count
low_field [] vs k h e = absurd (false≢true e)
low_field (κ ∷ ks) [] k h e = omega arith
low_field (register ∷ ks) (v ∷ vs) zero h e = leb-false register_count v (or-false-left (leb register_count v) (high_register ks vs) h)
low_field (byte ∷ ks) (v ∷ vs) zero h e = absurd (false≢true e)
low_field (half ∷ ks) (v ∷ vs) zero h e = absurd (false≢true e)
low_field (word ∷ ks) (v ∷ vs) zero h e = absurd (false≢true e)
low_field (κ ∷ ks) (v ∷ vs) (suc k) h e = low_field ks vs k (or-false-right (is_high κ v) (high_register ks vs) h) e
