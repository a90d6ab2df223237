-- The kinds of an operation's fields: the reader's search among the first of them, and the writer's two loops over all.
use Prim.Native.Nat.{ℕ, zero, suc, ◌+◌, ◌≤◌, ◌<◌}
use mathlib.Core.Path.{◌≡◌, refl, sym, ◌∙◌, ap}
use mathlib.Core.Bool.{Bool, true, false, ◌||◌, ◌&&◌, false≢true}
use mathlib.Core.List.{List, [], ◌∷◌, ◌++◌}
use native.Mathlib.Omega.{arith}
use native.Mathlib.Numerals.{add-one}
use native.Mathlib.Nat.{add-zero, add_assoc}
use lib.Dec.{leb}
use lib.ListN.{length, get_or, drop, drop_of_length-le}
use lib.Seq.{drop-cons, drop-drop, get_or-drop}
use borrow.Author.Tests.{leb-true}
use Rattle.common.specs.Bytes.{big_endian, bytes_of, over}
use Rattle.common.proofs.Booleans.{and_left, and_right, or-none}
use Rattle.common.proofs.Bytes.{over_none, over-append, length-bytes_of}
use Rattle.heap.specs.Registers.{register_count}
use Rattle.takes.specs.Operations.{Kind, register, byte, half, word, known, kinds_of, size, sizes}
use Rattle.takes.specs.Reading.{values, high_register}
use Rattle.takes.specs.Writing.{value_bytes}
use Rattle.takes.specs.Inner.{registers_in, any_high}
use Rattle.takes.proofs.Operations.{every-operation}
use Rattle.takes.proofs.Fields.{number-one}

-- In every row the registers, one to three, are the first fields.
abbrev no_register : List Kind → Bool
no_register [] = true
no_register (register ∷ ks) = false
no_register (byte ∷ ks) = no_register ks
no_register (half ∷ ks) = no_register ks
no_register (word ∷ ks) = no_register ks

abbrev registers_first : List Kind → Bool
registers_first ks = leb 1 (registers_in ks) && (leb (registers_in ks) 3 && no_register (drop (registers_in ks) ks))

row-order : (op : ℕ) → known op ≡ true → registers_first (kinds_of op) ≡ true
unfolding kinds_of
row-order =
    every-operation (λ op. registers_first (kinds_of op) ≡ true)
    (refl, (refl, (refl, (refl, (refl, (refl, (refl, (refl, (refl, (refl, (refl, (refl, (refl, tt)))))))))))))

pub few-registers : (op : ℕ) → known op ≡ true → (1 ≤ registers_in (kinds_of op)) × (registers_in (kinds_of op) ≤ 3)
few-registers op h =
    let n : ℕ = registers_in (kinds_of op) in
    let o : registers_first (kinds_of op) ≡ true = row-order op h in
    (leb-true 1 n (and_left (leb 1 n) _ o), leb-true n 3 (and_left (leb n 3) _ (and_right (leb 1 n) _ o)))

pub registers-inside : (ks : List Kind) → registers_in ks ≤ sizes ks
registers-inside [] = omega arith
registers-inside (register ∷ ks) = omega (arith, registers-inside ks)
registers-inside (byte ∷ ks) = omega arith
registers-inside (half ∷ ks) = omega arith
registers-inside (word ∷ ks) = omega arith

none-high : (ks : List Kind) (vs : List ℕ) → no_register ks ≡ true → high_register ks vs ≡ false
none-high [] vs h = refl
none-high (register ∷ ks) [] h = refl
none-high (byte ∷ ks) [] h = refl
none-high (half ∷ ks) [] h = refl
none-high (word ∷ ks) [] h = refl
none-high (register ∷ ks) (v ∷ vs) h = absurd (false≢true h)
none-high (byte ∷ ks) (v ∷ vs) h = none-high ks vs h
none-high (half ∷ ks) (v ∷ vs) h = none-high ks vs h
none-high (word ∷ ks) (v ∷ vs) h = none-high ks vs h

-- so the first bytes tell whether a record has a high register
first-tell : (ks : List Kind) (s : List ℕ) (at : ℕ) → no_register (drop (registers_in ks) ks) ≡ true
    → any_high (registers_in ks) s at ≡ high_register ks (values ks (drop at s))
first-tell [] s at h = refl
first-tell (register ∷ ks) s at h =
    let v : big_endian (drop at s) 0 1 ≡ get_or s at 0 =
    number-one (drop at s) 0 ∙ (get_or-drop at s 0 0 ∙ ap (λ (n : ℕ). get_or s n 0) (add-zero at)) in
    rw (v, drop-drop 1 at s, first-tell ks s (at + 1) h)
first-tell (byte ∷ ks) s at h = sym (none-high ks _ h)
first-tell (half ∷ ks) s at h = sym (none-high ks _ h)
first-tell (word ∷ ks) s at h = sym (none-high ks _ h)

pub registers-tell : (op : ℕ) → known op ≡ true → (s : List ℕ) (at : ℕ)
    → any_high (registers_in (kinds_of op)) s at ≡ high_register (kinds_of op) (values (kinds_of op) (drop at s))
registers-tell op h s at =
    let n : ℕ = registers_in (kinds_of op) in
    first-tell (kinds_of op) s at (and_right (leb n 3) _ (and_right (leb 1 n) _ (row-order op h)))

-- one to three of them, by the tests that the code makes
pub tested : (n : ℕ) (s : List ℕ) (at : ℕ) → 1 ≤ n → n ≤ 3
    → any_high n s at
    ≡ (leb register_count (get_or s at 0)
    || (leb 2 n && (leb register_count (get_or s (at + 1) 0) || (leb 3 n && leb register_count (get_or s (at + 2) 0)))))
tested zero s at h k = absurd (omega arith)
tested (suc zero) s at h k = refl
tested (suc (suc zero)) s at h k = refl
tested (suc (suc (suc zero))) s at h k =
    ap (λ (b : Bool). leb register_count (get_or s at 0) || (leb register_count (get_or s (at + 1) 0) || b))
    (sym (or-none _) ∙ ap (λ (n : ℕ). leb register_count (get_or s n 0)) (add_assoc at 1 1))
tested (suc (suc (suc (suc n)))) s at h k = absurd (omega arith)

-- The writer's first loop: the fields from k on have a high register where all have.
abbrev pub Seeking : List Kind → List ℕ → ℕ → Type 0
Seeking ks vs k = high_register (drop k ks) (drop k vs) ≡ high_register ks vs

-- The writer's second loop: what is still to be put, at the place reached, gives the whole.
pub record Putting (ks : List Kind) (vs out₀ out : List ℕ) (at k : ℕ) : Type 0 where
  pub same : length out ≡ length out₀
  pub room : at + sizes (drop k ks) ≤ length out
  pub put : over out at (value_bytes (drop k ks) (drop k vs)) ≡ over out₀ 2 (value_bytes ks vs)

module _ {ks : List Kind} {vs out₀ out : List ℕ} {at k : ℕ} (l : Putting ks vs out₀ out at k) where
  pub putting-end : length ks ≤ k → out ≡ over out₀ 2 (value_bytes ks vs)
  putting-end h =
      let none : drop k ks ≡ [] = drop_of_length-le ks h in
      sym (over_none out at) ∙ (ap (λ (κs : List Kind). over out at (value_bytes κs (drop k vs))) (sym none) ∙ l.put)

  pub putting-turn : k < length ks → k < length vs → (n : ℕ) → n ≡ size (get_or ks k register) → (out' : List ℕ)
      → out' ≡ over out at (bytes_of n (get_or vs k 0)) → length out' ≡ length out → Putting ks vs out₀ out' (at + n) (k + 1)
  putting-turn here column n size-here out' e m =
      let κ : Kind = get_or ks k register in
      let v : ℕ = get_or vs k 0 in
      let more : List ℕ = value_bytes (drop (suc k) ks) (drop (suc k) vs) in
      let b : length (bytes_of n v) ≡ n = length-bytes_of n v in
      let r : at + (size κ + sizes (drop (suc k) ks)) ≤ length out = rw (drop-cons ks k register here) at l.room in
      let w : over out at (bytes_of (size κ) v ++ more) ≡ over out₀ 2 (value_bytes ks vs) =
      rw (drop-cons ks k register here, drop-cons vs k 0 column) at l.put in
      let u : over out at (bytes_of n v ++ more) ≡ over out₀ 2 (value_bytes ks vs) =
      ap (λ (z : ℕ). over out at (bytes_of z v ++ more)) size-here ∙ w in
      let t : over (over out at (bytes_of n v)) (at + length (bytes_of n v)) more ≡ over out₀ 2 (value_bytes ks vs) =
      over-append out at (bytes_of n v) more (omega (arith, r, size-here)) ∙ u in
      rw (add-one k) (record { same = m ∙ l.same; room = omega (arith, r, size-here); put = rw e (rw b at t) })
