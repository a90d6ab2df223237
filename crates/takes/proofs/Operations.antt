-- The operation table: what holds of each row holds of every operation, and each operation of the code is in it.
use Prim.Native.Nat.{ℕ, zero, suc, ◌+◌, ◌≤◌, ◌<◌}
use mathlib.Core.Path.{◌≡◌, refl, sym, ◌∙◌, ap, subst}
use mathlib.Core.Bool.{Bool, true, false, ◌||◌, ◌&&◌, cond, false≢true}
use mathlib.Core.List.{List, [], ◌∷◌, map}
use native.Mathlib.Omega.{arith}
use native.Mathlib.Nat.{le_of_suc-le-suc, not-suc-le-zero}
use lib.Dec.{eqb, leb, ltb}
use lib.ListN.{length, get_or, get_or-map}
use borrow.Author.Tests.{eqb-true, ltb-true, leb-true, leb-false, le-leb, lt-leb}
use Rattle.common.proofs.Booleans.{and_left, and_right}
use Rattle.heap.specs.OperationNumbers.{last_operation, is_operation, number_of}
use Rattle.heap.specs.declared.operations.Operation.{Operation}
use Rattle.heap.specs.declared.operations.Operation.TheVariants.{Get, Give, Step, Read, Write, Left, Copy, Fill, Lock, Unlock, Again, Set, Grid}
use Rattle.takes.specs.Operations.{Row, ◌has◌, operations, known_in, known, kinds_of}
use Rattle.takes.specs.Inner.{most_fields}

abbrev pub AllRows : (ℕ → Type 0) → List Row → Type 0
AllRows P [] = Unit {0}
AllRows P ((n has ks) ∷ rs) = P n × AllRows P rs

in_rows : (P : ℕ → Type 0) (rs : List Row) → AllRows P rs → (op : ℕ) → known_in rs op ≡ true → P op
in_rows P [] a op h = absurd (false≢true h)
in_rows P ((n has ks) ∷ rs) a op h = go (eqb n op) refl (in_rows P rs a.1 op)
  where
    go : (b : Bool) → eqb n op ≡ b → (known_in rs op ≡ true → P op) → P op
    go true e next = subst P (eqb-true n op e) a.0
    go false e next = next (sym (ap (λ (b : Bool). b || known_in rs op) e) ∙ h)

-- what holds of each row's operation holds of each operation of the table
pub every-operation : (P : ℕ → Type 0) → AllRows P operations → (op : ℕ) → known op ≡ true → P op
unfolding known
every-operation P a op h = in_rows P operations a op h

-- the table's bounds: an operation's number and its fields
pub record InTable (op : ℕ) : Type 0 where
  pub above : 0 < op
  pub below : op ≤ last_operation
  pub few : length (kinds_of op) ≤ most_fields

abbrev within : ℕ → Bool
within op = ltb 0 op && (leb op last_operation && leb (length (kinds_of op)) most_fields)

pub in_table : (op : ℕ) → known op ≡ true → InTable op
unfolding kinds_of
in_table op h =
    let each : AllRows (λ op. within op ≡ true) operations =
    (refl, (refl, (refl, (refl, (refl, (refl, (refl, (refl, (refl, (refl, (refl, (refl, (refl, tt))))))))))))) in
    let a : within op ≡ true = every-operation (λ op. within op ≡ true) each op h in
    let b = and_right (ltb 0 op) (leb op last_operation && leb (length (kinds_of op)) most_fields) a in
    record {
      above = ltb-true 0 op (and_left (ltb 0 op) _ a);
      below = leb-true op last_operation (and_left (leb op last_operation) _ b);
      few = leb-true (length (kinds_of op)) most_fields (and_right (leb op last_operation) _ b);
    }

-- the values of g at the first n numbers
abbrev pub tabulated : {X : Type 0} → (ℕ → X) → ℕ → List X
tabulated g zero = []
tabulated g (suc n) = g 0 ∷ tabulated (λ k. g (suc k)) n

tabulated-at : {X : Type 0} (g : ℕ → X) (d : X) (n k : ℕ) → k < n → get_or (tabulated g n) k d ≡ g k
tabulated-at g d zero k h = absurd (not-suc-le-zero h)
tabulated-at g d (suc n) zero h = refl
tabulated-at g d (suc n) (suc k) h = tabulated-at (λ k. g (suc k)) d n k (le_of_suc-le-suc h)

-- the operations of the table are the numbers up to its last
pub known-numbers : (op : ℕ) → known op ≡ is_operation op
unfolding known
known-numbers op = go (leb op last_operation) refl
  where
    bit : Bool → ℕ
    bit b = cond b 1 0

    same : (b d : Bool) → bit b ≡ bit d → b ≡ d
    same true true e = refl
    same true false e = absurd (omega arith)
    same false true e = absurd (omega arith)
    same false false e = refl

    past : last_operation < op → (b : Bool) → known op ≡ b → b ≡ is_operation op
    past h true e = absurd (omega (arith, (in_table op e).below))
    past h false e = rw (le-leb 1 op (omega arith), lt-leb op last_operation h)

    go : (b : Bool) → leb op last_operation ≡ b → known op ≡ is_operation op
    go true e =
        let l : op < suc last_operation = omega (arith, leb-true op last_operation e) in
        same (known op) (is_operation op)
        (sym (tabulated-at (λ k. bit (known k)) 0 (suc last_operation) op l) ∙ tabulated-at (λ k. bit (is_operation k)) 0 (suc last_operation) op l)
    go false e = past (leb-false op last_operation e) (known op) refl

-- each operation of the code is in the table
pub known-operation : (o : Operation) → known (number_of o) ≡ true
unfolding known
known-operation Get = refl
known-operation Give = refl
known-operation Step = refl
known-operation Read = refl
known-operation Write = refl
known-operation Left = refl
known-operation Copy = refl
known-operation Fill = refl
known-operation Lock = refl
known-operation Unlock = refl
known-operation Again = refl
known-operation Set = refl
known-operation Grid = refl

-- What the code's table says of an operation is what is meant of it, where all its rows say what is meant of 1, 2 and so on.
pub row-says : {A X : Type 0} (say : A → X) (meant : ℕ → X) (rows : List A) (d : A) (k : ℕ) (o : Operation) → k + 1 ≡ number_of o
    → map say rows ≡ tabulated (λ k. meant (suc k)) last_operation → say (get_or rows k d) ≡ meant (number_of o)
row-says say meant rows d k o place e =
    let l : k < last_operation = omega (arith, (in_table (number_of o) (known-operation o)).below) in
    let n : suc k ≡ number_of o = omega (arith, place) in
    sym (get_or-map say rows k d)
    ∙ (ap (λ (xs : List _). get_or xs k (say d)) e ∙ (tabulated-at (λ k. meant (suc k)) (say d) last_operation k l ∙ ap meant n))
