-- A record as its operation's number and the values of its fields, in the file's order.
use Rattle.std.specs.Prelude.{ℕ, cond, List, [], ◌∷◌, eqb, get_or}
use Rattle.std.proofs.Math.Option.{Option, none, some}
use Rattle.takes.specs.declared.Record.{Record}
use Rattle.takes.specs.declared.Record.TheVariants.{Get, Give, Step, Read, Write, Left, Copy, Fill, Lock, Unlock, Again, Set, Grid}

abbrev pub operation : Record → ℕ
operation (Get d n) = 1
operation (Give a) = 2
operation (Step d a i) = 3
operation (Read d a w) = 4
operation (Write a w v) = 5
operation (Left d a) = 6
operation (Copy d a b n) = 7
operation (Fill d a v n) = 8
operation (Lock a) = 9
operation (Unlock a) = 10
operation (Again d k) = 11
operation (Set d n) = 12
operation (Grid d a rows columns row column) = 13

abbrev pub fields : Record → List ℕ
fields (Get d n) = d ∷ n ∷ []
fields (Give a) = a ∷ []
fields (Step d a i) = d ∷ a ∷ i ∷ []
fields (Read d a w) = d ∷ a ∷ w ∷ []
fields (Write a w v) = a ∷ w ∷ v ∷ []
fields (Left d a) = d ∷ a ∷ []
fields (Copy d a b n) = d ∷ a ∷ b ∷ n ∷ []
fields (Fill d a v n) = d ∷ a ∷ v ∷ n ∷ []
fields (Lock a) = a ∷ []
fields (Unlock a) = a ∷ []
fields (Again d k) = d ∷ k ∷ []
fields (Set d n) = d ∷ n ∷ []
fields (Grid d a rows columns row column) = d ∷ a ∷ rows ∷ columns ∷ row ∷ column ∷ []

-- the index of the record that an again goes back to
abbrev pub back_to : Record → Option ℕ
back_to (Get d n) = none
back_to (Give a) = none
back_to (Step d a i) = none
back_to (Read d a w) = none
back_to (Write a w v) = none
back_to (Left d a) = none
back_to (Copy d a b n) = none
back_to (Fill d a v n) = none
back_to (Lock a) = none
back_to (Unlock a) = none
back_to (Again d k) = some k
back_to (Set d n) = none
back_to (Grid d a rows columns row column) = none

-- the record of an operation of the table, x k being its field k
abbrev pub build : ℕ → (ℕ → ℕ) → Record
build op x =
    cond (eqb op 1) (Get (x 0) (x 1))
    (cond (eqb op 2) (Give (x 0))
    (cond (eqb op 3) (Step (x 0) (x 1) (x 2))
    (cond (eqb op 4) (Read (x 0) (x 1) (x 2))
    (cond (eqb op 5) (Write (x 0) (x 1) (x 2))
    (cond (eqb op 6) (Left (x 0) (x 1))
    (cond (eqb op 7) (Copy (x 0) (x 1) (x 2) (x 3))
    (cond (eqb op 8) (Fill (x 0) (x 1) (x 2) (x 3))
    (cond (eqb op 9) (Lock (x 0))
    (cond (eqb op 10) (Unlock (x 0))
    (cond (eqb op 11) (Again (x 0) (x 1))
    (cond (eqb op 12) (Set (x 0) (x 1)) (Grid (x 0) (x 1) (x 2) (x 3) (x 4) (x 5)))))))))))))

unfoldable pub record_of : ℕ → List ℕ → Record
record_of op values = build op (λ k. get_or values k 0)
