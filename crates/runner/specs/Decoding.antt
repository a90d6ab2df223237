-- Document 01, "A take", with requests 7, 9 and 10 of document 02: a record decoded: what it does with the sixteen registers, and which record is due after it.
use Rattle.std.specs.Prelude.{ℕ, suc, ◌-◌, true, false, cond, List, eqb}
use Rattle.std.proofs.Math.Option.{Option, none, some}
use Rattle.takes.specs.declared.Record.{Record}
use Rattle.takes.specs.declared.Record.TheVariants.{Get as get, Give as give, Step as step, Read as read}
use Rattle.takes.specs.declared.Record.TheVariants.{Write as write, Left as left, Copy as copy, Fill as fill, Lock as lock, Unlock as unlock}
use Rattle.takes.specs.declared.Record.TheVariants.{Again as again, Set as assign, Grid as grid}
use Rattle.heap.specs.declared.Answer.{Answer}
use Rattle.heap.specs.declared.Call.TheVariants.{Get, Give, Step, Read, Write, Left, Copy, Fill, SetLock, Grid}
use Rattle.heap.specs.Registers.{held, put_where}
use Rattle.runner.specs.declared.actions.Action.{Action}
use Rattle.runner.specs.declared.actions.Action.TheVariants.{Makes, Gives, GoesBack}

-- What a record asks for: its registers a and b, 0 where it has none; what it does with their values p and q; and the register d that its value goes to. It
-- makes a call, or gives a value without one, and with that it may go back to the record of an index.
pub record Decoded : Type 0 where
  pub a : ℕ
  pub b : ℕ
  pub action : ℕ → ℕ → Action
  pub d : Option ℕ

abbrev pub decoded : Record → Decoded
decoded (get d n) = record { a = 0; b = 0; action = λ p q. Makes (Get n); d = some d }
decoded (give a) = record { a = a; b = 0; action = λ p q. Makes (Give p); d = none }
decoded (step d a i) = record { a = a; b = 0; action = λ p q. Makes (Step p i); d = some d }
decoded (read d a w) = record { a = a; b = 0; action = λ p q. Makes (Read p w); d = some d }
decoded (write a w v) = record { a = a; b = 0; action = λ p q. Makes (Write p w v); d = none }
decoded (left d a) = record { a = a; b = 0; action = λ p q. Makes (Left p); d = some d }
decoded (copy d a b n) = record { a = a; b = b; action = λ p q. Makes (Copy p q n); d = some d }
decoded (fill d a v n) = record { a = a; b = 0; action = λ p q. Makes (Fill p v n); d = some d }
decoded (lock a) = record { a = a; b = 0; action = λ p q. Makes (SetLock p true); d = none }
decoded (unlock a) = record { a = a; b = 0; action = λ p q. Makes (SetLock p false); d = none }
-- unless d is 0, one is taken from it, and the record k is due
decoded (again d k) = record { a = d; b = 0; action = λ p q. cond (eqb p 0) (Gives 0) (GoesBack (p - 1) k); d = some d }
decoded (assign d n) = record { a = 0; b = 0; action = λ p q. Gives n; d = some d }
decoded (grid d a rows columns row column) = record { a = a; b = 0; action = λ p q. Makes (Grid p rows columns row column); d = some d }

-- what a record does: p and q are the values in a and b
abbrev pub action_of : List ℕ → Record → Action
action_of rs r = (decoded r).action (held rs (decoded r).a) (held rs (decoded r).b)

-- the registers after a record: the value in d, if it was not refused
unfoldable pub registers_after : Record → Answer → List ℕ → List ℕ
registers_after r x rs = cond (eqb x.number 0) (put_where (decoded r).d x.value rs) rs

-- the record due after the record i, by what it did
abbrev pub due_after : Action → ℕ → ℕ
due_after (Makes c) i = suc i
due_after (Gives v) i = suc i
due_after (GoesBack v k) i = k
