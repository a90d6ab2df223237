-- One record carried out: the registers that it takes from and puts to, what it does to a sound heap, and the record due after it. By the kinds of record.
use Prim.Native.Nat.{ℕ, ◌+◌, ◌-◌, ◌≤◌, ◌<◌}
use mathlib.Core.Path.{◌≡◌, refl, ◌∙◌, ap}
use mathlib.Core.Bool.{Bool, true, false, cond}
use mathlib.Core.List.{List}
use mathlib.Core.Option.{Option, none, some}
use native.Mathlib.Omega.{arith}
use lib.Dec.{eqb}
use lib.ListN.{length, set, drop}
use borrow.Author.Tests.{leb-false}
use Rattle.blocks.specs.Orders.{order_of}
use Rattle.takes.specs.Operations.{kinds_of}
use Rattle.takes.specs.Records.{operation, fields}
use Rattle.takes.specs.Reading.{high_register, read_at}
use Rattle.takes.specs.Inner.{record_there}
use Rattle.takes.specs.Files.{strays}
use Rattle.takes.proofs.Fields.{low_field}
use Rattle.takes.proofs.Readings.{good-record}
use Rattle.takes.proofs.Walks.{found-next}
use Rattle.takes.proofs.RoundTrips.{read_low}
use Rattle.takes.specs.declared.Record.{Record}
use Rattle.takes.specs.declared.Record.TheVariants.{Get as get, Give as give, Step as step, Read as read}
use Rattle.takes.specs.declared.Record.TheVariants.{Write as write, Left as left, Copy as copy, Fill as fill, Lock as lock, Unlock as unlock}
use Rattle.takes.specs.declared.Record.TheVariants.{Again as again, Set as assign, Grid as grid}
use Rattle.heap.specs.Effects.{Outcome}
use Rattle.heap.specs.Views.{slot_order}
use Rattle.heap.specs.Heaps.{Heap, heap_of, heap_step, heap_call, outcome}
use Rattle.heap.specs.Inner.{Sound}
use Rattle.heap.specs.declared.Answer.{Answer}
use Rattle.heap.proofs.Judging.{sound-sized}
use Rattle.heap.specs.Registers.{register_count, put_where}
use Rattle.history.proofs.Soundness.{SoundHeap, call-sound}
use Rattle.runner.specs.Decoding.{decoded, action_of, registers_after, due_after}
use Rattle.runner.specs.Machines.{acted, step_of}
use Rattle.runner.specs.Inner.{machine_of, acted_in, as_option, is_low, LowRegisters, stored_in}
use Rattle.std.proofs.Common.{Some, None}
use Rattle.runner.specs.declared.actions.Action.{Action}
use Rattle.runner.specs.declared.actions.Action.TheVariants.{Makes, Gives, GoesBack}

-- a register that a record of the file takes from, or that its value goes to, is one of the sixteen
low-registers : (r : Record) → high_register (kinds_of (operation r)) (fields r) ≡ false → LowRegisters r
unfolding kinds_of
low-registers (get d n) h = (omega arith, omega arith, low_field (kinds_of 1) (fields (get d n)) 0 h refl)
low-registers (give a) h = (low_field (kinds_of 2) (fields (give a)) 0 h refl, omega arith, tt)
low-registers (step d a i) h = (low_field (kinds_of 3) (fields (step d a i)) 1 h refl, omega arith, low_field (kinds_of 3) (fields (step d a i)) 0 h refl)
low-registers (read d a w) h = (low_field (kinds_of 4) (fields (read d a w)) 1 h refl, omega arith, low_field (kinds_of 4) (fields (read d a w)) 0 h refl)
low-registers (write a w v) h = (low_field (kinds_of 5) (fields (write a w v)) 0 h refl, omega arith, tt)
low-registers (left d a) h = (low_field (kinds_of 6) (fields (left d a)) 1 h refl, omega arith, low_field (kinds_of 6) (fields (left d a)) 0 h refl)
low-registers (copy d a b n) h = (
  low_field (kinds_of 7) (fields (copy d a b n)) 1 h refl,
  low_field (kinds_of 7) (fields (copy d a b n)) 2 h refl,
  low_field (kinds_of 7) (fields (copy d a b n)) 0 h refl,
)
low-registers (fill d a v n) h = (low_field (kinds_of 8) (fields (fill d a v n)) 1 h refl, omega arith, low_field (kinds_of 8) (fields (fill d a v n)) 0 h refl)
low-registers (lock a) h = (low_field (kinds_of 9) (fields (lock a)) 0 h refl, omega arith, tt)
low-registers (unlock a) h = (low_field (kinds_of 10) (fields (unlock a)) 0 h refl, omega arith, tt)
low-registers (again d k) h = (low_field (kinds_of 11) (fields (again d k)) 0 h refl, omega arith, low_field (kinds_of 11) (fields (again d k)) 0 h refl)
low-registers (assign d n) h = (omega arith, omega arith, low_field (kinds_of 12) (fields (assign d n)) 0 h refl)
low-registers (grid d a rows columns row column) h = (
  low_field (kinds_of 13) (fields (grid d a rows columns row column)) 1 h refl,
  omega arith,
  low_field (kinds_of 13) (fields (grid d a rows columns row column)) 0 h refl,
)

-- so it is of one that was judged and found good
pub good-low : (file : List ℕ) (at : ℕ) → (read_at file at).number ≡ 0 → LowRegisters (record_there file at)
good-low file at good =
    let n = found-next file at good (record_there file at) (read_at file at).next (good-record file at good (record_there file at) refl) refl in
    low-registers (record_there file at) (rw n.the-record (read_low (drop at file) n.whole))

-- the registers once a record's value is stored where the code stores it: in the register d, or nowhere
module _ (r : Record) (x : Answer) (rs : List ℕ) where
  pub stored-there : (d : ℕ) → Some d ≡ stored_in (as_option (decoded r).d) x → set rs d x.value ≡ registers_after r x rs
  unfolding registers_after
  stored-there d e = go (eqb x.number 0) (decoded r).d e
    where
      go : (b : Bool) (o : Option ℕ) → Some d ≡ cond b (as_option o) None → set rs d x.value ≡ cond b (put_where o x.value rs) rs
      go true none e = cc
      go true (some c) e = cc
      go false o e = cc

  pub stored-nowhere : None ≡ stored_in (as_option (decoded r).d) x → rs ≡ registers_after r x rs
  unfolding registers_after
  stored-nowhere e = go (eqb x.number 0) (decoded r).d e
    where
      go : (b : Bool) (o : Option ℕ) → None ≡ cond b (as_option o) None → rs ≡ cond b (put_where o x.value rs) rs
      go true none e = refl
      go true (some c) e = cc
      go false o e = refl

  pub stored-low : (d : ℕ) → is_low (decoded r).d → Some d ≡ stored_in (as_option (decoded r).d) x → d < register_count
  stored-low d l e = go (eqb x.number 0) (decoded r).d l e
    where
      go : (b : Bool) (o : Option ℕ) → is_low o → Some d ≡ cond b (as_option o) None → d < register_count
      go true none l e = absurd cc
      go true (some c) l e = let same : d ≡ c = cc in omega arith
      go false o l e = absurd cc

-- a record that goes back goes to one before it; any other has the next after it
pub due-next : (r : Record) (p q i : ℕ) → strays i r ≡ false → due_after ((decoded r).action p q) i ≤ i + 1
due-next (get d n) p q i b = omega arith
due-next (give a) p q i b = omega arith
due-next (step d a j) p q i b = omega arith
due-next (read d a w) p q i b = omega arith
due-next (write a w v) p q i b = omega arith
due-next (left d a) p q i b = omega arith
due-next (copy d a e n) p q i b = omega arith
due-next (fill d a v n) p q i b = omega arith
due-next (lock a) p q i b = omega arith
due-next (unlock a) p q i b = omega arith
due-next (again d k) p q i b = go (eqb p 0)
  where
    go : (z : Bool) → due_after (cond z (Gives 0) (GoesBack (p - 1) k)) i ≤ i + 1
    go true = omega arith
    go false = omega (arith, leb-false i k b)
due-next (assign d n) p q i b = omega arith
due-next (grid d a rows columns row column) p q i b = omega arith

-- a sound heap has its arena's order, and a record leaves it sound
module _ (m : ℕ) (a tab : List ℕ) (s : Sound slot_order m a tab) where
  acted-in : (c : Action) → acted_in m c (heap_of a tab) ≡ acted c (heap_of a tab)
  unfolding heap_call
  acted-in (Makes c) = let e : m ≡ order_of (length a) = (sound-sized slot_order a tab s).same in ap (λ (n : ℕ). heap_step slot_order n c (heap_of a tab)) e
  acted-in (Gives v) = refl
  acted-in (GoesBack v k) = refl

  pub acted-sound : (c : Action) → SoundHeap slot_order m (acted c (heap_of a tab)).state
  acted-sound (Makes c) = call-sound m (heap_of a tab) s c
  acted-sound (Gives v) = s
  acted-sound (GoesBack v k) = s

  -- what the code does for one record is a step: c is what the record does, by its registers, x the answer
  pub one-step : (r : Record) (i : ℕ) (rs : List ℕ) (c : Action) (x : Answer) (a' tab' rs' : List ℕ) (j : ℕ) → c ≡ action_of rs r
      → outcome x a' tab' ≡ acted_in m c (heap_of a tab) → rs' ≡ registers_after r x rs → j ≡ due_after c i
      → record { answer = x; state = machine_of j a' tab' rs' } ≡ step_of r (machine_of i a tab rs)
  one-step r i rs c x a' tab' rs' j e q u w =
      let o : outcome x a' tab' ≡ acted (action_of rs r) (heap_of a tab) = q ∙ (acted-in c ∙ ap (λ (c : Action). acted c (heap_of a tab)) e) in
      rw (u, w, e)
      (ap
      (λ (o : Outcome Heap). record {
        answer = o.answer;
        state = record { due = due_after (action_of rs r) i; heap = o.state; registers = registers_after r o.answer rs };
      })
      o)
