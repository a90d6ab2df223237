-- How many steps a run made, when it stopped, and what a larger budget keeps. A budget of b + d steps is b steps and then d more (`carry-split`), and steps are
-- what the definition carries out (`steps-carried`).
use Prim.Native.Nat.{ℕ, zero, suc, ◌+◌, ◌-◌, ◌*◌, ◌<◌}
use mathlib.Core.Path.{◌≡◌, refl, sym, ◌∙◌, ap, subst}
use mathlib.Core.Bool.{Bool, true}
use mathlib.Core.List.{List, [], ◌∷◌, ◌++◌, append_assoc, append-nil}
use mathlib.Core.Option.{Option, none, some, none-ne-some}
use native.Mathlib.Omega.{arith}
use native.Mathlib.Nat.{zero-add, suc-add, add-zero}
use lib.ListN.{length, take, drop, length-append}
use lib.Seq.{take_at}
use borrow.Author.Tests.{ltb-true, ltb-false, lt-ltb}
use Rattle.common.specs.Bytes.{over}
use Rattle.common.proofs.Bytes.{length-bytes_of}
use Rattle.takes.specs.Files.{size_byte, records_of}
use Rattle.takes.specs.declared.Record.{Record}
use Rattle.heap.specs.Heaps.{Heap}
use Rattle.heap.specs.Answers.{answer_length, answer_bytes, answers_bytes}
use Rattle.heap.specs.declared.Answer.{Answer}
use Rattle.runner.specs.Machines.{Machine, machine_at_first, step_of, record_at, is_due, Carried, no_step, onwards, carry_out}
use Rattle.runner.specs.TakeRuns.{allowed, ran_out, RunOutcome, run_by}
use Rattle.runner.specs.Budgets.{Steps, no-step, a-step, StillDue, Counted, AcceptedCounted, BudgetKeeps, LargerKeeps}
use Rattle.runner.proofs.Steps.{no_record, some-record, record-within, none-due, steps-within}
use Rattle.runner.proofs.RunRefusals.{accepted-run}

-- the bytes of answers, five for each, and of two lists of them
answers-length : (xs : List Answer) → length (answers_bytes xs) ≡ answer_length * length xs
unfolding answers_bytes
answers-length [] = refl
answers-length (x ∷ xs) =
    let n : length (answer_bytes x) ≡ answer_length = ap suc (length-bytes_of 4 x.value) in
    omega (arith, length-append (answer_bytes x) (answers_bytes xs), n, answers-length xs)

answers-append : (xs ys : List Answer) → answers_bytes (xs ++ ys) ≡ answers_bytes xs ++ answers_bytes ys
unfolding answers_bytes
answers-append [] ys = refl
answers-append (x ∷ xs) ys =
    ap (λ (l : List ℕ). answer_bytes x ++ l) (answers-append xs ys) ∙ sym (append_assoc (answer_bytes x) (answers_bytes xs) (answers_bytes ys))

-- the first answers that a slice was given
first-answers : (out : List ℕ) (xs ys : List Answer) → take (answer_length * length xs) (over out 0 (answers_bytes (xs ++ ys))) ≡ answers_bytes xs
unfolding over
first-answers out xs ys =
    let rest : List ℕ = drop (0 + length (answers_bytes xs ++ answers_bytes ys)) out in
    rw (answers-append xs ys, append_assoc (answers_bytes xs) (answers_bytes ys) rest)
    (take_at (answers_bytes xs) (answers_bytes ys ++ rest) (answer_length * length xs) (answers-length xs))

module _ (rs : List Record) where
  -- what is carried out are steps, an answer for each
  carried-steps : (b : ℕ) (s : Machine) → let c = carry_out rs b s in Steps rs c.steps s c.answers c.last
  unfolding carry_out
  carried-steps zero s = no-step
  carried-steps (suc b) s = go (record_at rs s.due) refl (carried-steps b)
    where
      go : (o : Option Record) → record_at rs s.due ≡ o
          → ((s : Machine) → let c = carry_out rs b s in Steps rs c.steps s c.answers c.last)
          → let c = onwards (carry_out rs b) o s in Steps rs c.steps s c.answers c.last
      go none e next = no-step
      go (some r) e next = a-step e (next (step_of r s).state)

  carried-answers : (b : ℕ) (s : Machine) → length (carry_out rs b s).answers ≡ (carry_out rs b s).steps
  unfolding carry_out
  carried-answers zero s = refl
  carried-answers (suc b) s = go (record_at rs s.due) (carried-answers b)
    where
      go : (o : Option Record) → ((s : Machine) → length (carry_out rs b s).answers ≡ (carry_out rs b s).steps)
          → length (onwards (carry_out rs b) o s).answers ≡ (onwards (carry_out rs b) o s).steps
      go none next = refl
      go (some r) next = ap suc (next (step_of r s).state)

  -- steps are what is carried out with a budget of as many
  steps-carried : {n : ℕ} {s u : Machine} {xs : List Answer} → Steps rs n s xs u → carry_out rs n s ≡ record { steps = n; answers = xs; last = u }
  unfolding carry_out
  steps-carried no-step = refl
  steps-carried (a-step e more) = rw (e, steps-carried more)

  -- with a record still due the budget is spent
  all-spent : (b : ℕ) (s : Machine) → (carry_out rs b s).last.due < length rs → (carry_out rs b s).steps ≡ b
  unfolding carry_out
  all-spent zero s h = refl
  all-spent (suc b) s h = go (record_at rs s.due) refl (all-spent b) h
    where
      go : (o : Option Record) → record_at rs s.due ≡ o
          → ((s : Machine) → (carry_out rs b s).last.due < length rs → (carry_out rs b s).steps ≡ b)
          → (onwards (carry_out rs b) o s).last.due < length rs → (onwards (carry_out rs b) o s).steps ≡ suc b
      go none e next h = absurd (none-ne-some (some-record rs s.due h).0 (sym e ∙ (some-record rs s.due h).1))
      go (some r) e next h = ap suc (next (step_of r s).state h)

  -- a budget of b + d is one of b, and then one of d from where it led
  abbrev joined : Carried → Carried → Carried
  joined c e = record { steps = c.steps + e.steps; answers = c.answers ++ e.answers; last = e.last }

  carry-split : (b d : ℕ) (s : Machine) → carry_out rs (b + d) s ≡ joined (carry_out rs b s) (carry_out rs d (carry_out rs b s).last)
  unfolding carry_out
  carry-split zero d s = rw (zero-add d, zero-add (carry_out rs d s).steps)
  carry-split (suc b) d s = rw (suc-add b d) (go (record_at rs s.due) refl (carry-split b d))
    where
      go : (o : Option Record) → record_at rs s.due ≡ o
          → ((s : Machine) → carry_out rs (b + d) s ≡ joined (carry_out rs b s) (carry_out rs d (carry_out rs b s).last))
          → onwards (carry_out rs (b + d)) o s ≡ joined (onwards (carry_out rs b) o s) (carry_out rs d (onwards (carry_out rs b) o s).last)
      go none e next = rw (none-due rs d s e)
      go (some r) e next =
          let c : Carried = carry_out rs b (step_of r s).state in
          rw (next (step_of r s).state, suc-add c.steps (carry_out rs d c.last).steps)

-- a run that is not refused
module _ (file : List ℕ) (b : ℕ) (out : List ℕ) where
  abbrev records : List Record
  records = records_of file

  abbrev begin : Machine
  begin = machine_at_first (size_byte file)

  abbrev done : Carried
  done = carry_out records (allowed b) begin

  spent-then : is_due records done.last ≡ true → done.steps ≡ allowed b
  spent-then e = all-spent records (allowed b) begin (ltb-true done.last.due (length records) e)

  still-due : is_due records done.last ≡ true → StillDue file (allowed b)
  still-due e =
      let r = some-record records done.last.due (ltb-true done.last.due (length records) e) in
      record {
        answers = done.answers;
        last = done.last;
        steps = subst (λ (n : ℕ). Steps records n begin done.answers done.last) (spent-then e) (carried-steps records (allowed b) begin);
        record-due = r.0;
        due = r.1;
      }

  due-then : StillDue file (allowed b) → is_due records done.last ≡ true
  due-then d =
      let l : done.last ≡ d.last = ap (λ (c : Carried). c.last) (steps-carried records d.steps) in
      rw l (lt-ltb d.last.due (length records) (record-within records d.last.due d.record-due d.due))

  counted : Counted file b out (ran_out file (allowed b) out)
  counted =
      record {
        answers = done.answers;
        last = done.last;
        steps = carried-steps records (allowed b) begin;
        heap = refl;
        registers = refl;
        answered = carried-answers records (allowed b) begin;
        bytes = refl;
        within = steps-within records (allowed b) begin;
        stops = still-due;
        due-stops = due-then;
        spent = spent-then;
        ends = λ e. no_record records done.last.due (ltb-false done.last.due (length records) e);
      }

pub accepted-counted : AcceptedCounted
accepted-counted panel file b h out z = rw (accepted-run panel file b h out z) (counted file b out)

-- what a run returned and left, o being that in its terms
pub ran-counted : (panel : Bool) (file : List ℕ) (b : ℕ) (h : Heap) (out : List ℕ) (o : RunOutcome) → o ≡ run_by panel file b h out → o.number ≡ 0
    → Counted file b out o
ran-counted panel file b h out o e z =
    subst (Counted file b out) (sym e) (accepted-counted panel file b h out (sym (ap (λ (o : RunOutcome). o.number) e) ∙ z))

-- two of them, the second with d steps more at the most
module _ (file : List ℕ) (n d : ℕ) (out : List ℕ) where
  abbrev of : List Record
  of = records_of file

  abbrev small : Carried
  small = carry_out of n (machine_at_first (size_byte file))

  abbrev more : Carried
  more = carry_out of d small.last

  split : carry_out of (n + d) (machine_at_first (size_byte file)) ≡ joined of small more
  split = carry-split of n d (machine_at_first (size_byte file))

  same-answers : take (answer_length * small.steps) (over out 0 (answers_bytes (small.answers ++ more.answers)))
      ≡ take (answer_length * small.steps) (over out 0 (answers_bytes small.answers))
  same-answers =
      rw (← carried-answers of n (machine_at_first (size_byte file)))
      (first-answers out small.answers more.answers
      ∙ sym (rw append-nil at (first-answers out small.answers [])))

  keeps : BudgetKeeps (ran_out file n out) (ran_out file (n + d) out)
  keeps =
      rw split
      (record {
        count = omega arith;
        answers = same-answers;
        ended = λ e.
            let none_left : more ≡ no_step small.last =
            none-due of d small.last (no_record of small.last.due (ltb-false small.last.due (length of) e)) in
            rw (none_left, append-nil small.answers, add-zero small.steps);
      })

pub larger-keeps : LargerKeeps
larger-keeps panel file b more h out l z w =
    let e : allowed more ≡ allowed b + (allowed more - allowed b) = omega arith in
    rw (accepted-run panel file b h out z, accepted-run panel file more h out w, e) (keeps file (allowed b) (allowed more - allowed b) out)
