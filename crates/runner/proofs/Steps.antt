-- Steps by the definition: which record is due, a step more, and how many steps a budget splits into.
use Prim.Native.Nat.{ℕ, zero, suc, ◌+◌, ◌*◌, ◌≤◌, ◌<◌}
use mathlib.Core.Path.{◌≡◌, refl, ap}
use mathlib.Core.Bool.{false}
use mathlib.Core.List.{List, [], ◌∷◌}
use mathlib.Core.Option.{Option, none, some, none-ne-some}
use native.Mathlib.Omega.{arith}
use native.Mathlib.Nat.{le_of_suc-le-suc, not-suc-le-zero}
use lib.ListN.{length, drop}
use Rattle.common.specs.Bytes.{over}
use Rattle.common.proofs.Booleans.{or-false-left, or-false-right}
use Rattle.takes.specs.Files.{strays, stray_from}
use Rattle.takes.specs.declared.Record.{Record}
use Rattle.heap.specs.Answers.{answer_length, answer_bytes}
use Rattle.heap.proofs.AnswerBytes.{answers_next, answers-none}
use Rattle.runner.specs.Machines.{Machine, step_of, record_at, is_due, Carried, no_step, step_then, onwards, carry_out}
use Rattle.runner.specs.TakeRuns.{most_steps, allowed}
use Rattle.runner.specs.Inner.{run_from}

-- the first of the records from an index on is the record of that index
pub record-first : (rs : List Record) (i : ℕ) (r : Record) (later : List Record) → drop i rs ≡ r ∷ later → record_at rs i ≡ some r
record-first [] zero r later e = absurd (omega (arith, ap length e))
record-first [] (suc i) r later e = absurd (omega (arith, ap length e))
record-first (x ∷ rs) zero r later e = let f : x ≡ r = cc in ap some f
record-first (x ∷ rs) (suc i) r later e = record-first rs i r later e

pub no_record : (rs : List Record) (i : ℕ) → length rs ≤ i → record_at rs i ≡ none
no_record [] i h = refl
no_record (x ∷ rs) zero h = absurd (not-suc-le-zero h)
no_record (x ∷ rs) (suc i) h = no_record rs i (le_of_suc-le-suc h)

pub some-record : (rs : List Record) (i : ℕ) → i < length rs → (r : Record) × (record_at rs i ≡ some r)
some-record [] i h = absurd (not-suc-le-zero h)
some-record (x ∷ rs) zero h = (x, refl)
some-record (x ∷ rs) (suc i) h = some-record rs i (le_of_suc-le-suc h)

-- of records that do not stray, none does
pub straight-first : (rs : List Record) (k i : ℕ) (r : Record) (later : List Record) → stray_from k rs ≡ false → drop i rs ≡ r ∷ later
    → strays (k + i) r ≡ false
unfolding stray_from
straight-first [] k zero r later b e = absurd (omega (arith, ap length e))
straight-first [] k (suc i) r later b e = absurd (omega (arith, ap length e))
straight-first (x ∷ rs) k zero r later b e =
    let f : x ≡ r = cc in
    let n : k + 0 ≡ k = omega arith in
    rw (n, ← f) (or-false-left (strays k x) (stray_from (suc k) rs) b)
straight-first (x ∷ rs) k (suc i) r later b e =
    let n : k + suc i ≡ suc k + i = omega arith in
    rw n (straight-first rs (suc k) i r later (or-false-right (strays k x) (stray_from (suc k) rs) b) e)

module _ (rs : List Record) where
  -- no record is due
  pub none-due : (b : ℕ) (s : Machine) → record_at rs s.due ≡ none → carry_out rs b s ≡ no_step s
  unfolding carry_out
  none-due zero s e = refl
  none-due (suc b) s e = rw e

  pub a-step-more : (b : ℕ) (s : Machine) (r : Record) → record_at rs s.due ≡ some r → carry_out rs (suc b) s ≡ step_then (step_of r s) (carry_out rs b)
  unfolding carry_out
  a-step-more b s r e = rw e

  -- of a run: the record that is due is carried out, and then the rest on what it left
  pub run-next : (b done : ℕ) (s : Machine) (out : List ℕ) (r : Record) → record_at rs s.due ≡ some r
      → answer_length * done + answer_length ≤ length out
      → run_from rs (suc b) done s out ≡ run_from rs b (done + 1) (step_of r s).state (over out (answer_length * done) (answer_bytes (step_of r s).answer))
  run-next b done s out r e h =
      let c : Carried = carry_out rs b (step_of r s).state in
      let n : done + suc c.steps ≡ done + 1 + c.steps = omega arith in
      let p : answer_length * (done + 1) ≡ answer_length * done + answer_length = omega arith in
      let w = answers_next out (answer_length * done) (step_of r s).answer c.answers h in
      rw (a-step-more b s r e, n, p, ← w)

  -- and where none is, or the budget is spent, what is there is what it gives
  pub run-over : (b done : ℕ) (s : Machine) (out : List ℕ) → carry_out rs b s ≡ no_step s
      → run_from rs b done s out
      ≡ record { number = 0; registers = s.registers; count = done; stopped = is_due rs s; heap = s.heap; answers = out }
  run-over b done s out e = let n : done + 0 ≡ done = omega arith in rw (e, n, answers-none out (answer_length * done))

  -- no more steps than the budget
  pub steps-within : (b : ℕ) (s : Machine) → (carry_out rs b s).steps ≤ b
  unfolding carry_out
  steps-within zero s = omega arith
  steps-within (suc b) s = go (record_at rs s.due) (steps-within b)
    where
      go : (o : Option Record) → ((s : Machine) → (carry_out rs b s).steps ≤ b) → (onwards (carry_out rs b) o s).steps ≤ suc b
      go none next = omega arith
      go (some r) next = omega (arith, next (step_of r s).state)

-- a budget allows no more than the most
pub allowed-most : (b : ℕ) → allowed b ≤ most_steps
allowed-most b = omega arith

-- a record that is there has an index below their count
pub record-within : (rs : List Record) (i : ℕ) (r : Record) → record_at rs i ≡ some r → i < length rs
record-within [] i r e = absurd (none-ne-some r e)
record-within (x ∷ rs) zero r e = omega arith
record-within (x ∷ rs) (suc i) r e = omega (arith, record-within rs i r e)
