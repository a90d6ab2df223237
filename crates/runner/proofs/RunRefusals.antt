-- A run's refusals: each is the first that applies where the code returns it (`by-..`), and where none does the records are carried out (`run-done`).
use Prim.Native.Nat.{ℕ, zero, suc, ◌*◌, ◌≤◌, ◌<◌}
use mathlib.Core.Path.{◌≡◌, refl, sym, ◌∙◌, ap}
use mathlib.Core.Bool.{Bool, true, false, cond, ◌&&◌}
use mathlib.Core.List.{List}
use native.Mathlib.Omega.{arith}
use Rattle.std.proofs.Common.{Result, Ok, Err}
use lib.Dec.{eqb, ltb}
use lib.ListN.{length}
use borrow.Author.Tests.{eqb-true, eqb-false, ne_eqb, lt-ltb, le-ltb, ltb-false}
use Rattle.common.specs.Refusals.{first}
use Rattle.common.proofs.Refusals.{clear-one, clear-number}
use Rattle.common.specs.Numbers.{number_of, number_in}
use Rattle.common.specs.declared.reasons.Refusal.{Refusal as Reason}
use Rattle.takes.specs.Files.{size_byte, file_number, records_of, Judgement, judgement_of, judgement}
use Rattle.takes.specs.declared.Judged.{Judged as Found}
use Rattle.common.proofs.Numbers.{some-number}
use Rattle.heap.specs.Views.{slot_order}
use Rattle.heap.specs.Heaps.{Heap, heap_of, wrong_sizes}
use Rattle.heap.specs.Answers.{answer_length}
use Rattle.heap.specs.Registers.{registers_at_first}
use Rattle.runner.specs.Machines.{machine_at_first}
use Rattle.runner.specs.TakeRuns.{most_steps, allowed, screenful, crowded, run_rules, RunOutcome, ran_of, ran_to, ran_out, run_settled, run_by, run_of}
use Rattle.runner.specs.Inner.{Runnable}
use Rattle.runner.specs.declared.Ran.{Ran}
use Rattle.runner.specs.declared.RunReport.{RunReport}
use Rattle.runner.proofs.Steps.{allowed-most, steps-within}

-- the judgement of a file, b telling whether it is accepted
abbrev judged_as : List ℕ → Bool → Judgement
judged_as file b =
    cond b (record { number = 0; size = size_byte file; count = length (records_of file) }) (record { number = file_number file; size = 0; count = 0 })

pub judge-refused : (file : List ℕ) (reason : Reason) → judgement_of (Err reason) ≡ judgement file → file_number file ≡ number_of reason
judge-refused file reason e = go (eqb (file_number file) 0) e
  where
    go : (b : Bool) → judgement_of (Err reason) ≡ judged_as file b → file_number file ≡ number_of reason
    go true e = absurd (some-number reason (ap (λ (j : Judgement). j.number) e))
    go false e = sym (ap (λ (j : Judgement). j.number) e)

-- an accepted file, its size and its count
pub record Judged (file : List ℕ) (j : Found) : Type 0 where
  pub judged : file_number file ≡ 0
  pub size : size_byte file ≡ j.size
  pub count : length (records_of file) ≡ j.count

pub judge-accepted : (file : List ℕ) (j : Found) → judgement_of (Ok j) ≡ judgement file → Judged file j
judge-accepted file j e = go (eqb (file_number file) 0) refl e
  where
    go : (b : Bool) → eqb (file_number file) 0 ≡ b → judgement_of (Ok j) ≡ judged_as file b → Judged file j
    go true q e =
        record {
          judged = eqb-true (file_number file) 0 q;
          size = sym (ap (λ (j : Judgement). j.size) e);
          count = sym (ap (λ (j : Judgement). j.count) e);
        }
    go false q e = absurd (eqb-false (file_number file) 0 q (sym (ap (λ (j : Judgement). j.number) e)))

-- the panel's own rule, by the two tests that the code makes of it, n being the count of the records
module _ (panel : Bool) (file : List ℕ) where
  pub screen-full : (n : ℕ) → length (records_of file) ≡ n → panel ≡ true → ltb screenful n ≡ true → (panel && crowded file) ≡ true
  screen-full n e p b = rw (e, p, b)

  pub screen-room : (n : ℕ) → length (records_of file) ≡ n → ltb screenful n ≡ false → (panel && crowded file) ≡ false
  screen-room n e b = go panel
    where
      go : (p : Bool) → (p && crowded file) ≡ false
      go true = ap (ltb screenful) e ∙ b
      go false = refl

  pub no-screen : panel ≡ false → (panel && crowded file) ≡ false
  no-screen p = rw p

-- of a run by either caller on what is lent
module _ (panel : Bool) (file : List ℕ) (b : ℕ) (a tab out : List ℕ) where
  -- the first refusal that applies
  abbrev number : ℕ
  number = first (run_rules panel file b (heap_of a tab) out)

  -- what is returned with the number k, nothing changed, is the run's outcome
  abbrev RefusedBy : ℕ → Type 0
  RefusedBy k =
      ran_to (record { number = k; registers = record { values = registers_at_first }; count = 0; stopped = false }) a tab out
      ≡ run_by panel file b (heap_of a tab) out

  refused-by : (k : ℕ) → (k ≡ 0 → ⊥) → number ≡ k → RefusedBy k
  unfolding run_by
  refused-by zero d z = absurd (d refl)
  refused-by (suc k) d z = rw z

  pub by-file : (reason : Reason) → file_number file ≡ number_of reason → RefusedBy (number_of reason)
  by-file reason e = refused-by (number_of reason) (some-number reason) (rw (ne_eqb (file_number file) 0 (λ z. some-number reason (sym e ∙ z)), e))

  pub by-screen : file_number file ≡ 0 → (panel && crowded file) ≡ true → RefusedBy 26
  by-screen z s = refused-by 26 (λ z. omega arith) (rw (z, s))

  module _ (z : file_number file ≡ 0) (s : (panel && crowded file) ≡ false) where
    pub by-sizes : wrong_sizes slot_order (size_byte file) (heap_of a tab) ≡ true → RefusedBy 8
    by-sizes w = refused-by 8 (λ z. omega arith) (rw (z, s, w))

    module _ (w : wrong_sizes slot_order (size_byte file) (heap_of a tab) ≡ false) where
      fits : (x : Bool) → ltb (length out) (answer_length * allowed b) ≡ x → number ≡ cond x 9 0
      fits x l = rw (z, s, w, l)

      pub by-room : length out < answer_length * allowed b → RefusedBy 9
      by-room l = refused-by 9 (λ z. omega arith) (fits true (lt-ltb (length out) (answer_length * allowed b) l))

      by-none : answer_length * allowed b ≤ length out → number ≡ 0
      by-none l = fits false (le-ltb (length out) (answer_length * allowed b) l)

  pub run-done : (m most : ℕ) → most ≡ allowed b → Runnable m most file a tab out → (panel && crowded file) ≡ false → (r : Ran) (a' tab' out' : List ℕ)
      → ran_to r a' tab' out' ≡ ran_out file most out → ran_to r a' tab' out' ≡ run_by panel file b (heap_of a tab) out
  unfolding run_by
  run-done m most q g s r a' tab' out' e = rw (by-none g.judged s (rw g.same g.fits) (rw (← q) g.room), ← q) e

-- the number that the code's answer has
pub number-same : (r : Result RunReport Reason) → (ran_of r).number ≡ number_in r
number-same (Ok report) = refl
number-same (Err reason) = refl

pub settled-number : (k : ℕ) (file : List ℕ) (b : ℕ) (h : Heap) (out : List ℕ) → (run_settled k file b h out).number ≡ k
settled-number zero file b h out = refl
settled-number (suc k) file b h out = refl

-- of a run that was accepted no rule applies, and there was room for the answers that the budget allows
module _ (panel : Bool) (file : List ℕ) (b : ℕ) (h : Heap) (out : List ℕ) (z : (run_by panel file b h out).number ≡ 0) where
  none-applies : first (run_rules panel file b h out) ≡ 0
  unfolding run_by
  none-applies = sym (settled-number (first (run_rules panel file b h out)) file b h out) ∙ z

  pub accepted-run : run_by panel file b h out ≡ ran_out file (allowed b) out
  unfolding run_by
  accepted-run = rw none-applies

  pub accepted-room : answer_length * allowed b ≤ length out
  accepted-room =
      let short : Bool = ltb (length out) (answer_length * allowed b) in
      let wrong : Bool = wrong_sizes slot_order (size_byte file) h in
      let two = clear-number (file_number file) (cond (panel && crowded file) 26 (cond wrong 8 (cond short 9 0))) none-applies in
      let three = clear-one 26 (panel && crowded file) (cond wrong 8 (cond short 9 0)) (λ z. omega arith) two.1 in
      let four = clear-one 8 wrong (cond short 9 0) (λ z. omega arith) three.1 in
      let five = clear-one 9 short 0 (λ z. omega arith) four.1 in
      ltb-false (length out) (answer_length * allowed b) five.0

-- an accepted upload had room for its answers
pub ran-room : (file : List ℕ) (b : ℕ) (out : List ℕ) (h : Heap) (r : Ran) (a tab out' : List ℕ) → ran_to r a tab out' ≡ run_of file b h out → r.number ≡ 0
    → answer_length * r.count ≤ length out
ran-room file b out h r a tab out' e z =
    let n : (run_of file b h out).number ≡ 0 = sym (ap (λ (o : RunOutcome). o.number) e) ∙ z in
    let k : r.count ≡ (ran_out file (allowed b) out).count = ap (λ (o : RunOutcome). o.count) (e ∙ accepted-run false file b h out n) in
    omega (arith, accepted-room false file b h out n, steps-within (records_of file) (allowed b) (machine_at_first (size_byte file)))

-- an upload on memory that fits its file is refused by the file alone, whatever its budget
module _ (file : List ℕ) (b : ℕ) (a tab out : List ℕ) (p : file_number file ≡ 0 → wrong_sizes slot_order (size_byte file) (heap_of a tab) ≡ false)
    (l : answer_length * most_steps ≤ length out) where
  first-is : number false file b a tab out ≡ file_number file
  first-is = go (eqb (file_number file) 0) refl
    where
      go : (t : Bool) → eqb (file_number file) 0 ≡ t → number false file b a tab out ≡ file_number file
      go true e =
          let z : file_number file ≡ 0 = eqb-true (file_number file) 0 e in
          by-none false file b a tab out z refl (p z) (omega (arith, allowed-most b)) ∙ sym z
      go false e = rw e

  pub ran-number : (r : Ran) (a' tab' out' : List ℕ) → ran_to r a' tab' out' ≡ run_of file b (heap_of a tab) out → r.number ≡ file_number file
  unfolding run_by
  ran-number r a' tab' out' e =
      ap (λ (o : RunOutcome). o.number) e ∙ (settled-number (number false file b a tab out) file b (heap_of a tab) out ∙ first-is)
