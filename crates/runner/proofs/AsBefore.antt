-- A take with neither again nor set: no record goes back, so its records are due in their order, and the run ends after the last. Both rules for the answer
-- slice are met where there is room for the budget.
use Prim.Native.Nat.{ℕ, zero, suc, ◌+◌, ◌*◌, ◌≤◌}
use mathlib.Core.Path.{◌≡◌, refl, sym, ◌∙◌, ap}
use mathlib.Core.Bool.{Bool, true, false, true≢false}
use mathlib.Core.List.{List, [], ◌∷◌}
use native.Mathlib.Omega.{arith}
use native.Mathlib.Numerals.{add-one}
use native.Mathlib.Nat.{zero-add}
use lib.Dec.{eqb}
use lib.ListN.{length, drop, length-drop}
use lib.Seq.{drop-drop}
use borrow.Author.Tests.{le-ltb, eqb-true, eqb-false}
use Rattle.common.specs.Refusals.{first}
use Rattle.takes.specs.Records.{operation}
use Rattle.takes.specs.Files.{size_byte, file_number, records_of}
use Rattle.takes.specs.JudgedBefore.{added, has_added, JudgedAsBefore}
use Rattle.takes.specs.declared.Record.{Record}
use Rattle.takes.specs.declared.Record.TheVariants.{Get as get, Give as give, Step as step, Read as read}
use Rattle.takes.specs.declared.Record.TheVariants.{Write as write, Left as left, Copy as copy, Fill as fill, Lock as lock, Unlock as unlock}
use Rattle.takes.specs.declared.Record.TheVariants.{Again as again, Set as assign, Grid as grid}
use Rattle.takes.proofs.JudgedBefore.{NoneAdded, none-added, neither-judged-as-before}
use Rattle.heap.specs.Effects.{Outcome}
use Rattle.heap.specs.Heaps.{Heap, fresh_heap}
use Rattle.heap.specs.Answers.{answer_length}
use Rattle.heap.specs.Registers.{registers_at_first, held}
use Rattle.runner.specs.Decoding.{decoded, action_of, registers_after, due_after}
use Rattle.runner.specs.Machines.{acted, Carried, carry_out}
use Rattle.runner.specs.TakeRuns.{most_steps, allowed, run_rules, ran_out, run_settled, run_by}
use Rattle.runner.specs.AsBefore.{Before, straight_out, rules_before, settled_before, run_before, NeitherAsBefore}
use Rattle.runner.proofs.Files.{few-records}
use Rattle.runner.proofs.Steps.{record-first, no_record, none-due, a-step-more}

-- the next record is due after a record of neither operation
next-due : (r : Record) (p q i : ℕ) → added (operation r) ≡ false → due_after ((decoded r).action p q) i ≡ suc i
next-due (get d n) p q i b = refl
next-due (give a) p q i b = refl
next-due (step d a j) p q i b = refl
next-due (read d a w) p q i b = refl
next-due (write a w v) p q i b = refl
next-due (left d a) p q i b = refl
next-due (copy d a e n) p q i b = refl
next-due (fill d a v n) p q i b = refl
next-due (lock a) p q i b = refl
next-due (unlock a) p q i b = refl
next-due (again d k) p q i b = absurd (true≢false b)
next-due (assign d n) p q i b = absurd (true≢false b)
next-due (grid d a rows columns row column) p q i b = refl

-- the records from the one that is due on, as they were carried out before
abbrev straightly : List Record → ℕ → Before → Carried
straightly rest due c =
    record { steps = length rest; answers = c.answers; last = record { due = due + length rest; heap = c.heap; registers = c.registers } }

straight : (rs rest : List Record) (b due : ℕ) (h : Heap) (l : List ℕ) → NoneAdded rest → drop due rs ≡ rest → length rest ≤ b
    → carry_out rs b (record { due = due; heap = h; registers = l }) ≡ straightly rest due (straight_out rest h l)
unfolding straight_out
straight rs [] b due h l n e k =
    let z : due + 0 ≡ due = omega arith in
    rw z (none-due rs b (record { due = due; heap = h; registers = l }) (no_record rs due (omega (arith, length-drop due rs, ap length e))))
straight rs (r ∷ rest) zero due h l n e k = absurd (omega arith)
straight rs (r ∷ rest) (suc b) due h l n e k =
    let o : Outcome Heap = acted (action_of l r) h in
    let m : due + suc (length rest) ≡ suc due + length rest = omega arith in
    let t : drop (suc due) rs ≡ rest = sym (ap (λ (i : ℕ). drop i rs) (add-one due)) ∙ (sym (drop-drop 1 due rs) ∙ ap (drop 1) e) in
    let next = straight rs rest b (suc due) o.state (registers_after r o.answer l) n.1 t (omega arith) in
    a-step-more rs b (record { due = due; heap = h; registers = l }) r (record-first rs due r rest e)
    ∙ rw (next-due r (held l (decoded r).a) (held l (decoded r).b) due n.0, next, m)

module _ (panel : Bool) (file : List ℕ) (h : Heap) (out : List ℕ) (n : has_added file ≡ false) (b : ℕ) where
  abbrev judged : JudgedAsBefore file
  judged = neither-judged-as-before file n

  -- an accepted run
  ran-straight : length (records_of file) ≤ allowed b → ran_out file (allowed b) out ≡ settled_before 0 file h out
  ran-straight k =
      rw (
        ← judged.records,
        straight (records_of file) (records_of file) (allowed b) 0 (fresh_heap (size_byte file)) registers_at_first (none-added file n) refl k,
        zero-add (length (records_of file)),
        le-ltb (length (records_of file)) (length (records_of file)) (omega arith),
      )

  -- a run with the number z
  settled-alike : (z : ℕ) → (z ≡ 0 → length (records_of file) ≤ allowed b) → run_settled z file b h out ≡ settled_before z file h out
  settled-alike zero k = ran-straight (k refl)
  settled-alike (suc z) k = refl

  module _ (room : answer_length * allowed b ≤ length out) where
    same_number : length (records_of file) ≤ allowed b → first (run_rules panel file b h out) ≡ first (rules_before panel file h out)
    same_number few =
        rw (
          ← judged.number,
          ← judged.records,
          le-ltb (length out) (answer_length * allowed b) room,
          le-ltb (length out) (answer_length * length (records_of file)) (omega (arith, few)),
        )

    as_before : (file_number file ≡ 0 → length (records_of file) ≤ allowed b) → run_by panel file b h out ≡ run_before panel file h out
    unfolding run_by run_before
    as_before k = go (eqb (file_number file) 0) refl
      where
        go : (t : Bool) → eqb (file_number file) 0 ≡ t
            → run_settled (first (run_rules panel file b h out)) file b h out ≡ settled_before (first (rules_before panel file h out)) file h out
        go true e =
            let few = k (eqb-true (file_number file) 0 e) in rw (same_number few) (settled-alike (first (rules_before panel file h out)) (λ z. few))
        go false e = rw (← judged.number, e) (settled-alike (file_number file) (λ z. absurd (eqb-false (file_number file) 0 e z)))

pub neither-as-before : NeitherAsBefore
neither-as-before panel file h out n =
    record {
      enough = λ b few room. as_before panel file h out n b room (λ z. few);
      largest = λ b most room.
          let e : allowed b ≡ most_steps = omega arith in
          as_before panel file h out n b (omega arith) (λ z. omega (arith, few-records file z));
    }
