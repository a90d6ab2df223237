-- Where a run stands between two records (`Going`), from the fresh heap to the end: it holds at the start, a record keeps it, and where no record is due, or
-- the budget is spent, it is what the run promises.
use Prim.Native.Nat.{ℕ, suc, ◌+◌, ◌-◌, ◌*◌, ◌≤◌, ◌<◌}
use mathlib.Core.Path.{◌≡◌, refl, sym, ◌∙◌, ap, ap₂, subst}
use mathlib.Core.Bool.{Bool, true, false}
use mathlib.Core.List.{List, ◌∷◌}
use mathlib.Core.Option.{some}
use native.Mathlib.Omega.{arith}
use native.Mathlib.Nat.{zero-add}
use lib.Dec.{ltb, eqb}
use lib.ListN.{length, get_or, set, drop, length-drop, length-set}
use lib.Seq.{drop-drop, get_or-set_same, get_or-set_other}
use borrow.Author.Tests.{ltb-true, ltb-false, le-ltb, eqb-true, eqb-false}
use Rattle.std.proofs.Common.{Result, Ok, Err, rules}
use Rattle.std.specs.Result.{IsOk}
use Rattle.common.specs.Bytes.{over}
use Rattle.common.specs.declared.reasons.Refusal.{Refusal as Reason}
use Rattle.takes.specs.Reading.{read_at}
use Rattle.takes.specs.Files.{Walk, ended, walk_from, head_length, strays, stray_from, file_number, records_of}
use Rattle.takes.specs.declared.Record.{Record}
use Rattle.common.proofs.Numbers.{some-number}
use Rattle.takes.proofs.Walks.{Next, found-next, from_end, accepted-here}
use Rattle.heap.specs.Views.{slot_order}
use Rattle.heap.specs.Effects.{Outcome}
use Rattle.heap.specs.Heaps.{Heap, heap_of, heap_fresh, fresh_heap, outcome}
use Rattle.heap.specs.Inner.{Sound}
use Rattle.heap.specs.Answers.{answer_length, answer_bytes, answer_of}
use Rattle.heap.specs.declared.Answer.{Answer}
use Rattle.heap.proofs.Judging.{Sized, fits-sized, fresh-heap}
use Rattle.history.proofs.CallLists.{slot-orders}
use Rattle.history.proofs.Soundness.{SoundHeap, fresh-sound}
use Rattle.heap.specs.Registers.{registers_at_first, held}
use Rattle.runner.specs.Decoding.{decoded, action_of, due_after, registers_after}
use Rattle.runner.specs.Machines.{Machine, machine_at_first, step_of, record_at, no_step, carry_out}
use Rattle.runner.specs.TakeRuns.{RunOutcome, ran_out}
use Rattle.runner.specs.Inner.{place_count, machine_of, run_from, Runnable, acted_in}
use Rattle.runner.specs.declared.actions.Action.{Action}
use Rattle.runner.proofs.Files.{accepted-file, few-records}
use Rattle.runner.proofs.Records.{due-next, acted-sound, one-step}
use Rattle.runner.proofs.Steps.{record-first, no_record, straight-first, none-due, run-next, run-over}

-- a call whose answer has the number 0 was not refused
answered : (x : Result ℕ Reason) → (answer_of x).number ≡ 0 → IsOk x
answered (Ok v) z = search rules
answered (Err reason) z = absurd (some-number reason z)

-- the lengths that the run may rely on
pub run-sized : {m b : ℕ} {file a tab out : List ℕ} → Runnable m b file a tab out → Sized slot_order a tab m
run-sized {m} {a = a} {tab = tab} r = fits-sized slot_order a tab m r.fits

-- the record i stands at the place `at`; with as many records as the file has, that is its end
pub record Placed (file : List ℕ) (at i : ℕ) : Type 0 where
  pub good : (walk_from file at).number ≡ 0
  pub inside : at ≤ length file
  pub to-come : (walk_from file at).records ≡ drop i (records_of file)

module _ {file : List ℕ} {at i : ℕ} (p : Placed file at i) (more : i < length (records_of file)) where
  placed-before : at < length file
  placed-before = go (ltb at (length file)) refl
    where
      go : (b : Bool) → ltb at (length file) ≡ b → at < length file
      go true e = ltb-true at (length file) e
      go false e =
          let w : walk_from file at ≡ ended 0 = from_end file at (ltb-false at (length file) e) in
          let n : length (drop i (records_of file)) ≡ 0 = sym (ap length p.to-come) ∙ ap (λ (w : Walk). length w.records) w in
          absurd (omega (arith, n, length-drop i (records_of file)))

  pub placed-good : (read_at file at).number ≡ 0
  placed-good = accepted-here file at p.good placed-before

  module _ (r : Record) (next : ℕ) (f : some r ≡ (read_at file at).found) (g : next ≡ (read_at file at).next) where
    found : Next file at r next
    found = found-next file at placed-good r next f g

    here : drop i (records_of file) ≡ r ∷ (walk_from file next).records
    here = sym p.to-come ∙ ap (λ (w : Walk). w.records) found.to-come

    pub placed-record : record_at (records_of file) i ≡ some r
    placed-record = record-first (records_of file) i r (walk_from file next).records here

    pub placed-next : Placed file next (i + 1)
    placed-next =
        record {
          good = sym (ap (λ (w : Walk). w.number) found.to-come) ∙ p.good;
          inside = found.inside;
          to-come = sym (ap (drop 1) here) ∙ drop-drop 1 i (records_of file);
        }

    pub placed-straight : stray_from 0 (records_of file) ≡ false → strays i r ≡ false
    placed-straight b = rw zero-add at (straight-first (records_of file) 0 i r (walk_from file next).records b here)

-- a place more: the places of the records up to i are known, and then that of the next
placed-more : (file places : List ℕ) (i : ℕ) → i + 1 < length places → ((j : ℕ) → j ≤ i → Placed file (get_or places j 0) j)
    → (next : ℕ) → Placed file next (i + 1) → (j : ℕ) → j ≤ i + 1 → Placed file (get_or (set places (i + 1) next) j 0) j
placed-more file places i room known next p j h = go (eqb j (i + 1)) refl
  where
    go : (b : Bool) → eqb j (i + 1) ≡ b → Placed file (get_or (set places (i + 1) next) j 0) j
    go true e = rw (eqb-true j (i + 1) e, get_or-set_same places (i + 1) next 0 room) p
    go false e =
        let d : j ≡ i + 1 → ⊥ = eqb-false j (i + 1) e in
        rw (get_or-set_other places (i + 1) j next 0 d) (known j (omega arith))

-- what is still to come from here gives what the whole run gives
pub record Going (m most : ℕ) (file out₀ a tab rs places out : List ℕ) (due done : ℕ) : Type 0 where
  -- the table is undamaged, so a run never scans it
  pub sound : Sound slot_order m a tab
  pub reached : due ≤ length (records_of file)
  -- of each record up to the one that is due, and so of each that a record can go back to, the place is known
  pub wide : length places ≡ place_count
  pub placed : (j : ℕ) → j ≤ due → Placed file (get_or places j 0) j
  pub rest : run_from (records_of file) (most - done) done (machine_of due a tab rs) out ≡ ran_out file most out₀

module _ {m most : ℕ} {file a tab out : List ℕ} (r : Runnable m most file a tab out) where
  first-place : Placed file head_length 0
  unfolding records_of
  first-place = let f = accepted-file file r.judged in record { good = f.records; inside = f.head.both; to-come = refl }

  run-start : (s : Machine) → s ≡ machine_at_first m → run_from (records_of file) (most - 0) 0 s out ≡ ran_out file most out
  run-start s e = let b : most - 0 ≡ most = omega arith in rw (e, r.same, b, zero-add (carry_out (records_of file) most (machine_at_first m)).steps)

  -- so the heap is made fresh
  pub fresh-ok : (a' tab' : List ℕ) (x : Result ℕ Reason) → outcome (answer_of x) a' tab' ≡ heap_fresh (heap_of a tab) → IsOk x
  fresh-ok a' tab' x e = answered x (ap (λ (o : Outcome Heap). o.answer.number) (e ∙ fresh-heap m a tab r.fits))

  pub going_start : (a' tab' rs places : List ℕ) (x : Answer) → outcome x a' tab' ≡ heap_fresh (heap_of a tab) → rs ≡ registers_at_first
      → length places ≡ place_count → get_or places 0 0 ≡ head_length → Going m most file out a' tab' rs places out 0 0
  going_start a' tab' rs places x e z n p =
      let s = run-sized r in
      let h : heap_of a' tab' ≡ fresh_heap m = ap (λ (o : Outcome Heap). o.state) (e ∙ fresh-heap m a tab r.fits) in
      record {
        sound = subst (SoundHeap slot_order m) (sym h) (fresh-sound (slot-orders m s.low s.high));
        reached = omega arith;
        wide = n;
        placed = λ j l. let j0 : j ≡ 0 = omega arith in rw (j0, p) first-place;
        rest = run-start (machine_of 0 a' tab' rs) (ap₂ (λ (h : Heap) (l : List ℕ). record { due = 0; heap = h; registers = l }) h z);
      }

module _ {m most : ℕ} {file out₀ a tab rs places out : List ℕ} {due done : ℕ} (g : Going m most file out₀ a tab rs places out due done) where
  abbrev now : Machine
  now = machine_of due a tab rs

  -- what is there with n records carried out
  abbrev left-by : ℕ → Bool → RunOutcome
  left-by n stopped = record { number = 0; registers = rs; count = n; stopped = stopped; heap = heap_of a tab; answers = out }

  nothing-left : carry_out (records_of file) (most - done) now ≡ no_step now → left-by done (ltb due (length (records_of file))) ≡ ran_out file most out₀
  nothing-left e = sym (run-over (records_of file) (most - done) done now out e) ∙ g.rest

  -- no record is due
  pub file-ended : length (records_of file) ≤ due → left-by done false ≡ ran_out file most out₀
  file-ended l =
      ap (left-by done) (sym (le-ltb due (length (records_of file)) l))
      ∙ nothing-left (none-due (records_of file) (most - done) now (no_record (records_of file) due l))

  -- the budget is spent
  pub budget-spent : done ≡ most → left-by most (ltb due (length (records_of file))) ≡ ran_out file most out₀
  unfolding carry_out
  budget-spent e =
      let z : most - done ≡ 0 = omega arith in
      ap (λ (n : ℕ). left-by n (ltb due (length (records_of file)))) (sym e) ∙ nothing-left (rw z)

  module _ (judged : file_number file ≡ 0) (left : due < length (records_of file)) where
    -- the places have room for the next
    pub in-places : due + 1 < place_count
    in-places = omega (arith, few-records file judged)

    -- the place of the record that is due
    module _ (at : ℕ) (known : at ≡ get_or places due 0) where
      pub here-placed : Placed file at due
      here-placed = rw known (g.placed due (omega arith))

      -- the rest of the run, after a step
      abbrev step-on : Outcome Machine → RunOutcome
      step-on o = run_from (records_of file) (most - (done + 1)) (done + 1) o.state (over out (answer_length * done) (answer_bytes o.answer))

      module _ (r : Record) (next : ℕ) (f : some r ≡ (read_at file at).found) (q : next ≡ (read_at file at).next) where
        pub going_step : (c : Action) (x : Answer) (a' tab' rs' out' : List ℕ) (j : ℕ) → done < most → c ≡ action_of rs r
            → outcome x a' tab' ≡ acted_in m c (heap_of a tab) → rs' ≡ registers_after r x rs → j ≡ due_after c due
            → out' ≡ over out (answer_length * done) (answer_bytes x) → answer_length * done + answer_length ≤ length out
            → Going m most file out₀ a' tab' rs' (set places (due + 1) next) out' j (done + 1)
        going_step c x a' tab' rs' out' j more e o u d w h =
            let p : Placed file at due = here-placed in
            let one : record { answer = x; state = machine_of j a' tab' rs' } ≡ step_of r now =
            one-step m a tab g.sound r due rs c x a' tab' rs' j e o u d in
            let straight : strays due r ≡ false = placed-straight p left r next f q (accepted-file file judged).straight in
            let near : j ≤ due + 1 = rw (d, e) (due-next r (held rs (decoded r).a) (held rs (decoded r).b) due straight) in
            let b : most - done ≡ suc (most - (done + 1)) = omega arith in
            let after : step-on (step_of r now) ≡ ran_out file most out₀ =
            sym (run-next (records_of file) (most - (done + 1)) done now out r (placed-record p left r next f q) h) ∙ (rw b at g.rest) in
            record {
              sound =
                  subst (SoundHeap slot_order m) (sym (ap (λ (o : Outcome Machine). o.state.heap) one)) (acted-sound m a tab g.sound (action_of rs r));
              reached = omega (arith, near);
              wide = length-set places (due + 1) next ∙ g.wide;
              placed =
                  λ i t.
                  placed-more file places due (omega (arith, in-places, g.wide)) g.placed next (placed-next p left r next f q) i (omega (arith, near));
              rest = rw w (ap step-on one ∙ after);
            }
