-- The loop keeps `Going`, and each return has what the run promises: no record is due, or the budget is spent.
use Rattle.std.proofs.Common.{◌≡◌, ℕ, ◌+◌, ◌<◌, ◌∙◌, List, length, set, refl, sym, ap, arith}
use Rattle.takes.specs.Reading.{read_at}
use Rattle.takes.specs.Files.{records_of}
use Rattle.takes.specs.Inner.{record_there}
use Rattle.takes.specs.declared.Record.{Record}
use Rattle.takes.proofs.Readings.{good-record}
use Rattle.heap.specs.Heaps.{outcome}
use Rattle.heap.specs.Answers.{answer_of}
use Rattle.heap.specs.declared.Answer.{Answer}
use Rattle.runner.specs.Decoding.{decoded, registers_after}
use Rattle.runner.specs.Inner.{place_count, as_option, issued_with, stored_in}
use Rattle.runner.specs.declared.actions.Issued.{Issued}
use Rattle.runner.proofs.Files.{accepted-file, few-records}
use Rattle.runner.proofs.Records.{good-low, stored-there, stored-nowhere, stored-low}
use Rattle.runner.proofs.Running.{Placed, Going, fresh-ok, going_start, file-ended, budget-spent, here-placed, in-places, going_step}
use Rattle.runner.proofs.Running.{placed-good, placed-next}
use Rattle.runner.proofs.carry_out.Goals as goal
use Rattle.runner.proofs.carry_out.Goals.{Else-count-due, After-from-at, After-stored_in, in-Some, in_default}

pub unwrap-requires : goal.unwrap-requires
unwrap-requires c = fresh-ok c.requires.runnable c.fresh.new.arena c.fresh.new.table c.fresh.result c.fresh.ensures

pub loop-done-init : goal.loop-done-init
loop-done-init c =
    let f = c.fresh in
    going_start c.requires.runnable f.new.arena f.new.table c.at_first-registers.result.values _ (answer_of f.result) f.ensures c.at_first-registers.ensures
    refl refl

pub returns-then-count-due : goal.returns-then-count-due
returns-then-count-due c = file-ended c.loop-done.invariant (omega (arith, c.requires.counted, c.if-count-due.true))

-- a record is due
module _ (c : Else-count-due) where
  left : c.loop-done.due < length (records_of c.args.file.now)
  left = omega (arith, c.if-count-due.false, c.requires.counted)

  in-room : c.loop-done.due + 1 < place_count
  in-room = in-places c.loop-done.invariant c.requires.runnable.judged left

pub offset_bounds-places-due : goal.offset_bounds-places-due
offset_bounds-places-due c =
    omega (arith, in-places c.loop-done.invariant c.requires.runnable.judged (omega (arith, c.if-count-due.false, c.requires.counted)))

pub bounds-places-due : goal.bounds-places-due
bounds-places-due c =
    omega (arith, in-places c.loop-done.invariant c.requires.runnable.judged (omega (arith, c.if-count-due.false, c.requires.counted)))

-- and its place is known
module _ (c : After-from-at) (l : c.loop-done.due < length (records_of c.args.file.now)) where
  here : Placed c.args.file.now c.from-at.result c.loop-done.due
  here = here-placed c.loop-done.invariant c.requires.runnable.judged l c.from-at.result c.from-at.ensures

  good : (read_at c.args.file.now c.from-at.result).number ≡ 0
  good = placed-good here l

pub invariant_of-accepted : goal.invariant_of-accepted
invariant_of-accepted c =
    record { good = good (goal.at.invariant_of-accepted c).After-from-at (left (goal.at.invariant_of-accepted c).Else-count-due) }

pub overflow_cast-places-in-loop-done : goal.overflow_cast-places-in-loop-done
overflow_cast-places-in-loop-done c =
    let l = left (goal.at.overflow_cast-places-in-loop-done c).Else-count-due in
    let f = (goal.at.overflow_cast-places-in-loop-done c).After-from-at in
    let file = c.args.file.now in
    let found = good-record file c.from-at.result (good f l) (record_there file c.from-at.result) refl in
    let next = placed-next (here f l) l (record_there file c.from-at.result) c.next.result found c.next.ensures in
    omega (arith, next.inside, (accepted-file file c.requires.runnable.judged).head.short)

pub offset_bounds-places-due-in-loop-done : goal.offset_bounds-places-due-in-loop-done
offset_bounds-places-due-in-loop-done c = omega (arith, in-room (goal.at.offset_bounds-places-due-in-loop-done c).Else-count-due)

pub bounds-places-due-in-loop-done : goal.bounds-places-due-in-loop-done
bounds-places-due-in-loop-done c = in-room (goal.at.bounds-places-due-in-loop-done c).Else-count-due

pub due_after-due-requires : goal.due_after-due-requires
due_after-due-requires c =
    omega (arith, left (goal.at.due_after-due-requires c).Else-count-due, few-records c.args.file.now c.requires.runnable.judged)

-- it is carried out, and its answer is stored: where the run stands once the value is in its register
module _ (c : After-stored_in) where
  -- the record that was due
  abbrev item : Record
  item = record_there c.args.file.now c.from-at.result

  abbrev x : Answer
  x = c.from-answer.result

  abbrev values : List ℕ
  values = c.loop-done.registers.values

  issued : c.issue-issued.result ≡ issued_with values item
  issued = c.issue-issued.ensures

  stored : c.stored_in.result ≡ stored_in (as_option (decoded item).d) x
  unfolding issued_with
  stored =
      c.stored_in.ensures
      ∙ (ap (λ (r : Issued). stored_in r.d (answer_of c.carry_out_one-outcome.result)) issued
      ∙ ap (λ (y : Answer). stored_in (as_option (decoded item).d) y) (sym c.from-answer.ensures))

  on : c.loop-done.due < length (records_of c.args.file.now) → (read_at c.args.file.now c.from-at.result).number ≡ 0
      → (rs : List ℕ) → rs ≡ registers_after item x values
      → Going c.args.m c.args.most c.args.file.now c.args.answers.now
      c.carry_out_one-outcome.new.arena c.carry_out_one-outcome.new.table rs
      (set c.loop-done.places (c.loop-done.due + 1) c.next.result) c.store.new.out c.due_after-due.result (c.loop-done.done + 1)
  unfolding issued_with
  on l g rs e =
      let k = c.carry_out_one-outcome in
      let found = good-record c.args.file.now c.from-at.result g item refl in
      going_step c.loop-done.invariant c.requires.runnable.judged l c.from-at.result c.from-at.ensures item c.next.result found c.next.ensures
      c.issue-issued.result.action x k.new.arena k.new.table rs c.store.new.out c.due_after-due.result (omega arith)
      (ap (λ (r : Issued). r.action) issued) (ap (λ (y : Answer). outcome y k.new.arena k.new.table) c.from-answer.ensures ∙ k.ensures) e
      c.due_after-due.ensures c.store.ensures
      (omega (arith, c.loop-done-test.true, c.requires.runnable.room, c.loop-done.auto.answers))

pub bounds-registers-from : goal.bounds-registers-from
bounds-registers-from c =
    let b = (goal.at.bounds-registers-from c).Else-count-due in
    let s = (goal.at.bounds-registers-from c).After-stored_in in
    let low = (good-low c.args.file.now c.from-at.result (good (goal.at.bounds-registers-from c).After-from-at (left b))).2 in
    rw c.from.ensures (stored-low (item s) (x s) (values s) c.in-Some.d low (sym c.in-Some.is ∙ stored s))

pub loop-done-preserved : goal.loop-done-preserved
loop-done-preserved c =
    let l = left (goal.at.loop-done-preserved c).Else-count-due in
    let s = (goal.at.loop-done-preserved c).After-stored_in in
    let go = on s l (good (goal.at.loop-done-preserved c).After-from-at l) in
    elim c.match-stored_in.branch [
      | in-Some w ↦ rw (w.registers-is, w.from.ensures) (go _ (stored-there (item s) (x s) (values s) w.in-Some.d (sym w.in-Some.is ∙ stored s)))
      | in_default w ↦ rw w.registers-is (go _ (stored-nowhere (item s) (x s) (values s) (sym w.in_default.is ∙ stored s)))
    ]

pub returns : goal.returns
returns c =
    let e = budget-spent c.loop-done.invariant (omega (arith, c.loop-done-test.false, c.loop-done.auto.done-end)) in rw (← c.requires.counted) e
