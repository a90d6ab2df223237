-- A law of `WholeFiles` for each return and for a turn of the loop, from the head that was judged and the record that was not refused.
use mathlib.Core.Path.{◌≡◌, refl, sym, ◌∙◌}
use native.Mathlib.Omega.{arith}
use lib.ListN.{drop}
use Rattle.std.proofs.Common.{rules, ℕ, Bool, List}
use Rattle.common.specs.Numbers.{number_of}
use Rattle.takes.specs.Reading.{read_at}
use Rattle.takes.specs.Inner.{stray_at}
use Rattle.takes.specs.Files.{strays, head_number, judgement_of}
use Rattle.common.proofs.Numbers.{some-number}
use Rattle.takes.proofs.Readings.{the_record}
use Rattle.takes.proofs.Walks.{Next, next-judged}
use Rattle.takes.proofs.WholeFiles.{Head, head-accepted, judged-head, judging-start, judging-turn, judging-stop, judging-stray, judging-end}
use Rattle.takes.proofs.files.judge.Goals as goal
use Rattle.takes.proofs.files.judge.Goals.{After-next-at, In_ok-judge_head, In_ok-record}

pub returns-in_err-judge_head : goal.returns-in_err-judge_head
returns-in_err-judge_head c =
    let reason = c.in_err-judge_head.field-0.0 in
    let e : judgement_of c.from_residual.result ≡ record { number = number_of reason; size = 0; count = 0 } = search rules in
    e ∙ judged-head c.args.file.now (number_of reason) c.in_err-judge_head.ensures (some-number reason)

-- past the head's refusals
module _ (c : In_ok-judge_head) where
  no_number : 0 ≡ head_number c.args.file.now
  no_number = c.in_ok-judge_head.ensures

  head : Head c.args.file.now
  head = head-accepted c.args.file.now (sym no_number)

pub loop-at-init : goal.loop-at-init
loop-at-init c = judging-start c.args.file.now (head c).both

pub returns-in_err-record : goal.returns-in_err-record
returns-in_err-record c =
    let n = no_number (goal.at.returns-in_err-record c).In_ok-judge_head in
    let l = c.loop-at in
    let reason = c.in_err-record.field-0.0 in
    let e : judgement_of c.from_residual-in_err-record.result ≡ record { number = number_of reason; size = 0; count = 0 } = search rules in
    e ∙ judging-stop c.args.file.now n l.at l.count (number_of reason) l.invariant c.loop-at-test.true c.in_err-record.ensures.number (some-number reason)

-- a record that was not refused
module _ (c : In_ok-record) where
  good : (read_at c.args.file.now c.loop-at.at).number ≡ 0
  good = sym c.in_ok-record.ensures.number

  stray-here : (b : Bool) → b ≡ stray_at c.in_ok-record.record.file.now c.in_ok-record.record.at c.loop-at.count
      → strays c.loop-at.count (the_record (drop c.loop-at.at c.args.file.now)) ≡ b
  stray-here b e = let p = c.in_ok-record.ensures.place in rw (p.0, p.1) at (sym e)

pub returns-then-strays : goal.returns-then-strays
returns-then-strays c =
    let at = goal.at.returns-then-strays c in
    let file = c.args.file.now in
    let l = c.loop-at in
    judging-stray file (no_number at.In_ok-judge_head) l.at l.count _ _ l.invariant (next-judged file l.at (good at.In_ok-record) _ refl)
    (stray-here at.In_ok-record c.strays.result c.strays.ensures ∙ c.if-strays.true)

-- the place after a record that goes on, or back
module _ (c : After-next-at) where
  abbrev file : List ℕ
  file = c.args.file.now

  next-is : c.next-at.result ≡ (read_at file c.loop-at.at).next
  next-is = let p = c.in_ok-record.ensures.place in rw (p.0, p.1) at c.next-at.ensures

  after : Next file c.loop-at.at (the_record (drop c.loop-at.at file)) c.next-at.result
  after = next-judged file c.loop-at.at (sym c.in_ok-record.ensures.number) c.next-at.result next-is

pub loop-at-smaller : goal.loop-at-smaller
loop-at-smaller c = omega (arith, after c)

pub loop-at-preserved : goal.loop-at-preserved
loop-at-preserved c =
    let l = c.loop-at in
    judging-turn c.args.file.now l.at l.count _ c.next-at.result l.invariant (after c)
    (stray-here (goal.at.loop-at-preserved c).In_ok-record c.strays.result c.strays.ensures ∙ c.if-strays.false)

pub bounds-file-1 : goal.bounds-file-1
bounds-file-1 c = omega (arith, (head (goal.at.bounds-file-1 c).In_ok-judge_head).both)

pub returns : goal.returns
returns c =
    let n = no_number (goal.at.returns c).In_ok-judge_head in
    let l = c.loop-at in
    judging-end c.args.file.now n l.at l.count c.from.result l.invariant c.loop-at-test.false c.from.ensures
