-- A law of `Rewriting` for each return and for a turn of the loop: the file was accepted, so the record that comes next is accepted, and its place known.
use mathlib.Core.Path.{◌≡◌, refl, sym, ◌∙◌}
use native.Mathlib.Omega.{arith}
use Rattle.std.proofs.Common.{rules}
use Rattle.common.specs.Numbers.{number_of}
use Rattle.takes.specs.Reading.{read_at}
use Rattle.takes.specs.Files.{size_byte, file_number}
use Rattle.takes.specs.Writing.{write_outcome, written_of}
use Rattle.common.proofs.Numbers.{some-number}
use Rattle.takes.proofs.Walks.{Next, found-next, accepted-here}
use Rattle.takes.proofs.WholeFiles.{Head, head-accepted, file-accepted}
use Rattle.takes.proofs.Rewriting.{number-judged, size-judged, rewriting-start, rewriting-turn, rewriting-end}
use Rattle.takes.proofs.Rewriting.{rewrite-refused, rewrite-short}
use Rattle.takes.proofs.writer.rewrite.Goals as goal
use Rattle.takes.proofs.writer.rewrite.Goals.{After-next-at, In_ok-judged, In-loop-at}

pub returns-in_err-judged : goal.returns-in_err-judged
returns-in_err-judged c =
    let reason = c.in_err-judged.field-0.0 in
    let e : write_outcome (written_of c.from_residual.result) c.args.out.now ≡ record { number = number_of reason; count = 0; slice = c.args.out.now } =
    search rules in
    e
    ∙ rewrite-refused c.args.file.now c.args.out.now (number_of reason) (number-judged c.args.file.now _ c.in_err-judged.ensures) (some-number reason)

-- an accepted file
module _ (c : In_ok-judged) where
  good : file_number c.args.file.now ≡ 0
  good = sym (number-judged c.args.file.now _ c.in_ok-judged.ensures)

  size : c.in_ok-judged.judged.size ≡ size_byte c.args.file.now
  size = size-judged c.args.file.now _ c.in_ok-judged.ensures refl

  head : Head c.args.file.now
  head = head-accepted c.args.file.now (file-accepted c.args.file.now good).head

pub returns-then-out-file : goal.returns-then-out-file
returns-then-out-file c = rewrite-short c.args.file.now c.args.out.now (good (goal.at.returns-then-out-file c).In_ok-judged) c.if-out-file.true

-- once its head is written
pub loop-at-init : goal.loop-at-init
loop-at-init c =
    let e = (goal.at.loop-at-init c).In_ok-judged in
    rewriting-start c.args.file.now c.args.out.now c.in_ok-judged.judged.size (written_of c.write_head.result) c.write_head.new.out (good e) (size e)
    c.if-out-file.false c.write_head.ensures c.write_head.auto.out

-- in the loop: the record that comes next is accepted
here : (c : In-loop-at) → (read_at c.args.file.now c.loop-at.at).number ≡ 0
here c = accepted-here c.args.file.now c.loop-at.at c.loop-at.invariant.accepted c.loop-at-test.true

pub invariant_of-record : goal.invariant_of-record
invariant_of-record c = record { good = here (goal.at.invariant_of-record c).In-loop-at }

-- and the place after it is known
next-is : (c : After-next-at) → Next c.args.file.now c.loop-at.at c.read.result c.next-at.result
next-is c =
    let h = accepted-here c.args.file.now c.loop-at.at c.loop-at.invariant.accepted c.loop-at-test.true in
    found-next c.args.file.now c.loop-at.at h c.read.result c.next-at.result c.read.ensures c.next-at.ensures

pub loop-at-smaller : goal.loop-at-smaller
loop-at-smaller c = omega (arith, next-is c)

pub loop-at-preserved : goal.loop-at-preserved
loop-at-preserved c =
    let l = c.loop-at in
    let w = c.write_record in
    rewriting-turn c.args.file.now c.write_head.new.out l.out l.at c.read.result c.next-at.result (written_of w.result) w.new.out
    (λ i. omega (arith, c.type_inv.file i)) l.invariant (next-is c) w.ensures

pub overflow_cast-result : goal.overflow_cast-result
overflow_cast-result c = omega (arith, head (goal.at.overflow_cast-result c).In_ok-judged)

pub shape_of-out : goal.shape_of-out
shape_of-out c = c.loop-at.invariant.same ∙ c.write_head.auto.out

pub returns : goal.returns
returns c =
    let e = (goal.at.returns c).In_ok-judged in
    let l = c.loop-at in
    rewriting-end c.args.file.now c.args.out.now c.in_ok-judged.judged.size (written_of c.write_head.result) c.write_head.new.out (good e) (size e)
    c.if-out-file.false c.write_head.ensures l.at l.out l.invariant c.loop-at-test.false
