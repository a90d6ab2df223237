-- A number that no operation has is refused; that of an operation is stored as the record that `structured` makes.
use Rattle.std.proofs.Common.{◌≡◌, ◌∙◌, arith, rules}
use Rattle.heap.specs.Answers.{answer_of}
use Rattle.heap.specs.OperationNumbers.{number_of}
use Rattle.cabi.specs.Flat.{write_outcome_by, unknown}
use Rattle.cabi.proofs.Flat.{unknown-is, known_is, counted}
use Rattle.cabi.proofs.write_flat.Goals as goal

pub returns-in_err-operation : goal.returns-in_err-operation
returns-in_err-operation c =
    let e : write_outcome_by (answer_of c.from_residual.result) c.args.out.now ≡ unknown c.args.out.now = search rules in
    e ∙ unknown-is c.args.item c.args.out.now (grind (arith, c.in_err-operation.ensures.1))

pub returns : goal.returns
returns c =
    let named : number_of c.in_ok-operation.operation ≡ c.args.item.operation = omega (arith, c.in_ok-operation.ensures) in
    counted c.write_record.result c.write_record.new.out
    ∙ known_is c.args.item c.args.out.now c.in_ok-operation.operation named c.structured.ensures c.write_record.ensures
