-- The first byte is stored by itself and the value's four after it: together that is one store of five bytes (`over_first`).
use Rattle.std.proofs.Common.{◌%◌, sym, ◌∙◌, add-one, arith}
use Rattle.common.specs.Bytes.{bytes_of}
use Rattle.common.proofs.Bytes.{over_first}
use Rattle.heap.proofs.answers.store.Goals as goal

pub returns : goal.returns
returns c =
    let a = c.args in
    c.write_number.ensures
    ∙ sym (rw add-one (over_first a.out.now a.at (a.answer.number % 256) (bytes_of 4 a.answer.value) (omega (arith, c.requires))))
