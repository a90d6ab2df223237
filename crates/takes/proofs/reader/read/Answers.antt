-- A refused record's reading is refused with its number (`refused-reading`).
use mathlib.Core.Path.{◌≡◌, ◌∙◌}
use Rattle.std.proofs.Common.{rules}
use Rattle.common.specs.Numbers.{number_of}
use Rattle.takes.specs.Reading.{record_refused, given}
use Rattle.common.proofs.Numbers.{some-number}
use Rattle.takes.proofs.Readings.{refused-reading}
use Rattle.takes.proofs.reader.read.Goals as goal

pub returns-in_err-record : goal.returns-in_err-record
returns-in_err-record c =
    let reason = c.in_err-record.field-0.0 in
    let e : given c.from_residual.result ≡ record_refused (number_of reason) = search rules in
    e ∙ refused-reading c.args.file.now c.args.at (number_of reason) c.in_err-record.ensures.number (some-number reason)
