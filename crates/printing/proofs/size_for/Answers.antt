-- An accepted file has a size byte that is an order of an arena, so what has no size byte, or one above the largest order, is none.
use Rattle.std.proofs.Common.{arith}
use Rattle.runner.proofs.Files.{accepted-file}
use Rattle.printing.proofs.size_for.Goals as goal

pub returns-in_err-get-clause-value : goal.returns-in_err-get-clause-value
returns-in_err-get-clause-value c = λ z. absurd (omega (arith, (accepted-file c.args.file.now z).head.both, c.in_err-get.ensures.lookup))

pub returns-then-m-gt-LARGEST_ARENA-clause-value : goal.returns-then-m-gt-LARGEST_ARENA-clause-value
returns-then-m-gt-LARGEST_ARENA-clause-value c = λ z. absurd (grind (arith, (accepted-file c.args.file.now z).head.high))
