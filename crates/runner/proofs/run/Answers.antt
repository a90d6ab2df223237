-- The upload's run is the inner run; that its count is that of the steps is the theorem.
use Rattle.std.proofs.Common.{◌∙◌}
use Rattle.runner.proofs.RunRefusals.{number-same}
use Rattle.runner.proofs.Budgets.{ran-counted}
use Rattle.runner.proofs.run.Goals as goal

pub returns : goal.returns
returns c =
    let k = c.run_by in
    record { ran = k.ensures; counted = λ z. ran-counted _ _ _ _ _ _ k.ensures (number-same k.result ∙ z) }
