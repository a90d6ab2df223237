-- The panel's run is the inner run; that it is the upload's where it accepts, or the screen can list the take, is a theorem, and so is its count.
use Rattle.std.proofs.Common.{◌≡◌, sym, ◌∙◌, ap}
use Rattle.runner.specs.TakeRuns.{RunOutcome, ran_of, panel_of}
use Rattle.runner.proofs.Panel.{panel-as-upload}
use Rattle.runner.proofs.RunRefusals.{number-same}
use Rattle.runner.proofs.Budgets.{ran-counted}
use Rattle.runner.proofs.run_panel.Goals as goal

pub returns : goal.returns
returns c =
    let k = c.run_by in
    let same = panel-as-upload _ _ _ _ in
    let number : (ran_of k.result).number ≡ (panel_of _ _ _ _).number = ap (λ (o : RunOutcome). o.number) k.ensures in
    record {
      ran = k.ensures;
      accepted_as_upload = λ z. k.ensures ∙ same.accepted (sym number ∙ (number-same k.result ∙ z));
      listed_as_upload = λ l. k.ensures ∙ same.listed l;
      counted = λ z. ran-counted _ _ _ _ _ _ k.ensures (number-same k.result ∙ z);
    }
