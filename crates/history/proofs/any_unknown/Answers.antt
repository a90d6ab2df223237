use mathlib.Core.Path.{sym, ◌∙◌}
use Rattle.history.proofs.Encoding.{unknown-found, known-here, none-unknown}
use Rattle.history.proofs.any_unknown.Goals as goal

pub returns-then-not-names_call : goal.returns-then-not-names_call
returns-then-not-names_call c =
    sym (c.loop-i.invariant ∙ unknown-found _ _ _ c.loop-i-test.true (sym c.names_call.ensures ∙ c.if-not-names_call.true))

pub loop-i-preserved : goal.loop-i-preserved
loop-i-preserved c = c.loop-i.invariant ∙ known-here _ _ _ c.loop-i-test.true (sym c.names_call.ensures ∙ c.if-not-names_call.false)

pub returns : goal.returns
returns c = sym (c.loop-i.invariant ∙ none-unknown _ _ _ c.loop-i-test.false)
