use Rattle.std.proofs.Common.{ℕ, ◌≡◌, ◌+◌, ◌-◌, ◌∙◌, sym, arith}
use Rattle.std.proofs.lemmas.Bool.{cases_lt}
use mathlib.Core.Logic.{inl, inr}
use Rattle.common.proofs.Copies.{copy-end, rising-turn, falling-rest}
use Rattle.common.proofs.copy.Goals.{then-to-from, else-to-from}
use Rattle.common.proofs.copy.Goals as goal

pub loop-done-preserved : goal.loop-done-preserved
loop-done-preserved c =
    let a = c.args in
    let l = c.loop-done in
    let n = c.min-n.result in
    let i : ℕ = c.if-to-from.start in
    elim c.if-to-from.branch [
      | then-to-from w ↦ (
        omega arith,
        λ d.
            let same : i ≡ l.done = omega arith in
            let turn = rising-turn l.s a.to a.from a.c l.done n d (omega arith) (omega arith) (omega arith) in
            rw (c.copy_chunk.ensures, same) (turn ∙ l.invariant.1 d),
        λ d. absurd (omega arith),
      )
      | else-to-from w ↦ (
        omega arith,
        λ d. absurd (omega arith),
        λ d.
            let before : a.c - l.done ≡ i + n = omega arith in
            let after : a.c - (l.done + n) ≡ i = omega arith in
            let turn = falling-rest l.s a.to a.from i n (omega arith) (omega arith) (omega arith) in
            rw (after, c.copy_chunk.ensures) (turn ∙ (rw before at (l.invariant.2 d))),
      )
    ]

pub returns : goal.returns
returns c =
    let a = c.args in
    let l = c.loop-done in
    elim (cases_lt a.from a.to) [
      | inl d ↦ sym (copy-end l.s l.s a.to a.from _ (omega arith)) ∙ l.invariant.2 d
      | inr d ↦ sym (copy-end l.s l.s _ _ _ (omega arith)) ∙ l.invariant.1 d
    ]
