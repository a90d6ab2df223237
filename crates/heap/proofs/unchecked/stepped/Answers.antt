-- The code's sum wraps, and its comparisons say where it lies: inside by the check, in reach before the block or past it, or beyond (the four laws `stepped-..`
-- of Stepping).
use Rattle.std.proofs.Common.{◌≡◌, false, sym, refl, ◌∙◌, arith}
use Rattle.blocks.specs.Pointers.{wrapped_sum, check_bits}
use Rattle.heap.proofs.Stepping.{stepped-inside, stepped-before, stepped-past, stepped-beyond}
use Rattle.heap.proofs.unchecked.stepped.Goals as goal
use Rattle.heap.proofs.unchecked.stepped.Goals.{Else-passes}
use Rattle.heap.proofs.unchecked.stepped.Goals.{else-block-reach-via-then-block-reach+else-r-block, else-block-reach-via-else-block-reach}
use Rattle.heap.proofs.unchecked.stepped.Goals.{else-end-r-via-then-end-r+else-r-end, else-end-r-via-else-end-r}

fails : (c : Else-passes) → check_bits c.args.block.order c.args.h (wrapped_sum c.args.q c.args.i) ≡ false
fails c = sym c.passes.ensures.by_bits ∙ c.if-passes.false

pub returns-then-passes : goal.returns-then-passes
returns-then-passes c = stepped-inside _ _ _ _ _ _ _ c.requires refl (sym c.passes.ensures.by_bits ∙ c.if-passes.true)

pub returns-then-r-block : goal.returns-then-r-block
returns-then-r-block c =
    stepped-before _ _ _ _ _ _ _ c.requires refl (fails (goal.at.returns-then-r-block c).Else-passes) (omega arith) (omega arith)

pub returns-then-r-end : goal.returns-then-r-end
returns-then-r-end c =
    stepped-past _ _ _ _ _ _ _ c.requires refl (fails (goal.at.returns-then-r-end c).Else-passes) (omega arith) (omega arith)

pub returns : goal.returns
returns c =
    stepped-beyond _ _ _ _ _ _ _ c.requires refl (fails (goal.at.returns c).Else-passes)
    (λ l. elim c.else-block-reach.branch [
      | else-block-reach-via-then-block-reach+else-r-block w ↦ omega (arith, c.size_of-reach.ensures)
      | else-block-reach-via-else-block-reach w ↦ omega (arith, c.size_of-reach.ensures)
    ])
    (λ l. elim c.else-end-r.branch [
      | else-end-r-via-then-end-r+else-r-end w ↦ omega (arith, c.size_of.ensures, c.size_of-reach.ensures)
      | else-end-r-via-else-end-r w ↦ omega (arith, c.size_of.ensures)
    ])
