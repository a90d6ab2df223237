use Rattle.std.proofs.Common.{rules, ◌≡◌, ◌+◌, ℕ, Bool, cond, not, eqb, length, sym, ap, ◌∙◌, le-leb}
use Rattle.std.specs.Slice.Iter.{chunks_exact_rest, chunks_exact_size}
use Rattle.blocks.proofs.Chunks.{all_pass, all_left, none_left, chunk-fails, chunk-passes}
use Rattle.blocks.proofs.search.uniform.Goals as goal
use Rattle.blocks.proofs.search.uniform.Goals.{After-row_passes}

-- where a row was looked at
module _ (c : After-row_passes) where
  abbrev test : ℕ → Bool
  test y = cond (eqb c.args.x 0) (eqb y 0) (not (eqb y 0))

  uniform : c.row_passes.result ≡ all_pass test c.in-Some.row.now
  uniform =
      let sixteen : length c.in-Some.row.now ≡ 16 = c.in-Some.ensures.steps.1.1 ∙ c.loop-row.invariant.size in
      rw sixteen (c.row_passes.ensures test (λ y b l p. search rules))

pub loop-row-init : goal.loop-row-init
loop-row-init c =
    let is = c.into_iter-row-iterator.ensures.into_iter_gives in
    let chunks = c.chunks_exact-row-items.ensures in
    all_left _ 16 c.args.part.now _ (ap chunks_exact_rest is ∙ chunks.rest) (ap chunks_exact_size is ∙ chunks.size) c.requires.1

pub returns-then-not-row_passes : goal.returns-then-not-row_passes
returns-then-not-row_passes c =
    let differs = sym (uniform (goal.at.returns-then-not-row_passes c).After-row_passes) ∙ c.if-not-row_passes.true in
    rw (le-leb c.args.x (c.args.t + 4) c.if-t-x.false)
    (sym (chunk-fails c.loop-row.invariant c.next.new.self c.in-Some.row.now c.in-Some.ensures.steps.1.0 differs))

pub loop-row-preserved : goal.loop-row-preserved
loop-row-preserved c =
    let steps = c.in-Some.ensures.steps in
    let same = sym (uniform (goal.at.loop-row-preserved c).After-row_passes) ∙ c.if-not-row_passes.false in
    chunk-passes c.loop-row.invariant c.next.new.self c.in-Some.row.now steps.1.0 steps.0 steps.1.1 same

pub returns : goal.returns
returns c = rw (le-leb c.args.x (c.args.t + 4) c.if-t-x.false) (sym (none_left c.loop-row.invariant c.in-None.ensures.steps.1.0))
