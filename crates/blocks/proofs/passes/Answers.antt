-- The check of the wrapped sum is `same_block`'s; that it is the exact sum's, for addresses in the lower half, is `check-exact`.
use Rattle.std.proofs.Common.{ℕ, ap, ◌∙◌}
use Rattle.blocks.specs.Pointers.{check_bits}
use Rattle.blocks.proofs.Checks.{check-exact}
use Rattle.blocks.proofs.passes.Goals as goal

pub returns : goal.returns
returns c =
    let a = c.args in
    let p = c.same_block.ensures.by_bits ∙ ap (λ (x : ℕ). check_bits a.e a.h x) c.wrapping_add_u32.ensures.value in
    record { by_bits = p; by_range = λ lh lq. p ∙ check-exact a.e a.h a.q a.i c.requires lh lq }
