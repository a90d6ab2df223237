use Rattle.std.proofs.Common.{ℕ, ◌%◌, ap, ◌∙◌, arith}
use Rattle.blocks.proofs.Tables.{other-bits}
use Rattle.blocks.proofs.order_in.Goals as goal

pub returns : goal.returns
returns c = ap (λ (x : ℕ). x % 128) c.from.ensures ∙ other-bits _ (omega arith)
