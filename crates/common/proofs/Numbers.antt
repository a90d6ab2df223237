-- A reason to refuse has a number, which is not 0.
use Rattle.std.proofs.Common.{◌≡◌, arith}
use Rattle.common.specs.Numbers.{number_of}
use Rattle.common.specs.declared.reasons.Refusal.{Refusal}
use Rattle.common.specs.declared.reasons.Refusal.TheVariants.{NoTake}

pub some-number : (reason : Refusal) → number_of reason ≡ 0 → ⊥
some-number NoTake z = omega arith
some-number _ z = omega arith
