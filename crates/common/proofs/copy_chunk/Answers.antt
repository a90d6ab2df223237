-- The chunk goes by way of the array that holds it.
use Prim.Native.Nat.{ℕ}
use mathlib.Core.Path.{◌∙◌, ap}
use mathlib.Core.List.{List}
use native.Mathlib.Omega.{arith}
use Rattle.common.specs.Bytes.{copied}
use Rattle.common.proofs.Copies.{held-chunk}
use Rattle.common.proofs.copy_chunk.Goals as goal

pub returns : goal.returns
returns c =
    let a = c.args in
    c.copy_from_slice-2.ensures
    ∙ ap (λ (x : List ℕ). copied a.s.now a.to x 0 a.n) c.copy_from_slice.ensures
    ∙ held-chunk a.s.now _ a.to a.from a.n (omega arith)
