-- A good record lies in the file (`good-fits`). Any operation but again goes on, and again is told by its index.
use mathlib.Core.Path.{◌∙◌, ap}
use native.Mathlib.Omega.{arith}
use lib.Dec.{leb}
use borrow.Author.Tests.{ne_eqb}
use Rattle.takes.specs.Operations.{kinds_of}
use Rattle.takes.proofs.Readings.{good-fits}
use Rattle.takes.proofs.Strays.{another-goes-on, again-by-index}
use Rattle.takes.proofs.unchecked.Accepted.strays.Goals as goal

pub bounds-self-self : goal.bounds-self-self
bounds-self-self c = omega (arith, good-fits c.args.self.now.file.now c.args.self.now.at c.args.self.now.good)

-- an again has its register and its index
pub index_at-requires : goal.index_at-requires
unfolding kinds_of
index_at-requires c = omega (arith, rw c.if-self.true at (good-fits c.args.self.now.file.now c.args.self.now.at c.args.self.now.good))

pub returns-then-self : goal.returns-then-self
returns-then-self c =
    let a = c.args.self.now in
    ap (leb c.args.i) c.from.ensures ∙ again-by-index a.file.now a.at c.args.i c.if-self.true c.index_at.result c.index_at.ensures

pub returns-else-self : goal.returns-else-self
returns-else-self c =
    let a = c.args.self.now in
    ne_eqb _ _ c.if-self.false ∙ another-goes-on a.file.now a.at c.args.i a.good c.if-self.false
