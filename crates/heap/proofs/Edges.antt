-- Document 01's edges (a) to (l), computed from the calls' definitions.
use Rattle.std.proofs.Common.{refl}
use Rattle.heap.specs.Edges.{Edges}
use Rattle.heap.proofs.Computing.{computed}

pub edges : Edges
unfolding computed
edges = record { a = refl; b = refl; c = refl; d = refl; e = refl; f = refl; g = refl; h = refl; i = refl; j = refl; k = refl; l = refl }
