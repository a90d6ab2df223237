-- A law of `Rows` for a turn of the loop and for its end.
use Prim.Native.Nat.{ℕ, ◌+◌, ◌<◌}
use mathlib.Core.List.{[], ◌∷◌, ◌++◌}
use mathlib.Core.Path.{◌≡◌, ◌∙◌, ap}
use native.Mathlib.Omega.{arith}
use lib.ListN.{length, length-append, get_or}
use Rattle.std.proofs.Common.{rules}
use Rattle.std.proofs.lemmas.Slice.Zip.{zip_turn, zip_end}
use Rattle.takes.specs.Operations.{Kind, register, size}
use Rattle.takes.proofs.Rows.{putting-turn, putting-end}
use Rattle.takes.proofs.writer.put_fields.Goals as goal

pub loop-kind-preserved : goal.loop-kind-preserved
loop-kind-preserved c =
    let l = c.loop-kind in
    let k : ℕ = length l.yielded in
    let start = c.into_iter-kind-iterator.result in
    let turn : (k < length c.args.kinds.now) × (k < length c.args.values.now)
    × ((d : Kind) → c.in-Some.kind.now ≡ get_or c.args.kinds.now k d) × ((d : ℕ) → c.in-Some.v.now ≡ get_or c.args.values.now k d) =
    zip_turn c.args.kinds.now c.args.values.now l.yielded start l.kind-iterator c.next.new.self _ (search rules) (search rules) l.yielded_by _
    c.in-Some.is c.next.ensures.steps in
    let w = c.write_number in
    let more : length (l.yielded ++ (c.in-Some.kind, c.in-Some.v) ∷ []) ≡ k + 1 = length-append _ _ in
    let width = c.size-size.ensures ∙ ap size (turn.2 register) in
    rw more (putting-turn l.invariant turn.0 turn.1 c.size-size.result width w.new.s (rw (← turn.3 0) w.ensures) w.auto.s)

pub returns : goal.returns
returns c =
    let l = c.loop-kind in
    let start = c.into_iter-kind-iterator.result in
    let n =
    zip_end c.args.kinds.now c.args.values.now l.yielded start l.kind-iterator c.next.new.self _ (search rules) (search rules) l.yielded_by
    c.in-None.is c.next.ensures.steps in
    putting-end l.invariant (omega (arith, n, c.requires))
