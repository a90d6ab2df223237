use Rattle.std.proofs.Common.{◌≡◌, ◌-◌, ◌+◌, ◌∙◌, refl, sym, arith, take, drop, length, replicate, length-take, length-drop, take_all}
use Rattle.common.proofs.Bytes.{put_over}
use Rattle.common.proofs.fill.Goals as goal

pub returns : goal.returns
returns c =
    let a = c.args in
    let i = c.loop-x.x-index in
    let xs = c.loop-x.x-items in
    let part : length (take (a.at + a.n - a.at) (drop a.at a.s.now)) ≡ a.n = simp (length-take, length-drop) (omega arith) in
    let end : i ≡ a.n = omega arith in
    let all : xs ≡ replicate i a.v = sym (take_all i xs (omega arith)) ∙ c.loop-x.invariant in
    put_over a.s.now xs a.at a.n (c.loop-x.auto.x-items ∙ part) ∙ rw (all, end) refl
