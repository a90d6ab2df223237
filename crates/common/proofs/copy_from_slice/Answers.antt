use Rattle.std.proofs.Common.{◌+◌, ◌-◌, ◌≡◌, arith, length-take, length-drop}
use Rattle.common.specs.Bytes.{copied}
use Rattle.common.proofs.Bytes.{put_over}
use Rattle.common.proofs.copy_from_slice.Goals as goal

pub returns : goal.returns
unfolding copied
returns c =
    let a = c.args in
    let k : a.from + a.c - a.from ≡ a.c = omega arith in
    rw (c.copy_from_slice.ensures.after, k) (put_over a.s.now _ a.to a.c (simp (length-take, length-drop) (omega arith)))
