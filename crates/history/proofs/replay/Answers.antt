use mathlib.Core.Path.{◌≡◌, sym, ◌∙◌}
use Rattle.std.proofs.Common.{rules}
use Rattle.common.specs.Refusals.{first}
use Rattle.common.specs.Numbers.{number_of}
use Rattle.heap.specs.Answers.{answer_of}
use Rattle.common.proofs.Numbers.{some-number}
use Rattle.heap.proofs.Freshening.{fresh-ok}
use Rattle.heap.specs.Heaps.{heap_of}
use Rattle.history.specs.Replaying.{replay_rules}
use Rattle.history.proofs.Replaying.{Playable, playable, names-one, refused-is, replays-start, replays-sound, replays-step, replays-end, played-is}
use Rattle.history.proofs.replay.Goals as goal
use Rattle.history.proofs.replay.Goals.{In_ok-m}

-- nothing refuses the replay
module _ (c : In_ok-m) where
  accepted : first (replay_rules c.args.calls.now (heap_of c.args.arena.now c.args.table.now) c.args.out.now) ≡ 0
  accepted = sym c.in_ok-m.ensures.number

  fine : Playable c.in_ok-m.m c.args.calls.now c.args.arena.now c.args.table.now c.args.out.now
  fine = playable _ c.args.calls.now c.args.arena.now c.args.table.now c.args.out.now c.in_ok-m.ensures.order accepted

pub returns-in_err-m : goal.returns-in_err-m
returns-in_err-m c =
    let a = c.args in
    let reason = c.in_err-m.field-0.0 in
    let h = refused-is a.calls.now a.arena.now a.table.now a.out.now (number_of reason) c.in_err-m.ensures.number (some-number reason) in
    search rules

pub unwrap-requires : goal.unwrap-requires
unwrap-requires c = fresh-ok _ _ _ _ c.fresh.result (fine (goal.at.unwrap-requires c).In_ok-m).sized c.fresh.ensures

pub loop-i-init : goal.loop-i-init
loop-i-init c =
    let f = c.fresh in
    replays-start _ _ c.args.arena.now c.args.table.now _ f.new.arena f.new.table _ (fine (goal.at.loop-i-init c).In_ok-m) f.ensures

pub make_call_at-result-requires-clause-sound : goal.make_call_at-result-requires-clause-sound
make_call_at-result-requires-clause-sound c = replays-sound c.loop-i.invariant

pub make_call_at-result-requires-clause-known : goal.make_call_at-result-requires-clause-known
make_call_at-result-requires-clause-known c =
    let a = c.args in
    names-one a.calls.now a.arena.now a.table.now a.out.now (accepted (goal.at.make_call_at-result-requires-clause-known c).In_ok-m) c.loop-i.i
    c.loop-i-test.true

pub loop-i-preserved : goal.loop-i-preserved
loop-i-preserved c =
    let out = c.store in
    let made = c.make_call_at-result in
    replays-step c.loop-i.invariant c.loop-i-test.true (answer_of made.result) made.new.arena made.new.table out.new.out made.ensures
    (rw c.from.ensures at out.ensures) out.auto.out

pub returns : goal.returns
returns c =
    let a = c.args in
    replays-end c.loop-i.invariant c.loop-i-test.false
    ∙ played-is _ a.calls.now a.arena.now a.table.now a.out.now (fine (goal.at.returns c).In_ok-m) (accepted (goal.at.returns c).In_ok-m)
