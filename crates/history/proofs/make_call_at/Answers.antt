-- Each arm makes the call of its operation, of the fields that are read before it, so its outcome is that of the call in the bytes (`made`). An operation that
-- names a call is no other (`named`). Where a call has to be ready, no arguments refuse it (`argument_rules`).
use Prim.Native.Nat.{◌+◌}
use mathlib.Core.Path.{◌≡◌, refl, sym, ◌∙◌, ap}
use mathlib.Core.Logic.{inl, inr}
use lib.ListN.{get_or}
use Rattle.heap.specs.Views.{slot_order}
use Rattle.heap.specs.Effects.{Outcome}
use Rattle.heap.specs.Heaps.{Heap, heap_of, heap_step}
use Rattle.heap.specs.OperationNumbers.{number_of}
use Rattle.heap.specs.Rules.{argument_rules}
use Rattle.heap.specs.declared.Call.{Call}
use Rattle.heap.specs.declared.operations.Operation.{Operation}
use Rattle.heap.specs.declared.operations.Operation.TheVariants.{Get, Give, Step, Read, Write, Left, Copy, Fill, Lock, Unlock, Again, Set, Grid}
use Rattle.history.specs.Replaying.{call_named, second_byte, call_at}
use Rattle.history.proofs.Encoding.{call-is}
use Rattle.history.proofs.make_call_at.Goals as goal
use Rattle.history.proofs.make_call_at.Goals.{After-known}

-- the operation is told, and the fields are read
module _ (c : After-known) where
  abbrev h : Heap
  h = heap_of c.args.arena.now c.args.table.now

  -- the outcome o of the call that the operation v names
  made : (v : Operation) {o : Outcome Heap} → c.known.result ≡ v
      → o ≡ heap_step slot_order c.args.m (call_named (number_of v) (get_or c.args.s.now (c.args.at + 1) 0) c.read_number-a.result c.read_number-b.result
      c.read_number-c.result (second_byte c.args.s.now c.args.at)) h
      → o ≡ heap_step slot_order c.args.m (call_at c.args.s.now c.args.at) h
  made v is q =
      let named : number_of c.known.result ≡ get_or c.args.s.now c.args.at 0 = c.known.ensures in
      let read = call-is c.args.s.now c.args.at _ _ _ c.read_number-a.ensures c.read_number-b.ensures c.read_number-c.ensures (number_of v)
      (sym named ∙ ap number_of is) in
      q ∙ ap (λ (y : Call). heap_step slot_order c.args.m y h) read

pub returns-in-Get : goal.returns-in-Get
returns-in-Get c = made (goal.at.returns-in-Get c).After-known Get c.in-Get.is c.any_get.ensures

pub returns-in-Give : goal.returns-in-Give
returns-in-Give c = made (goal.at.returns-in-Give c).After-known Give c.in-Give.is c.give.ensures

pub returns-in-Step : goal.returns-in-Step
returns-in-Step c = made (goal.at.returns-in-Step c).After-known Step c.in-Step.is c.step.ensures

pub returns-in-Read : goal.returns-in-Read
returns-in-Read c = made (goal.at.returns-in-Read c).After-known Read c.in-Read.is c.any_read.ensures

pub returns-in-Write : goal.returns-in-Write
returns-in-Write c = made (goal.at.returns-in-Write c).After-known Write c.in-Write.is c.any_write.ensures

pub returns-in-Left : goal.returns-in-Left
returns-in-Left c = made (goal.at.returns-in-Left c).After-known Left c.in-Left.is c.left.ensures

pub returns-in-Copy : goal.returns-in-Copy
returns-in-Copy c = made (goal.at.returns-in-Copy c).After-known Copy c.in-Copy.is c.copy.ensures

pub returns-in-Fill : goal.returns-in-Fill
returns-in-Fill c = made (goal.at.returns-in-Fill c).After-known Fill c.in-Fill.is c.fill.ensures

pub returns-in-Lock : goal.returns-in-Lock
returns-in-Lock c = made (goal.at.returns-in-Lock c).After-known Lock c.in-Lock.is c.set_lock.ensures

pub returns-in-Unlock : goal.returns-in-Unlock
returns-in-Unlock c = made (goal.at.returns-in-Unlock c).After-known Unlock c.in-Unlock.is c.set_lock-in-Unlock.ensures

pub returns-in-Again : goal.returns-in-Again
returns-in-Again c =
    let there = (goal.at.returns-in-Again c).After-known in
    elim c.in-Again.is [
      | inl is ↦ made there Again is c.make_grid_at.ensures
      | inr other ↦ elim other [
        | inl is ↦ made there Set is c.make_grid_at.ensures
        | inr is ↦ made there Grid is c.make_grid_at.ensures
      ]
    ]

pub give-requires : goal.give-requires
unfolding argument_rules
give-requires c = record { sound = c.requires.sound; arguments = refl }

pub step-requires : goal.step-requires
unfolding argument_rules
step-requires c = record { sound = c.requires.sound; arguments = refl }

pub left-requires : goal.left-requires
unfolding argument_rules
left-requires c = record { sound = c.requires.sound; arguments = refl }

pub copy-requires : goal.copy-requires
unfolding argument_rules
copy-requires c = record { sound = c.requires.sound; arguments = refl }

pub fill-requires : goal.fill-requires
unfolding argument_rules
fill-requires c = record { sound = c.requires.sound; arguments = refl }

pub set_lock-requires : goal.set_lock-requires
unfolding argument_rules
set_lock-requires c = record { sound = c.requires.sound; arguments = refl }

pub set_lock-requires-in-Unlock : goal.set_lock-requires-in-Unlock
unfolding argument_rules
set_lock-requires-in-Unlock c = record { sound = c.requires.sound; arguments = refl }
