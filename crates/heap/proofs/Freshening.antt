-- Where the lengths are those of a heap, making it fresh is not refused.
use Prim.Native.Nat.{ℕ}
use mathlib.Core.Path.{◌≡◌, sym, ◌∙◌, ap}
use mathlib.Core.List.{List}
use Rattle.std.specs.Prelude.{Result, Ok, Err, IsOk}
use Rattle.std.proofs.Common.{rules}
use Rattle.common.specs.declared.reasons.Refusal.{Refusal}
use Rattle.heap.specs.Views.{slot_order}
use Rattle.heap.specs.Effects.{Outcome}
use Rattle.heap.specs.Heaps.{Heap, heap_of, heap_fresh, outcome}
use Rattle.heap.specs.Answers.{answer_of}
use Rattle.heap.proofs.Judging.{Sized, fresh-done}
use Rattle.common.proofs.Numbers.{some-number}

accepted-ok : (r : Result ℕ Refusal) → (answer_of r).number ≡ 0 → IsOk r
accepted-ok (Ok v) z = search rules
accepted-ok (Err reason) z = absurd (some-number reason z)

pub fresh-ok : (a tab a' tab' : List ℕ) {m : ℕ} (r : Result ℕ Refusal) → Sized slot_order a tab m → outcome (answer_of r) a' tab' ≡ heap_fresh (heap_of a tab)
    → IsOk r
fresh-ok a tab a' tab' r s e = accepted-ok r (ap (λ (o : Outcome Heap). o.answer.number) (e ∙ sym (fresh-done a tab s)))
