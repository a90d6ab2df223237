-- The parts of the buffers that are lent have the lengths of the file's arena and table, so they fit every accepted file (`sized`). An accepted run had room
-- for its answers (`ran-room`), which are then printed.
use Rattle.std.proofs.Common.{◌≡◌, ℕ, ◌/◌, ◌^◌, ◌≤◌, ◌∙◌, List, Ok, false, length, refl, arith, ap, sym, length-take-le}
use Rattle.blocks.specs.Orders.{largest_arena, order_of}
use Rattle.blocks.proofs.Floors.{pow-quotient}
use Rattle.blocks.proofs.Orders.{order-power}
use Rattle.heap.specs.Views.{slot_order}
use Rattle.heap.specs.Heaps.{heap_of, wrong_sizes}
use Rattle.heap.proofs.Judging.{sizes-right}
use Rattle.takes.specs.Files.{size_byte, file_number}
use Rattle.runner.specs.TakeRuns.{ran_of}
use Rattle.runner.proofs.Files.{accepted-file}
use Rattle.runner.proofs.RunRefusals.{ran-room}
use Rattle.printing.proofs.play.Goals as goal

-- the lengths of an accepted file's arena and table
sized : (file a tab : List ℕ) → file_number file ≡ 0 → length a ≡ 2 ^ size_byte file → length tab ≡ length a / 2 ^ slot_order
    → wrong_sizes slot_order (size_byte file) (heap_of a tab) ≡ false
sized file a tab z p q =
    let m = size_byte file in
    let h = (accepted-file file z).head in
    sizes-right slot_order a tab
    (record {
      same = sym (ap order_of p ∙ order-power m h.low h.high);
      low = h.low;
      high = h.high;
      size = p;
      slots = q ∙ ap (λ (n : ℕ). n / 2 ^ slot_order) p ∙ pow-quotient slot_order m (omega (arith, h.low));
    })

pub run_in-requires : goal.run_in-requires
run_in-requires g c =
    let size = c.unwrap_or-size.result in
    let h : size ≤ 2 ^ largest_arena = grind (arith, c.size_for.ensures.at_most, c.unwrap_or-size.ensures) in
    let v : file_number c.args.file.now ≡ 0 → size ≡ 2 ^ size_byte c.args.file.now =
    λ z. grind (arith, c.size_for.ensures.value z, c.unwrap_or-size.ensures) in
    record {
      sizes =
          λ e.
          let a = length-take-le size _ (omega (arith, h)) in
          let t = length-take-le (size / 2 ^ slot_order) _ (omega (arith, h)) in
          sized c.args.file.now _ _ e (a ∙ v e) (t ∙ ap (λ (n : ℕ). n / 2 ^ slot_order) (sym a));
      answers = omega arith;
    }

pub print_answers-requires : goal.print_answers-requires
print_answers-requires g c =
    omega (arith, ran-room _ _ _ _ (ran_of (Ok c.in-Ok.report)) _ _ _ c.in-Ok.ensures.ran refl, c.run_in.auto.answers)
