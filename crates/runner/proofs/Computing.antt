-- A take carried out by the definitions on a fresh heap, with the largest budget. To unfold `carried` is to unfold all that a run computes with, so that
-- vectors and examples name it and their own data.
use Prim.Native.Nat.{ℕ}
use mathlib.Core.List.{List}
use Rattle.common.specs.Bytes.{big_endian, bytes_of, over, copied}
use Rattle.blocks.specs.Blocks.{floor}
use Rattle.blocks.specs.Tables.{any, entry_order, torn, bad, damaged_by, locked_in, referent_in}
use Rattle.blocks.specs.Pointers.{sought, signed, check_bits, within, in_reach}
use Rattle.blocks.specs.Orders.{order_of, needed_order}
use Rattle.blocks.specs.Placing.{all_free, range_start, free_range, maximal, lowest, at_order, from_order, place_in}
use Rattle.heap.specs.Rules.{argument_rules, state_rules, rules}
use Rattle.heap.specs.Effects.{value, stored}
use Rattle.heap.specs.Heaps.{inside_by_check, entered, heap_step, heap_call}
use Rattle.heap.specs.Answers.{answers_bytes}
use Rattle.takes.specs.Operations.{known, kinds_of}
use Rattle.takes.specs.Records.{record_of}
use Rattle.takes.specs.Reading.{read_rules, read_bytes}
use Rattle.takes.specs.Files.{walk, head_number, stray_from, file_number, records_of, size_byte}
use Rattle.runner.specs.Decoding.{registers_after}
use Rattle.runner.specs.Machines.{machine_at_first, Carried, carry_out}
use Rattle.runner.specs.TakeRuns.{most_steps, run_by}

unfoldable pub carried : List ℕ → Carried
unfolding big_endian bytes_of over copied floor any entry_order torn bad damaged_by locked_in referent_in sought signed check_bits within in_reach order_of
    needed_order all_free range_start free_range maximal lowest at_order from_order place_in argument_rules state_rules rules value stored inside_by_check
    entered
    heap_step heap_call known kinds_of record_of read_rules read_bytes walk head_number stray_from file_number records_of registers_after carry_out
    answers_bytes run_by
carried file = carry_out (records_of file) most_steps (machine_at_first (size_byte file))
