-- A call, computed: to unfold `computed` is to unfold all that a call is defined by. Statements that `refl` proves on numbers cite it alone.
use Rattle.common.specs.Bytes.{big_endian, bytes_of, over, copied}
use Rattle.blocks.specs.Blocks.{floor}
use Rattle.blocks.specs.Tables.{any, entry_order, torn, bad, damaged_by, locked_in, referent_in}
use Rattle.blocks.specs.Pointers.{sought, signed, check_bits, within, in_reach}
use Rattle.blocks.specs.Orders.{order_of, needed_order}
use Rattle.blocks.specs.Placing.{all_free, range_start, free_range, maximal, lowest, at_order, from_order, place_in}
use Rattle.heap.specs.Rules.{argument_rules, state_rules, rules}
use Rattle.heap.specs.Effects.{value, stored, Outcome}
use Rattle.heap.specs.Heaps.{Heap, inside_by_check, entered, heap_step, heap_call}
use Rattle.heap.specs.declared.Call.{Call}

unfoldable pub computed : Call → Heap → Outcome Heap
unfolding big_endian bytes_of over copied floor any entry_order torn bad damaged_by locked_in referent_in sought signed check_bits within in_reach order_of
    needed_order
    all_free range_start free_range maximal lowest at_order from_order place_in argument_rules state_rules rules value stored inside_by_check entered heap_step
    heap_call
computed c h = heap_call c h
