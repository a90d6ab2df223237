-- All that is claimed of the library beside the contracts of its calls, in the order of the papers: the demands, document 01's edges, then the requests. The
-- contracts say that each call of the code is `heap_call`, `heap_fresh`, `heap_check`, `shown`, `run_of`, `panel_of`, `replay_of`, `read_at`, `judgement`,
-- `write_head`, `write_record`, `rewrite_file` or `put_in`; the claims are about these. Requests 2, 3 and 4 changed what they say and claim nothing more.
use Rattle.std.specs.Prelude.{ℕ, ◌≤◌, ◌<◌, Bool, List, [], ◌∷◌}
use Rattle.blocks.specs.Tables.{lock_bit}
use Rattle.blocks.specs.Sets.{OneTable}
use Rattle.blocks.specs.Orders.{smallest_arena, largest_arena}
use Rattle.heap.specs.Views.{slot_order}
use Rattle.heap.specs.Heaps.{Heap, view_of, heap_call, heap_check, pointer_number}
use Rattle.heap.specs.Edges.{Edges}
use Rattle.heap.specs.Locking.{Locking}
use Rattle.heap.specs.MissingKinds.{pointers_of, Tells}
use Rattle.heap.specs.DeadAndMarked.{plain_pointers, TellsMarks}
use Rattle.heap.specs.Grids.{GridPlaces}
use Rattle.heap.specs.declared.Call.{Call}
use Rattle.history.specs.Ledgers.{ledger_view, ledger_step}
use Rattle.history.specs.CallLists.{ledger_run}
use Rattle.history.specs.Demand3.{Demand3}
use Rattle.history.specs.Noninterference.{Noninterference}
use Rattle.takes.specs.RoundTrips.{RoundTrips}
use Rattle.takes.specs.JudgedBefore.{NeitherJudgedAsBefore}
use Rattle.runner.specs.Panel.{PanelAsUpload}
use Rattle.runner.specs.Budgets.{AcceptedCounted, LargerKeeps}
use Rattle.runner.specs.AsBefore.{NeitherAsBefore}

pub record Claims : Type 0 where
  -- demand 2: every set of blocks has one table, and every undamaged table reads back as that set
  pub one_table : (t m : ℕ) → 1 ≤ t → t ≤ m → m < lock_bit → OneTable t m
  -- demand 2: a written take reads back, and an accepted file writes back
  pub round-trips : RoundTrips
  -- demand 3: heap and ledger agree on every list of calls, from a fresh heap of any of the twelve sizes
  pub demand3 : (m : ℕ) → smallest_arena ≤ m → m ≤ largest_arena → (cs : List Call) → Demand3 m cs
  -- the twelve edges
  pub edges : Edges
  -- request 1: what the panel's run and the upload's have in common
  pub panel : (file : List ℕ) (b : ℕ) (h : Heap) (out : List ℕ) → PanelAsUpload file b h out
  -- request 5: what a hidden block does not tell
  pub noninterference : Noninterference
  -- request 6: what 27 and 22 tell, of a call, of check, of show, and of the ledger after any list
  pub missing : (c : Call) (h : Heap) → Tells (view_of h) (pointers_of c) (heap_call c h).answer.number
  pub missing-check : (p i : ℕ) (h : Heap) → Tells (view_of h) (p ∷ []) (heap_check p i h).number
  pub missing-show : (p : ℕ) (h : Heap) → Tells (view_of h) (p ∷ []) (pointer_number h p)
  pub missing-ledger : (m : ℕ) → smallest_arena ≤ m → m ≤ largest_arena → (cs : List Call) (c : Call)
      → let l = (ledger_run m cs).last in Tells (ledger_view slot_order m l) (pointers_of c) (ledger_step slot_order m c l).answer.number
  -- request 7: what a lock and an unlock leave
  pub locking : (p : ℕ) (l : Bool) (h : Heap) → Locking p l h
  -- request 8: what 13 tells, likewise
  pub marked : (c : Call) (h : Heap) → TellsMarks (view_of h) (plain_pointers c) (heap_call c h).answer.number
  pub marked-check : (p i : ℕ) (h : Heap) → TellsMarks (view_of h) (p ∷ []) (heap_check p i h).number
  pub marked-show : (p : ℕ) (h : Heap) → TellsMarks (view_of h) (p ∷ []) (pointer_number h p)
  pub marked-ledger : (m : ℕ) → smallest_arena ≤ m → m ≤ largest_arena → (cs : List Call) (c : Call)
      → let l = (ledger_run m cs).last in TellsMarks (ledger_view slot_order m l) (plain_pointers c) (ledger_step slot_order m c l).answer.number
  -- request 9: the count of a run is the number of its steps, a larger budget alters no earlier answer, and a take with neither new operation is judged and
  -- runs as before
  pub counted : AcceptedCounted
  pub larger-budget : LargerKeeps
  pub judged-as-before : NeitherJudgedAsBefore
  pub runs-as-before : NeitherAsBefore
  -- request 10: two places of one grid never share an address, each is one of its bytes and has the home of its start; and with one place all are accepted
  pub grids : (p rows columns : ℕ) → GridPlaces p rows columns
