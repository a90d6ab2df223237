-- What 13 tells of a call's pointers by the ledger, after any list of calls: what it tells by the table of any heap (`by-ledger`).
use Prim.Native.Nat.{ℕ, ◌≤◌}
use mathlib.Core.List.{List}
use Rattle.heap.specs.Views.{slot_order}
use Rattle.heap.specs.Heaps.{heap_view}
use Rattle.heap.specs.DeadAndMarked.{plain_pointers, TellsMarks}
use Rattle.heap.specs.declared.Call.{Call}
use Rattle.heap.proofs.DeadAndMarked.{rules-tell-marks}
use Rattle.history.specs.Ledgers.{ledger_view, ledger_step}
use Rattle.history.specs.CallLists.{ledger_run}
use Rattle.history.proofs.MissingKinds.{by-ledger}

pub ledger-tells-marks : (m : ℕ) → 5 ≤ m → m ≤ 16 → (cs : List Call) (c : Call)
    → let l = (ledger_run m cs).last in TellsMarks (ledger_view slot_order m l) (plain_pointers c) (ledger_step slot_order m c l).answer.number
ledger-tells-marks m five top cs c =
    by-ledger m five top cs c (λ w n. TellsMarks w (plain_pointers c) n) (λ h. rules-tell-marks (heap_view slot_order m h) c)
