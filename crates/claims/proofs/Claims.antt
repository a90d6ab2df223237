-- Each claim is the theorem of its own crate.
use Rattle.blocks.proofs.OneTable.{one_table}
use Rattle.heap.proofs.Edges.{edges}
use Rattle.heap.proofs.Locking.{locking}
use Rattle.heap.proofs.MissingKinds.{call-tells, check-tells, address-tells}
use Rattle.heap.proofs.DeadAndMarked.{call-tells-marks, check-tells-marks, address-tells-marks}
use Rattle.heap.proofs.Grids.{grid-places}
use Rattle.history.proofs.Demand3.{demand3}
use Rattle.history.proofs.MissingKinds.{ledger-tells}
use Rattle.history.proofs.DeadAndMarked.{ledger-tells-marks}
use Rattle.history.proofs.Noninterference.{noninterference}
use Rattle.takes.proofs.RoundTrips.{round-trips}
use Rattle.takes.proofs.JudgedBefore.{neither-judged-as-before}
use Rattle.runner.proofs.Panel.{panel-as-upload}
use Rattle.runner.proofs.Budgets.{accepted-counted, larger-keeps}
use Rattle.runner.proofs.AsBefore.{neither-as-before}
use Rattle.claims.specs.Claims.{Claims}

pub claims : Claims
claims =
    record {
      one_table = one_table;
      round-trips = round-trips;
      demand3 = demand3;
      edges = edges;
      panel = panel-as-upload;
      noninterference = noninterference;
      missing = call-tells;
      missing-check = check-tells;
      missing-show = address-tells;
      missing-ledger = ledger-tells;
      locking = locking;
      marked = call-tells-marks;
      marked-check = check-tells-marks;
      marked-show = address-tells-marks;
      marked-ledger = ledger-tells-marks;
      counted = accepted-counted;
      larger-budget = larger-keeps;
      judged-as-before = neither-judged-as-before;
      runs-as-before = neither-as-before;
      grids = grid-places;
    }
