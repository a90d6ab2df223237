-- Document 01's worked take as a run, on buffers of any contents and an answer slice of 40 bytes, whose last 5 stay; and what refuses it. The
-- front panel's run of takes of 64, 65 and 70 records. A take that repeats. One with a grid. Each is computed by the definitions.
use Prim.Native.Nat.{ℕ, zero, suc}
use mathlib.Core.Path.{◌≡◌, refl}
use native.Mathlib.Omega.{arith}
use mathlib.Core.Bool.{true, false}
use mathlib.Core.List.{List, [], ◌∷◌}
use lib.ListN.{replicate}
use Rattle.heap.specs.Heaps.{heap_of}
use Rattle.takes.proofs.Examples.{worked}
use Rattle.takes.specs.JudgedBefore.{walk_before, records_before, number_before, added_from}
use Rattle.runner.specs.TakeRuns.{RunOutcome, run_of, panel_of}
use Rattle.runner.specs.Budgets.{BudgetKeeps}
use Rattle.runner.specs.AsBefore.{straight_out, run_before}
use Rattle.runner.proofs.Budgets.{larger-keeps}
use Rattle.runner.proofs.AsBefore.{neither-as-before}
use Rattle.runner.proofs.Computing.{carried}

-- a run of it with a budget of 7 on an arena of n bytes, a table of k and an answer slice of c
ran : ℕ → ℕ → ℕ → RunOutcome
unfolding carried
ran n k c = run_of worked 7 (heap_of (replicate n 7) (replicate k 9)) (replicate c 5)

accepted : ((ran 64 4 40).number ≡ 0) × ((ran 64 4 40).count ≡ 7) × ((ran 64 4 40).stopped ≡ false)
    × ((ran 64 4 40).heap ≡ heap_of (replicate 64 0) (0 ∷ 0 ∷ 4 ∷ 0 ∷ []))
unfolding ran
accepted = (refl, refl, refl, refl)

registers : (ran 64 4 40).registers ≡ 65536 ∷ 65568 ∷ 65567 ∷ replicate 13 0
unfolding ran
registers = refl

-- five bytes an answer: its number and its value
answers : (ran 64 4 40).answers ≡
    0 ∷ 0 ∷ 1 ∷ 0 ∷ 0
    ∷ 0 ∷ 0 ∷ 1 ∷ 0 ∷ 32
    ∷ 0 ∷ 128 ∷ 1 ∷ 0 ∷ 32
    ∷ 13 ∷ 0 ∷ 0 ∷ 0 ∷ 0
    ∷ 0 ∷ 0 ∷ 1 ∷ 0 ∷ 31
    ∷ 21 ∷ 0 ∷ 0 ∷ 0 ∷ 0
    ∷ 0 ∷ 0 ∷ 0 ∷ 0 ∷ 0
    ∷ replicate 5 5
unfolding ran
answers = refl

-- an arena of another size, a table that does not fit it, an answer slice one byte short
refused : ((ran 32 4 40).number ≡ 8) × ((ran 64 5 40).number ≡ 8) × ((ran 64 4 34).number ≡ 9)
unfolding ran
refused = (refl, refl, refl)

untouched : ran 64 4 34 ≡
    record { number = 9; registers = replicate 16 0; count = 0; stopped = false; heap = heap_of (replicate 64 7) (replicate 4 9); answers = replicate 34 5 }
unfolding ran
untouched = refl

-- a take for 32 bytes of k records that give register 0 back, then the record `last`
repeated : ℕ → List ℕ → List ℕ
repeated zero last = last
repeated (suc k) last = 2 ∷ 2 ∷ 0 ∷ repeated k last

take : ℕ → List ℕ → List ℕ
take k last = 1 ∷ 5 ∷ repeated k last

-- the panel's number for it on an arena of n bytes
panel : List ℕ → ℕ → ℕ
unfolding carried repeated take
panel file n = (panel_of file 70 (heap_of (replicate n 7) (replicate 2 9)) (replicate 350 5)).number

-- 64 records are accepted and 65 are not; 26 stands after a bad record 70, of register 16 or an again that does not go back, and before an arena of another
-- size
screen : (panel (take 64 []) 32 ≡ 0) × (panel (take 65 []) 32 ≡ 26) × (panel (take 69 (2 ∷ 2 ∷ 16 ∷ [])) 32 ≡ 7)
    × (panel (take 69 (4 ∷ 11 ∷ 0 ∷ 0 ∷ 69 ∷ [])) 32 ≡ 29) × (panel (take 65 []) 64 ≡ 26) × (panel (take 64 []) 64 ≡ 8)
unfolding panel
screen = (refl, refl, refl, refl, refl, refl)

-- A take that repeats: 3 in register 1, a get, and an again that goes back to the get; then one more that does not, since the register is 0 by then.
roll : List ℕ
roll =
    1 ∷ 5
    ∷ 6 ∷ 12 ∷ 1 ∷ 0 ∷ 0 ∷ 0 ∷ 3
    ∷ 6 ∷ 1 ∷ 0 ∷ 0 ∷ 0 ∷ 0 ∷ 16
    ∷ 4 ∷ 11 ∷ 1 ∷ 0 ∷ 1
    ∷ 4 ∷ 11 ∷ 1 ∷ 0 ∷ 0
    ∷ []

rolled : ℕ → RunOutcome
unfolding carried roll
rolled b = run_of roll b (heap_of (replicate 32 7) (replicate 2 9)) (replicate 60 5)

-- ten steps: set, four gets, each with an again after it, and the last again
whole-roll : ((rolled 10).count ≡ 10) × ((rolled 10).stopped ≡ false) × (rolled 12 ≡ rolled 10) × ((rolled 10).registers ≡ 65552 ∷ replicate 15 0)
unfolding rolled
whole-roll = (refl, refl, refl, refl)

-- the value of an again is the register afterwards; the third get and the fourth find no room
roll-answers : (rolled 10).answers ≡
    0 ∷ 0 ∷ 0 ∷ 0 ∷ 3
    ∷ 0 ∷ 0 ∷ 1 ∷ 0 ∷ 0
    ∷ 0 ∷ 0 ∷ 0 ∷ 0 ∷ 2
    ∷ 0 ∷ 0 ∷ 1 ∷ 0 ∷ 16
    ∷ 0 ∷ 0 ∷ 0 ∷ 0 ∷ 1
    ∷ 21 ∷ 0 ∷ 0 ∷ 0 ∷ 0
    ∷ 0 ∷ 0 ∷ 0 ∷ 0 ∷ 0
    ∷ 21 ∷ 0 ∷ 0 ∷ 0 ∷ 0
    ∷ 0 ∷ 0 ∷ 0 ∷ 0 ∷ 0
    ∷ 0 ∷ 0 ∷ 0 ∷ 0 ∷ 0
    ∷ replicate 10 5
unfolding rolled
roll-answers = refl

-- one step less, and it has stopped; with none it has carried out nothing; of 13 steps the answers have no room, though the run has ten
cut-roll : ((rolled 9).count ≡ 9) × ((rolled 9).stopped ≡ true) × ((rolled 0).count ≡ 0) × ((rolled 0).stopped ≡ true) × ((rolled 13).number ≡ 9)
unfolding rolled
cut-roll = (refl, refl, refl, refl, refl)

-- above 4,096 a budget counts as 4,096; a file without a record does not stop
most-roll : (((run_of roll 4097 (heap_of (replicate 32 7) (replicate 2 9)) (replicate 20480 5)).number ≡ 0)
    × ((run_of roll 4096 (heap_of (replicate 32 7) (replicate 2 9)) (replicate 20479 5)).number ≡ 9)
    × ((run_of (1 ∷ 5 ∷ []) 0 (heap_of (replicate 32 7) (replicate 2 9)) []).stopped ≡ false))
unfolding rolled
most-roll = (refl, refl, refl)

-- A get of 32 bytes into register 2, and a place of a grid there into register 1: 4 by 8, row 2, column 3.
grid-run : RunOutcome
unfolding carried
grid-run =
    run_of (1 ∷ 5 ∷ 6 ∷ 1 ∷ 2 ∷ 0 ∷ 0 ∷ 0 ∷ 32 ∷ 7 ∷ 13 ∷ 1 ∷ 2 ∷ 4 ∷ 8 ∷ 2 ∷ 3 ∷ []) 2 (heap_of (replicate 32 7) (replicate 2 9)) (replicate 10 5)

grid-placed : (grid-run.registers ≡ 0 ∷ 65555 ∷ 65536 ∷ replicate 13 0) × (grid-run.answers ≡ 0 ∷ 0 ∷ 1 ∷ 0 ∷ 0 ∷ 0 ∷ 0 ∷ 1 ∷ 0 ∷ 19 ∷ [])
unfolding grid-run
grid-placed = (refl, refl)

-- The claims used. Nine steps of the roll are the first nine of ten. The worked take runs as it did: then, too, 34 bytes had no room for its answers.
kept : BudgetKeeps (rolled 9) (rolled 10)
unfolding rolled
kept = larger-keeps false roll 9 10 (heap_of (replicate 32 7) (replicate 2 9)) (replicate 60 5) (omega arith) refl refl

before : ℕ → RunOutcome
unfolding ran records_before number_before walk_before straight_out run_before
before c = run_before false worked (heap_of (replicate 64 7) (replicate 4 9)) (replicate c 5)

as_before : (ran 64 4 40 ≡ before 40) × ((before 40).count ≡ 7) × ((before 35).number ≡ 0) × ((before 34).number ≡ 9)
unfolding before added_from
as_before =
    ((neither-as-before false worked (heap_of (replicate 64 7) (replicate 4 9)) (replicate 40 5) refl).enough 7 (omega arith) (omega arith), refl, refl, refl)
