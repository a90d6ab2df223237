-- Demand 3, for every list of the eleven calls with any arguments, from a fresh heap of 2 ^ m bytes, m from 5 to 16:
--   answers   the list of all numbers and values, in the calls' order, equals the ledger's;
--   bytes     all arena bytes equal the ledger's;
--   pairs     the ledger's pairs are aligned blocks of the arena that don't overlap,
--   table     and the table is the one table of them, with their locks;
--   lives     the blocks live by the history, so by arguments and answers alone, are its pairs, starts and orders;
--   check     from each address of a live block the check gives 1 for exactly the steps that stay in the block, else 0, and is not refused;
--   recovery  every marked pointer in reach before or past a live block leads back, by step, to each of its addresses;
--   apart     no two blocks live by the history share an address;
--   room      21 is the answer of exactly the gets of 1 byte up to the arena's length for which no range free by the history before that get
--             is large enough.
-- The heap and the ledger agree at first, and each call keeps that and gives one answer (`run-same`). Agreeing, they are judged by one view,
-- so that check and step are decided by the ledger's pairs.
use Prim.Native.Nat.{ℕ, ◌≤◌}
use mathlib.Core.Path.{◌≡◌, sym, ◌∙◌, ap, subst}
use mathlib.Core.List.{List, Memᴰ}
use Rattle.blocks.specs.Sets.{ranges}
use Rattle.heap.specs.Views.{slot_order}
use Rattle.heap.specs.Heaps.{heap_call, fresh_heap, check_step, heap_check}
use Rattle.heap.specs.declared.Call.{Call}
use Rattle.history.specs.Ledgers.{empty_ledger}
use Rattle.history.specs.CallLists.{heap_run, ledger_run}
use Rattle.history.specs.Histories.{live_by}
use Rattle.history.specs.Demand3.{after, live, Demand3}
use Rattle.history.proofs.Agreement.{Proper, Orders}
use Rattle.history.proofs.Locks.{proper-pairs}
use Rattle.history.proofs.CallLists.{fresh-agree, slot-orders, fresh-is, order_same, call-steps, Alike, run-same}
use Rattle.history.proofs.Live.{lives}
use Rattle.history.proofs.Checking.{places-apart, check-is, recovers}
use Rattle.history.proofs.Room.{room}

alike : {m : ℕ} → Orders slot_order m → (cs : List Call) → Alike slot_order m (heap_run m cs) (ledger_run m cs)
alike {m} os cs = run-same os heap_call (call-steps os) cs (fresh_heap m) (empty_ledger m) (fresh-agree slot_order m)

pub demand3 : (m : ℕ) → 5 ≤ m → m ≤ 16 → (cs : List Call) → Demand3 m cs
unfolding heap_check
demand3 m five top cs =
    let os = slot-orders m five top in
    let l = (ledger_run m cs).last in
    let same = (alike os cs).answers in
    let agree = (alike os cs).agree in
    let step = call-steps os (after m cs) l agree in
    let order = order_same os (after m cs) l agree in
    let are : live m cs ≡ ranges l.pairs = ap (live_by slot_order m cs) same ∙ lives slot_order m cs in
    record {
      start = λ h a t. fresh-is m h five top a t;
      answers = same;
      bytes = agree.bytes;
      pairs = proper-pairs l.pairs agree.proper;
      table = agree.table;
      lives = are;
      check = λ b i q k j.
          ap (λ (o : ℕ). check_step slot_order o q j (after m cs)) order ∙ check-is os (after m cs) l agree b (subst (Memᴰ b) are i) q k j;
      recovery = λ b i r x q k. step _ ∙ recovers os (after m cs) l agree b (subst (Memᴰ b) are i) q k r x;
      apart = places-apart (subst (Proper slot_order m) (sym are) agree.proper);
      room =
          λ before later c xs ys x whole split place.
          room os before later c xs ys x (alike os before).agree.proper
          (ap (λ (ds : List Call). (ledger_run m ds).answers) (sym whole) ∙ sym same ∙ split) place;
    }
