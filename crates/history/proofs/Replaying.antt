-- A list of calls replayed: how it is judged, and where it stands between two calls (`Replays`). One call is the simulation's (`step_same`), and the list is
-- the call and those after it (`played-next`).
use Prim.Native.Nat.{ℕ, zero, suc, ◌+◌, ◌-◌, ◌*◌, ◌%◌, ◌≤◌, ◌<◌}
use mathlib.Core.Path.{◌≡◌, refl, sym, ◌∙◌, ap, subst}
use mathlib.Core.Bool.{Bool, true, not, cond}
use mathlib.Core.List.{List, [], ◌∷◌}
use native.Mathlib.Nat.{sub-zero}
use native.Mathlib.Omega.{arith}
use lib.Dec.{ltb, eqb}
use lib.ListN.{length, get_or}
use borrow.Author.Tests.{ltb-false}
use Rattle.std.proofs.Common.{Some}
use Rattle.blocks.specs.Orders.{unless_zero}
use Rattle.common.specs.Refusals.{first}
use Rattle.common.specs.Bytes.{over}
use Rattle.blocks.specs.Sets.{table_of}
use Rattle.heap.specs.Views.{slot_order}
use Rattle.heap.specs.Effects.{Outcome}
use Rattle.heap.specs.Heaps.{Heap, heap_of, view_of, heap_step, heap_fresh, fresh_heap, outcome}
use Rattle.heap.specs.Inner.{heap_order, Sound}
use Rattle.heap.specs.Answers.{answer_length, answer_bytes, answers_bytes}
use Rattle.heap.specs.declared.Answer.{Answer}
use Rattle.heap.specs.declared.Call.{Call}
use Rattle.common.proofs.Refusals.{clear}
use Rattle.heap.proofs.Judging.{Sized, order-found}
use Rattle.heap.specs.OperationNumbers.{names_call}
use Rattle.heap.proofs.AnswerBytes.{answers_next, answers-none}
use Rattle.history.specs.Ledgers.{Ledger, ledger_step, empty_ledger}
use Rattle.history.specs.CallLists.{run}
use Rattle.history.specs.Replaying.{call_length, call_at, calls_from, call_count, calls_of, unknown_from, replay_rules, Replayed, replayed, replay_of}
use Rattle.history.proofs.Agreement.{Orders, Agree}
use Rattle.history.proofs.Simulation.{agree-sound, step_same}
use Rattle.history.proofs.CallLists.{fresh-agree, slot-orders, fresh-made}
use Rattle.history.proofs.Encoding.{calls-here, all-known}

-- ---- the refusals

-- the number, by what the four tests say
pub replay-number : (calls a tab out : List ℕ) {p q r s : Bool} → not (eqb (length calls % call_length) 0) ≡ p → unknown_from calls 0 (call_count calls) ≡ q
    → (view_of (heap_of a tab)).wrong-sizes ≡ r → ltb (length out) (answer_length * call_count calls) ≡ s
    → cond p 4 (cond q 5 (cond r 8 (cond {A = ℕ} s 9 0))) ≡ first (replay_rules calls (heap_of a tab) out)
replay-number calls a tab out u v w x = sym (λ i. cond (u i) 4 (cond (v i) 5 (cond (w i) 8 (cond {A = ℕ} (x i) 9 0))))

-- nothing refuses the replay
pub record Playable (m : ℕ) (calls a tab out : List ℕ) : Type 0 where
  pub sized : Sized slot_order a tab m
  pub room : answer_length * call_count calls ≤ length out

pub playable : (m : ℕ) (calls a tab out : List ℕ) → Some m ≡ unless_zero (heap_order slot_order a tab) → first (replay_rules calls (heap_of a tab) out) ≡ 0
    → Playable m calls a tab out
playable m calls a tab out q z =
    let c = clear (replay_rules calls (heap_of a tab) out) refl z in
    record { sized = order-found slot_order a tab q; room = ltb-false (length out) (answer_length * call_count calls) (c 9) }

-- every call of a list that is accepted names one
pub names-one : (calls a tab out : List ℕ) → first (replay_rules calls (heap_of a tab) out) ≡ 0 → (i : ℕ) → i < call_count calls
    → names_call (get_or calls (i * call_length) 0) ≡ true
names-one calls a tab out z = all-known calls (call_count calls) (clear (replay_rules calls (heap_of a tab) out) refl z 5)

pub refused-is : (calls a tab out : List ℕ) (n : ℕ) → n ≡ first (replay_rules calls (heap_of a tab) out) → (n ≡ 0 → ⊥)
    → replayed n a tab out ≡ replay_of calls (heap_of a tab) out
unfolding replay_of
refused-is calls a tab out zero e d = absurd (d refl)
refused-is calls a tab out (suc n) e d = rw (← e)

-- ---- from call to call

-- one call of the ledger, and what it gives for calls from l on, their answers going to `place` and the bytes after
abbrev step_of : ℕ → Call → Ledger → Outcome Ledger
step_of m c l = ledger_step slot_order m c l

abbrev played : ℕ → List Call → ℕ → Ledger → List ℕ → Replayed
played m cs place l out =
    let r = run (step_of m) cs l in
    replayed 0 r.last.bytes (table_of slot_order m r.last.pairs) (over out place (answers_bytes r.answers))

played-none : (m : ℕ) (a tab : List ℕ) (l : Ledger) (place : ℕ) (out : List ℕ) → Agree slot_order m (heap_of a tab) l
    → replayed 0 a tab out ≡ played m [] place l out
unfolding run
played-none m a tab l place out g = let e = sym (answers-none out place) in λ i. replayed 0 (g.bytes i) (g.table i) (e i)

played-next : (m : ℕ) (c : Call) (cs : List Call) (place : ℕ) (l : Ledger) (out : List ℕ) → place + answer_length ≤ length out
    → let o = step_of m c l in
    played m cs (place + answer_length) o.state (over out place (answer_bytes o.answer)) ≡ played m (c ∷ cs) place l out
unfolding run
played-next m c cs place l out h =
    let r = run (step_of m) cs (step_of m c l).state in
    ap (replayed 0 r.last.bytes (table_of slot_order m r.last.pairs)) (answers_next out place (step_of m c l).answer r.answers h)

-- after i calls: a ledger agrees with the heap, and what it gives for the calls to come is what the whole list gives
pub record Replays (m : ℕ) (calls out₀ a tab out : List ℕ) (i : ℕ) : Type 0 where
  pub orders : Orders slot_order m
  pub within : i ≤ call_count calls
  pub room : answer_length * call_count calls ≤ length out
  pub same : length out ≡ length out₀
  pub ledger : Ledger
  pub agree : Agree slot_order m (heap_of a tab) ledger
  pub rest :
      played m (calls_from calls (i * call_length) (call_count calls - i)) (i * answer_length) ledger out
      ≡ played m (calls_of calls) 0 (empty_ledger m) out₀

pub replays-start : (m : ℕ) (calls a tab out a' tab' : List ℕ) (x : Answer) → Playable m calls a tab out → outcome x a' tab' ≡ heap_fresh (heap_of a tab)
    → Replays m calls out a' tab' out 0
replays-start m calls a tab out a' tab' x p e =
    let s = p.sized in
    let h : heap_of a' tab' ≡ fresh_heap m =
    ap (λ (o : Outcome Heap). o.state) e ∙ fresh-made m (heap_of a tab) s.low s.high s.size s.slots in
    record {
      orders = slot-orders m s.low s.high;
      within = omega arith;
      room = p.room;
      same = refl;
      ledger = empty_ledger m;
      agree = subst (λ (h : Heap). Agree slot_order m h (empty_ledger m)) (sym h) (fresh-agree slot_order m);
      rest = rw sub-zero;
    }

module _ {m : ℕ} {calls out₀ a tab out : List ℕ} {i : ℕ} (g : Replays m calls out₀ a tab out i) where
  pub replays-sound : Sound slot_order m a tab
  replays-sound = agree-sound g.orders (heap_of a tab) g.ledger g.agree

  pub replays-step : i < call_count calls → (x : Answer) (a' tab' out' : List ℕ)
      → outcome x a' tab' ≡ heap_step slot_order m (call_at calls (i * call_length)) (heap_of a tab)
      → out' ≡ over out (i * answer_length) (answer_bytes x) → length out' ≡ length out → Replays m calls out₀ a' tab' out' (i + 1)
  replays-step l x a' tab' out' q u k =
      let c : Call = call_at calls (i * call_length) in
      let s = step_same g.orders (heap_of a tab) g.ledger g.agree c in
      let cs : List Call = calls_from calls ((i + 1) * call_length) (call_count calls - (i + 1)) in
      let o = step_of m c g.ledger in
      let y : x ≡ o.answer = ap (λ (o : Outcome Heap). o.answer) q ∙ s.answer in
      let place : (i + 1) * answer_length ≡ i * answer_length + answer_length = omega arith in
      record {
        orders = g.orders;
        within = omega arith;
        room = omega (arith, g.room);
        same = k ∙ g.same;
        ledger = o.state;
        agree = subst (λ (h : Heap). Agree slot_order m h o.state) (sym (ap (λ (o : Outcome Heap). o.state) q)) s.agree;
        rest =
            rw (u, y, place)
            (played-next m c cs (i * answer_length) g.ledger out (omega (arith, g.room))
            ∙ ap (λ (ds : List Call). played m ds (i * answer_length) g.ledger out) (sym (calls-here calls (call_count calls) i l)) ∙ g.rest);
      }

  pub replays-end : call_count calls ≤ i → replayed 0 a tab out ≡ played m (calls_of calls) 0 (empty_ledger m) out₀
  unfolding calls_from
  replays-end l =
      let z : call_count calls - i ≡ 0 = omega arith in
      played-none m a tab g.ledger (i * answer_length) out g.agree
      ∙ ap (λ (k : ℕ). played m (calls_from calls (i * call_length) k) (i * answer_length) g.ledger out) (sym z) ∙ g.rest

pub played-is : (m : ℕ) (calls a tab out : List ℕ) → Playable m calls a tab out → first (replay_rules calls (heap_of a tab) out) ≡ 0
    → played m (calls_of calls) 0 (empty_ledger m) out ≡ replay_of calls (heap_of a tab) out
unfolding replay_of
played-is m calls a tab out p z = rw (z, ← p.sized.same)
