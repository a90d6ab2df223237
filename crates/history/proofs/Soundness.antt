-- Every sound heap, whatever made it, agrees with a ledger: the pairs are the blocks that its table reads back as, the bytes its arena.
-- So a call leaves a sound heap sound.
use Prim.Native.Nat.{ℕ, suc, ◌+◌, ◌*◌, ◌%◌, ◌^◌, ◌-◌}
use mathlib.Core.Path.{◌≡◌, refl, ◌∙◌, ap}
use mathlib.Core.Bool.{Bool, true, false, not, cond, ◌&&◌}
use mathlib.Core.List.{List, [], ◌∷◌, Memᴰ}
use native.Mathlib.Nat.{add-suc, suc-add, add-mul, suc-mul}
use native.Mathlib.Omega.{arith}
use lib.Dec.{eqb}
use lib.Pow.{pow_pos}
use Rattle.blocks.specs.Blocks.{base, holds, Missing}
use Rattle.blocks.specs.declared.Block.{Block}
use Rattle.blocks.specs.Sets.{Pair, ranges, PairSet, referent_of, pair_at, pairs_from, pairs_of}
use Rattle.blocks.specs.Tables.{entry_order}
use Rattle.blocks.proofs.OneTable.{one_table}
use Rattle.blocks.proofs.Reading.{read_out}
use Rattle.blocks.proofs.Sets.{Ranged, range-out, none-missing}
use Rattle.heap.specs.Views.{slot_order}
use Rattle.heap.specs.Heaps.{Heap, heap_view, heap_step, heap_call, fresh_in}
use Rattle.heap.specs.Inner.{Sound}
use Rattle.heap.specs.declared.Call.{Call}
use Rattle.heap.proofs.Judging.{sound-sized}
use Rattle.history.specs.Ledgers.{Ledger, ledger_view, empty_ledger}
use Rattle.history.proofs.Agreement.{Proper, none, more, Orders, Agree}
use Rattle.history.proofs.Simulation.{view-same, agree-sound, step_same}
use Rattle.history.proofs.CallLists.{fresh-agree}

-- the blocks read after slot i start past it
read-later : (t i : ℕ) (s : List ℕ) (p r : Pair) → p.block.start ≡ base + i * 2 ^ t → Memᴰ r (pairs_from t (suc i) s) → p ≡ r → ⊥
read-later t i s p r e j q =
    let d = read_out t r (suc i) s j in
    let a : suc i + d.at ≡ i + suc d.at = rw (suc-add, add-suc) in
    let b : (suc i + d.at) * 2 ^ t ≡ i * 2 ^ t + (d.at * 2 ^ t + 2 ^ t) =
    ap (λ (x : ℕ). x * 2 ^ t) a ∙ add-mul i (suc d.at) (2 ^ t) ∙ ap (λ (x : ℕ). i * 2 ^ t + x) (suc-mul d.at (2 ^ t)) in
    omega (arith, d.start, pow_pos t, ap (λ (x : Pair). x.block.start) q)

-- A table's blocks are read by rising starts, so no block comes twice, and each stands apart from those after it.
reads-proper : (t m i : ℕ) (s : List ℕ) → PairSet t m (pairs_from t i s) → Proper t m (ranges (pairs_from t i s))
unfolding pairs_from
reads-proper t m i [] set = none
reads-proper t m i (x ∷ s) set = go (not (eqb x 0) && eqb (i % 2 ^ (entry_order x - t)) 0) set (reads-proper t m (suc i) s)
  where
    p : Pair
    p = pair_at t i x

    rest : List Pair
    rest = pairs_from t (suc i) s

    apart : PairSet t m (p ∷ rest) → (q : ℕ) → holds p.block q ≡ true → referent_of (ranges rest) q ≡ Missing
    apart set q h = none-missing (ranges rest) q (λ c j. let r = range-out c rest j in unheld c r (holds c q) refl)
      where
        unheld : (c : Block) → Ranged rest c → (u : Bool) → holds c q ≡ u → u ≡ false
        unheld c r true k =
            let held : holds r.whose.block q ≡ true = rw r.is k in
            absurd (read-later t i s p r.whose refl r.mem (set.apart p r.whose (Memᴰ.head refl) (Memᴰ.tail r.mem) q h held))
        unheld c r false k = refl

    go : (u : Bool) → PairSet t m (cond u (p ∷ rest) rest) → (PairSet t m rest → Proper t m (ranges rest)) → Proper t m (ranges (cond u (p ∷ rest) rest))
    go true set ih =
        more (set.aligned p (Memᴰ.head refl)) (apart set)
        (ih (record { aligned = λ c j. set.aligned c (Memᴰ.tail j); apart = λ c d i j. set.apart c d (Memᴰ.tail i) (Memᴰ.tail j) }))
    go false set ih = ih set

-- what a heap reads back as, in slots of 2 ^ t bytes
abbrev pub read_ledger : ℕ → Heap → Ledger
read_ledger t h = record { pairs = pairs_of t h.table; bytes = h.arena }

abbrev pub SoundHeap : (t m : ℕ) → Heap → Type 0
SoundHeap t m h = Sound t m h.arena h.table

module _ {t m : ℕ} (h : Heap) (s : SoundHeap t m h) where
  pub sound-orders : Orders t m
  sound-orders = record { slot-low = s.slot-low; slot-high = s.slot-high; low = s.low; high = s.high }

  pub sound-agree : Agree t m h (read_ledger t h)
  sound-agree =
      let one = one_table t m s.slot-low s.slot-high (omega (arith, s.high)) in
      record {
        bytes = refl;
        size = s.size;
        table = one.is-table h.table s.slots s.whole;
        proper = reads-proper t m 0 h.table (one.is_set h.table s.slots s.whole);
      }

  -- it looks to every rule as those pairs do
  pub sound-view : heap_view t m h ≡ ledger_view t m (read_ledger t h)
  sound-view = view-same sound-orders h (read_ledger t h) sound-agree

  -- any call, refused or not
  step-sound : (c : Call) → SoundHeap t m (heap_step t m c h).state
  step-sound c = agree-sound sound-orders _ _ (step_same sound-orders h (read_ledger t h) sound-agree c).agree

pub fresh-sound : {t m : ℕ} → Orders t m → SoundHeap t m (fresh_in t m)
fresh-sound {t} {m} os = agree-sound os (fresh_in t m) (empty_ledger m) (fresh-agree t m)

-- a public call takes the order from the arena's length
pub call-sound : (m : ℕ) (h : Heap) → SoundHeap slot_order m h → (c : Call) → SoundHeap slot_order m (heap_call c h).state
unfolding heap_call
call-sound m h s c = rw (← (sound-sized slot_order h.arena h.table s).same) (step-sound h s c)
