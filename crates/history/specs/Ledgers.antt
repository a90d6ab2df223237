-- Document 01, "The ledger", with request 7 of document 02: the abstract heap. A set of pairs of a start and an order, each locked or not, and bytes; no
-- table, shift or xor.
use Rattle.std.specs.Prelude.{ℕ, ◌+◌, ◌*◌, ◌^◌, Bool, false, cond, List, [], ◌∷◌, ◌++◌, eqb, replicate}
use Rattle.blocks.specs.Blocks.{base, holds, missing}
use Rattle.blocks.specs.Sets.{Pair, ranges, referent_of, locked_of}
use Rattle.blocks.specs.Pointers.{pointer_referent, address, exact_sum, within}
use Rattle.heap.specs.Views.{View, needed_for, start_for}
use Rattle.heap.specs.Rules.{rules}
use Rattle.heap.specs.Effects.{value, stored, Outcome, judged}
use Rattle.heap.specs.Changes.{Change, adds, removes, relocks, keeps, change_of}
use Rattle.heap.specs.declared.Call.{Call}

pub record Ledger : Type 0 where
  pub pairs : List Pair
  pub bytes : List ℕ

-- In slots of 2 ^ t bytes and an arena of 2 ^ m: a referent is the pair whose range holds the address, and has its lock; a slot in no range is free; a step
-- is inside by comparing the exact sum with the range. Nothing is ever damaged.
abbrev pub ledger_view : (t m : ℕ) → Ledger → View
ledger_view t m l =
    let bs = ranges l.pairs in
    record {
      slot = t;
      order = m;
      wrong-sizes = false;
      damaged = false;
      free = λ i. missing (referent_of bs (base + i * 2 ^ t));
      referent = referent_of bs;
      locked = locked_of l.pairs;
      inside = λ p i. within (pointer_referent t (referent_of bs) p) (exact_sum (address p) i);
    }

-- the pairs without the one that starts at s
unfoldable pub without : ℕ → List Pair → List Pair
without s [] = []
without s (p ∷ ps) = cond (eqb p.block.start s) (without s ps) (p ∷ without s ps)

-- the pairs with the lock of the one that holds q set
unfoldable pub relocked : ℕ → Bool → List Pair → List Pair
relocked q locked [] = []
relocked q locked (p ∷ ps) = record { block = p.block; locked = cond (holds p.block q) locked p.locked } ∷ relocked q locked ps

-- the pairs after a call that is not refused, by what it does to the blocks
unfoldable pub kept : Change → View → List Pair → List Pair
kept (adds n) w ps = ps ++ (record { block = record { start = start_for n w; order = needed_for n w }; locked = false } ∷ [])
kept (removes p) w ps = without p ps
kept (relocks p l) w ps = relocked p l ps
kept keeps w ps = ps

-- one call
unfoldable pub ledger_step : (t m : ℕ) → Call → Ledger → Outcome Ledger
ledger_step t m c l =
    let w = ledger_view t m l in
    judged (rules c w) l (value c w l.bytes) (record { pairs = kept (change_of c) w l.pairs; bytes = stored c w l.bytes })

abbrev pub empty_ledger : ℕ → Ledger
empty_ledger m = record { pairs = []; bytes = replicate (2 ^ m) 0 }
