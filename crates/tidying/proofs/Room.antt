-- Where all taken slots stand below all free ones, a range of order e is free exactly when 2 ^ e bytes are.
use Prim.Native.Nat.{ℕ, suc, ◌+◌, ◌-◌, ◌*◌, ◌^◌, ◌≤◌, ◌<◌}
use mathlib.Core.Bool.{true, false≢true}
use mathlib.Core.List.{List}
use mathlib.Core.Path.{◌≡◌, refl, sym, ◌∙◌, ap}
use native.Mathlib.Decide.{dec_lt}
use native.Mathlib.Nat.{suc-mul, mul-le-mul_right, le_of_mul-le-mul_right}
use native.Mathlib.Omega.{arith}
use borrow.Author.Tests.{eq-eqb, ne_eqb, eqb-true}
use lib.ListN.{length, get_or}
use lib.Pow.{pow_pos, pow_mono}
use Rattle.blocks.specs.Blocks.{base, Referent}
use Rattle.blocks.specs.declared.Block.{Block}
use Rattle.blocks.specs.Placing.{range_start, free_range, place_in, Place, At, Nothing}
use Rattle.blocks.specs.Sets.{Pair, ranges, PairSet, referent_of, locked_of, table_of}
use Rattle.blocks.specs.Tables.{lock_bit, free_in}
use Rattle.blocks.proofs.Floors.{pow-split}
use Rattle.blocks.proofs.Halves.{sizes}
use Rattle.blocks.proofs.Places.{range_inside, place-sound, place-complete}
use Rattle.blocks.proofs.FreeRuns.{all-at, at_all}
use Rattle.blocks.proofs.Sets.{BlockSet, set-ranges}
use Rattle.blocks.proofs.Tables.{entry-taken}
use Rattle.blocks.proofs.SetTables.{table-length, table_taken, table-free}
use Rattle.tidying.specs.Counting.{count_below}
use Rattle.tidying.specs.Moves.{slot_count, order_at, taken}
use Rattle.tidying.specs.Room.{free_bytes, RoomAsSaid}
use Rattle.tidying.proofs.Counting.{count_same, count-le, between, between-true, between-below, count-between}
use Rattle.tidying.proofs.Moving.{moved_blocks}
use Rattle.tidying.proofs.Sums.{slots_taken}
use Rattle.tidying.proofs.Landing.{comer, comer-found, none-past}
use Rattle.tidying.proofs.Pairs.{moved_pairs, ranges-moved, pairs-moved}

-- the first `level` slots of the table are taken, and the others free
pub record Packed (t m : ℕ) (s : List ℕ) : Type 0 where
  pub level : ℕ
  pub slots : length s ≡ slot_count t m
  pub fits : level ≤ slot_count t m
  pub taken : (i : ℕ) → i < level → get_or s i 0 ≡ 0 → ⊥
  pub free : (i : ℕ) → level ≤ i → get_or s i 0 ≡ 0

module _ (t m : ℕ) (s : List ℕ) (w : Packed t m s) where
  free-slots : count_below (length s) (free_in s) ≡ slot_count t m - w.level
  free-slots =
      ap (λ (x : ℕ). count_below x (free_in s)) w.slots
      ∙ count_same (slot_count t m) (free_in s) (between w.level (slot_count t m)) (λ i l. one i l (dec_lt i w.level))
      ∙ count-between (slot_count t m) w.level (slot_count t m) w.fits (omega arith)
    where
      one : (i : ℕ) → i < slot_count t m → Dec (i < w.level) → free_in s i ≡ between w.level (slot_count t m) i
      one i l (yes h) = ne_eqb (get_or s i 0) 0 (w.taken i h) ∙ sym (between-below w.level (slot_count t m) i h)
      one i l (no h) = eq-eqb (get_or s i 0) 0 (w.free i (omega arith)) ∙ sym (between-true w.level (slot_count t m) i (omega arith) l)

  pub free-bytes : free_bytes t s ≡ (slot_count t m - w.level) * 2 ^ t
  unfolding free_bytes
  free-bytes = ap (λ (x : ℕ). x * 2 ^ t) free-slots

  -- a free slot lies past the taken ones
  past-level : (i : ℕ) → free_in s i ≡ true → w.level ≤ i
  past-level i h = elim (dec_lt i w.level) [
    | yes l ↦ absurd (w.taken i l (eqb-true (get_or s i 0) 0 h))
    | no l ↦ omega arith
  ]

  module _ (e : ℕ) (lo : t ≤ e) (hi : e ≤ m) where
    -- a free slot with a block's slots from it on, all in the arena
    enough : (i : ℕ) → free_in s i ≡ true → i + 2 ^ (e - t) ≤ slot_count t m → 2 ^ e ≤ free_bytes t s
    enough i h l =
        let k : 2 ^ (e - t) ≤ slot_count t m - w.level = omega (arith, past-level i h) in
        omega (arith, free-bytes, pow-split t e lo, mul-le-mul_right (2 ^ t) k)

    bytes : (b : ℕ) → b < 2 ^ (m - e) → free_range (free_in s) t 0 e b ≡ true → 2 ^ e ≤ free_bytes t s
    unfolding free_range range_start
    bytes b l h =
        let i : ℕ = 0 + b * 2 ^ (e - t) in
        let f : free_in s (i + 0) ≡ true = all-at (free_in s) i (2 ^ (e - t)) h 0 (pow_pos (e - t)) in
        enough (i + 0) f (omega (arith, range_inside t m e b lo hi l))

    -- the arena's last range of the order
    range : 2 ^ e ≤ free_bytes t s → (b : ℕ) × (b < 2 ^ (m - e)) × (free_range (free_in s) t 0 e b ≡ true)
    unfolding free_range range_start
    range h =
        let b : ℕ = 2 ^ (m - e) - 1 in
        let p : 0 < 2 ^ (m - e) = pow_pos (m - e) in
        let q : suc b ≡ 2 ^ (m - e) = omega arith in
        let k : 2 ^ (e - t) * 2 ^ t ≤ (slot_count t m - w.level) * 2 ^ t = omega (arith, free-bytes, pow-split t e lo) in
        let l : 2 ^ (e - t) ≤ slot_count t m - w.level = le_of_mul-le-mul_right k (pow_pos t) in
        let z : suc b * 2 ^ (e - t) ≡ slot_count t m = ap (λ (x : ℕ). x * 2 ^ (e - t)) q ∙ sizes t e m lo hi in (
          b,
          omega arith,
          at_all (free_in s) (0 + b * 2 ^ (e - t)) (2 ^ (e - t)) (λ j x. eq-eqb (get_or s (0 + b * 2 ^ (e - t) + j) 0) 0
              (w.free (0 + b * 2 ^ (e - t) + j) (omega (arith, suc-mul b (2 ^ (e - t)), w.fits, pow_pos (e - t))))),
        )

    few : place_in (free_in s) t 0 m e ≡ Nothing → free_bytes t s < 2 ^ e
    few h = elim (dec_lt (free_bytes t s) (2 ^ e)) [
      | yes l ↦ l
      | no l ↦ let r = range (omega arith) in absurd (false≢true (sym (place-complete (free_in s) t 0 m e h e r.0 (omega arith) hi r.1) ∙ r.2))
    ]

    none : free_bytes t s < 2 ^ e → place_in (free_in s) t 0 m e ≡ Nothing
    none h = go (place_in (free_in s) t 0 m e) refl
      where
        go : (x : Place) → place_in (free_in s) t 0 m e ≡ x → x ≡ Nothing
        go Nothing q = refl
        go (At i k) q =
            let r = place-sound (free_in s) t 0 m e i k (omega arith) q in
            let g : 2 ^ (e - t) ≤ 2 ^ (k - t) = pow_mono (omega (arith, r.low)) in
            let f : free_in s (i + 0) ≡ true = r.free 0 (pow_pos (k - t)) in
            let l : i + 0 + 2 ^ (e - t) ≤ slot_count t m
            = omega (arith, r.start, range_inside t m k r.number (omega (arith, r.low)) r.high r.among) in
            absurd (omega (arith, enough (i + 0) f l))

    pub packed-room : RoomAsSaid t m s e
    packed-room = record { has-range = range; has-bytes = bytes; none-few = few; few-none = none }

module _ (t m : ℕ) (one : 1 ≤ t) (le : t ≤ m) (top : m < lock_bit) (ps : List Pair) (set : PairSet t m ps) where
  abbrev bs : List Block
  bs = ranges ps

  abbrev new : List Pair
  new = moved_pairs t m (referent_of bs) ps

  pub moved : BlockSet t m (ranges new)
  moved = set-ranges (pairs-moved t m one le ps set)

  -- the moved pairs' blocks are the moved blocks
  pub found-new : (q : ℕ) (r : Referent) → referent_of (moved_blocks t m (referent_of bs) bs) q ≡ r → referent_of (ranges new) q ≡ r
  found-new q r h = ap (λ (l : List Block). referent_of l q) (ranges-moved t m (referent_of bs) ps) ∙ h

  -- the table of the moved pairs
  abbrev pub moved-packed : Packed t m (table_of t m new)
  moved-packed =
      record {
        level = slots_taken t m bs;
        slots = table-length t m new;
        fits = count-le (slot_count t m) (taken (order_at t (referent_of bs)));
        taken = λ i l z.
            let c = comer t m one le bs (set-ranges set) i l in
            entry-taken c.of.order (locked_of new (base + i * 2 ^ t)) (λ w. omega (arith, ((set-ranges set).aligned c.of c.mem).low))
            (sym (table_taken t m one le top new moved i _ _ (found-new _ _ (comer-found t m one le bs (set-ranges set) i l))) ∙ z);
        free = λ i l. table-free t m one le top new moved i (found-new _ _ (none-past t m one le bs (set-ranges set) i l));
      }

  pub moved-room : (e : ℕ) → t ≤ e → e ≤ m → RoomAsSaid t m (table_of t m new) e
  moved-room e lo hi = packed-room t m (table_of t m new) moved-packed e lo hi
