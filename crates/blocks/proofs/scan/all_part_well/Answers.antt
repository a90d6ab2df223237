-- The slots are written out one by one (`listed`), so that the vectors are lists of sixteen lanes. Each lane is all ones where its slot parts well (`lane`),
-- and the mask of all is full where each is (`lanes`).
use Rattle.std.proofs.Common.{◌≡◌, ℕ, zero, suc, ◌+◌, ◌-◌, ◌*◌, ◌%◌, ◌^◌, ◌<◌, ◌≤◌, Bool, true, false, cond, ◌&&◌, ◌||◌, eqb, leb, List, length, get_or}
use Rattle.std.proofs.Common.{[], ◌∷◌}
use Rattle.std.proofs.Common.{refl, sym, ap, ap₂, ◌∙◌, subst, arith, eqb-true, eq-eqb, ne_eqb, pow_pos, bit_and, bit_or, w8, Fits}
use Rattle.std.proofs.Math.Nat.{mod-eq_of_lt, pow-succ', zero-mod}
use Rattle.std.proofs.lemmas.Simd.{mask_l-mod, Each1-get_or}
use lib.Lanes.{mask_l, top}
use Rattle.common.proofs.Booleans.{or_right, and_both, eqb-suc, true-together}
use Rattle.blocks.specs.Placing.{all_free}
use Rattle.blocks.specs.Tables.{entry_order}
use Rattle.blocks.specs.Inner.{stands, can_part, parts_well}
use Rattle.blocks.proofs.Parting.{parting, levels_fit, parts_at, byte-order, order-fits}
use Rattle.blocks.proofs.scan.all_part_well.Goals as goal

-- the n entries of a list from i on
abbrev from : List ℕ → ℕ → ℕ → List ℕ
from x i zero = []
from x i (suc n) = get_or x i 0 ∷ from x (suc i) n

from-tail : (a : ℕ) (x : List ℕ) (i n : ℕ) → from (a ∷ x) (suc i) n ≡ from x i n
from-tail a x i zero = refl
from-tail a x i (suc n) = ap (◌∷◌ (get_or x i 0)) (from-tail a x (suc i) n)

listed : (x : List ℕ) → x ≡ from x 0 (length x)
listed [] = refl
listed (a ∷ x) = ap (◌∷◌ a) (listed x ∙ sym (from-tail a x 0 (length x)))

-- ---- a lane
-- what a comparison gives
abbrev ones : Bool → ℕ
ones b = cond b 255 0

or-ones : (a d e : Bool) → bit_or (ones a) (bit_and (ones d) (ones e)) ≡ ones (a || (d && e))
or-ones true true true = refl
or-ones true true false = refl
or-ones true false true = refl
or-ones true false false = refl
or-ones false true true = refl
or-ones false true false = refl
or-ones false false true = refl
or-ones false false false = refl

and-top : (a b : Bool) → top 7 (bit_and (ones a) (ones b)) ≡ a && b
and-top true true = refl
and-top true false = refl
and-top false true = refl
and-top false false = refl

-- the lane of slot k; the one before the first is the last
abbrev lane_of : (t m : ℕ) → List ℕ → ℕ → Bool
lane_of t m x k =
    let v = get_or x k 0 in
    let u = get_or x ((k + 15) % 16) 0 in
    let limit = (t + get_or parting k 0) % 256 in
    top 7 (bit_and
    (bit_or (ones (eqb v u)) (bit_and (ones (leb (bit_and v 127) limit)) (ones (leb (bit_and u 127) limit))))
    (bit_or (ones (eqb v 0)) (bit_and (ones (leb t (bit_and v 127))) (ones (leb (bit_and v 127) m)))))

-- what it says: slot k, with the entry v, parts well from one with the entry u
abbrev parts : (t m k v u : ℕ) → Bool
parts t m k v u = (eqb v u || (can_part t v k && can_part t u k)) && stands t m v

-- the lanes of the n slots from i on
abbrev lanes_from : (t m : ℕ) → List ℕ → ℕ → ℕ → List Bool
lanes_from t m x i zero = []
lanes_from t m x i (suc n) = lane_of t m x i ∷ lanes_from t m x (suc i) n

-- a mask of one lane more
mask-more : (b : Bool) (a n : ℕ) → eqb (cond b 1 0 + 2 * a) (2 ^ suc n - 1) ≡ b && eqb a (2 ^ n - 1)
mask-more b a n = go b (pow-succ' 2 n) (pow_pos n)
  where
    go : (b : Bool) → 2 ^ suc n ≡ 2 * 2 ^ n → 1 ≤ 2 ^ n → eqb (cond b 1 0 + 2 * a) (2 ^ suc n - 1) ≡ b && eqb a (2 ^ n - 1)
    go true twice some = true-together _ _
        (λ e. let q = eqb-true _ _ e in eq-eqb _ _ (omega arith))
        (λ e. let q = eqb-true _ _ e in eq-eqb _ _ (omega arith))
    go false twice some = ne_eqb _ _ (λ e. omega arith)

module _ (t m : ℕ) (x : List ℕ) (low : t ≤ 16) (bytes : (k : ℕ) → k < 16 → get_or x k 0 < 256) where
  lane : (k : ℕ) → k < 16 → lane_of t m x k ≡ parts t m k (get_or x k 0) (get_or x ((k + 15) % 16) 0)
  lane k lk =
      let v = get_or x k 0 in
      let u = get_or x ((k + 15) % 16) 0 in
      let lv = bytes k lk in
      let lu = bytes ((k + 15) % 16) (omega arith) in
      let fits : (t + get_or parting k 0) % 256 ≡ t + get_or parting k 0 = mod-eq_of_lt (omega (arith, levels_fit k lk)) in
      rw (
        byte-order v lv,
        byte-order u lu,
        fits,
        or-ones _ _ _,
        or-ones _ _ _,
        and-top _ _,
        parts_at t v k lk (order-fits v lv),
        parts_at t u k lk (order-fits u lu),
      ) refl

  -- before the first slot any block can part
  first : (v : ℕ) → can_part t v 0 ≡ true
  first v = rw (zero-mod (2 ^ (entry_order v - t))) refl

  slot : (k : ℕ) → k < 16 → lane_of t m x k ≡ parts_well t m x k
  slot zero l =
      lane 0 l
      ∙ ap (λ (b : Bool). b && stands t m (get_or x 0 0))
      (or_right (eqb (get_or x 0 0) (get_or x 15 0)) (and_both (first (get_or x 0 0)) (first (get_or x 15 0))))
  slot (suc k) l =
      let v = get_or x (suc k) 0 in
      let at : (suc k + 15) % 16 ≡ suc k - 1 = omega arith in
      rw (eqb-suc k) (lane (suc k) l ∙ ap (λ (j : ℕ). parts t m (suc k) v (get_or x j 0)) at)

  lanes : (i n : ℕ) → i + n ≤ 16 → eqb (mask_l (lanes_from t m x i n)) (2 ^ n - 1) ≡ all_free (parts_well t m x) i n
  unfolding all_free
  lanes i zero l = refl
  lanes i (suc n) l =
      mask-more (lane_of t m x i) (mask_l (lanes_from t m x (suc i) n)) n
      ∙ ap₂ ◌&&◌ (slot i (omega arith)) (lanes (suc i) n (omega arith))

pub returns : goal.returns
returns c =
    let t = c.args.t in
    let m = c.args.m in
    let x = c.args.x in
    let is : x ≡ from x 0 16 = subst (λ (n : ℕ). x ≡ from x 0 n) c.fits-x.0 (listed x) in
    let bytes : (k : ℕ) → k < 16 → get_or x k 0 < 256 = λ k l. (Each1-get_or (Fits w8) x k 0 (omega arith) c.fits-x.1).fits in
    let full : eqb (mask_l (lanes_from t m x 0 16) % 2 ^ 64) 65535 ≡ all_free (parts_well t m x) 0 16 =
    ap (λ (n : ℕ). eqb n 65535) (mask_l-mod (lanes_from t m x 0 16) 64 (omega arith)) ∙ lanes t m x (omega arith) bytes 0 16 (omega arith) in
    rw is (full ∙ ap (λ (y : List ℕ). all_free (parts_well t m y) 0 16) is)
