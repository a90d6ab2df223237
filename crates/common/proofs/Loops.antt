-- A turn of each loop over a number's bytes.
use Prim.Native.Nat.{ℕ, suc, ◌+◌, ◌-◌, ◌*◌, ◌/◌, ◌%◌, ◌^◌, ◌≤◌, ◌<◌}
use mathlib.Core.Path.{◌≡◌, ◌∙◌, ap}
use mathlib.Core.List.{List}
use native.Mathlib.Omega.{arith}
use native.Mathlib.Nat.{pow-suc, pow-le-pow_right}
use lib.ListN.{length, get_or, set}
use Rattle.common.specs.Bytes.{big_endian, bytes_of, over}
use Rattle.common.proofs.Bytes.{over_none, over_last, length-bytes_of}

pub write-turn : (l : List ℕ) (at k v : ℕ) → 0 < k → at + k ≤ length l
    → over l at (bytes_of k v) ≡ over (set l (at + (k - 1)) (v % 256)) at (bytes_of (k - 1) (v / 256))
unfolding bytes_of
write-turn l at k v h f =
    let e : k ≡ suc (k - 1) = omega arith in
    let n : length (bytes_of (k - 1) (v / 256)) ≡ k - 1 = length-bytes_of (k - 1) (v / 256) in
    ap (λ (j : ℕ). over l at (bytes_of j v)) e
    ∙ (over_last l at (bytes_of (k - 1) (v / 256)) (v % 256) (omega arith) ∙ ap (λ (j : ℕ). over (set l (at + j) (v % 256)) at (bytes_of (k - 1) (v / 256))) n)

pub write-end : (l : List ℕ) (at k v : ℕ) → k ≤ 0 → over l at (bytes_of k v) ≡ l
unfolding bytes_of
write-end l at k v h = let e : k ≡ 0 = omega arith in rw e (over_none l at)

pub read-turn : (l : List ℕ) (at k : ℕ) → big_endian l at (k + 1) ≡ big_endian l at k * 256 + get_or l (at + k) 0
unfolding big_endian
read-turn l at k = let e : k + 1 ≡ suc k = omega arith in rw e

-- one more byte keeps a number of k bytes below 256 ^ (k + 1), and that of 4 in 32 bits
pub read_fits : (k v b : ℕ) → v < 256 ^ k → b < 256 → k < 4 → (v * 256 + b < 256 ^ (k + 1)) × (v * 256 + b < 2 ^ 32)
read_fits k v b h l f =
    let e : k + 1 ≡ suc k = omega arith in
    let p : 256 ^ (k + 1) ≡ 256 ^ k * 256 = ap (λ (j : ℕ). 256 ^ j) e ∙ pow-suc 256 k in
    let m : 256 ^ (k + 1) ≤ 256 ^ 4 = let j : k + 1 ≤ 4 = omega arith in pow-le-pow_right (omega arith) j in
    (omega arith, omega arith)
