-- A copy within one list, chunk by chunk: in rising order where it goes downwards, in falling order where it goes upwards, the source's elements that are
-- yet to be read lie outside of what has been stored.
use Prim.Native.Nat.{ℕ, ◌+◌, ◌-◌, ◌≤◌}
use mathlib.Core.Path.{◌≡◌, sym, ◌∙◌, ap}
use mathlib.Core.List.{List, ◌++◌, append_assoc}
use native.Mathlib.Omega.{arith}
use lib.ListN.{length, take, drop, length-append, length-drop, take-append-drop}
use lib.Seq.{length-take-le, take-append-le, drop-append-le, drop-append-add, drop-drop, take-add, take_at}
use Rattle.common.specs.Bytes.{over, copied}
use Rattle.common.proofs.Bytes.{over_none, over-append, over-prepend}

-- ---- a part of a list that is written over elsewhere stays

part-of-front : (x r : List ℕ) (from k : ℕ) → from + k ≤ length x → take k (drop from (x ++ r)) ≡ take k (drop from x)
part-of-front x r from k h = ap (take k) (drop-append-le from x r (omega arith)) ∙ take-append-le k (drop from x) r (omega (arith, length-drop from x))

part-before : (l : List ℕ) (at : ℕ) (xs : List ℕ) (from k : ℕ) → from + k ≤ at → at ≤ length l → take k (drop from (over l at xs)) ≡ take k (drop from l)
unfolding over
part-before l at xs from k h f =
    let n : length (take at l) ≡ at = length-take-le at l f in
    part-of-front (take at l) (xs ++ drop (at + length xs) l) from k (omega arith)
    ∙ sym (part-of-front (take at l) (drop at l) from k (omega arith))
    ∙ ap (λ (x : List ℕ). take k (drop from x)) (take-append-drop at l)

part-past : (l : List ℕ) (at : ℕ) (xs : List ℕ) (from k : ℕ) → at + length xs ≤ from → at ≤ length l → take k (drop from (over l at xs)) ≡ take k (drop from l)
unfolding over
part-past l at xs from k h f =
    let i : ℕ = at + length xs in
    let front : List ℕ = take at l ++ xs in
    let n : length front ≡ i = length-append (take at l) xs ∙ ap (λ (j : ℕ). j + length xs) (length-take-le at l f) in
    let e : from ≡ length front + (from - i) = omega arith in
    let g : i + (from - i) ≡ from = omega arith in
    ap (λ (x : List ℕ). take k (drop from x)) (sym (append_assoc (take at l) xs (drop i l)))
    ∙ ap (λ (j : ℕ). take k (drop j (front ++ drop i l))) e
    ∙ ap (take k) (drop-append-add front (drop i l) (from - i) ∙ drop-drop (from - i) i l)
    ∙ ap (λ (j : ℕ). take k (drop j l)) g

-- ---- a chunk, and the rest

-- where nothing is left
pub copy-end : (l src : List ℕ) (to from k : ℕ) → k ≤ 0 → copied l to src from k ≡ l
unfolding copied
copy-end l src to from k h = let e : k ≡ 0 = omega arith in rw e (over_none l to)

-- by way of another list that holds the chunk
pub held-chunk : (l chunk : List ℕ) (to from n : ℕ) → from + n ≤ length l → copied l to (copied chunk 0 l from n) 0 n ≡ copied l to l from n
unfolding copied over
held-chunk l chunk to from n f =
    let xs : List ℕ = take n (drop from l) in
    let e : length xs ≡ n = length-take-le n (drop from l) (omega (arith, length-drop from l)) in
    ap (over l to) (take_at xs (drop (0 + length xs) chunk) n e)

module _ (l : List ℕ) (to from a b : ℕ) (room : to + (a + b) ≤ length l) (fits : from + (a + b) ≤ length l) where
  abbrev front : List ℕ
  front = take a (drop from l)

  abbrev back : List ℕ
  back = take b (drop (from + a) l)

  length_front : length front ≡ a
  length_front = length-take-le a (drop from l) (omega (arith, length-drop from l))

  both : front ++ back ≡ take (a + b) (drop from l)
  both = sym (take-add a b (drop from l) ∙ ap (λ (x : List ℕ). front ++ take b x) (drop-drop a from l))

  -- the chunk first, then what lies above it
  rising-rest : to ≤ from → copied (copied l to l from a) (to + a) (copied l to l from a) (from + a) b ≡ copied l to l from (a + b)
  unfolding copied
  rising-rest d =
      ap (over (over l to front) (to + a)) (part-past l to front (from + a) b (omega (arith, length_front)) (omega arith))
      ∙ ap (λ (k : ℕ). over (over l to front) (to + k) back) (sym length_front)
      ∙ over-append l to front back (omega (arith, length_front))
      ∙ ap (over l to) both

  -- the chunk first, then what lies below it
  pub falling-rest : from ≤ to → copied (copied l (to + a) l (from + a) b) to (copied l (to + a) l (from + a) b) from a ≡ copied l to l from (a + b)
  unfolding copied
  falling-rest d =
      ap (over (over l (to + a) back) to) (part-before l (to + a) back from a (omega arith) (omega arith))
      ∙ ap (λ (k : ℕ). over (over l (to + k) back) to front) (sym length_front)
      ∙ over-prepend l to front back (omega (arith, length_front))
      ∙ ap (over l to) both

-- a turn in rising order

pub rising-turn : (l : List ℕ) (to from c i n : ℕ) → to ≤ from → i + n ≤ c → to + c ≤ length l → from + c ≤ length l
    → copied (copied l (to + i) l (from + i) n) (to + (i + n)) (copied l (to + i) l (from + i) n) (from + (i + n)) (c - (i + n))
    ≡ copied l (to + i) l (from + i) (c - i)
rising-turn l to from c i n d h room fits =
    let r : ℕ = c - (i + n) in
    let e : c - i ≡ n + r = omega arith in
    let t : to + (i + n) ≡ to + i + n = omega arith in
    let f : from + (i + n) ≡ from + i + n = omega arith in
    rw (e, t, f) (rising-rest l (to + i) (from + i) n r (omega arith) (omega arith) (omega arith))
