-- Laws of a list that is written over.
use Prim.Native.Nat.{ℕ, zero, suc, ◌+◌, ◌-◌, ◌*◌, ◌/◌, ◌%◌, ◌^◌, ◌≤◌, ◌<◌}
use mathlib.Core.Path.{◌≡◌, refl, sym, ◌∙◌, ap, ap₂, subst}
use mathlib.Core.List.{List, [], ◌∷◌, ◌++◌, append_assoc, append-nil}
use native.Mathlib.Decide.{dec_lt}
use native.Mathlib.Omega.{arith}
use native.Mathlib.Nat.{add_assoc, add-zero, zero-add, div-add-mod', pow-suc}
use lib.ListN.{length, get_or, set, take, drop, length-append, length-drop, length-set, take-append-drop, drop_of_length-le, get_or-append}
use lib.Seq.{get_or_at, get_or-append-add, get_or-take, get_or-drop, length-take-le, take-take, take-append-le, drop-drop, drop_at, drop-set-lt, take-suc-set}
use borrow.Rule.Slice.PartMut.{put_mid}
use Rattle.common.specs.Bytes.{big_endian, bytes_of, over}

pub over_none : (l : List ℕ) (at : ℕ) → over l at [] ≡ l
unfolding over
over_none l at = rw add-zero (take-append-drop at l)

pub over-whole : (l xs : List ℕ) → length xs ≡ length l → over l 0 xs ≡ xs
unfolding over
over-whole l xs e = let h : length l ≤ length xs = omega arith in rw (zero-add, drop_of_length-le l h) (append-nil xs)

-- what a write to s[a..a + n] leaves, as a goal has it
pub put_over : (s xs : List ℕ) (a n : ℕ) → length xs ≡ n → put_mid a (a + n - a) s xs ≡ over s a xs
unfolding over
put_over s xs a n e =
    let k : a + n - a ≡ length xs = omega arith in
    rw (k, drop-drop (length xs) a s)

-- the first element stored before the rest
pub over_first : (l : List ℕ) (at x : ℕ) (xs : List ℕ) → at < length l → over l at (x ∷ xs) ≡ over (set l at x) (suc at) xs
unfolding over
over_first l at x xs h =
    let e : suc at + length xs ≡ at + suc (length xs) = omega arith in
    let rest : List ℕ = drop (at + suc (length xs)) l in
    rw (take-suc-set l at x h, drop-set-lt (suc at + length xs) l at x (omega arith), e, append_assoc (take at l) (x ∷ []) (xs ++ rest))

-- two parts, one after the other, are written over as one: the front part first
pub over-append : (l : List ℕ) (at : ℕ) (xs ys : List ℕ) → at + length xs ≤ length l → over (over l at xs) (at + length xs) ys ≡ over l at (xs ++ ys)
over-append l at [] ys h = rw (over_none, add-zero)
over-append l at (x ∷ xs) ys h =
    let e : at + suc (length xs) ≡ suc at + length xs = omega arith in
    let n : length (set l at x) ≡ length l = length-set l at x in
    rw (over_first l at x xs (omega arith), over_first l at x (xs ++ ys) (omega arith), e) (over-append (set l at x) (suc at) xs ys (omega arith))

-- or the back part first
pub over-prepend : (l : List ℕ) (at : ℕ) (xs ys : List ℕ) → at + length xs ≤ length l → over (over l (at + length xs) ys) at xs ≡ over l at (xs ++ ys)
unfolding over
over-prepend l at xs ys h =
    let i : ℕ = at + length xs in
    let rest : List ℕ = drop (i + length ys) l in
    let n : length (take i l) ≡ i = length-take-le i l h in
    let f : take at (take i l ++ (ys ++ rest)) ≡ take at l = take-append-le at (take i l) (ys ++ rest) (omega arith) ∙ take-take at i l (omega arith) in
    let b : drop i (take i l ++ (ys ++ rest)) ≡ ys ++ rest = drop_at (take i l) (ys ++ rest) i n in
    let e : at + length (xs ++ ys) ≡ i + length ys = ap (λ (k : ℕ). at + k) (length-append xs ys) ∙ omega arith in
    rw (f, b, e, append_assoc xs ys rest)

-- the last element stored before the others
pub over_last : (l : List ℕ) (at : ℕ) (xs : List ℕ) (x : ℕ) → at + length xs < length l → over l at (xs ++ (x ∷ [])) ≡ over (set l (at + length xs) x) at xs
over_last l at xs x h =
    let i : ℕ = at + length xs in
    sym (over-prepend l at xs (x ∷ []) (omega arith)) ∙ ap (λ (r : List ℕ). over r at xs) (over_first l i x [] h ∙ over_none (set l i x) (suc i))

module _ (l : List ℕ) (at : ℕ) (xs : List ℕ) (fits : at + length xs ≤ length l) where
  front : length (take at l) ≡ at
  front = length-take-le at l (omega arith)

  pub length_over : length (over l at xs) ≡ length l
  unfolding over
  length_over = simp (length-append, length-drop, front) (omega arith)

  pub over-before : (i : ℕ) → i < at → get_or (over l at xs) i 0 ≡ get_or l i 0
  unfolding over
  over-before i h =
      get_or-append (take at l) (xs ++ drop (at + length xs) l) 0 i (omega (arith, front)) ∙ get_or-take at l i 0 h

  past : (i : ℕ) → get_or (over l at xs) (at + i) 0 ≡ get_or (xs ++ drop (at + length xs) l) i 0
  unfolding over
  past i =
      subst (λ (k : ℕ). get_or (take at l ++ (xs ++ drop (at + length xs) l)) (k + i) 0 ≡ get_or (xs ++ drop (at + length xs) l) i 0) front
      (get_or-append-add (take at l) (xs ++ drop (at + length xs) l) i 0)

  pub over-in : (i : ℕ) → i < length xs → get_or (over l at xs) (at + i) 0 ≡ get_or xs i 0
  over-in i h = past i ∙ get_or-append xs (drop (at + length xs) l) 0 i h

  pub over-after : (i : ℕ) → at + length xs ≤ i → get_or (over l at xs) i 0 ≡ get_or l i 0
  over-after i h =
      let j : ℕ = i - (at + length xs) in
      let p : at + (length xs + j) ≡ i = omega arith in
      let q : at + length xs + j ≡ i = omega arith in
      subst (λ (k : ℕ). get_or (over l at xs) k 0 ≡ get_or l i 0) p
      (past (length xs + j) ∙ (get_or-append-add xs (drop (at + length xs) l) j 0 ∙ (get_or-drop (at + length xs) l j 0 ∙ ap (λ (k : ℕ). get_or l k 0) q)))

pub length-bytes_of : (w v : ℕ) → length (bytes_of w v) ≡ w
unfolding bytes_of
length-bytes_of zero v = refl
length-bytes_of (suc w) v = length-append (bytes_of w (v / 256)) (v % 256 ∷ []) ∙ (ap (λ (n : ℕ). n + 1) (length-bytes_of w (v / 256)) ∙ omega arith)

-- ---- big-endian numbers, at any width

pub number-drop : (n at w : ℕ) (bs : List ℕ) → big_endian (drop n bs) at w ≡ big_endian bs (n + at) w
unfolding big_endian
number-drop n at zero bs = refl
number-drop n at (suc w) bs = rw (number-drop n at w bs, get_or-drop n bs (at + w) 0, add_assoc n at w)

-- a number's bytes are the number
pub number-forth : (w v : ℕ) (rest : List ℕ) → v < 256 ^ w → big_endian (bytes_of w v ++ rest) 0 w ≡ v
unfolding big_endian bytes_of
number-forth zero v rest h = omega arith
number-forth (suc w) v rest h =
    let e : (bytes_of w (v / 256) ++ (v % 256 ∷ [])) ++ rest ≡ bytes_of w (v / 256) ++ (v % 256 ∷ rest) =
    append_assoc (bytes_of w (v / 256)) (v % 256 ∷ []) rest in
    let l : v < 256 ^ w * 256 = rw pow-suc at h in
    let d : v / 256 < 256 ^ w = omega arith in
    let g : get_or (bytes_of w (v / 256) ++ (v % 256 ∷ rest)) (0 + w) 0 ≡ v % 256 =
    get_or_at (bytes_of w (v / 256)) (v % 256) rest 0 (0 + w) (length-bytes_of w (v / 256) ∙ sym (zero-add w)) in
    let p : big_endian (bytes_of (suc w) v ++ rest) 0 w ≡ v / 256 =
    ap (λ (l : List ℕ). big_endian l 0 w) e ∙ number-forth w (v / 256) (v % 256 ∷ rest) d in
    let q : get_or (bytes_of (suc w) v ++ rest) (0 + w) 0 ≡ v % 256 = ap (λ (l : List ℕ). get_or l (0 + w) 0) e ∙ g in
    ap₂ (λ (x y : ℕ). x * 256 + y) p q ∙ div-add-mod' v 256

-- and so they are where they are stored
pub number-over : (l : List ℕ) (at w v : ℕ) → v < 256 ^ w → at + w ≤ length l → big_endian (over l at (bytes_of w v)) at w ≡ v
unfolding over
number-over l at w v h fits =
    let rest : List ℕ = drop (at + length (bytes_of w v)) l in
    let l' : List ℕ = take at l ++ (bytes_of w v ++ rest) in
    let d : drop at l' ≡ bytes_of w v ++ rest = drop_at (take at l) (bytes_of w v ++ rest) at (length-take-le at l (omega arith)) in
    ap (λ (x : ℕ). big_endian l' x w) (sym (add-zero at)) ∙ sym (number-drop at 0 w l') ∙ ap (λ (x : List ℕ). big_endian x 0 w) d ∙ number-forth w v rest h

-- ---- two lists that are equal at some places

pub big_endian-same : (l r : List ℕ) (at w : ℕ) → ((j : ℕ) → j < w → get_or l (at + j) 0 ≡ get_or r (at + j) 0) → big_endian l at w ≡ big_endian r at w
unfolding big_endian
big_endian-same l r at zero h = refl
big_endian-same l r at (suc w) h = ap₂ (λ (x y : ℕ). x * 256 + y) (big_endian-same l r at w (λ j k. h j (omega arith))) (h w (omega arith))

-- written over at one place, they are equal at i if what is written there is, or what stays there
pub over-same : (l r : List ℕ) (at : ℕ) (xs ys : List ℕ) → length xs ≡ length ys → at + length xs ≤ length l → at + length ys ≤ length r → (i : ℕ)
    → ((j : ℕ) → j < length xs → at + j ≡ i → get_or xs j 0 ≡ get_or ys j 0) → ((at ≤ i → i < at + length xs → ⊥) → get_or l i 0 ≡ get_or r i 0)
    → get_or (over l at xs) i 0 ≡ get_or (over r at ys) i 0
over-same l r at xs ys e f g i new old = go (dec_lt i at) (dec_lt i (at + length xs))
  where
    go : Dec (i < at) → Dec (i < at + length xs) → get_or (over l at xs) i 0 ≡ get_or (over r at ys) i 0
    go (yes u) d = over-before l at xs f i u ∙ old (λ x y. omega arith) ∙ sym (over-before r at ys g i u)
    go (no u) (yes v) =
        let j : ℕ = i - at in
        let p : at + j ≡ i = omega arith in
        subst (λ (k : ℕ). get_or (over l at xs) k 0 ≡ get_or (over r at ys) k 0) p
        (over-in l at xs f j (omega arith) ∙ new j (omega arith) p ∙ sym (over-in r at ys g j (omega arith)))
    go (no u) (no v) = over-after l at xs f i (omega arith) ∙ old (λ x y. omega arith) ∙ sym (over-after r at ys g i (omega arith))
