-- Laws of an ordered list of refusals: which number is the first, and what is known where none applies.
use Prim.Native.Nat.{ℕ, suc, ◌<◌}
use mathlib.Core.Path.{◌≡◌, refl, ◌∙◌, subst}
use mathlib.Core.Bool.{Bool, true, false, not, cond, ◌&&◌, ◌||◌, false≢true}
use mathlib.Core.List.{List, [], ◌∷◌, ◌++◌}
use native.Mathlib.Omega.{arith}
use borrow.Author.Tests.{ltb-true, eqb-true, eqb-false, eq-eqb, ne_eqb, not-true}
use lib.Dec.{eqb, ltb}
use Rattle.common.specs.Refusals.{Refusal, ◌when◌, first, is_one_of}
use Rattle.common.proofs.Booleans.{and_left, and_right, or_right}

-- every number of a list passes the test
abbrev pub all_of : (ℕ → Bool) → List ℕ → Bool
all_of f [] = true
all_of f (n ∷ ns) = f n && all_of f ns

-- the condition of the number k in the list
abbrev pub cond_of : ℕ → List Refusal → Bool
cond_of k [] = false
cond_of k ((n when b) ∷ rs) = cond (eqb n k) b (cond_of k rs)

abbrev pub positive : List Refusal → Bool
positive [] = true
positive ((n when b) ∷ rs) = ltb 0 n && positive rs

-- where none applies, the condition of each number is false, in whatever order the list has them
pub clear : (rs : List Refusal) → positive rs ≡ true → first rs ≡ 0 → (k : ℕ) → cond_of k rs ≡ false
clear [] h e k = refl
clear ((n when b) ∷ rs) h e k = go (clear rs (and_right (ltb 0 n) _ h)) b e (eqb n k)
  where
    go : (first rs ≡ 0 → (k : ℕ) → cond_of k rs ≡ false) → (b : Bool) → cond b n (first rs) ≡ 0 → (t : Bool) → cond t b (cond_of k rs) ≡ false
    go ih true x t = let z : 0 < n = ltb-true 0 n (and_left _ _ h) in absurd (omega arith)
    go ih false x true = refl
    go ih false x false = ih x k

-- a list that refuses, before another
pub first-stays : (xs ys : List Refusal) → (first xs ≡ 0 → ⊥) → first (xs ++ ys) ≡ first xs
first-stays [] ys n = absurd (n refl)
first-stays ((k when b) ∷ xs) ys n = go b n (first-stays xs ys)
  where
    go : (b : Bool) → (cond b k (first xs) ≡ 0 → ⊥) → ((first xs ≡ 0 → ⊥) → first (xs ++ ys) ≡ first xs) → cond b k (first (xs ++ ys)) ≡ cond b k (first xs)
    go true n ih = refl
    go false n ih = ih n

-- the refusal n, none where it is 0
abbrev pub numbered : ℕ → Refusal
numbered n = n when not (eqb n 0)

-- any list, before another
pub first-append : (xs ys : List Refusal) → positive xs ≡ true → first (xs ++ ys) ≡ first (numbered (first xs) ∷ ys)
first-append [] ys q = refl
first-append ((k when b) ∷ xs) ys q = go b (first-append xs ys (and_right (ltb 0 k) _ q))
  where
    go : (b : Bool) → first (xs ++ ys) ≡ first (numbered (first xs) ∷ ys) → cond b k (first (xs ++ ys)) ≡ first (numbered (cond b k (first xs)) ∷ ys)
    go true ih = let l : 0 < k = ltb-true 0 k (and_left _ _ q) in rw (ne_eqb k 0 (λ z. omega arith))
    go false ih = ih

-- a list that refuses nothing, before another
pub first-goes-on : (xs ys : List Refusal) → positive xs ≡ true → first xs ≡ 0 → first (xs ++ ys) ≡ first ys
first-goes-on xs ys q z = first-append xs ys q ∙ rw z

-- a number that no refusal of the list has is not given
abbrev pub lacks : ℕ → List Refusal → Bool
lacks k [] = true
lacks k ((n when b) ∷ rs) = not (eqb n k) && lacks k rs

pub not-given : (k : ℕ) (rs : List Refusal) → lacks (suc k) rs ≡ true → first rs ≡ suc k → ⊥
not-given k [] h e = omega arith
not-given k ((n when b) ∷ rs) h e = go b e (not-given k rs (and_right (not (eqb n (suc k))) _ h))
  where
    go : (b : Bool) → cond b n (first rs) ≡ suc k → (first rs ≡ suc k → ⊥) → ⊥
    go true q ih = eqb-false n (suc k) (not-true _ (and_left _ _ h)) q
    go false q ih = ih q

-- and one that a single refusal of the list has is given only where its condition holds
abbrev pub once : ℕ → List Refusal → Bool
once k [] = true
once k ((n when b) ∷ rs) = cond (eqb n k) (lacks k rs) (once k rs)

pub given : (k : ℕ) (rs : List Refusal) → once (suc k) rs ≡ true → first rs ≡ suc k → cond_of (suc k) rs ≡ true
given k [] h e = absurd (omega arith)
given k ((n when b) ∷ rs) h e = go (given k rs) (eqb n (suc k)) refl b h e
  where
    go : (once (suc k) rs ≡ true → first rs ≡ suc k → cond_of (suc k) rs ≡ true) → (t : Bool) → eqb n (suc k) ≡ t → (b : Bool)
        → cond t (lacks (suc k) rs) (once (suc k) rs) ≡ true → cond b n (first rs) ≡ suc k → cond t b (cond_of (suc k) rs) ≡ true
    go ih true q true h e = refl
    go ih true q false h e = absurd (not-given k rs h e)
    go ih false q true h e = absurd (eqb-false n (suc k) q e)
    go ih false q false h e = ih h e

-- and only where no refusal in front of it applies
abbrev pub up_to : ℕ → List Refusal → List Refusal
up_to k [] = []
up_to k ((n when b) ∷ rs) = cond (eqb n k) [] ((n when b) ∷ up_to k rs)

pub earlier : (k : ℕ) (rs : List Refusal) → first rs ≡ suc k → (j : ℕ) → cond_of j (up_to (suc k) rs) ≡ false
earlier k [] e j = refl
earlier k ((n when b) ∷ rs) e j = go (λ x. earlier k rs x j) (eqb n (suc k)) refl b e
  where
    passed : (s : Bool) → cond_of j (up_to (suc k) rs) ≡ false → cond s false (cond_of j (up_to (suc k) rs)) ≡ false
    passed true h = refl
    passed false h = h

    go : (first rs ≡ suc k → cond_of j (up_to (suc k) rs) ≡ false) → (t : Bool) → eqb n (suc k) ≡ t → (b : Bool) → cond b n (first rs) ≡ suc k
        → cond_of j (cond {A = List Refusal} t [] ((n when b) ∷ up_to (suc k) rs)) ≡ false
    go ih true q b e = refl
    go ih false q true e = absurd (eqb-false n (suc k) q e)
    go ih false q false e = passed (eqb n j) (ih e)

-- and where its condition holds, the number given is it or one in front of it
abbrev pub numbers_to : ℕ → List Refusal → List ℕ
numbers_to k [] = []
numbers_to k ((n when b) ∷ rs) = n ∷ cond (eqb n k) [] (numbers_to k rs)

pub reached : (k : ℕ) (rs : List Refusal) → cond_of k rs ≡ true → is_one_of (numbers_to k rs) (first rs) ≡ true
reached k [] c = c
reached k ((n when b) ∷ rs) c = go (reached k rs) (eqb n k) b c
  where
    go : (cond_of k rs ≡ true → is_one_of (numbers_to k rs) (first rs) ≡ true) → (t b : Bool) → cond t b (cond_of k rs) ≡ true
        → is_one_of (n ∷ cond {A = List ℕ} t [] (numbers_to k rs)) (cond b n (first rs)) ≡ true
    go next t true c = rw (eq-eqb n n refl)
    go next true false c = absurd (false≢true c)
    go next false false c = or_right (eqb n (first rs)) (next c)

pub one-of-more : (xs ys : List ℕ) → all_of (is_one_of ys) xs ≡ true → (x : ℕ) → is_one_of xs x ≡ true → is_one_of ys x ≡ true
one-of-more [] ys a x h = absurd (false≢true h)
one-of-more (n ∷ xs) ys a x h = go (one-of-more xs ys (and_right (is_one_of ys n) _ a) x) (eqb n x) refl h
  where
    go : (is_one_of xs x ≡ true → is_one_of ys x ≡ true) → (b : Bool) → eqb n x ≡ b → b || is_one_of xs x ≡ true → is_one_of ys x ≡ true
    go next true e h = subst (λ (y : ℕ). is_one_of ys y ≡ true) (eqb-true n x e) (and_left (is_one_of ys n) _ a)
    go next false e h = next h

-- one refusal at a time: that it does not apply, and that a number is 0
pub clear-one : (n : ℕ) (b : Bool) (rest : ℕ) → (n ≡ 0 → ⊥) → cond b n rest ≡ 0 → (b ≡ false) × (rest ≡ 0)
clear-one n true rest d e = absurd (d e)
clear-one n false rest d e = (refl, e)

pub clear-number : (n rest : ℕ) → cond (not (eqb n 0)) n rest ≡ 0 → (n ≡ 0) × (rest ≡ 0)
clear-number n rest e = go (eqb n 0) refl e
  where
    go : (b : Bool) → eqb n 0 ≡ b → cond (not b) n rest ≡ 0 → (n ≡ 0) × (rest ≡ 0)
    go true z e = (eqb-true n 0 z, e)
    go false z e = absurd (eqb-false n 0 z e)
