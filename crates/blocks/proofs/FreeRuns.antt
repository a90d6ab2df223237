-- Runs of free slots: what `all_free` says of a run, of each of its slots and of its parts, by induction on its length.
use Rattle.std.proofs.Common.{◌≡◌, ℕ, zero, suc, ◌+◌, ◌-◌, ◌<◌, ◌≤◌, Bool, true, false, ◌&&◌, List, length, get_or, take, drop, sym, refl, ap, ◌∙◌, subst, ap₂}
use Rattle.std.proofs.Common.{add-zero, add-suc, suc-add, zero-add, add-one, arith, length-append, length-drop, length-take, get_or-drop, get_or-take, ◌++◌}
use Rattle.std.proofs.Math.ListN.{get_or-append}
use Rattle.std.proofs.lemmas.List.{get_or-append-add}
use mathlib.Core.Bool.{and_assoc}
use Rattle.blocks.specs.Placing.{all_free}
use Rattle.common.proofs.Booleans.{and_left, and_right}

pub all_none : (f : ℕ → Bool) (i n : ℕ) → n ≤ 0 → all_free f i n ≡ true
unfolding all_free
all_none f i zero l = refl
all_none f i (suc n) l = absurd (omega arith)

pub all-stop : (f : ℕ → Bool) (i n : ℕ) → 0 < n → f i ≡ false → all_free f i n ≡ false
unfolding all_free
all-stop f i zero l h = absurd (omega arith)
all-stop f i (suc n) l h = rw h

-- a run that begins a slot earlier
pub all-before : (f : ℕ → Bool) (i n : ℕ) → i < n → all_free f i (n - i) ≡ f i && all_free f (i + 1) (n - (i + 1))
unfolding all_free
all-before f i n l =
    let x : n - i ≡ suc (n - (i + 1)) = omega arith in
    rw (x, add-one i)

pub all-at : (f : ℕ → Bool) (i n : ℕ) → all_free f i n ≡ true → (j : ℕ) → j < n → f (i + j) ≡ true
unfolding all_free
all-at f i zero h j l = absurd (omega arith)
all-at f i (suc n) h zero l = rw add-zero (and_left (f i) _ h)
all-at f i (suc n) h (suc j) l = rw (add-suc, ← suc-add) (all-at f (suc i) n (and_right (f i) _ h) j (omega arith))

pub at_all : (f : ℕ → Bool) (i n : ℕ) → ((j : ℕ) → j < n → f (i + j) ≡ true) → all_free f i n ≡ true
unfolding all_free
at_all f i zero h = refl
at_all f i (suc n) h = rw (rw add-zero at (h 0 (omega arith)))
    (at_all f (suc i) n (λ j l. rw (suc-add, ← add-suc) (h (suc j) (omega arith))))

-- two runs whose slots pass alike
pub all_same : (f g : ℕ → Bool) (i l n : ℕ) → ((j : ℕ) → j < n → f (i + j) ≡ g (l + j)) → all_free f i n ≡ all_free g l n
unfolding all_free
all_same f g i l zero h = refl
all_same f g i l (suc n) h =
    let first : f i ≡ g l = rw (← add-zero i, ← add-zero l) (h 0 (omega arith)) in
    ap₂ ◌&&◌ first (all_same f g (suc i) (suc l) n (λ j q. rw (suc-add, ← add-suc, suc-add, ← add-suc) (h (suc j) (omega arith))))

-- a part of n slots has n
pub part_length : (s : List ℕ) (a n : ℕ) → a + n ≤ length s → length (take (a + n - a) (drop a s)) ≡ n
part_length s a n l = simp (length-take, length-drop) (omega arith)

-- and the entries of the slots that it is of
pub part-entry : (s : List ℕ) (a n j : ℕ) → j < n → get_or (take (a + n - a) (drop a s)) j 0 ≡ get_or s (a + j) 0
part-entry s a n j l = get_or-take (a + n - a) (drop a s) j 0 (omega arith) ∙ get_or-drop a s j 0

-- so a run of a part, told by its entries, is a run of the table
pub run-of-part : (test : ℕ → Bool) (s : List ℕ) (a n : ℕ)
    → all_free (λ i. test (get_or (take (a + n - a) (drop a s)) i 0)) 0 n ≡ all_free (λ i. test (get_or s i 0)) a n
run-of-part test s a n =
    all_same (λ i. test (get_or (take (a + n - a) (drop a s)) i 0)) (λ i. test (get_or s i 0)) 0 a n (λ j l. rw zero-add (ap test (part-entry s a n j l)))

-- a part of a free run is free
pub part : (f : ℕ → Bool) (i n j l : ℕ) → all_free f i n ≡ true → i ≤ j → j + l ≤ i + n → all_free f j l ≡ true
part f i n j l h p q = at_all f j l (λ x lt. subst (λ (y : ℕ). f y ≡ true) (omega arith) (all-at f i n h (j - i + x) (omega arith)))

pub all_append : (f : ℕ → Bool) (i n l : ℕ) → all_free f i (n + l) ≡ all_free f i n && all_free f (i + n) l
unfolding all_free
all_append f i zero l = rw (zero-add, add-zero)
all_append f i (suc n) l = rw (suc-add, add-suc, ← suc-add)
    (ap (◌&&◌ (f i)) (all_append f (suc i) n l) ∙ sym (and_assoc (f i) _ _))

-- of two lists joined, told by their entries: each of both
pub all_join : (test : ℕ → Bool) (a b : List ℕ)
    → all_free (λ i. test (get_or (a ++ b) i 0)) 0 (length (a ++ b))
    ≡ all_free (λ i. test (get_or a i 0)) 0 (length a) && all_free (λ i. test (get_or b i 0)) 0 (length b)
all_join test a b =
    let f : ℕ → Bool = λ i. test (get_or (a ++ b) i 0) in
    rw length-append (all_append f 0 (length a) (length b)
    ∙ ap₂ ◌&&◌ (all_same f (λ i. test (get_or a i 0)) 0 0 (length a) (λ j l. rw zero-add (ap test (get_or-append a b 0 j l))))
    (all_same f (λ i. test (get_or b i 0)) (0 + length a) 0 (length b) (λ j l. rw (zero-add, zero-add) (ap test (get_or-append-add a b j 0)))))
