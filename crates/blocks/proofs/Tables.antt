-- Damaged and undamaged tables, slot by slot, for slots of 2 ^ t bytes: a table is damaged where one slot is bad, and a good slot's block is whole.
use Rattle.std.proofs.Common.{◌≡◌, ℕ, zero, suc, ◌+◌, ◌-◌, ◌%◌, ◌^◌, ◌<◌, ◌≤◌, Bool, true, false, cond, not, ◌&&◌, ◌||◌, eqb, leb, List, length, get_or}
use Rattle.std.proofs.Common.{sym, refl, ap, ◌∙◌, subst, ⊎_elim, true≢false, le_refl, le_of_suc-le-suc, not-suc-le-zero, add-sub_of_le, eq-or-lt_of_le}
use Rattle.std.proofs.Common.{arith, eq-eqb, ne_eqb, eqb-true, le-leb, leb-false, leb-true}
use borrow.Author.Tests.{lt-leb, not-false}
use Rattle.blocks.specs.Blocks.{floor}
use Rattle.blocks.specs.Tables.{any, lock_bit, entry_order, entry_locked, entry_of, torn, bad, damaged_by}
use Rattle.common.proofs.Booleans.{and_left, and_right, or_right, or-false-left, or-false-right}
use Rattle.blocks.proofs.Floors.{floor-same}

module _ (test : ℕ → Bool) where
  pub any-true : (n k : ℕ) → k < n → test k ≡ true → any n test ≡ true
  unfolding any
  any-true zero k h e = absurd (not-suc-le-zero h)
  any-true (suc n) k h e =
      ⊎_elim
      (λ q. let p : test n ≡ true = ap test (sym q) ∙ e in rw p)
      (λ l. or_right (test n) (any-true n k l e))
      (eq-or-lt_of_le (le_of_suc-le-suc h))

  pub any_false : (n : ℕ) → ((k : ℕ) → k < n → test k ≡ false) → any n test ≡ false
  unfolding any
  any_false zero h = refl
  any_false (suc n) h = rw (h n (le_refl _), any_false n (λ k l. h k (omega arith)))

  -- where none passes, none of them does
  pub none_passes : (n k : ℕ) → any n test ≡ false → k < n → test k ≡ false
  none_passes n k a l = go (test k) refl
    where
      go : (b : Bool) → test k ≡ b → b ≡ false
      go true e = absurd (true≢false (sym (any-true n k l e) ∙ a))
      go false e = refl

-- the entry x says an order e, and the aligned range of that order round slot i has it in each slot
pub record Whole (t m : ℕ) (s : List ℕ) (i x e : ℕ) : Type 0 where
  pub order : entry_order x ≡ e
  pub low : t ≤ e
  pub high : e ≤ m
  pub entries : (k : ℕ) → floor (e - t) i ≤ k → k < floor (e - t) i + 2 ^ (e - t) → get_or s k 0 ≡ x

-- the order that a byte says is what is left of it by its top bit
pub other-bits : (x : ℕ) → x < 256 → x % 128 ≡ entry_order x
unfolding entry_order
other-bits x l = go (leb lock_bit x) refl
  where
    go : (b : Bool) → leb lock_bit x ≡ b → x % 128 ≡ cond b (x - lock_bit) x
    go true h = let low = leb-true lock_bit x h in omega arith
    go false h = let high = leb-false lock_bit x h in omega arith

-- the entry of a block says its order and its lock, the order being below the top bit
pub order-of-entry : (e : ℕ) (l : Bool) → e < lock_bit → entry_order (entry_of e l) ≡ e
unfolding entry_order
order-of-entry e true h = rw (le-leb lock_bit (lock_bit + e) (omega arith)) (omega arith)
order-of-entry e false h = rw (lt-leb lock_bit e h)

pub lock-of-entry : (e : ℕ) (l : Bool) → e < lock_bit → entry_locked (entry_of e l) ≡ l
lock-of-entry e true h = le-leb lock_bit (lock_bit + e) (omega arith)
lock-of-entry e false h = lt-leb lock_bit e h

-- and an entry is that of the order and the lock that it says
pub entry-of-both : (x : ℕ) → entry_of (entry_order x) (entry_locked x) ≡ x
unfolding entry_order
entry-of-both x = go (leb lock_bit x) refl
  where
    go : (b : Bool) → leb lock_bit x ≡ b → cond b (lock_bit + cond b (x - lock_bit) x) (cond b (x - lock_bit) x) ≡ x
    go true h = let l = leb-true lock_bit x h in omega arith
    go false h = refl

-- the entry of a block is not that of a free slot
pub entry-taken : (e : ℕ) (l : Bool) → (e ≡ 0 → ⊥) → entry_of e l ≡ 0 → ⊥
entry-taken e true n z = omega arith
entry-taken e false n z = n z

-- a free slot says no order
pub free-order : entry_order 0 ≡ 0
unfolding entry_order
free-order = refl

-- an entry that says an order is no free slot's
pub order-taken : (x : ℕ) → (entry_order x ≡ 0 → ⊥) → x ≡ 0 → ⊥
order-taken x n z = n (ap entry_order z ∙ free-order)

module _ (t m : ℕ) (s : List ℕ) where
  -- slot i is good
  abbrev pub Good : ℕ → Type 0
  Good i = bad t m s i (get_or s i 0) ≡ false

  pub damaged-at : (i x : ℕ) → i < length s → x ≡ get_or s i 0 → bad t m s i x ≡ true → damaged_by t m s ≡ true
  unfolding damaged_by
  damaged-at i x h q b = any-true (λ i. bad t m s i (get_or s i 0)) (length s) i h (rw q at b)

  pub undamaged : ((i : ℕ) → i < length s → Good i) → damaged_by t m s ≡ false
  unfolding damaged_by
  undamaged h = any_false (λ i. bad t m s i (get_or s i 0)) (length s) h

  pub undamaged-at : damaged_by t m s ≡ false → (i : ℕ) → i < length s → Good i
  unfolding damaged_by
  undamaged-at h i l = none_passes (λ i. bad t m s i (get_or s i 0)) (length s) i h l

  pub free-good : (i : ℕ) → get_or s i 0 ≡ 0 → Good i
  unfolding bad
  free-good i e = rw (eq-eqb _ _ e)

  pub order-bad : (i x e : ℕ) → entry_order x ≡ e → (x ≡ 0 → ⊥) → leb t e && leb e m ≡ false → bad t m s i x ≡ true
  unfolding bad
  order-bad i x e o n h = rw (ne_eqb x 0 n, o, h)

  -- in the block of slot i, whose entry is x, slot k has another
  pub torn-bad : (i x e k : ℕ) → entry_order x ≡ e → (x ≡ 0 → ⊥) → t ≤ e → e ≤ m → floor (e - t) i ≤ k → k < floor (e - t) i + 2 ^ (e - t)
      → (get_or s k 0 ≡ x → ⊥) → bad t m s i x ≡ true
  unfolding bad torn
  torn-bad i x e k o n h l lo hi d = rw (ne_eqb x 0 n, o, le-leb t e h, le-leb e m l)
      (any-true _ (2 ^ (e - t)) (k - floor (e - t) i) (omega arith)
      (rw (add-sub_of_le lo, ne_eqb _ _ d)))

  -- where the range round slot i is whole, each of its slots is good
  pub whole-good : (i x e : ℕ) → (x ≡ 0 → ⊥) → Whole t m s i x e → (j : ℕ) → floor (e - t) i ≤ j → j < floor (e - t) i + 2 ^ (e - t) → Good j
  unfolding bad torn
  whole-good i x e n w j lo hi = rw (w.entries j lo hi, ne_eqb x 0 n, w.order, le-leb t e w.low, le-leb e m w.high)
      (any_false _ (2 ^ (e - t)) (λ k lt. rw (floor-same (e - t) i j lo hi, eq-eqb _ _ (w.entries (floor (e - t) i + k) (omega arith) (omega arith)))))

  -- and where a taken slot is good, the range round it is whole
  pub good-whole : (i x e : ℕ) → entry_order x ≡ e → (x ≡ 0 → ⊥) → bad t m s i x ≡ false → Whole t m s i x e
  unfolding bad torn
  good-whole i x e says n g =
      let b : not (leb t e && leb e m) || any (2 ^ (e - t)) (λ k. not (eqb (get_or s (floor (e - t) i + k) 0) x)) ≡ false = rw (ne_eqb x 0 n, says) at g in
      let o : leb t e && leb e m ≡ true = not-false _ (or-false-left _ _ b) in
      record {
        order = says;
        low = leb-true t e (and_left _ _ o);
        high = leb-true e m (and_right (leb t e) _ o);
        entries = λ k lo hi.
            let z = none_passes _ (2 ^ (e - t)) (k - floor (e - t) i) (or-false-right (not (leb t e && leb e m)) _ b) (omega arith) in
            eqb-true _ _ (not-false _ (rw (add-sub_of_le lo) at z));
      }

  pub undamaged-whole : damaged_by t m s ≡ false → (i x e : ℕ) → i < length s → get_or s i 0 ≡ x → entry_order x ≡ e → (x ≡ 0 → ⊥) → Whole t m s i x e
  undamaged-whole h i x e l q o n = good-whole i x e o n (subst (λ (y : ℕ). bad t m s i y ≡ false) q (undamaged-at h i l))
