-- The order of an arena's length, and the order that a get needs: a law for a step of each of the two loops, and what they find, by induction on the orders
-- that are left.
use Rattle.std.proofs.Common.{◌≡◌, ℕ, zero, suc, ◌+◌, ◌-◌, ◌^◌, ◌<◌, ◌≤◌, Bool, true, false, cond, eqb, leb, ◌⊎◌, sym, refl, ap, subst, inl, inr, ⊎_elim}
use Rattle.std.proofs.Common.{add-zero, add-suc, suc-add, eq-or-lt_of_le, add-one, arith, eq-eqb, ne_eqb, eqb-true, leb-false, leb-true}
use lib.Pow.{pow-lt}
use borrow.Author.Tests.{lt-leb}
use Rattle.blocks.specs.Orders.{order_from, order_of, needed_from, needed_order}

-- where m is no order of the length, the next ones are left to try
pub order-next : (n m : ℕ) → m ≤ 16 → (n ≡ 2 ^ m → ⊥) → order_from n (17 - m) m ≡ order_from n (17 - (m + 1)) (m + 1)
order-next n m l d =
    let z : 17 - m ≡ suc (17 - (m + 1)) = omega arith in
    rw (z, ne_eqb n (2 ^ m) d, add-one m)

-- e is one of the k orders from m on, and n its power of two
pub record IsOrder (n k m e : ℕ) : Type 0 where
  pub low : m ≤ e
  pub high : e < m + k
  pub size : n ≡ 2 ^ e

order_is : (n k m : ℕ) → (order_from n k m ≡ 0 → ⊥) → IsOrder n k m (order_from n k m)
order_is n zero m d = absurd (d refl)
order_is n (suc k) m d = go (eqb n (2 ^ m)) refl d (order_is n k (suc m))
  where
    go : (b : Bool) → eqb n (2 ^ m) ≡ b → (cond b m (order_from n k (suc m)) ≡ 0 → ⊥)
        → ((order_from n k (suc m) ≡ 0 → ⊥) → IsOrder n k (suc m) (order_from n k (suc m)))
        → IsOrder n (suc k) m (cond b m (order_from n k (suc m)))
    go true e c ih = record { low = omega arith; high = omega arith; size = eqb-true n (2 ^ m) e }
    go false e c ih =
        let r = ih c in
        record { low = omega (arith, r.low); high = omega (arith, r.high); size = r.size }

order-finds : (e k m : ℕ) → m ≤ e → e < m + k → order_from (2 ^ e) k m ≡ e
order-finds e zero m l h = absurd (omega arith)
order-finds e (suc k) m l h = go (eq-or-lt_of_le l) (order-finds e k (suc m))
  where
    go : (m ≡ e) ⊎ (m < e) → (suc m ≤ e → e < suc m + k → order_from (2 ^ e) k (suc m) ≡ e) → order_from (2 ^ e) (suc k) m ≡ e
    go (inl q) ih = rw (eq-eqb (2 ^ e) (2 ^ m) (ap (λ (x : ℕ). 2 ^ x) (sym q))) q
    go (inr q) ih = rw (ne_eqb (2 ^ e) (2 ^ m) (λ x. let y : 2 ^ m < 2 ^ e = pow-lt q in omega arith)) (ih q (omega arith))

pub order-sound : (n : ℕ) → (order_of n ≡ 0 → ⊥) → IsOrder n 12 5 (order_of n)
unfolding order_of
order-sound n d = order_is n 12 5 d

pub order-power : (m : ℕ) → 5 ≤ m → m ≤ 16 → order_of (2 ^ m) ≡ m
unfolding order_of
order-power m l h = order-finds m 12 5 l (omega arith)

-- where n bytes are more than the size of the order e, the next ones are left to try
pub needed-next : (n m e : ℕ) → e < m → 2 ^ e < n → needed_from n (m - e) e ≡ needed_from n (m - (e + 1)) (e + 1)
needed-next n m e l h =
    let z : m - e ≡ suc (m - (e + 1)) = omega arith in
    rw (z, lt-leb n (2 ^ e) h, add-one e)

-- e is the smallest order from t up whose size is at least n
pub record Needed (t m n e : ℕ) : Type 0 where
  pub low : t ≤ e
  pub high : e ≤ m
  pub enough : n ≤ 2 ^ e
  pub least : (k : ℕ) → t ≤ k → n ≤ 2 ^ k → e ≤ k

needed-is : (n k e : ℕ) → n ≤ 2 ^ (e + k) → Needed e (e + k) n (needed_from n k e)
needed-is n zero e h = record { low = omega arith; high = omega arith; enough = rw add-zero at h; least = λ k l q. l }
needed-is n (suc k) e h = go (leb n (2 ^ e)) refl (needed-is n k (suc e) (rw (suc-add, ← add-suc) h))
  where
    -- the order e itself is too small
    small : 2 ^ e < n → (j : ℕ) → n ≤ 2 ^ j → e ≡ j → ⊥
    small z j s x = let y : 2 ^ e ≡ 2 ^ j = ap (λ (i : ℕ). 2 ^ i) x in omega arith

    go : (b : Bool) → leb n (2 ^ e) ≡ b → Needed (suc e) (suc e + k) n (needed_from n k (suc e)) → Needed e (e + suc k) n (cond b e (needed_from n k (suc e)))
    go true q r = record { low = omega arith; high = omega arith; enough = leb-true n (2 ^ e) q; least = λ k l s. l }
    go false q r =
        record {
          low = omega (arith, r.low);
          high = omega (arith, r.high);
          enough = r.enough;
          least = λ j l s. ⊎_elim (λ x. absurd (small (leb-false n (2 ^ e) q) j s x)) (λ x. r.least j x s) (eq-or-lt_of_le l);
        }

pub needed-order : (t m n : ℕ) → t ≤ m → n ≤ 2 ^ m → Needed t m n (needed_order t m n)
unfolding needed_order
needed-order t m n l h =
    let z : t + (m - t) ≡ m = omega arith in
    subst (λ (x : ℕ). Needed t x n (needed_from n (m - t) t)) z (needed-is n (m - t) t (rw z h))
