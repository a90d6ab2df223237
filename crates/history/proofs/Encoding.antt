-- Calls as bytes: one call read, and the calls from one place on, of which each law opens the first (`one_more`, `next_place`).
use Prim.Native.Nat.{ℕ, zero, suc, ◌+◌, ◌-◌, ◌*◌, ◌≤◌, ◌<◌}
use mathlib.Core.Path.{◌≡◌, refl, sym, ◌∙◌, subst}
use mathlib.Core.Bool.{Bool, true, false, not, ◌||◌, false≢true}
use mathlib.Core.List.{List, ◌∷◌}
use native.Mathlib.Nat.{sub-zero}
use native.Mathlib.Omega.{arith}
use lib.ListN.{get_or}
use Rattle.common.specs.Bytes.{big_endian}
use Rattle.heap.specs.OperationNumbers.{names_call}
use Rattle.history.specs.Replaying.{call_length, call_named, second_byte, call_at, calls_from, unknown_from}

module _ (s : List ℕ) (at a b c : ℕ) (x : a ≡ big_endian s (at + 2) 4) (y : b ≡ big_endian s (at + 6) 4) (z : c ≡ big_endian s (at + 10) 4) where
  pub call-is : (k : ℕ) → get_or s at 0 ≡ k → call_named k (get_or s (at + 1) 0) a b c (second_byte s at) ≡ call_at s at
  unfolding call_at
  call-is k e = rw (x, y, z, e)

module _ (s : List ℕ) (n i : ℕ) (l : i < n) where
  one_more : n - i ≡ suc (n - (i + 1))
  one_more = omega arith

  next_place : i * call_length + call_length ≡ (i + 1) * call_length
  next_place = omega arith

  pub calls-here : calls_from s (i * call_length) (n - i) ≡ call_at s (i * call_length) ∷ calls_from s ((i + 1) * call_length) (n - (i + 1))
  unfolding calls_from
  calls-here = rw (one_more, ← next_place)

  abbrev op : ℕ
  op = get_or s (i * call_length) 0

  unknown-here : unknown_from s (i * call_length) (n - i) ≡ not (names_call op) || unknown_from s ((i + 1) * call_length) (n - (i + 1))
  unfolding unknown_from
  unknown-here = rw (one_more, ← next_place)

  pub unknown-found : names_call op ≡ false → unknown_from s (i * call_length) (n - i) ≡ true
  unknown-found h = rw (unknown-here, h)

  pub known-here : names_call op ≡ true → unknown_from s (i * call_length) (n - i) ≡ unknown_from s ((i + 1) * call_length) (n - (i + 1))
  known-here h = rw (unknown-here, h)

pub none-unknown : (s : List ℕ) (n i : ℕ) → n ≤ i → unknown_from s (i * call_length) (n - i) ≡ false
unfolding unknown_from
none-unknown s n i l = let z : n - i ≡ 0 = omega arith in rw z

-- where none of the n calls is unknown, none from call i on is, and so each is known
module _ (s : List ℕ) (n : ℕ) (z : unknown_from s 0 n ≡ false) where
  known-at : (i : ℕ) → i < n → unknown_from s (i * call_length) (n - i) ≡ false → names_call (get_or s (i * call_length) 0) ≡ true
  known-at i l h = go (names_call (get_or s (i * call_length) 0)) refl
    where
      go : (b : Bool) → names_call (get_or s (i * call_length) 0) ≡ b → b ≡ true
      go true e = refl
      go false e = absurd (false≢true (sym h ∙ unknown-found s n i l e))

  none-from : (i : ℕ) → i ≤ n → unknown_from s (i * call_length) (n - i) ≡ false
  none-from zero l = simp sub-zero z
  none-from (suc i) l =
      let h = none-from i (omega arith) in
      subst (λ (k : ℕ). unknown_from s (k * call_length) (n - k) ≡ false) (omega arith)
      (sym (known-here s n i (omega arith) (known-at i (omega arith) h)) ∙ h)

  pub all-known : (i : ℕ) → i < n → names_call (get_or s (i * call_length) 0) ≡ true
  all-known i l = known-at i l (none-from i (omega arith))
