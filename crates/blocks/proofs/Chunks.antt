-- A loop over a list's chunks that looks whether each entry passes a test: what is known of the list while some of its chunks are left.
use Rattle.std.proofs.Common.{◌≡◌, ℕ, ◌+◌, ◌%◌, ◌<◌, ◌≤◌, Bool, true, false, ◌&&◌, ◌++◌, List, [], ◌∷◌, Iter, length, get_or, sym, refl, ap, ◌∙◌}
use Rattle.std.proofs.Common.{arith, length-append}
use Rattle.std.proofs.Common.{mod-eq_of_lt}
use Rattle.std.proofs.Math.Nat.{add-mod_left}
use Rattle.std.proofs.Math.ListN.{get_or-append}
use Rattle.std.proofs.Math.Seq.{get_or-append_seam}
use Rattle.std.specs.Slice.Iter.{iter_rest, chunks_exact_rest, chunks_exact_size}
use Rattle.std.specs.Iterator.Adapters.{rev_source}
use Rattle.std.specs.declared.iter.Rev.{Rev}
use Rattle.std.specs.declared.slice.ChunksExact.{ChunksExact}
use Rattle.blocks.specs.Placing.{all_free}
use Rattle.blocks.proofs.FreeRuns.{all_none, all_join}

-- each entry of a list passes the test
abbrev pub all_pass : (ℕ → Bool) → List ℕ → Bool
all_pass test p = all_free (λ i. test (get_or p i 0)) 0 (length p)

-- of the list p, read by chunks of k, the iterator has whole chunks left, and the entries of p pass where those do
pub record LeftOf (test : ℕ → Bool) (k : ℕ) (p : List ℕ) (s : ChunksExact ℕ) : Type 0 where
  pub size : chunks_exact_size s ≡ k
  pub whole : length (chunks_exact_rest s) % k ≡ 0
  pub passes : all_pass test p ≡ all_pass test (chunks_exact_rest s)

-- as the loop begins
pub all_left : (test : ℕ → Bool) (k : ℕ) (p : List ℕ) (s : ChunksExact ℕ) → chunks_exact_rest s ≡ p → chunks_exact_size s ≡ k → length p % k ≡ 0
    → LeftOf test k p s
all_left test k p s e size whole = record { size = size; whole = rw e whole; passes = ap (all_pass test) (sym e) }

module _ {test : ℕ → Bool} {k : ℕ} {p : List ℕ} {s : ChunksExact ℕ} (left : LeftOf test k p s) where
  -- where none is left
  pub none_left : length (chunks_exact_rest s) < chunks_exact_size s → all_pass test p ≡ true
  none_left l =
      let small : length (chunks_exact_rest s) < k = rw left.size at l in
      let none = sym (mod-eq_of_lt small) ∙ left.whole in
      left.passes ∙ all_none _ _ _ (omega arith)

-- where the chunk c was read
module _ {test : ℕ → Bool} {k : ℕ} {p : List ℕ} {s : ChunksExact ℕ} (left : LeftOf test k p s) (t : ChunksExact ℕ) (c : List ℕ)
    (is : chunks_exact_rest s ≡ c ++ chunks_exact_rest t) where
  joined : all_pass test p ≡ all_pass test c && all_pass test (chunks_exact_rest t)
  joined = left.passes ∙ ap (all_pass test) is ∙ all_join test c (chunks_exact_rest t)

  pub chunk-fails : all_pass test c ≡ false → all_pass test p ≡ false
  chunk-fails h = joined ∙ rw h

  pub chunk-passes : chunks_exact_size t ≡ chunks_exact_size s → length c ≡ chunks_exact_size s → all_pass test c ≡ true → LeftOf test k p t
  chunk-passes size l h =
      let lengths : length (chunks_exact_rest s) ≡ k + length (chunks_exact_rest t) = ap length is ∙ rw (length-append, l, left.size) in
      record { size = size ∙ left.size; whole = sym (add-mod_left k _) ∙ rw lengths at left.whole; passes = joined ∙ rw h }

-- of the list p, read from its end, the entries r are left
pub record Unread (p r : List ℕ) : Type 0 where
  pub in_range : length r ≤ length p
  pub entries : (i : ℕ) → i < length r → get_or r i 0 ≡ get_or p i 0

pub all-unread : (p : List ℕ) (s r : Rev (Iter ℕ)) (i : Iter ℕ) → s ≡ r → rev_source r ≡ i → iter_rest i ≡ p
    → Unread p (iter_rest (rev_source s)) × (length p ≤ length (iter_rest (rev_source s)))
all-unread p s r i a b c =
    let e : iter_rest (rev_source s) ≡ p = ap (λ (x : Rev (Iter ℕ)). iter_rest (rev_source x)) a ∙ ap iter_rest b ∙ c in
    rw e (record { in_range = omega arith; entries = λ i l. refl }, omega arith)

-- where the entry x was read
module _ {p r : List ℕ} (u : Unread p r) (t : List ℕ) (x : ℕ) (is : r ≡ t ++ x ∷ []) where
  pub one-less : length r ≡ length t + 1
  one-less = ap length is ∙ simp length-append

  pub read-last : x ≡ get_or p (length t) 0
  read-last = sym (get_or-append_seam t x [] 0) ∙ ap (λ (s : List ℕ). get_or s (length t) 0) (sym is) ∙ u.entries (length t) (omega (arith, one-less))

  pub unread : Unread p t
  unread =
      let low = u.in_range in
      record {
        in_range = omega (arith, one-less);
        entries = λ i l. sym (get_or-append t (x ∷ []) 0 i l) ∙ ap (λ (s : List ℕ). get_or s i 0) (sym is) ∙ u.entries i (omega (arith, one-less));
      }
