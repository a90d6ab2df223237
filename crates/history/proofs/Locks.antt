-- The pairs of a ledger with their locks: their ranges, and the lock that they give an address, with a pair taken away, added or relocked. By induction over
-- the list.
use Prim.Native.Nat.{ℕ}
use mathlib.Core.Path.{◌≡◌, refl, sym, ◌∙◌, ap}
use mathlib.Core.Bool.{Bool, true, false, cond, false≢true}
use mathlib.Core.List.{List, [], ◌∷◌, ◌++◌, Memᴰ}
use lib.Dec.{eqb}
use borrow.Author.Tests.{eqb-true}
use Rattle.blocks.specs.Blocks.{holds, missing, Missing, Found}
use Rattle.blocks.specs.declared.Block.{Block}
use Rattle.blocks.specs.Sets.{Pair, ranges, PairSet, referent_of, locked_of}
use Rattle.blocks.proofs.Sets.{range-in}
use Rattle.history.specs.Ledgers.{without, relocked}
use Rattle.history.proofs.Agreement.{Proper, more}
use Rattle.history.proofs.Pairs.{dropped, found-not-missing, before-apart, proper-set}

-- ---- ranges

-- equal ranges give an address the same referent
pub same-ranges : (q : ℕ) {bs cs : List Block} → bs ≡ cs → referent_of bs q ≡ referent_of cs q
same-ranges q e = ap (λ (x : List Block). referent_of x q) e

pub ranges-without : (s : ℕ) (ps : List Pair) → ranges (without s ps) ≡ dropped s (ranges ps)
unfolding without dropped
ranges-without s [] = refl
ranges-without s (p ∷ ps) = go (eqb p.block.start s) (ranges-without s ps)
  where
    go : (u : Bool) → ranges (without s ps) ≡ dropped s (ranges ps)
        → ranges (cond u (without s ps) (p ∷ without s ps)) ≡ cond u (dropped s (ranges ps)) (p.block ∷ dropped s (ranges ps))
    go true ih = ih
    go false ih = ap (λ (bs : List Block). p.block ∷ bs) ih

pub ranges-relocked : (q : ℕ) (l : Bool) (ps : List Pair) → ranges (relocked q l ps) ≡ ranges ps
unfolding relocked
ranges-relocked q l [] = refl
ranges-relocked q l (p ∷ ps) = ap (λ (bs : List Block). p.block ∷ bs) (ranges-relocked q l ps)

pub ranges-added : (ps : List Pair) (p : Pair) → ranges (ps ++ (p ∷ [])) ≡ ranges ps ++ (p.block ∷ [])
ranges-added [] p = refl
ranges-added (r ∷ ps) p = ap (λ (bs : List Block). r.block ∷ bs) (ranges-added ps p)

-- ---- the pairs are a set

apart : {t m : ℕ} (ps : List Pair) → Proper t m (ranges ps) → (p r : Pair) → Memᴰ p ps → Memᴰ r ps
    → (q : ℕ) → holds p.block q ≡ true → holds r.block q ≡ true → p ≡ r
apart {t = t} {m = m} [] o p r i j q h k = elim i [ ]
apart (x ∷ ps) (more a d o) p r (Memᴰ.head e) (Memᴰ.head f) q h k = e ∙ sym f
apart (x ∷ ps) (more a d o) p r (Memᴰ.head e) (Memᴰ.tail j) q h k =
    absurd (before-apart q d (ap (λ (y : Pair). y.block) e) (range-in r ps j) h k)
apart (x ∷ ps) (more a d o) p r (Memᴰ.tail i) (Memᴰ.head f) q h k =
    absurd (before-apart q d (ap (λ (y : Pair). y.block) f) (range-in p ps i) k h)
apart (x ∷ ps) (more a d o) p r (Memᴰ.tail i) (Memᴰ.tail j) q h k = apart ps o p r i j q h k

pub proper-pairs : {t m : ℕ} (ps : List Pair) → Proper t m (ranges ps) → PairSet t m ps
proper-pairs ps o = record { aligned = λ p i. (proper-set o).aligned p.block (range-in p ps i); apart = apart ps o }

-- ---- locks

-- an address that no block which starts at s holds
pub without-locked : (s q : ℕ) (ps : List Pair) → ((b : Block) → Memᴰ b (ranges ps) → holds b q ≡ true → b.start ≡ s → ⊥)
    → locked_of (without s ps) q ≡ locked_of ps q
unfolding without locked_of
without-locked s q [] h = refl
without-locked s q (p ∷ ps) h =
    go (eqb p.block.start s) (holds p.block q) refl refl (without-locked s q ps (λ b i. h b (Memᴰ.tail i)))
  where
    go : (u v : Bool) → eqb p.block.start s ≡ u → holds p.block q ≡ v → locked_of (without s ps) q ≡ locked_of ps q
        → locked_of (cond u (without s ps) (p ∷ without s ps)) q ≡ cond v p.locked (locked_of ps q)
    go true true e w ih = absurd (h p.block (Memᴰ.head refl) w (eqb-true _ s e))
    go true false e w ih = ih
    go false v e w ih = rw (w, ih)

pub added-locked : (ps : List Pair) (p : Pair) (q : ℕ) → referent_of (ranges ps) q ≡ Missing → holds p.block q ≡ true
    → locked_of (ps ++ (p ∷ [])) q ≡ p.locked
unfolding referent_of locked_of
added-locked [] p q n h = rw h
added-locked (r ∷ ps) p q n h = go (holds r.block q) n (added-locked ps p q)
  where
    go : (u : Bool) → cond u (Found r.block.start r.block.order) (referent_of (ranges ps) q) ≡ Missing
        → (referent_of (ranges ps) q ≡ Missing → holds p.block q ≡ true → locked_of (ps ++ (p ∷ [])) q ≡ p.locked)
        → cond u r.locked (locked_of (ps ++ (p ∷ [])) q) ≡ p.locked
    go true k ih = found-not-missing k refl
    go false k ih = ih k h

pub added-others : (ps : List Pair) (p : Pair) (q : ℕ) → holds p.block q ≡ false → locked_of (ps ++ (p ∷ [])) q ≡ locked_of ps q
unfolding locked_of
added-others [] p q h = rw h
added-others (r ∷ ps) p q h = rw (added-others ps p q h)

-- an address of the block that p lies in, and one of no such block
pub relocked-in : (p q : ℕ) (l : Bool) (ps : List Pair) → ((b : Block) → Memᴰ b (ranges ps) → holds b q ≡ true → holds b p ≡ true)
    → missing (referent_of (ranges ps) q) ≡ false → locked_of (relocked p l ps) q ≡ l
unfolding referent_of locked_of relocked
relocked-in p q l [] h k = absurd (false≢true (sym k))
relocked-in p q l (r ∷ ps) h k = go (holds r.block q) refl k (relocked-in p q l ps (λ b i. h b (Memᴰ.tail i)))
  where
    go : (u : Bool) → holds r.block q ≡ u → missing (cond u (Found r.block.start r.block.order) (referent_of (ranges ps) q)) ≡ false
        → (missing (referent_of (ranges ps) q) ≡ false → locked_of (relocked p l ps) q ≡ l)
        → cond u (cond (holds r.block p) l r.locked) (locked_of (relocked p l ps) q) ≡ l
    go true w k ih = rw (h r.block (Memᴰ.head refl) w)
    go false w k ih = ih k

pub relocked-out : (p q : ℕ) (l : Bool) (ps : List Pair) → ((b : Block) → Memᴰ b (ranges ps) → holds b q ≡ true → holds b p ≡ false)
    → locked_of (relocked p l ps) q ≡ locked_of ps q
unfolding locked_of relocked
relocked-out p q l [] h = refl
relocked-out p q l (r ∷ ps) h = go (holds r.block q) refl (relocked-out p q l ps (λ b i. h b (Memᴰ.tail i)))
  where
    go : (u : Bool) → holds r.block q ≡ u → locked_of (relocked p l ps) q ≡ locked_of ps q
        → cond u (cond (holds r.block p) l r.locked) (locked_of (relocked p l ps) q) ≡ cond u r.locked (locked_of ps q)
    go true w ih = rw (h r.block (Memᴰ.head refl) w)
    go false w ih = ih
