-- The ranges of a ledger's pairs: aligned blocks that stand apart, and the referent that they give an address, with one taken away or added. By induction over
-- the list. t is the smallest order.
use Prim.Native.Nat.{ℕ, ◌+◌, ◌-◌, ◌*◌, ◌^◌, ◌≤◌, ◌<◌}
use mathlib.Core.Path.{◌≡◌, refl, sym, ◌∙◌, ap, subst}
use mathlib.Core.Bool.{Bool, true, false, cond, false≢true}
use mathlib.Core.List.{List, [], ◌∷◌, ◌++◌, Memᴰ}
use native.Mathlib.Omega.{arith}
use lib.Dec.{eqb}
use borrow.Author.Tests.{lt-ltb, le-leb, eqb-true, eqb-false}
use Rattle.blocks.specs.Blocks.{base, holds, Aligned, missing, Referent, Missing, Found}
use Rattle.blocks.specs.declared.Block.{Block}
use Rattle.blocks.specs.Sets.{referent_of}
use Rattle.common.proofs.Booleans.{and_both}
use Rattle.blocks.proofs.Sets.{BlockSet, found-member, missing-none, member-found, referent-slot}
use Rattle.blocks.proofs.Slots.{block, slot_of, Slots, held-slots}
use Rattle.history.proofs.Agreement.{Proper, none, more}

pub found-not-missing {ℓ} : {X : Type ℓ} {x : Referent} {s e : ℕ} → x ≡ Missing → x ≡ Found s e → X
found-not-missing p q = absurd (false≢true (sym (ap missing q) ∙ ap missing p))

pub holds_by : (b : Block) (q : ℕ) → b.start ≤ q → q < b.start + 2 ^ b.order → holds b q ≡ true
holds_by b q x y = and_both (le-leb b.start q x) (lt-ltb q (b.start + 2 ^ b.order) y)

-- ---- the ranges are a set of blocks

member-aligned : {t m : ℕ} {bs : List Block} → Proper t m bs → (b : Block) → Memᴰ b bs → Aligned t m b
member-aligned {t = t} {m = m} none b i = elim i [ ]
member-aligned {t} {m} (more a d p) b (Memᴰ.head e) = subst (Aligned t m) (sym e) a
member-aligned (more a d p) b (Memᴰ.tail i) = member-aligned p b i

-- a block that stands before c in the list holds none of c's addresses
pub before-apart : {bs : List Block} {b c x : Block} (q : ℕ) → ((r : ℕ) → holds x r ≡ true → referent_of bs r ≡ Missing)
    → b ≡ x → Memᴰ c bs → holds b q ≡ true → holds c q ≡ true → ⊥
before-apart {bs} {b} {c} q d e i h k = false≢true (sym (missing-none bs q (d q (subst (λ (y : Block). holds y q ≡ true) e h)) c i) ∙ k)

apart : {t m : ℕ} {bs : List Block} → Proper t m bs → (b c : Block) → Memᴰ b bs → Memᴰ c bs → (q : ℕ) → holds b q ≡ true → holds c q ≡ true → b ≡ c
apart {t = t} {m = m} none b c i j q h k = elim i [ ]
apart (more a d p) b c (Memᴰ.head e) (Memᴰ.head f) q h k = e ∙ sym f
apart (more a d p) b c (Memᴰ.head e) (Memᴰ.tail j) q h k = absurd (before-apart q d e j h k)
apart (more a d p) b c (Memᴰ.tail i) (Memᴰ.head f) q h k = absurd (before-apart q d f i k h)
apart (more a d p) b c (Memᴰ.tail i) (Memᴰ.tail j) q h k = apart p b c i j q h k

pub proper-set : {t m : ℕ} {bs : List Block} → Proper t m bs → BlockSet t m bs
proper-set p = record { aligned = member-aligned p; apart = apart p }

-- each address of the block found has it for its referent
pub whole : {t m : ℕ} {bs : List Block} → Proper t m bs → (s e q : ℕ) → referent_of bs q ≡ Found s e → (r : ℕ) → holds (block s e) r ≡ true
    → referent_of bs r ≡ Found s e
whole {t} {m} {bs} p s e q h r i = member-found t m bs (proper-set p) (block s e) r (found-member bs q s e h).mem i

-- ---- free slots

missing-true : (x : Referent) → missing x ≡ true → x ≡ Missing
missing-true Missing h = refl
missing-true (Found s e) h = absurd (false≢true h)

-- no block of bs holds slot i
abbrev pub unheld : ℕ → List Block → ℕ → Bool
unheld t bs i = missing (referent_of bs (base + i * 2 ^ t))

-- where each slot of a block is free, no address of it has a referent
pub free-slots : {t m : ℕ} {bs : List Block} → Proper t m bs → (b : Block) (z : Slots t m b)
    → ((i : ℕ) → i < 2 ^ (b.order - t) → unheld t bs (z.first + i) ≡ true)
    → (q : ℕ) → holds b q ≡ true → referent_of bs q ≡ Missing
free-slots {t} {m} {bs} p b z f q h =
    let s = held-slots t m b z q h in
    let e : z.first + (slot_of t q - z.first) ≡ slot_of t q = omega (arith, s.low) in
    referent-slot t m bs (proper-set p) q s.past
    ∙ missing-true _ (subst (λ (i : ℕ). unheld t bs i ≡ true) e (f (slot_of t q - z.first) (omega (arith, s.low, s.high))))

-- ---- a pair removed: its addresses have no referent, the others keep theirs

-- the ranges without the one that starts at s
unfoldable pub dropped : ℕ → List Block → List Block
dropped s [] = []
dropped s (b ∷ bs) = cond (eqb b.start s) (dropped s bs) (b ∷ dropped s bs)

dropped-none : {t m : ℕ} {bs : List Block} → Proper t m bs → (p q : ℕ) → referent_of bs q ≡ Missing → referent_of (dropped p bs) q ≡ Missing
unfolding referent_of dropped
dropped-none none p q h = refl
dropped-none (more {b} {bs} a d r) p q h = go (dropped-none r p q) (eqb b.start p) (holds b q) refl h
  where
    go : (referent_of bs q ≡ Missing → referent_of (dropped p bs) q ≡ Missing) → (u v : Bool) → holds b q ≡ v
        → cond v (Found b.start b.order) (referent_of bs q) ≡ Missing
        → referent_of (cond u (dropped p bs) (b ∷ dropped p bs)) q ≡ Missing
    go ih u true w k = found-not-missing k refl
    go ih true false w k = ih k
    go ih false false w k = rw w (ih k)

pub dropped-in : {t m : ℕ} {bs : List Block} → Proper t m bs → (p e q : ℕ) → referent_of bs q ≡ Found p e → referent_of (dropped p bs) q ≡ Missing
unfolding referent_of dropped
dropped-in none p e q h = refl
dropped-in (more {b} {bs} a d r) p e q h = go (dropped-in r p e q) (eqb b.start p) (holds b q) refl refl h
  where
    go : (referent_of bs q ≡ Found p e → referent_of (dropped p bs) q ≡ Missing) → (u v : Bool) → eqb b.start p ≡ u → holds b q ≡ v
        → cond v (Found b.start b.order) (referent_of bs q) ≡ Found p e
        → referent_of (cond u (dropped p bs) (b ∷ dropped p bs)) q ≡ Missing
    go ih true true x w k = dropped-none r p q (d q w)
    go ih false true x w k = let z : b.start ≡ p = cc in absurd (eqb-false b.start p x z)
    go ih true false x w k = ih k
    go ih false false x w k = rw w (ih k)

-- an address that has a referent had one before
pub dropped-live : {t m : ℕ} {bs : List Block} → Proper t m bs → (p q : ℕ) → missing (referent_of (dropped p bs) q) ≡ false → missing (referent_of bs q) ≡ false
dropped-live {bs = bs} r p q k = go (referent_of bs q) refl
  where
    go : (x : Referent) → referent_of bs q ≡ x → missing x ≡ false
    go Missing h = absurd (false≢true (sym k ∙ ap missing (dropped-none r p q h)))
    go (Found s e) h = refl

-- an address that no block which starts at p holds
pub dropped-out : {t m : ℕ} {bs : List Block} → Proper t m bs → (p q : ℕ) → ((e : ℕ) → referent_of bs q ≡ Found p e → ⊥)
    → referent_of (dropped p bs) q ≡ referent_of bs q
unfolding referent_of dropped
dropped-out none p q h = refl
dropped-out (more {b} {bs} a d r) p q h = go (dropped-out r p q) (eqb b.start p) (holds b q) refl refl h
  where
    go : (((e : ℕ) → referent_of bs q ≡ Found p e → ⊥) → referent_of (dropped p bs) q ≡ referent_of bs q) → (u v : Bool)
        → eqb b.start p ≡ u → holds b q ≡ v
        → ((e : ℕ) → cond v (Found b.start b.order) (referent_of bs q) ≡ Found p e → ⊥)
        → referent_of (cond u (dropped p bs) (b ∷ dropped p bs)) q ≡ cond v (Found b.start b.order) (referent_of bs q)
    go ih true true x w k = absurd (k b.order (ap (λ (n : ℕ). Found n b.order) (eqb-true b.start p x)))
    go ih true false x w k = ih k
    go ih false true x w k = rw w
    go ih false false x w k = rw w (ih k)

pub dropped-proper : {t m : ℕ} {bs : List Block} (p : ℕ) → Proper t m bs → Proper t m (dropped p bs)
unfolding dropped
dropped-proper p none = none
dropped-proper {t} {m} p (more {b} {bs} a d r) = go (dropped-proper p r) (eqb b.start p)
  where
    go : Proper t m (dropped p bs) → (u : Bool) → Proper t m (cond u (dropped p bs) (b ∷ dropped p bs))
    go ih true = ih
    go ih false = more a (λ q h. dropped-none r p q (d q h)) ih

-- ---- a pair added at the end

pub added-in : (bs : List Block) (c : Block) (q : ℕ) → referent_of bs q ≡ Missing → holds c q ≡ true
    → referent_of (bs ++ (c ∷ [])) q ≡ Found c.start c.order
unfolding referent_of
added-in [] c q n h = rw h
added-in (b ∷ bs) c q n h = go (holds b q) refl n (added-in bs c q)
  where
    go : (u : Bool) → holds b q ≡ u → cond u (Found b.start b.order) (referent_of bs q) ≡ Missing
        → (referent_of bs q ≡ Missing → holds c q ≡ true → referent_of (bs ++ (c ∷ [])) q ≡ Found c.start c.order)
        → cond u (Found b.start b.order) (referent_of (bs ++ (c ∷ [])) q) ≡ Found c.start c.order
    go true w k ih = found-not-missing k refl
    go false w k ih = ih k h

-- an address that has a referent keeps it
pub added-found : (bs : List Block) (c : Block) (q s e : ℕ) → referent_of bs q ≡ Found s e → referent_of (bs ++ (c ∷ [])) q ≡ Found s e
unfolding referent_of
added-found [] c q s e h = found-not-missing refl h
added-found (b ∷ bs) c q s e h = go (holds b q) h (added-found bs c q s e)
  where
    go : (u : Bool) → cond u (Found b.start b.order) (referent_of bs q) ≡ Found s e
        → (referent_of bs q ≡ Found s e → referent_of (bs ++ (c ∷ [])) q ≡ Found s e)
        → cond u (Found b.start b.order) (referent_of (bs ++ (c ∷ [])) q) ≡ Found s e
    go true k ih = k
    go false k ih = ih k

pub added_out : (bs : List Block) (c : Block) (q : ℕ) → holds c q ≡ false → referent_of (bs ++ (c ∷ [])) q ≡ referent_of bs q
unfolding referent_of
added_out [] c q h = rw h
added_out (b ∷ bs) c q h = rw (added_out bs c q h)

pub added-proper : {t m : ℕ} {bs : List Block} (c : Block) → Proper t m bs → Aligned t m c
    → ((q : ℕ) → holds c q ≡ true → referent_of bs q ≡ Missing) → Proper t m (bs ++ (c ∷ []))
unfolding referent_of
added-proper c none a f = more a (λ q h. refl) none
added-proper {t} {m} c (more {b} {bs} x d p) a f =
    more x (λ q h. added_out bs c q (apart q h) ∙ d q h) (added-proper c p a (λ q h. later q h))
  where
    apart : (q : ℕ) → holds b q ≡ true → holds c q ≡ false
    apart q h = go (holds c q) refl
      where
        go : (u : Bool) → holds c q ≡ u → u ≡ false
        go true k = let n : referent_of (b ∷ bs) q ≡ Found b.start b.order = rw h in found-not-missing (f q k) n
        go false k = refl

    later : (q : ℕ) → holds c q ≡ true → referent_of bs q ≡ Missing
    later q h = go (holds b q) refl (f q h)
      where
        go : (u : Bool) → holds b q ≡ u → cond u (Found b.start b.order) (referent_of bs q) ≡ Missing → referent_of bs q ≡ Missing
        go true k n = found-not-missing n refl
        go false k n = n
