-- Sets of aligned blocks that don't overlap: the block of the set that holds an address is the first of the list that does, and no other does. The lock of
-- an address is that of the same block.
use Rattle.std.proofs.Common.{◌≡◌, ℕ, ◌+◌, ◌-◌, ◌*◌, ◌^◌, ◌<◌, ◌≤◌, Bool, true, false, cond, leb, ◌⊎◌, List, [], ◌∷◌, sym, refl, ap, ◌∙◌, subst, inl, inr}
use Rattle.std.proofs.Common.{arith, ltb-true, leb-true}
use mathlib.Core.Bool.{false≢true}
use mathlib.Core.List.Memᴰ
use mathlib.Core.List.{Memᴰ}
use Rattle.blocks.specs.Blocks.{base, Block, holds, Aligned, Referent, Missing, Found}
use Rattle.blocks.specs.Sets.{Pair, ranges, PairSet, referent_of, locked_of}
use Rattle.blocks.specs.Tables.{lock_bit, entry_of, block_round}
use Rattle.common.proofs.Booleans.{and_left, and_right, true-together}
use Rattle.blocks.proofs.Floors.{floor-multiple}
use Rattle.blocks.proofs.Referents.{round-some}
use Rattle.blocks.proofs.Slots.{block, slot_of, slot-start, slots-of, held-slots, slots-held}
use Rattle.blocks.proofs.Tables.{order-of-entry, entry-taken}

-- aligned blocks of the arena, no two of which share an address: a set without its locks
pub record BlockSet (t m : ℕ) (bs : List Block) : Type 0 where
  pub aligned : (b : Block) → Memᴰ b bs → Aligned t m b
  pub apart : (b c : Block) → Memᴰ b bs → Memᴰ c bs → (q : ℕ) → holds b q ≡ true → holds c q ≡ true → b ≡ c

pub held_low : (b : Block) (q : ℕ) → holds b q ≡ true → b.start ≤ q
held_low b q h = leb-true b.start q (and_left _ _ h)

pub held_high : (b : Block) (q : ℕ) → holds b q ≡ true → q < b.start + 2 ^ b.order
held_high b q h = ltb-true q (b.start + 2 ^ b.order) (and_right (leb b.start q) _ h)

-- the aligned range round an address of a block is the block
pub round-held : (t m : ℕ) (b : Block) (l : Bool) → 1 ≤ t → m < lock_bit → Aligned t m b → (q : ℕ) → holds b q ≡ true
    → block_round (entry_of b.order l) q ≡ Found b.start b.order
round-held t m b l one top a q h =
    let lo = held_low b q h in
    let hi = held_high b q h in
    let p : b.start ≡ base + a.index * 2 ^ b.order = a.place in
    round-some (entry_of b.order l) b.order q (entry-taken b.order l (λ z. omega (arith, a.low)))
    (order-of-entry b.order l (omega (arith, a.high)))
    ∙ ap (λ (x : ℕ). Found x b.order) (ap (λ (x : ℕ). base + x) (floor-multiple b.order a.index (q - base) (omega arith) (omega arith)) ∙ sym p)

-- the block is one of the list, and holds the address
pub record Member (bs : List Block) (b : Block) (q : ℕ) : Type 0 where
  pub mem : Memᴰ b bs
  pub held : holds b q ≡ true

pub found-member : (bs : List Block) (q s e : ℕ) → referent_of bs q ≡ Found s e → Member bs (block s e) q
unfolding referent_of
found-member [] q s e h = let z : ◌≡◌ {A = ℕ} 0 1 = cc in absurd (omega arith)
found-member (b ∷ bs) q s e h = go (holds b q) refl h (found-member bs q s e)
  where
    go : (c : Bool) → holds b q ≡ c → cond c (Found b.start b.order) (referent_of bs q) ≡ Found s e
        → (referent_of bs q ≡ Found s e → Member bs (block s e) q) → Member (b ∷ bs) (block s e) q
    go true w k ih =
        let x : s ≡ b.start = cc in
        let y : e ≡ b.order = cc in
        let z : block s e ≡ b = λ i. record { start = x i; order = y i } in
        record { mem = Memᴰ.head z; held = subst (λ (r : Block). holds r q ≡ true) (sym z) w }
    go false w k ih = let r = ih k in record { mem = Memᴰ.tail r.mem; held = r.held }

pub missing-none : (bs : List Block) (q : ℕ) → referent_of bs q ≡ Missing → (b : Block) → Memᴰ b bs → holds b q ≡ false
unfolding referent_of
missing-none [] q h b i = absurd (Memᴰ.not-nil i)
missing-none (c ∷ bs) q h b i = go (holds c q) refl h (Memᴰ.cases_cons i) (missing-none bs q)
  where
    go : (d : Bool) → holds c q ≡ d → cond d (Found c.start c.order) (referent_of bs q) ≡ Missing → (b ≡ c) ⊎ Memᴰ b bs
        → (referent_of bs q ≡ Missing → (b : Block) → Memᴰ b bs → holds b q ≡ false) → holds b q ≡ false
    go true w k o ih = let z : ◌≡◌ {A = ℕ} 0 1 = cc in absurd (omega arith)
    go false w k (inl e) ih = subst (λ (r : Block). holds r q ≡ false) (sym e) w
    go false w k (inr j) ih = ih k b j

pub none-missing : (bs : List Block) (q : ℕ) → ((b : Block) → Memᴰ b bs → holds b q ≡ false) → referent_of bs q ≡ Missing
none-missing bs q h = go (referent_of bs q) refl
  where
    go : (r : Referent) → referent_of bs q ≡ r → r ≡ Missing
    go Missing e = refl
    go (Found s e) w = let n = found-member bs q s e w in absurd (false≢true (sym (h (block s e) n.mem) ∙ n.held))

module _ (t m : ℕ) (bs : List Block) (set : BlockSet t m bs) where
  -- the member that holds an address is its referent
  pub member-found : (b : Block) (q : ℕ) → Memᴰ b bs → holds b q ≡ true → referent_of bs q ≡ Found b.start b.order
  member-found b q i h = go (referent_of bs q) refl
    where
      go : (r : Referent) → referent_of bs q ≡ r → r ≡ Found b.start b.order
      go Missing e = absurd (false≢true (sym (missing-none bs q e b i) ∙ h))
      go (Found s e) w =
          let n = found-member bs q s e w in
          ap (λ (c : Block). Found c.start c.order) (set.apart (block s e) b n.mem i q n.held h)

  pub found-aligned : (q s e : ℕ) → referent_of bs q ≡ Found s e → Aligned t m (block s e)
  found-aligned q s e h = set.aligned (block s e) (found-member bs q s e h).mem

  pub found-round : (l : Bool) → 1 ≤ t → m < lock_bit → (q s e : ℕ) → referent_of bs q ≡ Found s e → block_round (entry_of e l) q ≡ Found s e
  found-round l one top q s e h = round-held t m (block s e) l one top (found-aligned q s e h) q (found-member bs q s e h).held

  -- outside the arena no block holds an address
  pub outside-missing : (q : ℕ) → (q < base) ⊎ (base + 2 ^ m ≤ q) → referent_of bs q ≡ Missing
  outside-missing q o = go (referent_of bs q) refl
    where
      no : (s e : ℕ) → Aligned t m (block s e) → holds (block s e) q ≡ true → (q < base) ⊎ (base + 2 ^ m ≤ q) → ⊥
      no s e a h (inl l) = let lo = held_low (block s e) q h in omega (arith, a.place)
      no s e a h (inr l) = let hi = held_high (block s e) q h in omega (arith, a.inside)

      go : (r : Referent) → referent_of bs q ≡ r → r ≡ Missing
      go Missing e = refl
      go (Found s e) w = absurd (no s e (found-aligned q s e w) (found-member bs q s e w).held o)

  -- where a block holds one address of a slot, it holds each
  moved : (b : Block) → Aligned t m b → (x y : ℕ) → base ≤ y → slot_of t x ≡ slot_of t y → holds b x ≡ true → holds b y ≡ true
  moved b a x y p e h =
      let z = slots-of t m b a in
      let i = held-slots t m b z x h in
      slots-held t m b z y (record { past = p; low = omega (arith, i.low); high = omega (arith, i.high) })

  -- the addresses of a slot have one referent
  pub referent-slot : (q : ℕ) → base ≤ q → referent_of bs q ≡ referent_of bs (base + slot_of t q * 2 ^ t)
  referent-slot q l = go (referent_of bs q) refl
    where
      same : slot_of t (base + slot_of t q * 2 ^ t) ≡ slot_of t q
      same = slot-start t (slot_of t q)

      go : (r : Referent) → referent_of bs q ≡ r → r ≡ referent_of bs (base + slot_of t q * 2 ^ t)
      go Missing e =
          sym (none-missing bs _ (λ b i. not-held b i (holds b (base + slot_of t q * 2 ^ t)) refl))
        where
          not-held : (b : Block) → Memᴰ b bs → (c : Bool) → holds b (base + slot_of t q * 2 ^ t) ≡ c → c ≡ false
          not-held b i true h = absurd (false≢true (sym (missing-none bs q e b i) ∙ moved b (set.aligned b i) _ q l same h))
          not-held b i false h = refl
      go (Found s e) w =
          let n = found-member bs q s e w in
          sym (member-found (block s e) _ n.mem (moved (block s e) (found-aligned q s e w) q _ (omega arith) (sym same) n.held))

-- ---- sets with locks

-- the block of order e at s with the lock l
abbrev pub pair : ℕ → ℕ → Bool → Pair
pair s e l = record { block = block s e; locked = l }

pub range-in : (p : Pair) (ps : List Pair) → Memᴰ p ps → Memᴰ p.block (ranges ps)
range-in p [] h = absurd (Memᴰ.not-nil h)
range-in p (r ∷ ps) h = go (Memᴰ.cases_cons h) (range-in p ps)
  where
    go : (p ≡ r) ⊎ Memᴰ p ps → (Memᴰ p ps → Memᴰ p.block (ranges ps)) → Memᴰ p.block (r.block ∷ ranges ps)
    go (inl e) ih = Memᴰ.head (ap (λ (x : Pair). x.block) e)
    go (inr i) ih = Memᴰ.tail (ih i)

-- a pair of the list whose block is b
pub record Ranged (ps : List Pair) (b : Block) : Type 0 where
  pub whose : Pair
  pub mem : Memᴰ whose ps
  pub is : whose.block ≡ b

pub range-out : (b : Block) (ps : List Pair) → Memᴰ b (ranges ps) → Ranged ps b
range-out b [] h = absurd (Memᴰ.not-nil h)
range-out b (p ∷ ps) h = go (Memᴰ.cases_cons h) (range-out b ps)
  where
    go : (b ≡ p.block) ⊎ Memᴰ b (ranges ps) → (Memᴰ b (ranges ps) → Ranged ps b) → Ranged (p ∷ ps) b
    go (inl e) ih = record { whose = p; mem = Memᴰ.head refl; is = sym e }
    go (inr i) ih = let r = ih i in record { whose = r.whose; mem = Memᴰ.tail r.mem; is = r.is }

-- without its locks a set is one of blocks
pub set-ranges : {t m : ℕ} {ps : List Pair} → PairSet t m ps → BlockSet t m (ranges ps)
set-ranges {t} {m} {ps} set =
    record {
      aligned = λ b i. let r = range-out b ps i in subst (Aligned t m) r.is (set.aligned r.whose r.mem);
      apart = λ b c i j q h k.
          let r = range-out b ps i in
          let u = range-out c ps j in
          let x : holds r.whose.block q ≡ true = rw r.is h in
          let y : holds u.whose.block q ≡ true = rw u.is k in
          sym r.is ∙ ap (λ (p : Pair). p.block) (set.apart r.whose u.whose r.mem u.mem q x y) ∙ u.is;
    }

-- the block found is in the list with the lock that the address has
pub found-pair : (ps : List Pair) (q s e : ℕ) → referent_of (ranges ps) q ≡ Found s e → Memᴰ (pair s e (locked_of ps q)) ps
unfolding referent_of locked_of
found-pair [] q s e h = let z : ◌≡◌ {A = ℕ} 0 1 = cc in absurd (omega arith)
found-pair (p ∷ ps) q s e h = go (holds p.block q) h (found-pair ps q s e)
  where
    go : (c : Bool) → cond c (Found p.block.start p.block.order) (referent_of (ranges ps) q) ≡ Found s e
        → (referent_of (ranges ps) q ≡ Found s e → Memᴰ (pair s e (locked_of ps q)) ps)
        → Memᴰ (pair s e (cond c p.locked (locked_of ps q))) (p ∷ ps)
    go true k ih =
        let x : s ≡ p.block.start = cc in
        let y : e ≡ p.block.order = cc in
        Memᴰ.head (λ i. record { block = record { start = x i; order = y i }; locked = p.locked })
    go false k ih = Memᴰ.tail (ih k)

-- where no block holds an address, none is locked
pub none-locked : (ps : List Pair) (q : ℕ) → referent_of (ranges ps) q ≡ Missing → locked_of ps q ≡ false
unfolding referent_of locked_of
none-locked [] q h = refl
none-locked (p ∷ ps) q h = go (holds p.block q) h (none-locked ps q)
  where
    go : (c : Bool) → cond c (Found p.block.start p.block.order) (referent_of (ranges ps) q) ≡ Missing
        → (referent_of (ranges ps) q ≡ Missing → locked_of ps q ≡ false) → cond c p.locked (locked_of ps q) ≡ false
    go true k ih = let z : ◌≡◌ {A = ℕ} 0 1 = cc in absurd (omega arith)
    go false k ih = ih k

-- two addresses that the same blocks hold have one lock
locked-alike : (ps : List Pair) (q r : ℕ) → ((b : Block) → Memᴰ b (ranges ps) → holds b q ≡ holds b r) → locked_of ps q ≡ locked_of ps r
unfolding locked_of
locked-alike [] q r h = refl
locked-alike (p ∷ ps) q r h = rw (h p.block (Memᴰ.head refl), locked-alike ps q r (λ b i. h b (Memᴰ.tail i)))

module _ (t m : ℕ) (ps : List Pair) (set : BlockSet t m (ranges ps)) where
  -- those of a block
  pub locked-whole : (q s e : ℕ) → referent_of (ranges ps) q ≡ Found s e → (r : ℕ) → holds (block s e) r ≡ true → locked_of ps r ≡ locked_of ps q
  locked-whole q s e h r k =
      let n = found-member (ranges ps) q s e h in
      let same : (b : Block) → Memᴰ b (ranges ps) → (x y : ℕ) → holds (block s e) x ≡ true → holds (block s e) y ≡ true
      → holds b x ≡ true → holds b y ≡ true =
      λ b i x y u v w. subst (λ (c : Block). holds c y ≡ true) (set.apart (block s e) b n.mem i x u w) v in
      locked-alike ps r q (λ b i. true-together (holds b r) (holds b q) (same b i r q k n.held) (same b i q r n.held k))

  -- those of a slot
  pub locked-slot : (q : ℕ) → base ≤ q → locked_of ps q ≡ locked_of ps (base + slot_of t q * 2 ^ t)
  locked-slot q l =
      let first : ℕ = base + slot_of t q * 2 ^ t in
      let same : slot_of t first ≡ slot_of t q = slot-start t (slot_of t q) in
      locked-alike ps q first (λ b i.
      let a = set.aligned b i in
      true-together (holds b q) (holds b first) (moved t m (ranges ps) set b a q first (omega arith) (sym same))
      (moved t m (ranges ps) set b a first q l same))

-- a member's lock is that of each address which it holds
pub member-locked : {t m : ℕ} {ps : List Pair} → PairSet t m ps → (p : Pair) (q : ℕ) → Memᴰ p ps → holds p.block q ≡ true
    → locked_of ps q ≡ p.locked
member-locked {t} {m} {ps} set p q i h =
    let f = member-found t m (ranges ps) (set-ranges set) p.block q (range-in p ps i) h in
    let n = found-pair ps q p.block.start p.block.order f in
    ap (λ (r : Pair). r.locked) (set.apart _ p n i q h h)
