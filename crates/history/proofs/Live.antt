-- The blocks live by the history of a ledger's calls are the pairs that it has after them. By induction over the calls, from any ledger: of its pairs those
-- remain that no later give names (`run-lives`).
use Prim.Native.Nat.{ℕ, zero, suc}
use mathlib.Core.Path.{◌≡◌, refl, sym, ◌∙◌, ap}
use mathlib.Core.Bool.{Bool, true, false, cond, ◌&&◌, ◌||◌, and-false}
use mathlib.Core.List.{List, [], ◌∷◌, ◌++◌, append-nil, append_assoc}
use lib.Dec.{eqb}
use Rattle.common.specs.Refusals.{first}
use Rattle.blocks.specs.declared.Block.{Block}
use Rattle.blocks.specs.Sets.{ranges}
use Rattle.common.proofs.Booleans.{eqb-suc, eqb_swap}
use Rattle.heap.specs.Views.{View}
use Rattle.heap.specs.Rules.{rules}
use Rattle.heap.specs.Effects.{value, stored, Outcome, settled}
use Rattle.heap.specs.Changes.{Change, adds, removes, relocks, keeps, change_of}
use Rattle.heap.specs.declared.Answer.{Answer}
use Rattle.heap.specs.declared.Call.{Call}
use Rattle.heap.specs.declared.Call.TheVariants.{Get, Give, SetLock}
use Rattle.heap.proofs.Changes.{Changing, gets, gives-back, sets-lock, keeps-all, changing}
use Rattle.history.specs.Ledgers.{Ledger, ledger_view, kept, ledger_step, empty_ledger}
use Rattle.history.specs.CallLists.{run}
use Rattle.history.specs.Histories.{removes_at, gives_back, given_in, got_then, live_by}
use Rattle.history.proofs.Pairs.{dropped}
use Rattle.history.proofs.Locks.{ranges-without, ranges-relocked, ranges-added}

-- the blocks whose start no accepted give among the calls names
remains : List Call → List Answer → List Block → List Block
remains cs xs [] = []
remains cs xs (b ∷ bs) = cond (given_in b.start cs xs) (remains cs xs bs) (b ∷ remains cs xs bs)

remains-all : (xs : List Answer) (bs : List Block) → remains [] xs bs ≡ bs
unfolding remains given_in
remains-all xs [] = refl
remains-all xs (b ∷ bs) = ap (λ (r : List Block). b ∷ r) (remains-all xs bs)

remains-same : (cs ds : List Call) (xs ys : List Answer) (bs : List Block) → ((s : ℕ) → given_in s cs xs ≡ given_in s ds ys)
    → remains cs xs bs ≡ remains ds ys bs
unfolding remains
remains-same cs ds xs ys [] h = refl
remains-same cs ds xs ys (b ∷ bs) h = rw (h b.start, remains-same cs ds xs ys bs h)

remains-append : (cs : List Call) (xs : List Answer) (rest bs : List Block) → remains cs xs (rest ++ bs) ≡ remains cs xs rest ++ remains cs xs bs
unfolding remains
remains-append cs xs [] bs = refl
remains-append cs xs (a ∷ rest) bs = rw (remains-append cs xs rest bs) (go (given_in a.start cs xs))
  where
    go : (u : Bool)
        → cond u (remains cs xs rest ++ remains cs xs bs) (a ∷ (remains cs xs rest ++ remains cs xs bs))
        ≡ cond u (remains cs xs rest) (a ∷ remains cs xs rest) ++ remains cs xs bs
    go true = refl
    go false = refl

module _ (t m : ℕ) (cs : List Call) (xs : List Answer) where
  -- what the later calls leave of the pairs bs, and the blocks that they got
  abbrev later-on : List Block → List Block
  later-on bs = remains cs xs bs ++ live_by t m cs xs

  -- what a call with the answer x makes of the pairs bs, by the history: those given back by it or later are gone, the one that it got is in
  -- front of the later ones
  abbrev after_call : Call → Answer → List Block → List Block
  after_call c x bs = remains (c ∷ cs) (x ∷ xs) bs ++ got_then t m (change_of c) x (given_in x.value cs xs) (live_by t m cs xs)

  -- where the call gave nothing back, the later ones alone decide what remains
  stays : (c : Call) (x : Answer) → ((s : ℕ) → gives_back s c x ≡ false) → (bs later : List Block)
      → remains (c ∷ cs) (x ∷ xs) bs ++ later ≡ remains cs xs bs ++ later
  unfolding given_in
  stays c x h bs later = ap (λ (r : List Block). r ++ later) (remains-same (c ∷ cs) cs (x ∷ xs) xs bs (λ s. rw (h s)))

  refused : (c : Call) (n : ℕ) (bs : List Block) → after_call c (record { number = suc n; value = 0 }) bs ≡ later-on bs
  refused c n bs =
      stays c _ (λ s. rw (eqb-suc n, and-false (removes_at (change_of c) s))) bs _ ∙ ap (λ (r : List Block). remains cs xs bs ++ r) (nothing (change_of c))
    where
      nothing : (c : Change) → got_then t m c (record { number = suc n; value = 0 }) (given_in 0 cs xs) (live_by t m cs xs) ≡ live_by t m cs xs
      nothing (adds k) = rw (eqb-suc n)
      nothing (removes p) = refl
      nothing (relocks p l) = refl
      nothing keeps = refl

  -- the block that a get adds at the end
  got : (b : Block) (bs : List Block)
      → remains cs xs bs ++ cond (given_in b.start cs xs) (live_by t m cs xs) (b ∷ live_by t m cs xs) ≡ later-on (bs ++ (b ∷ []))
  unfolding remains
  got b bs =
      rw (remains-append cs xs bs (b ∷ []), append_assoc) (ap (λ (r : List Block). remains cs xs bs ++ r) (go (given_in b.start cs xs)))
    where
      go : (u : Bool) → cond u (live_by t m cs xs) (b ∷ live_by t m cs xs) ≡ cond u [] (b ∷ []) ++ live_by t m cs xs
      go true = refl
      go false = refl

  gone : (p v : ℕ) (bs : List Block) → remains (Give p ∷ cs) (record { number = 0; value = v } ∷ xs) bs ≡ remains cs xs (dropped p bs)
  unfolding remains given_in dropped
  gone p v [] = refl
  gone p v (b ∷ bs) = rw (gone p v bs, eqb_swap p b.start) (go (eqb b.start p))
    where
      go : (u : Bool)
          → cond ((u && true) || given_in b.start cs xs) (remains cs xs (dropped p bs)) (b ∷ remains cs xs (dropped p bs))
          ≡ remains cs xs (cond u (dropped p bs) (b ∷ dropped p bs))
      go true = refl
      go false = refl

  accepted : {c : Call} → Changing c → (l : Ledger) → let w = ledger_view t m l in
      after_call c (record { number = 0; value = value c w l.bytes }) (ranges l.pairs) ≡ later-on (ranges (kept (change_of c) w l.pairs))
  unfolding value kept
  accepted (gets n) l = stays (Get n) _ (λ s. refl) (ranges l.pairs) _ ∙ got _ (ranges l.pairs) ∙ ap later-on (sym (ranges-added l.pairs _))
  accepted (gives-back p) l = ap (λ (r : List Block). r ++ live_by t m cs xs) (gone p 0 (ranges l.pairs)) ∙ ap later-on (sym (ranges-without p l.pairs))
  accepted (sets-lock p k) l = stays (SetLock p k) _ (λ s. refl) (ranges l.pairs) _ ∙ ap later-on (sym (ranges-relocked p k l.pairs))
  accepted (keeps-all {c} e) l = rw e (stays c _ (λ s. rw e) (ranges l.pairs) _)

  step-lives : (c : Call) (l : Ledger) → after_call c (ledger_step t m c l).answer (ranges l.pairs) ≡ later-on (ranges (ledger_step t m c l).state.pairs)
  unfolding ledger_step
  step-lives c l = go (first (rules c (ledger_view t m l)))
    where
      w : View
      w = ledger_view t m l

      outcome : ℕ → Outcome Ledger
      outcome n = settled n l (value c w l.bytes) (record { pairs = kept (change_of c) w l.pairs; bytes = stored c w l.bytes })

      go : (n : ℕ) → after_call c (outcome n).answer (ranges l.pairs) ≡ later-on (ranges (outcome n).state.pairs)
      go zero = accepted (changing c) l
      go (suc n) = refused c n (ranges l.pairs)

run-lives : (t m : ℕ) (cs : List Call) (l : Ledger) → let r = run (ledger_step t m) cs l in
    remains cs r.answers (ranges l.pairs) ++ live_by t m cs r.answers ≡ ranges r.last.pairs
unfolding run live_by
run-lives t m [] l = append-nil _ ∙ remains-all [] (ranges l.pairs)
run-lives t m (c ∷ cs) l = step-lives t m cs _ c l ∙ run-lives t m cs (ledger_step t m c l).state

pub lives : (t m : ℕ) (cs : List Call) → let r = run (ledger_step t m) cs (empty_ledger m) in live_by t m cs r.answers ≡ ranges r.last.pairs
unfolding remains
lives t m cs = run-lives t m cs (empty_ledger m)
