-- The first slots of a row that all part well are an undamaged table; any other is gone through.
use Rattle.std.proofs.Common.{◌≡◌, ℕ, ◌-◌, ◌^◌, ◌<◌, ◌≤◌, true, eqb, List, length, get_or, take, ◌++◌, [], ◌∷◌, sym, refl, ap, ◌∙◌, arith, eqb-true}
use Rattle.std.proofs.Common.{length-take, get_or-take}
use Rattle.std.proofs.Math.ListN.{get_or-append}
use Rattle.std.proofs.lemmas.List.{get_or-map}
use lib.Lanes.{pick_l}
use lib.ListN.{replicate}
use Rattle.blocks.specs.Placing.{all_free}
use Rattle.blocks.proofs.Parting.{all-below, well-undamaged}
use Rattle.blocks.proofs.scan.as_row.Goals as goal
use Rattle.blocks.proofs.scan.as_row.Goals.{then-m-t, else-m-t}

-- the n first slots of a row made of a table's and of others
taken : (s z ks : List ℕ) (n : ℕ) → length s ≡ n → n ≤ length ks → all_free (λ j. eqb (get_or ks j 0) j) 0 n ≡ true
    → (j : ℕ) → j < n → get_or s j 0 ≡ get_or (pick_l 0 (take n s ++ z) ks) j 0
taken s z ks n size room h j l =
    let at : get_or ks j 0 ≡ j = eqb-true _ _ (all-below (λ j. eqb (get_or ks j 0) j) n h j l) in
    let all : length (take n s) ≡ n = simp length-take (omega arith) in
    sym (get_or-map (λ k. get_or (take n s ++ z) k 0) ks j 0 0 (omega arith) ∙ ap (λ k. get_or (take n s ++ z) k 0) at
    ∙ get_or-append (take n s) z 0 j (omega arith) ∙ get_or-take n s j 0 l)

-- the code's rows
abbrev four : List ℕ
four = 0 ∷ 1 ∷ 2 ∷ 3 ∷ 4 ∷ 4 ∷ 4 ∷ 4 ∷ 4 ∷ 4 ∷ 4 ∷ 4 ∷ 4 ∷ 4 ∷ 4 ∷ 4 ∷ []

four-first : all_free (λ j. eqb (get_or four j 0) j) 0 4 ≡ true
unfolding all_free
four-first = refl

abbrev eight : List ℕ
eight = 0 ∷ 1 ∷ 2 ∷ 3 ∷ 4 ∷ 5 ∷ 6 ∷ 7 ∷ 8 ∷ 8 ∷ 8 ∷ 8 ∷ 8 ∷ 8 ∷ 8 ∷ 8 ∷ []

eight-first : all_free (λ j. eqb (get_or eight j 0) j) 0 8 ≡ true
unfolding all_free
eight-first = refl

pub returns-else-not-all_part_well : goal.returns-else-not-all_part_well
returns-else-not-all_part_well c =
    let t = c.args.t in
    let s = c.args.table.now in
    let x = c.if-m-t.slots in
    let is : c.all_part_well.result ≡ true = c.if-not-all_part_well.false in
    let of : length s ≡ 2 ^ (c.args.m - t) = c.requires.4 in
    let both : (length s ≤ 16) × ((j : ℕ) → j < length s → get_or s j 0 ≡ get_or x j 0) = elim c.if-m-t.branch [
      | then-m-t w ↦
          let levels : c.args.m - t ≡ 2 = omega (arith, w.if-m-t.true) in
          let size : length s ≡ 4 = rw levels at of in
          let first = taken s (replicate 4 0) four 4 size (omega arith) four-first in
          (omega arith, λ j l. first j (omega arith) ∙ ap (λ (y : List ℕ). get_or y j 0) (sym w.slots-is))
      | else-m-t w ↦
          let levels : c.args.m - t ≡ 3 = omega (arith, w.if-m-t.false) in
          let size : length s ≡ 8 = rw levels at of in
          let first = taken s (replicate 8 0) eight 8 size (omega arith) eight-first in
          (omega arith, λ j l. first j (omega arith) ∙ ap (λ (y : List ℕ). get_or y j 0) (sym w.slots-is))
    ] in
    rw is (sym (well-undamaged t c.args.m x s (omega arith) of both.0 both.1 (sym c.all_part_well.ensures ∙ is)))
