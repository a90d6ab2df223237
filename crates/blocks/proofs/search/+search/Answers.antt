-- The measure is k, the order; an answer is given its value first, as μ. Each return has its law in `Searches`, for whatever table the part is of.
use Rattle.std.proofs.Common.{◌≡◌, ℕ, ◌+◌, ◌-◌, ◌*◌, ◌/◌, ◌%◌, ◌^◌, ◌<◌, true, false, ◌&&◌, eqb, leb, List, length, get_or, take, drop, ◌∙◌}
use Rattle.std.proofs.Common.{sym, ap, ap₂, min, subst, arith, length-drop, length-take, get_or-drop, get_or-take, ltb-true, eq-eqb, ne_eqb}
use Rattle.std.proofs.lemmas.Grind.{common_steps}
use Rattle.blocks.specs.Tables.{free_in}
use Rattle.blocks.specs.Placing.{all_free, place_in}
use Rattle.blocks.specs.Inner.{as_free, PartOf, key_of}
use Rattle.common.proofs.Booleans.{and_right}
use Rattle.blocks.proofs.Rows.{whole-rows}
use Rattle.blocks.proofs.Searches.{none_free, all-open, at-order, Halved, two-halves, first-half, better-half}
use Rattle.blocks.proofs.Searches.{left-part, right-part, in_block, uniform-free, uniform-taken, not-uniform}
use Rattle.blocks.proofs.search.+search.Goals as goal
use Rattle.blocks.proofs.search.+search.Goals.{After-order_in-x, After-uniform, Else-k-e, After-search-left, After-search-right}

-- where it has more than a row, with the order in its first slot's entry
rows : (μ : ℕ) (c : After-order_in-x μ) → length c.args.part.now % 16 ≡ 0
rows μ c = ap (λ (n : ℕ). n % 16) c.requires.4 ∙ whole-rows (c.args.k - c.args.t) (omega (arith, c.if-k-t.false))

-- where it is told whether its slots are all free, or all taken
module _ (μ : ℕ) (c : After-uniform μ) where
  abbrev looked : List ℕ
  looked = c.args.part.now

  abbrev x : ℕ
  x = c.order_in-x.result

  abbrev size : ℕ
  size = 2 ^ (c.args.k - c.args.t)

  told : c.uniform.result ≡ leb x (c.args.t + 4) && all_free (as_free looked (eqb x 0)) 0 size
  told = c.uniform.ensures ∙ ap (λ (n : ℕ). leb x (c.args.t + 4) && all_free (as_free looked (eqb x 0)) 0 n) c.requires.4

  -- they are
  same : c.uniform.result ≡ true → all_free (as_free looked (eqb x 0)) 0 size ≡ true
  same h = and_right (leb x (c.args.t + 4)) _ (sym told ∙ h)

  -- they are not
  mixed : c.uniform.result ≡ false → (s : List ℕ) → PartOf c.args.t s c.args.from c.args.k looked → all_free (free_in s) c.args.from size ≡ false
  mixed h s r = not-uniform r x c.order_in-x.ensures (sym told ∙ h)

-- where it is searched by halves
module _ (μ : ℕ) (c : Else-k-e μ) where
  abbrev half : ℕ
  half = 2 ^ (c.args.k - 1 - c.args.t)

  above : c.args.t < c.args.k
  above = omega (arith, c.requires.1, c.requires.2, c.if-k-e.false)

  two : 2 ^ (c.args.k - c.args.t) ≡ half + half
  two = two-halves c.args.t c.args.k above

  half_is : length c.args.part.now / 2 ≡ half
  half_is = omega (arith, c.requires.4, two)

  halved : (s : List ℕ) → all_free (free_in s) c.args.from (2 ^ (c.args.k - c.args.t)) ≡ false
      → Halved (free_in s) c.args.t c.args.from c.args.k c.args.e
  halved s h = record {
    low = c.requires.1;
    below = omega (arith, c.requires.2, c.if-k-e.false);
    top = omega arith;
    small = c.requires.5;
    not_free = h;
  }

-- the left half, as a part of the same table, and its answer
left_is : (μ : ℕ) (c : After-search-left μ) → let a = c.args in a.t < a.k → length a.part.now / 2 ≡ 2 ^ (a.k - 1 - a.t)
    → (s : List ℕ) → PartOf a.t s a.from a.k a.part.now → c.search-left.result.0 ≡ key_of (place_in (free_in s) a.t a.from (a.k - 1) a.e)
left_is μ c above half_is s r =
    let p = c.args.part.now in
    let n = length p / 2 in
    c.search-left.ensures s (left-part r (take (n - 0) p) above (λ i lt. get_or-take (n - 0) p i 0 (omega (arith, half_is))))

-- and the right one
right_is : (μ : ℕ) (c : After-search-right μ) → let a = c.args in a.t < a.k → length a.part.now / 2 ≡ 2 ^ (a.k - 1 - a.t)
    → (s : List ℕ) → PartOf a.t s a.from a.k a.part.now
    → c.search-right.result.0 ≡ key_of (place_in (free_in s) a.t (a.from + 2 ^ (a.k - 1 - a.t)) (a.k - 1) a.e)
right_is μ c above half_is s r =
    let a = c.args in
    let p = a.part.now in
    let n = length p / 2 in
    let h = 2 ^ (a.k - 1 - a.t) in
    let q = take (length p - n) (drop n p) in
    let entry : (i : ℕ) → i < h → get_or q i 0 ≡ get_or p (h + i) 0 = λ i lt.
    get_or-take (length p - n) (drop n p) i 0 (omega (arith, half_is, c.requires.4, two-halves a.t a.k above)) ∙ get_or-drop n p i 0
    ∙ ap (λ (x : ℕ). get_or p (x + i) 0) half_is in
    let l = subst (λ (x : ℕ). PartOf a.t s (a.from + x) (a.k - 1) q) (sym half_is) (right-part r q above entry) in
    c.search-right.ensures s l ∙ ap (λ (x : ℕ). key_of (place_in (free_in s) a.t (a.from + x) (a.k - 1) a.e)) half_is

pub returns-then-k-x : goal.returns-then-k-x
returns-then-k-x μ c s r =
    let a = c.args in
    let taken = in_block r c.order_in-x.result c.order_in-x.ensures (omega (arith, c.if-k-t.false)) c.if-k-x.true in
    none_free (free_in s) a.t a.from a.k a.e c.requires.1 c.requires.2 taken

pub uniform-requires : goal.uniform-requires
uniform-requires μ c = (omega arith, rows μ (goal.at.uniform-requires μ c).After-order_in-x)

pub returns-then-x-eq0 : goal.returns-then-x-eq0
returns-then-x-eq0 μ c s r =
    let a = c.args in
    let free = rw (eq-eqb c.order_in-x.result 0 c.if-x-eq0.true) at (same μ (goal.at.returns-then-x-eq0 μ c).After-uniform c.if-uniform.true) in
    c.new.ensures ∙ all-open (free_in s) a.t a.from a.k a.e c.requires.1 c.requires.2 (uniform-free r free)

pub returns-else-x-eq0 : goal.returns-else-x-eq0
returns-else-x-eq0 μ c s r =
    let a = c.args in
    let taken = rw (ne_eqb c.order_in-x.result 0 c.if-x-eq0.false) at (same μ (goal.at.returns-else-x-eq0 μ c).After-uniform c.if-uniform.true) in
    none_free (free_in s) a.t a.from a.k a.e c.requires.1 c.requires.2 (uniform-taken r taken)

pub returns-then-k-e : goal.returns-then-k-e
returns-then-k-e μ c s r =
    let a = c.args in
    let not-free = mixed μ (goal.at.returns-then-k-e μ c).After-uniform c.if-uniform.false s r in
    at-order (free_in s) a.t a.from a.k a.e c.requires.1 c.requires.2 c.if-k-e.true not-free

pub search-left-requires : goal.search-left-requires
search-left-requires μ c =
    let d = (goal.at.search-left-requires μ c).Else-k-e in (
      omega arith,
      (
        omega arith,
        c.requires.1,
        omega (arith, c.requires.2, c.if-k-e.false),
        omega arith,
        simp length-take (omega (arith, half_is μ d, c.requires.4, two μ d)),
        omega (arith, c.requires.5, two μ d),
      ),
    )

pub returns-then-is_exact : goal.returns-then-is_exact
returns-then-is_exact μ c s r =
    let g = goal.at.returns-then-is_exact μ c in
    let d = g.Else-k-e in
    let l = left_is μ g.After-search-left (above μ d) (half_is μ d) s r in
    let exact = ltb-true c.search-left.result.0 ((c.args.e + 1) * 65536) (sym c.is_exact.ensures ∙ c.if-is_exact.true) in
    l ∙ first-half (halved μ d s (mixed μ g.After-uniform c.if-uniform.false s r)) (omega arith)

pub search-right-requires : goal.search-right-requires
search-right-requires μ c =
    let d = (goal.at.search-right-requires μ c).Else-k-e in (
      omega arith,
      (
        omega arith,
        c.requires.1,
        omega (arith, c.requires.2, c.if-k-e.false),
        omega arith,
        simp (length-take, length-drop) (omega (arith, half_is μ d, c.requires.4, two μ d)),
        omega (arith, c.requires.5, two μ d, half_is μ d),
      ),
    )

pub returns : goal.returns
returns μ c s r =
    let g = goal.at.returns μ c in
    let d = g.Else-k-e in
    let left = left_is μ g.After-search-left (above μ d) (half_is μ d) s r in
    let right = right_is μ g.After-search-right (above μ d) (half_is μ d) s r in
    let is : c.min.result.0 ≡ min c.search-right.result.0 c.search-left.result.0 = grind (arith, common_steps) in
    is ∙ ap₂ min right left ∙ better-half (halved μ d s (mixed μ g.After-uniform c.if-uniform.false s r))
