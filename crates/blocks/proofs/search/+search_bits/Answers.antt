-- The proof of the cycle of calls {search_bits}. The halves of the number are the bits of the halves of the part (`left-bits`, `right-bits`), so what
-- is known of each half, decided at once or searched, is its answer (`left_is`, `right_is`).
use Rattle.std.proofs.Common.{◌≡◌, ℕ, ◌+◌, ◌-◌, ◌*◌, ◌/◌, ◌%◌, ◌^◌, ◌<◌, ◌≤◌, Bool, false, min, sym, refl, ap, ◌∙◌, ap₂, arith, pow_mono, ltb-true}
use Rattle.std.proofs.lemmas.Grind.{common_steps}
use Rattle.blocks.specs.Placing.{all_free, place_in}
use Rattle.blocks.specs.Inner.{bits_of, key_of}
use Rattle.blocks.proofs.Bits.{bits_left, bits-right}
use Rattle.blocks.proofs.Searches.{answered, undecided, Halved, two-halves, first-half, better-half}
use Rattle.blocks.proofs.search.+search_bits.Goals as goal
use Rattle.blocks.proofs.search.+search_bits.Goals.{Joined-decided, Joined-decided-2, in-Some, in-None, in-Some-decided, in-None-decided}

-- what the search is given: the order of a slot, the part's first slot and its order, and the order that is sought
abbrev Given : (t from k e : ℕ) → Type 0
Given t from k e = (1 ≤ t) × (t ≤ e) × (e < k) × (k ≤ t + 4) × (k ≤ 16) × (from + 2 ^ (k - t) ≤ 65536)

module _ {t k e : ℕ} (from : ℕ) (q : Given t from k e) where
  two : 2 ^ (k - t) ≡ 2 ^ (k - 1 - t) + 2 ^ (k - 1 - t)
  two = two-halves t k (omega arith)

  few : 2 ^ (k - 1 - t) ≤ 8
  few = pow_mono {i = k - 1 - t} {j = 3} (omega arith)

  halved : (f : ℕ → Bool) → all_free f from (2 ^ (k - t)) ≡ false → Halved f t from k e
  halved f n = record { low = omega arith; below = omega arith; top = omega arith; small = omega arith; not_free = n }

  -- where the halves have been measured
  module _ {half size : ℕ} (h : half ≡ 2 ^ (k - 1 - t)) (s : size ≡ 2 ^ half) where
    size_is : size ≡ 2 ^ 2 ^ (k - 1 - t)
    size_is = s ∙ ap (λ (x : ℕ). 2 ^ x) h

    left-bits : (bits : ℕ) (f : ℕ → Bool) → bits ≡ bits_of f from (2 ^ (k - t)) → bits % size ≡ bits_of f from (2 ^ (k - 1 - t))
    left-bits bits f b = ap₂ ◌%◌ (b ∙ ap (bits_of f from) two) size_is ∙ bits_left f from (2 ^ (k - 1 - t))

    right-bits : (bits : ℕ) (f : ℕ → Bool) → bits ≡ bits_of f from (2 ^ (k - t)) → bits / size ≡ bits_of f (from + half) (2 ^ (k - 1 - t))
    right-bits bits f b =
        ap₂ ◌/◌ (b ∙ ap (bits_of f from) two) size_is ∙ bits-right f from (2 ^ (k - 1 - t))
        ∙ ap (λ (x : ℕ). bits_of f (from + x) (2 ^ (k - 1 - t))) (sym h)

-- where the left half is answered
left_is : (m : ℕ) (c : Joined-decided m) (f : ℕ → Bool) → c.args.bits ≡ bits_of f c.args.from (2 ^ (c.args.k - c.args.t))
    → c.match-decided.left.0 ≡ key_of (place_in f c.args.t c.args.from (c.args.k - 1) c.args.e)
left_is m c f h =
    let a = c.args in
    let known = left-bits a.from c.requires c.size_of-half.ensures c.size_of-size.ensures a.bits f h in
    elim c.match-decided.branch [
      | in-Some w ↦ ap (λ x. x.0) w.left-is ∙ answered a.t _ a.from (a.k - 1) a.e (omega arith) (omega arith) (omega arith) _ w.in-Some.ensures f known
      | in-None w ↦
          let d = undecided a.t (a.bits % c.size_of-size.result) a.from (a.k - 1) a.e (omega arith) (omega arith) (omega arith) w.in-None.ensures in
          ap (λ x. x.0) w.left-is ∙ w.search_bits-left.ensures f known (d.mixed refl f known)
    ]

-- and the right one
right_is : (m : ℕ) (c : Joined-decided-2 m) (f : ℕ → Bool) → c.args.bits ≡ bits_of f c.args.from (2 ^ (c.args.k - c.args.t))
    → c.match-decided-2.right.0 ≡ key_of (place_in f c.args.t (c.args.from + 2 ^ (c.args.k - 1 - c.args.t)) (c.args.k - 1) c.args.e)
right_is m c f h =
    let a = c.args in
    let at = a.from + c.size_of-half.result in
    let o = c.size_of-half.ensures in
    let known = right-bits a.from c.requires o c.size_of-size.ensures a.bits f h in
    let found : c.match-decided-2.right.0 ≡ key_of (place_in f a.t at (a.k - 1) a.e) =
    elim c.match-decided-2.branch [
      | in-Some-decided w ↦
          ap (λ x. x.0) w.right-is
          ∙ answered a.t _ at (a.k - 1) a.e (omega arith) (omega arith) (omega arith) _ w.in-Some-decided.ensures f known
      | in-None-decided w ↦
          let d = undecided a.t (a.bits / c.size_of-size.result) at (a.k - 1) a.e (omega arith) (omega arith) (omega arith) w.in-None-decided.ensures in
          ap (λ x. x.0) w.right-is ∙ w.search_bits-right.ensures f known (d.mixed refl f known)
    ] in
    found ∙ ap (λ (x : ℕ). key_of (place_in f a.t (a.from + x) (a.k - 1) a.e)) o

pub size_of-size-requires : goal.size_of-size-requires
size_of-size-requires m c = omega (arith, c.size_of-half.ensures, few c.args.from c.requires)

pub decided-requires : goal.decided-requires
decided-requires m c = (omega arith, omega arith, omega arith, omega arith, omega (arith, two c.args.from c.requires))

pub search_bits-left-requires : goal.search_bits-left-requires
search_bits-left-requires m c =
    let a = c.args in
    let d = undecided a.t (a.bits % c.size_of-size.result) a.from (a.k - 1) a.e (omega arith) (omega arith) (omega arith) c.in-None.ensures in
    (omega arith, (omega arith, omega arith, d.above refl, omega arith, omega arith, omega (arith, two a.from c.requires)))

pub returns-then-is_exact : goal.returns-then-is_exact
returns-then-is_exact m c f h n =
    let l = left_is m (goal.at.returns-then-is_exact m c).Joined-decided f h in
    let exact = ltb-true c.match-decided.left.0 ((c.args.e + 1) * 65536) (sym c.is_exact.ensures ∙ c.if-is_exact.true) in
    l ∙ first-half (halved c.args.from c.requires f n) (omega arith)

pub decided-requires-2 : goal.decided-requires-2
decided-requires-2 m c = (omega arith, omega arith, omega arith, omega arith, omega (arith, c.size_of-half.ensures, two c.args.from c.requires))

pub search_bits-right-requires : goal.search_bits-right-requires
search_bits-right-requires m c =
    let a = c.args in
    let at = a.from + c.size_of-half.result in
    let d = undecided a.t (a.bits / c.size_of-size.result) at (a.k - 1) a.e (omega arith) (omega arith) (omega arith) c.in-None-decided.ensures in (
      omega arith,
      (omega arith, omega arith, d.above refl, omega arith, omega arith, omega (arith, c.size_of-half.ensures, two a.from c.requires)),
    )

pub returns : goal.returns
returns m c f h n =
    let l = left_is m (goal.at.returns m c).Joined-decided f h in
    let r = right_is m (goal.at.returns m c).Joined-decided-2 f h in
    let is : c.min.result.0 ≡ min c.match-decided-2.right.0 c.match-decided.left.0 = grind (arith, common_steps) in
    is ∙ ap₂ min r l ∙ better-half (halved c.args.from c.requires f n)
