-- The free slots of the part are those of the table, so what is said of their bits is said of the table.
use Rattle.std.proofs.Common.{◌≡◌, ℕ, ◌-◌, ◌^◌, ◌≤◌, List, length, refl, ap, ◌∙◌, zero-add, arith, pow_mono}
use Rattle.blocks.specs.Tables.{free_in}
use Rattle.blocks.specs.Inner.{bits_of, PartOf}
use Rattle.blocks.proofs.Bits.{bits-same}
use Rattle.blocks.proofs.Searches.{answered, undecided, part_free}
use Rattle.blocks.proofs.search.search_row.Goals as goal
use Rattle.blocks.proofs.search.search_row.Goals.{After-free_bits-bits, Start}

-- what the function is given: the part, and the orders of a slot and of the part
module _ (c : Start) where
  abbrev part : List ℕ
  part = c.args.part.now

  abbrev t : ℕ
  t = c.args.t

  abbrev order : ℕ
  order = c.args.k

  slots : length part ≡ 2 ^ (order - t)
  slots = c.requires.5

  few : 2 ^ (order - t) ≤ 2 ^ 4
  few = pow_mono {i = order - t} {j = 4} (omega arith)

-- where its bits were read
module _ (c : After-free_bits-bits) where
  bits-of-table : (s : List ℕ) → PartOf c.args.t s c.args.from c.args.k c.args.part.now
      → c.free_bits-bits.result ≡ bits_of (free_in s) c.args.from (2 ^ (c.args.k - c.args.t))
  bits-of-table s r =
      c.free_bits-bits.ensures ∙ ap (bits_of (free_in c.args.part.now) 0) c.requires.5
      ∙ bits-same (free_in c.args.part.now) (free_in s) 0 c.args.from _ (λ j l. rw zero-add (part_free r j l))

pub free_bits-bits-requires : goal.free_bits-bits-requires
free_bits-bits-requires c = omega (arith, slots (goal.at.free_bits-bits-requires c).Start, few (goal.at.free_bits-bits-requires c).Start)

pub returns-in-Some : goal.returns-in-Some
returns-in-Some c s r =
    let a = c.args in
    answered a.t _ a.from a.k a.e c.requires.1 c.requires.2 (omega arith) _ c.in-Some.ensures (free_in s)
    (bits-of-table (goal.at.returns-in-Some c).After-free_bits-bits s r)

pub search_bits-requires : goal.search_bits-requires
search_bits-requires c =
    let a = c.args in
    let d = undecided a.t c.free_bits-bits.result a.from a.k a.e c.requires.1 c.requires.2 (omega arith) c.in-None.ensures in
    (omega arith, omega arith, d.above refl, omega arith, omega arith, omega arith)

pub returns-in-None : goal.returns-in-None
returns-in-None c s r =
    let a = c.args in
    let known = bits-of-table (goal.at.returns-in-None c).After-free_bits-bits s r in
    let d = undecided a.t c.free_bits-bits.result a.from a.k a.e c.requires.1 c.requires.2 (omega arith) c.in-None.ensures in
    c.search_bits.ensures (free_in s) known (d.mixed refl (free_in s) known)
