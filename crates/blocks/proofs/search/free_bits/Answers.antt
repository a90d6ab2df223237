use Rattle.std.proofs.Common.{◌≡◌, ℕ, ◌+◌, ◌-◌, ◌*◌, ◌^◌, ◌<◌, ◌≤◌, Bool, true, false, cond, eqb, List, length, get_or, sym, refl, ap, ◌∙◌, arith, pow_mono}
use Rattle.std.specs.Int.{from_bool}
use Rattle.std.specs.Slice.Iter.{iter_rest}
use Rattle.std.specs.Iterator.Adapters.{rev_source}
use Rattle.blocks.specs.Tables.{free_in}
use Rattle.blocks.specs.Inner.{bits_of}
use Rattle.blocks.proofs.Bits.{bits-before, bits_below, no_bits}
use Rattle.blocks.proofs.Chunks.{all-unread, one-less, read-last, unread}
use Rattle.blocks.proofs.search.free_bits.Goals as goal
use Rattle.blocks.proofs.search.free_bits.Goals.{After-from}

-- a part of at most 16 slots has bits of as many digits
small : (p : List ℕ) (i bits : ℕ) → length p ≤ 16 → bits ≡ bits_of (free_in p) i (length p - i) → bits < 65536
small p i bits l h =
    let top : 2 ^ (length p - i) ≤ 2 ^ 16 = pow_mono {i = length p - i} {j = 16} (omega arith) in
    omega (arith, bits_below (free_in p) i (length p - i))

bit : (b : Bool) → from_bool b ≡ cond b 1 0
bit true = refl
bit false = refl

-- a slot's bit in front of those behind it
before : (p : List ℕ) (i bits x b : ℕ) → i < length p → x ≡ get_or p i 0 → b ≡ from_bool (eqb x 0)
    → bits ≡ bits_of (free_in p) (i + 1) (length p - (i + 1)) → bits * 2 + b ≡ bits_of (free_in p) i (length p - i)
before p i bits x b l at is h =
    let first : cond (free_in p i) 1 0 ≡ b = ap (λ (y : ℕ). cond (eqb y 0) 1 0) (sym at) ∙ sym (is ∙ bit (eqb x 0)) in
    omega (arith, bits-before (free_in p) i (length p) l)

module _ (c : After-from) where
  abbrev left : List ℕ
  left = iter_rest (rev_source c.next.new.self)

  -- where a slot was read
  bits : c.loop-x.bits * 2 + c.from.result ≡ bits_of (free_in c.args.part.now) (length left) (length c.args.part.now - length left)
  bits =
      let u = c.loop-x.invariant.unread in
      let steps = c.in-Some.ensures.steps in
      let one = one-less u left _ steps in
      before c.args.part.now (length left) _ _ _ (omega (arith, u.in_range)) (read-last u left _ steps) c.from.ensures (rw (← one) c.loop-x.invariant.bits)

pub loop-x-init : goal.loop-x-init
loop-x-init c =
    let all = all-unread c.args.part.now _ _ _ c.into_iter-x-iterator.ensures.into_iter_gives c.rev-x-items.ensures.source c.iter.ensures.rest in
    record { unread = all.0; bits = sym (no_bits _ _ _ all.1) }

pub overflow_mul-bits : goal.overflow_mul-bits
overflow_mul-bits c = omega (arith, small c.args.part.now _ c.loop-x.bits c.requires c.loop-x.invariant.bits)

pub overflow_add-bits : goal.overflow_add-bits
overflow_add-bits c = omega (arith, small c.args.part.now (length (left c)) _ c.requires (bits c))

pub loop-x-preserved : goal.loop-x-preserved
loop-x-preserved c = record { unread = unread c.loop-x.invariant.unread (left c) _ c.in-Some.ensures.steps; bits = bits c }
