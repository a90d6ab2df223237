-- A good head, and one that is written.
use Prim.Native.Nat.{ℕ, ◌≤◌}
use mathlib.Core.Path.{◌≡◌, refl}
use mathlib.Core.List.{List, [], ◌∷◌}
use native.Mathlib.Omega.{arith}
use lib.ListN.{length, get_or, drop, set}
use borrow.Author.Tests.{le-ltb, le-leb, eq-eqb, ne_eqb}
use Rattle.blocks.specs.Orders.{smallest_arena, largest_arena}
use Rattle.takes.specs.Files.{head_length, longest, head_number}
use Rattle.takes.specs.Writing.{write_head}

pub good : (s : List ℕ) → (length s ≡ 0 → ⊥) → get_or s 0 0 ≡ 1 → head_length ≤ length s → smallest_arena ≤ get_or s 1 0 → get_or s 1 0 ≤ largest_arena
    → length s ≤ longest → 0 ≡ head_number s
unfolding head_number
good s some one sized l h k =
    rw (
      ne_eqb (length s) 0 some,
      eq-eqb (get_or s 0 0) 1 one,
      le-ltb (length s) head_length sized,
      le-leb smallest_arena (get_or s 1 0) l,
      le-leb (get_or s 1 0) largest_arena h,
      le-ltb longest (length s) k,
    )

pub two_set : (out : List ℕ) (a b : ℕ) → head_length ≤ length out → set (set out 0 a) 1 b ≡ a ∷ b ∷ drop head_length out
two_set [] a b h = absurd (omega arith)
two_set (x ∷ []) a b h = absurd (omega arith)
two_set (x ∷ y ∷ out) a b h = refl

pub head-stored : (m : ℕ) (out : List ℕ) → smallest_arena ≤ m → m ≤ largest_arena → head_length ≤ length out
    → record { number = 0; count = head_length; slice = set (set out 0 1) 1 m } ≡ write_head m out
unfolding write_head
head-stored m out low l h = rw (le-leb smallest_arena m low, le-leb m largest_arena l, le-ltb (length out) head_length h, two_set out 1 m h)
