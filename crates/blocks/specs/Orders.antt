-- The orders of an arena, that of its length, and the order that a get of n bytes needs.
use Rattle.std.specs.Prelude.{ℕ, zero, suc, ◌-◌, ◌^◌, Bool, cond, ◌&&◌, ◌==◌, nat_le, Option, Some, None}

-- the orders of the smallest and of the largest arena
abbrev pub smallest_arena : ℕ
smallest_arena = 5

abbrev pub largest_arena : ℕ
largest_arena = 16

abbrev pub is_arena_order : ℕ → Bool
is_arena_order m = nat_le smallest_arena m && nat_le m largest_arena

-- of the k orders from m on, the first whose power of two is n; 0 where there is none
abbrev pub order_from : ℕ → ℕ → ℕ → ℕ
order_from n zero m = 0
order_from n (suc k) m = let r = order_from n k (suc m) in cond (n == 2 ^ m) m r

-- the order m of an arena of n bytes; 0 where n is no such length
unfoldable pub order_of : ℕ → ℕ
order_of n = order_from n (suc largest_arena - smallest_arena) smallest_arena

-- how the code says such a number: as none where it is 0
abbrev pub unless_zero : ℕ → Option ℕ
unless_zero zero = None
unless_zero (suc k) = Some (suc k)

-- of the orders from e on, the first with n at most its size; after k of them the next, whatever n
abbrev pub needed_from : ℕ → ℕ → ℕ → ℕ
needed_from n zero e = e
needed_from n (suc k) e = let r = needed_from n k (suc e) in cond (nat_le n (2 ^ e)) e r

-- the smallest order from t up whose size is at least n, in an arena of at least n bytes
unfoldable pub needed_order : ℕ → ℕ → ℕ → ℕ
needed_order t m n = needed_from n (m - t) t
