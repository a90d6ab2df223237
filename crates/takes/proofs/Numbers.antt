-- Big-endian numbers and their bytes, at any width: bytes read as a number are the number's (`number-forth` of common is the other way round).
use Prim.Native.Nat.{ℕ, zero, suc, ◌+◌, ◌≤◌}
use mathlib.Core.Path.{◌≡◌, refl, sym, ap}
use mathlib.Core.List.{List}
use native.Mathlib.Omega.{arith}
use native.Mathlib.Nat.{zero-add}
use lib.Arith.{digits_div, digits_mod}
use lib.ListN.{length, get_or, take, drop}
use lib.Seq.{get_or-drop, take-suc}
use Rattle.common.specs.Bytes.{big_endian, bytes_of}
use Rattle.takes.specs.RoundTrips.{Bytes}

pub bytes_drop : (n : ℕ) (bs : List ℕ) → Bytes bs → Bytes (drop n bs)
bytes_drop n bs h i = rw get_or-drop (h (n + i))

pub number-back : (w : ℕ) (bs : List ℕ) → Bytes bs → w ≤ length bs → bytes_of w (big_endian bs 0 w) ≡ take w bs
unfolding big_endian bytes_of
number-back zero bs h l = refl
number-back (suc w) bs h l =
    let z : get_or bs (0 + w) 0 ≡ get_or bs w 0 = ap (λ (n : ℕ). get_or bs n 0) (zero-add w) in
    rw (z, digits_div (big_endian bs 0 w) (h w), digits_mod (big_endian bs 0 w) (h w), number-back w bs h (omega arith)) (sym (take-suc bs w 0 (omega arith)))
