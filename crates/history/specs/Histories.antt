-- Document 01, "What demand 3 compares": what holds by the history, which is the arguments and answers of the listed calls alone.
-- A slot has 2 ^ t bytes, the arena 2 ^ m.
use Rattle.std.specs.Prelude.{ℕ, ◌^◌, ◌≤◌, ◌≡◌, Bool, true, false, cond, ◌&&◌, ◌||◌, eqb}
use mathlib.Core.List.{List, [], ◌∷◌, Memᴰ}
use Rattle.blocks.specs.Blocks.{holds, Aligned}
use Rattle.blocks.specs.declared.Block.{Block}
use Rattle.blocks.specs.Orders.{needed_order}
use Rattle.heap.specs.Changes.{Change, adds, removes, relocks, keeps, change_of}
use Rattle.heap.specs.declared.Answer.{Answer}
use Rattle.heap.specs.declared.Call.{Call}

-- whether the change is that of a give of s
abbrev pub removes_at : Change → ℕ → Bool
removes_at (adds n) s = false
removes_at (removes p) s = eqb p s
removes_at (relocks p l) s = false
removes_at keeps s = false

-- the call gives back the block that starts at s
abbrev pub gives_back : ℕ → Call → Answer → Bool
gives_back s c x = removes_at (change_of c) s && eqb x.number 0

-- an accepted give of s is among the calls
unfoldable pub given_in : ℕ → List Call → List Answer → Bool
given_in s [] xs = false
given_in s (c ∷ cs) [] = false
given_in s (c ∷ cs) (x ∷ xs) = gives_back s c x || given_in s cs xs

-- the block that an accepted get gave, in front of the later ones, unless its start is given back after that get
abbrev pub got_then : (t m : ℕ) → Change → Answer → Bool → List Block → List Block
got_then t m (adds n) x given later =
    cond (eqb x.number 0) (cond given later (record { start = x.value; order = needed_order t m n } ∷ later)) later
got_then t m (removes p) x given later = later
got_then t m (relocks p l) x given later = later
got_then t m keeps x given later = later

-- The blocks live by the history, one for each accepted get whose start no later accepted give names, in the order of the gets.
unfoldable pub live_by : (t m : ℕ) → List Call → List Answer → List Block
live_by t m [] xs = []
live_by t m (c ∷ cs) [] = []
live_by t m (c ∷ cs) (x ∷ xs) = got_then t m (change_of c) x (given_in x.value cs xs) (live_by t m cs xs)

-- a range of 2 ^ k bytes of the arena, aligned as a block is, is free by the history: it shares no byte with a live block
pub record FreeByHistory (t m : ℕ) (live : List Block) (r : Block) : Type 0 where
  pub aligned : Aligned t m r
  pub unshared : (b : Block) → Memᴰ b live → (q : ℕ) → holds b q ≡ true → holds r q ≡ true → ⊥

-- a get of 1 byte up to the arena's length for which no free range is large enough
pub record Starved (t m : ℕ) (live : List Block) (n : ℕ) : Type 0 where
  pub some : 1 ≤ n
  pub fits : n ≤ 2 ^ m
  pub none : (r : Block) → FreeByHistory t m live r → needed_order t m n ≤ r.order → ⊥

-- the change is that of such a get
abbrev pub StarvedGet : (t m : ℕ) → List Block → Change → Type 0
StarvedGet t m live (adds n) = Starved t m live n
StarvedGet t m live (removes p) = ⊥
StarvedGet t m live (relocks p l) = ⊥
StarvedGet t m live keeps = ⊥
