-- Document 01, "Blocks and their table": aligned blocks of addresses, and the block that a pointer refers to.
use Rattle.std.specs.Prelude.{◌≡◌, ℕ, ◌+◌, ◌-◌, ◌*◌, ◌/◌, ◌^◌, ◌≤◌, Bool, true, false, ◌&&◌, nat_le, nat_lt, Option, Some, None}
pub use Rattle.blocks.specs.declared.Block.{Block}

-- the arena's first address
abbrev pub base : ℕ
base = 65536

-- n rounded down to a multiple of 2 ^ e
unfoldable pub floor : ℕ → ℕ → ℕ
floor e n = n / 2 ^ e * 2 ^ e

-- A block of order e has 2 ^ e addresses, from its start on. Its range holds the address q:
abbrev pub holds : Block → ℕ → Bool
holds b q = nat_le b.start q && nat_lt q (b.start + 2 ^ b.order)

-- the block is one of an arena of 2 ^ m bytes in slots of 2 ^ t: its start less the arena's is a multiple of its size, and it ends in the arena
pub record Aligned (t m : ℕ) (b : Block) : Type 0 where
  pub low : t ≤ b.order
  pub high : b.order ≤ m
  pub index : ℕ
  pub place : b.start ≡ base + index * 2 ^ b.order
  pub inside : b.start + 2 ^ b.order ≤ base + 2 ^ m

-- The referent (document 01: the home) of a pointer is a block, by its start and order, or missing.
pub data Referent : Type 0 where
  Missing : Referent
  Found : (start order : ℕ) → Referent

-- how the code says it
abbrev pub as_referent : Option Block → Referent
as_referent None = Missing
as_referent (Some b) = Found b.start b.order

abbrev pub missing : Referent → Bool
missing Missing = true
missing (Found s e) = false

-- the start and the order of the block, 0 where there is none
abbrev pub start_in : Referent → ℕ
start_in Missing = 0
start_in (Found s e) = s

abbrev pub order_in : Referent → ℕ
order_in Missing = 0
order_in (Found s e) = e

-- bytes from p to the block's end, both counted
abbrev pub left_in : Referent → ℕ → ℕ
left_in Missing p = 0
left_in (Found s e) p = s + 2 ^ e - p
