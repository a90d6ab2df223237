-- Request 7, "Locked blocks": what a lock and an unlock leave of any heap.
use Rattle.std.specs.Prelude.{◌≡◌, ℕ, Bool}
use Rattle.heap.specs.Heaps.{Heap, view_of, heap_call}
use Rattle.heap.specs.declared.Call.TheVariants.{SetLock}

pub record Locking (p : ℕ) (l : Bool) (h : Heap) : Type 0 where
  -- where the block that holds p has that lock already, nothing changes
  pub kept : (view_of h).locked p ≡ l → (heap_call (SetLock p l) h).state ≡ h
  -- accepted, it has that lock from then on
  pub set : (heap_call (SetLock p l) h).answer.number ≡ 0 → (view_of (heap_call (SetLock p l) h).state).locked p ≡ l
  -- so a second call changes nothing
  pub second : let k = (heap_call (SetLock p l) h).state in (heap_call (SetLock p l) k).state ≡ k
