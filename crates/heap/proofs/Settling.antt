-- What a call settles: its answer and the state, by cases of the number that refuses it, 0 for none.
use Rattle.std.proofs.Common.{◌≡◌, ℕ, zero, suc, refl, arith}
use Rattle.heap.specs.Effects.{settled}
use Rattle.heap.specs.declared.Answer.{Answer}

abbrev pub answer : ℕ → ℕ → Answer
answer n v = record { number = n; value = v }

pub settled-refused : {S : Type 0} (k : ℕ) (old : S) (v : ℕ) (new : S) → (k ≡ 0 → ⊥) → record { answer = answer k 0; state = old } ≡ settled k old v new
settled-refused zero old v new n = absurd (n refl)
settled-refused (suc k) old v new n = refl

pub settled-number : {S : Type 0} (k v : ℕ) (old new : S) → (settled k old v new).answer.number ≡ k
settled-number zero v old new = refl
settled-number (suc k) v old new = refl

pub settled-value : {S : Type 0} (k v : ℕ) (old new : S) → k ≡ 0 → (settled k old v new).answer.value ≡ v
settled-value zero v old new z = refl
settled-value (suc k) v old new z = absurd (omega arith)
