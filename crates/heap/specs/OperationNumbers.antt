-- The operations: 1 to 13, the same in the records of a take and in the calls of a replay. But 11 and 12, again and set, name no call: only takes have them.
use Rattle.std.specs.Prelude.{◌≡◌, ℕ, Bool, false, not, ◌&&◌, ◌||◌, ◌==◌, nat_le, Result, MatchResult}
use Rattle.common.specs.declared.reasons.Refusal.{Refusal}
use Rattle.common.specs.declared.reasons.Refusal.TheVariants.{UnknownOperation}
use Rattle.heap.specs.declared.operations.Operation.{Operation}
use Rattle.heap.specs.declared.operations.Operation.TheVariants.{Get, Give, Step, Read, Write, Left, Copy, Fill, Lock, Unlock, Again, Set, Grid}

abbrev pub last_operation : ℕ
last_operation = 13

-- some operation has this number
abbrev pub is_operation : ℕ → Bool
is_operation op = nat_le 1 op && nat_le op last_operation

abbrev pub names_call : ℕ → Bool
names_call op = nat_le 1 op && (nat_le op last_operation && not (op == 11 || op == 12))

abbrev pub number_of : Operation → ℕ
number_of Get = 1
number_of Give = 2
number_of Step = 3
number_of Read = 4
number_of Write = 5
number_of Left = 6
number_of Copy = 7
number_of Fill = 8
number_of Lock = 9
number_of Unlock = 10
number_of Again = 11
number_of Set = 12
number_of Grid = 13

abbrev pub makes_call : Operation → Bool
makes_call o = names_call (number_of o)

-- what is made of a number: the operation that has it, or the refusal where none has
abbrev pub decodes : ℕ → Result Operation Refusal → Type 0
decodes op r = MatchResult r (λ o. number_of o ≡ op) (λ reason. (reason ≡ UnknownOperation) × (is_operation op ≡ false))
