-- The number of each refusal, and of what was refused or not.
use Rattle.std.specs.Prelude.{ℕ, Result, Ok, Err}
use Rattle.common.specs.declared.reasons.Refusal.{Refusal}
use Rattle.common.specs.declared.reasons.Refusal.TheVariants.{NoTake, BadSize, TooLong, CutOff, UnknownOperation, WrongLength, NoRegister, WrongSizes, NoRoom}
use Rattle.common.specs.declared.reasons.Refusal.TheVariants.{BadRequest, BadWidth, TooWide, Marked, Damaged, Full, Dead, NotAStart, Beyond, PastTheEnd}
use Rattle.common.specs.declared.reasons.Refusal.TheVariants.{TooMany, Outside, Locked, Stray, NoPlace}

abbrev pub number_of : Refusal → ℕ
number_of NoTake = 1
number_of BadSize = 2
number_of TooLong = 3
number_of CutOff = 4
number_of UnknownOperation = 5
number_of WrongLength = 6
number_of NoRegister = 7
number_of WrongSizes = 8
number_of NoRoom = 9
number_of BadRequest = 10
number_of BadWidth = 11
number_of TooWide = 12
number_of Marked = 13
number_of Damaged = 20
number_of Full = 21
number_of Dead = 22
number_of NotAStart = 23
number_of Beyond = 24
number_of PastTheEnd = 25
number_of TooMany = 26
number_of Outside = 27
number_of Locked = 28
number_of Stray = 29
number_of NoPlace = 30

-- the number of a refusal, 0 where there is none
abbrev pub number_in : {T : Type 0} → Result T Refusal → ℕ
number_in (Ok x) = 0
number_in (Err reason) = number_of reason
