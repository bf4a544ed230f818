-- The numbers of the refusals.
use Rattle.std.specs.Prelude.{ℕ}
use Rattle.refusal.specs.declared.Refusal.{Refusal}
use Rattle.refusal.specs.declared.Refusal.TheVariants.{BadAnswer, BadCommand, BadLength, BadLimit, BadOffer}
use Rattle.refusal.specs.declared.Refusal.TheVariants.{BadEntry, BadRegister, BadSpecial, BadWait, CounterFull, Faulty}
use Rattle.refusal.specs.declared.Refusal.TheVariants.{HighPreview, LogFull, LongPreview, OutOfBounds, ShortList}
use Rattle.refusal.specs.declared.Refusal.TheVariants.{ShortLog}

-- the number of a refusal
unfoldable pub number_of : Refusal → ℕ
number_of BadRegister = 1
number_of BadOffer = 3
number_of BadAnswer = 4
number_of BadCommand = 5
number_of BadLength = 6
number_of BadLimit = 7
number_of LongPreview = 8
number_of HighPreview = 9
number_of BadSpecial = 10
number_of OutOfBounds = 11
number_of Faulty = 12
number_of CounterFull = 13
number_of LogFull = 14
number_of ShortList = 15
number_of BadEntry = 21
number_of ShortLog = 22
number_of BadWait = 24
