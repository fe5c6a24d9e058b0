-- The numbers of document 01's questions, and what a call that may be refused is asked.
use Rattle.std.specs.Prelude.{ℕ, Result, Ok, Err}
use Rattle.refusals.specs.declared.Refusal.{Refusal}
use Rattle.refusals.specs.declared.Refusal.TheVariants as question

abbrev pub number_of : Refusal → ℕ
number_of question.AreaTooShort = 1
number_of question.NotAShard = 2
number_of question.RoutesUnsound = 3
number_of question.LimitTooHigh = 4
number_of question.StateUnsound = 5
number_of question.MessagesUnsound = 6
number_of question.IdNotAbove = 7
number_of question.CacheFull = 8
number_of question.TransactionOpenOrNone = 9
number_of question.LimitMissing = 10
number_of question.PositionPastEnd = 11
number_of question.ProcessedMissing = 12
number_of question.PartitionMissing = 13
number_of question.OutputFull = 14
number_of question.NotThere = 15
number_of question.OutOfCount = 16
number_of question.Malformed = 17

-- 0 where every question was answered "yes"
abbrev pub number : {A : Type 0} → Result A Refusal → ℕ
number (Ok a) = 0
number (Err r) = number_of r
