-- A refusal's number is one of the questions', so never the 0 of a call that was done.
use Prim.Native.Nat.{◌<◌}
use mathlib.Core.Path.{◌≡◌, refl, sym, ap}
use lib.Dec.{eqb}
use borrow.Author.Tests.{ne_eqb}
use native.Mathlib.Omega.{arith}
use Rattle.refusals.specs.declared.Refusal.{Refusal}
use Rattle.refusals.specs.declared.Refusal.TheVariants as question
use Rattle.std.specs.Prelude.{Result, Ok, Err}
use Rattle.std.specs.Result.{is_ok, IsErr, IsErrAnd}
use Rattle.refusals.specs.Refusals.{number_of, number}

pub number_is_some : (r : Refusal) → 0 < number_of r
number_is_some question.AreaTooShort = omega arith
number_is_some question.NotAShard = omega arith
number_is_some question.RoutesUnsound = omega arith
number_is_some question.LimitTooHigh = omega arith
number_is_some question.StateUnsound = omega arith
number_is_some question.MessagesUnsound = omega arith
number_is_some question.IdNotAbove = omega arith
number_is_some question.CacheFull = omega arith
number_is_some question.TransactionOpenOrNone = omega arith
number_is_some question.LimitMissing = omega arith
number_is_some question.PositionPastEnd = omega arith
number_is_some question.ProcessedMissing = omega arith
number_is_some question.PartitionMissing = omega arith
number_is_some question.OutputFull = omega arith
number_is_some question.NotThere = omega arith
number_is_some question.OutOfCount = omega arith
number_is_some question.Malformed = omega arith

pub refused_is_not_done : (r : Refusal) → (number_of r ≡ 0 → ⊥)
refused_is_not_done r e = let h = number_is_some r in omega arith

-- `is_ok` is the test that the number is 0
pub done_is_0 : {A : Type 0} (r : Result A Refusal) → is_ok r ≡ eqb (number r) 0
done_is_0 (Ok a) = refl
done_is_0 (Err e) = sym (ne_eqb (number_of e) 0 (refused_is_not_done e))

-- what a `?` hands on is the callee's refusal
pub handed_on : {A : Type 0} (r : Result A Refusal) (e : Refusal) → IsErr r × IsErrAnd r (λ x. x ≡ e) → r ≡ Err e
handed_on (Ok a) e h = absurd h.1
handed_on (Err x) e h = ap Err h.1

pub handed_number : {A : Type 0} (r : Result A Refusal) (e : Refusal) → IsErr r × IsErrAnd r (λ x. x ≡ e) → number r ≡ number_of e
handed_number r e h = ap number (handed_on r e h)
