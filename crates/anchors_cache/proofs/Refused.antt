-- What a call answers where a question refuses it, and where none does.
use Prim.Native.Nat.{ℕ}
use mathlib.Core.Path.{◌≡◌}
use mathlib.Core.List.{List}
use mathlib.Core.Bool.{Bool}
use mathlib.Core.Option.{Option as Maybe}
use Rattle.std.specs.Prelude.{Result, Ok, Err, Option}
use Rattle.std.specs.Result.{IsErr, IsErrAnd, result_unwrap_or}
use Rattle.refusals.specs.declared.Refusal.{Refusal}
use Rattle.refusals.specs.Refusals.{number, number_of}
use Rattle.refusals.proofs.Laws.{handed_on, refused_is_not_done}
use Rattle.anchors_cache.proofs.Asked.{on_not, same_beq}
use Rattle.cache_rules.specs.Rules.{Info, Row}
use Rattle.anchors_cache.specs.declared.AnchorsCache.{AnchorsCache}
use Rattle.anchors_cache.specs.declared.AnchorsCacheTransaction.{AnchorsCacheTransaction}
use Rattle.anchors_cache.specs.declared.CachedAnchor.{CachedAnchor}
use Rattle.anchors_cache.specs.declared.AnchorInfo.{AnchorInfo}
use Rattle.anchors_cache.specs.declared.Authored.{Authored}
use Rattle.anchors_cache.specs.declared.After.{After}
use Rattle.anchors_cache.specs.Answers.{done_of, popped_of, trimmed_of, anchor_answer_of, info_answer_of, flag_answer_of}
use Rattle.anchors_cache.specs.Calls.{on_zero, answer, pop_answer, trim_answer, info_answer, get_answer, flag_answer}

-- no question has the number 0
pub on_refusal : {A : Type 0} (r : Refusal) (a b : A) → on_zero (number_of r) a b ≡ b
on_refusal r a b = on_not (number_of r) a b (refused_is_not_done r)

pub on_refused : {A : Type 0} (k : ℕ) (r : Refusal) (a b : A) → number_of r ≡ k → on_zero k a b ≡ b
on_refused k r a b e = rw (← e) (on_refusal r a b)

module _ {A : Type 0} (x : Result A Refusal) (r : Refusal) (k : ℕ) (h : IsErr x × IsErrAnd x (λ e. e ≡ r)) (e : number_of r ≡ k) where
  pub number_refused : number x ≡ k
  number_refused = rw (handed_on x r h) e

module _ (t : AnchorsCacheTransaction) (k : ℕ) (r : Refusal) (e : number_of r ≡ k) where
  pub done_refused : (s : AnchorsCacheTransaction) (x : Result AnchorsCacheTransaction Refusal) → IsErr x × IsErrAnd x (λ e. e ≡ r) → done_of t x ≡ answer k t s
  unfolding answer
  done_refused s x h = rw (handed_on x r h, ← e, on_refusal r s t)

  pub pop_refused : (tables : List ℕ) (x : Result (After (Option (Authored CachedAnchor))) Refusal) → IsErr x × IsErrAnd x (λ e. e ≡ r) → popped_of t x ≡ pop_answer k tables t
  unfolding pop_answer
  pop_refused tables x h = rw (handed_on x r h, ← e, on_refusal r)

  pub trim_refused : (tables : List ℕ) (c : AnchorsCache) (x : Result (After (Option (Authored AnchorInfo))) Refusal) → IsErr x × IsErrAnd x (λ e. e ≡ r) → trimmed_of t x ≡ trim_answer k tables t c
  unfolding trim_answer
  trim_refused tables c x h = rw (handed_on x r h, ← e, on_refusal r)

module _ (k : ℕ) (r : Refusal) (e : number_of r ≡ k) where
  pub info_refused : (o : Maybe Info) (x : Result (Option (Authored AnchorInfo)) Refusal) → IsErr x × IsErrAnd x (λ e. e ≡ r) → info_answer_of x ≡ info_answer k o
  unfolding info_answer
  info_refused o x h = rw (handed_on x r h, ← e, on_refusal r)

  pub get_refused : (i base : ℕ) (l : List Row) (x : Result (Option (Authored CachedAnchor)) Refusal) → IsErr x × IsErrAnd x (λ e. e ≡ r) → anchor_answer_of x ≡ get_answer k i base l
  unfolding get_answer
  get_refused i base l x h = rw (handed_on x r h, ← e, on_refusal r)

  pub flag_refused : (b : Bool) (x : Result Bool Refusal) → IsErr x × IsErrAnd x (λ e. e ≡ r) → flag_answer_of x ≡ flag_answer k b
  unfolding flag_answer
  flag_refused b x h = rw (handed_on x r h, ← e, on_refusal r)

-- each with what it says of a call that hands a refusal on
pub ruleset refused = (done_refused, pop_refused, trim_refused, info_refused, get_refused, flag_refused)

-- with a test of two marks
pub ruleset asked_at = (same_beq, number_refused)

-- what a call leaves, for a caller that goes on with the transaction in either case
pub state_left : (t s : AnchorsCacheTransaction) (x : Result AnchorsCacheTransaction Refusal) → s ≡ result_unwrap_or x t → s ≡ (done_of t x).state
state_left t s (Ok a) e = e
state_left t s (Err r) e = e
