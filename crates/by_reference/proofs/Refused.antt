-- A refused call leaves the transaction as it was.
use Prim.Native.Nat.{ℕ, zero, suc}
use mathlib.Core.Path.{◌≡◌, refl}
use mathlib.Core.Bool.{true, false}
use mathlib.Core.List.{List}
use Rattle.anchors_cache.specs.declared.AnchorsCache.{AnchorsCache}
use Rattle.anchors_cache.specs.declared.AnchorsCacheTransaction.{AnchorsCacheTransaction}
use Rattle.anchors_cache.specs.Calls.{answer, pop_answer, trim_answer, refusal, refusal_at, open_call, pop_call, commit_call, rollback_call, trim_call, close_call}

answer_leaves : (number : ℕ) (t s : AnchorsCacheTransaction) → ((answer number t s).number ≡ 0 → ⊥) → (answer number t s).state ≡ t
unfolding answer
answer_leaves zero t s h = absurd (h refl)
answer_leaves (suc k) t s h = refl

pop_leaves : (number : ℕ) (tables : List ℕ) (t : AnchorsCacheTransaction) → ((pop_answer number tables t).number ≡ 0 → ⊥) → (pop_answer number tables t).state ≡ t
unfolding pop_answer
pop_leaves zero tables t h = absurd (h refl)
pop_leaves (suc k) tables t h = refl

trim_leaves : (number : ℕ) (tables : List ℕ) (t : AnchorsCacheTransaction) (c : AnchorsCache) → ((trim_answer number tables t c).number ≡ 0 → ⊥) → (trim_answer number tables t c).state ≡ t
unfolding trim_answer
trim_leaves zero tables t c h = absurd (h refl)
trim_leaves (suc k) tables t c h = refl

module _ (n ct : ℕ) (tables : List ℕ) (t : AnchorsCacheTransaction) where
  pub a_refused_open_leaves_the_transaction : ((open_call n tables t).number ≡ 0 → ⊥) → (open_call n tables t).state ≡ t
  unfolding open_call
  a_refused_open_leaves_the_transaction = answer_leaves (refusal_at false n tables t) t _

  pub a_refused_pop_leaves_the_transaction : ((pop_call n tables t).number ≡ 0 → ⊥) → (pop_call n tables t).state ≡ t
  unfolding pop_call
  a_refused_pop_leaves_the_transaction = pop_leaves (refusal n tables t) tables t

  pub a_refused_commit_leaves_the_transaction : ((commit_call n tables t).number ≡ 0 → ⊥) → (commit_call n tables t).state ≡ t
  unfolding commit_call
  a_refused_commit_leaves_the_transaction = answer_leaves (refusal_at true n tables t) t _

  pub a_refused_rollback_leaves_the_transaction : ((rollback_call n tables t).number ≡ 0 → ⊥) → (rollback_call n tables t).state ≡ t
  unfolding rollback_call
  a_refused_rollback_leaves_the_transaction = answer_leaves (refusal_at true n tables t) t _

  pub a_refused_trim_leaves_the_transaction : ((trim_call n ct tables t).number ≡ 0 → ⊥) → (trim_call n ct tables t).state ≡ t
  unfolding trim_call
  a_refused_trim_leaves_the_transaction = trim_leaves (refusal n tables t) tables t _

  pub a_refused_close_leaves_the_transaction : ((close_call n tables t).number ≡ 0 → ⊥) → (close_call n tables t).state ≡ t
  unfolding close_call
  a_refused_close_leaves_the_transaction = answer_leaves (refusal_at true n tables t) t _
