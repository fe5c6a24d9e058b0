-- The first "no" of questions 5, 15 and 16, and the answers that go with it.
use Prim.Native.Nat.{ℕ, ◌≤◌}
use mathlib.Core.Path.{◌≡◌, refl, sym, ap, ◌∙◌}
use mathlib.Core.Bool.{Bool, true, false}
use native.Mathlib.Omega.{arith}
use borrow.Author.Tests.{ne_eqb}
use Rattle.std.specs.Prelude.{Result}
use Rattle.std.specs.Result.{IsErr, IsErrAnd}
use Rattle.refusals.specs.declared.Refusal.{Refusal}
use Rattle.refusals.specs.declared.Refusal.TheVariants.{NotThere}
use Rattle.refusals.specs.Refusals.{number_of}
use Rattle.refusals.proofs.Laws.{handed_on, refused_is_not_done}
use Rattle.rows.specs.Rows.{pick}
use Rattle.rows.proofs.Laws.{pick_yes, pick_no}
use Rattle.messages_buffer.proofs.Laws.{first_no_lem, first_yes, first_alone}
use Rattle.anchors_cache.specs.Answers.{FlagAnswer, flag_answer_of}
use Rattle.anchors_cache.specs.Calls.{on_zero, flag_answer}
use Rattle.anchors_cache.proofs.Refused.{on_refused}
use Rattle.reader_rules.specs.declared.ExternalsReader.{ExternalsReader}
use Rattle.reader_rules.specs.declared.ExternalsReaderState.{ExternalsReaderState}
use Rattle.reader_rules.specs.State.{state_number, max_ranges}
use Rattle.reader_rules.specs.Offsets.{ByPartitions}
use Rattle.externals_reader.specs.Answers.{reader_done_of}
use Rattle.externals_reader.specs.Calls.{changed}
use Rattle.externals_reader.proofs.Refused.{change_refused}
use Rattle.externals_reader.proofs.Sound.{sound_parts}
use Rattle.reader_offsets.specs.Calls.{offset_refusal, partitions_answer}

-- a state that passes question 5 has a slot for each of its ranges
pub slots : (state : ExternalsReaderState) → 0 ≡ state_number state → state.len ≤ max_ranges
slots state e = (sound_parts state (sym e)).0

pub a_refused_call_leaves_the_reader : (number : ℕ) (s after : ExternalsReader) → (number ≡ 0 → ⊥) → (changed number s after).reader ≡ s
a_refused_call_leaves_the_reader number s after h = pick_no _ _ _ (ne_eqb number 0 h)

-- what a call gives where its number is 0
pub on_zero_lem : {A : Type 0} (n : ℕ) (a b : A) → n ≡ 0 → a ≡ on_zero n a b
on_zero_lem n a b e = rw e

-- ---- the number
module _ (s : ExternalsReader) (exists fits : Bool) where
  pub number_5 : (r : Refusal) → number_of r ≡ state_number s.reader_state → number_of r ≡ offset_refusal s exists fits
  unfolding offset_refusal
  number_5 r e = rw (sym e) (sym (first_no_lem (number_of r) _ (refused_is_not_done r)))

  module _ (sound : 0 ≡ state_number s.reader_state) where
    pub number_15 : exists ≡ false → 15 ≡ offset_refusal s exists fits
    unfolding offset_refusal
    number_15 e = sym (first_yes _ _ (sym sound) ∙ rw e (first_no_lem 15 _ (λ q. omega arith)))

    module _ (there : exists ≡ true) where
      last_question : offset_refusal s exists fits ≡ pick fits 0 16
      unfolding offset_refusal
      last_question = first_yes _ _ (sym sound) ∙ (first_yes _ _ (pick_yes exists 0 15 there) ∙ first_alone (pick fits 0 16))

      number_16 : fits ≡ false → 16 ≡ offset_refusal s exists fits
      number_16 e = sym (last_question ∙ pick_no _ _ _ e)

      number_0 : fits ≡ true → 0 ≡ offset_refusal s exists fits
      number_0 e = sym (last_question ∙ pick_yes _ _ _ e)

-- ---- a call that changes the reader
module _ (s : ExternalsReader) (exists fits : Bool) (after : ExternalsReader) where
  module _ (sound : 0 ≡ state_number s.reader_state) where
    pub refused_15 : (x : Result ExternalsReader Refusal) (r : Refusal) → IsErr x × IsErrAnd x (λ y. y ≡ r) → r ≡ NotThere → exists ≡ false → reader_done_of s x ≡ changed (offset_refusal s exists fits) s after
    refused_15 x r h q e = change_refused _ s after x r h (ap number_of q ∙ number_15 s exists fits sound e)

    pub not_there : exists ≡ false → record { number = 15; reader = s } ≡ changed (offset_refusal s exists fits) s after
    not_there e = rw (← number_15 s exists fits sound e)

    pub refused_16 : exists ≡ true → fits ≡ false → record { number = 16; reader = s } ≡ changed (offset_refusal s exists fits) s after
    refused_16 there e = rw (← number_16 s exists fits sound there e)

    pub done : exists ≡ true → fits ≡ true → (r : ExternalsReader) → r ≡ after → record { number = 0; reader = r } ≡ changed (offset_refusal s exists fits) s after
    done there e r q = rw (← number_0 s exists fits sound there e, q)

-- ---- a question about the reader
module _ (s : ExternalsReader) (exists b : Bool) where
  module _ (sound : 0 ≡ state_number s.reader_state) where
    pub flag_15 : exists ≡ false → record { number = 15; flag = false } ≡ flag_answer (offset_refusal s exists true) b
    unfolding flag_answer
    flag_15 e = rw (← number_15 s exists true sound e)

    pub flag_0 : exists ≡ true → (f : Bool) → f ≡ b → record { number = 0; flag = f } ≡ flag_answer (offset_refusal s exists true) b
    unfolding flag_answer
    flag_0 there f q = rw (← number_0 s exists true sound there refl, q)

-- a question to the cache behind one to the reader
pub asked_first : (k : ℕ) (a : FlagAnswer) (x : Result Bool Refusal) (r : Refusal) → IsErr x × IsErrAnd x (λ y. y ≡ r) → number_of r ≡ k → flag_answer_of x ≡ on_zero k a (record { number = k; flag = false })
asked_first k a x r h e = rw (handed_on x r h, on_refused k r a (record { number = k; flag = false }) e) (rw e)

-- ---- a question about partitions
pub partitions_done : (k : ℕ) (a p : ByPartitions) → 0 ≡ k → p ≡ a → p ≡ partitions_answer k a
unfolding partitions_answer
partitions_done k a p e q = rw (← e, q)
