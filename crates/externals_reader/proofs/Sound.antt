-- Laws of questions 4 and 5: the ranges by index, and what a number 0 says.
use Rattle.std.proofs.lemmas.Bool.{and_parts}
use Prim.Native.Nat.{ℕ, suc, zero, ◌+◌, ◌≤◌, ◌<◌}
use mathlib.Core.Path.{◌≡◌, refl, sym, ap, ◌∙◌}
use mathlib.Core.Bool.{Bool, true, false, ◌&&◌}
use mathlib.Core.List.{List, [], ◌∷◌}
use native.Mathlib.Omega.{arith}
use native.Mathlib.Numerals.{add-one}
use lib.Dec.{leb}
use lib.ListN.{length, get_or, take, drop, drop_of_length-le}
use lib.Seq.{drop-cons}
use borrow.Author.Tests.{eqb-true, leb-true, le-leb}
use Rattle.rows.specs.Rows.{pick}
use Rattle.rows.proofs.Laws.{pick_yes}
use Rattle.reader_rules.specs.declared.ExternalsReaderState.{ExternalsReaderState}
use Rattle.reader_rules.specs.State.{ranges_number, no_range, held_ranges, range_sound, sound_ranges_from, state_number, settings_number, max_ranges, max_open_ranges}
use Rattle.messages_buffer.specs.Fullness.{limits_number, partitions_number}
use Rattle.range_rules.specs.declared.ExternalsRangeReaderState.{ExternalsRangeReaderState}
use Rattle.messages_buffer.proofs.Laws.{first_yes, first_alone, number_zero}

-- ---- the loop over the ranges
module _ (xs : List ExternalsRangeReaderState) (low i : ℕ) (h : i < length xs) where
  sound_step : sound_ranges_from low (drop i xs) ≡ range_sound low (get_or xs i no_range) && sound_ranges_from (suc (get_or xs i no_range).seqno) (drop (i + 1) xs)
  unfolding sound_ranges_from
  sound_step = rw (add-one i, drop-cons xs i no_range h)

  pub sound_fail : range_sound low (get_or xs i no_range) ≡ false → sound_ranges_from low (drop i xs) ≡ false
  sound_fail e = sound_step ∙ rw e

  pub sound_next : range_sound low (get_or xs i no_range) ≡ true → sound_ranges_from low (drop i xs) ≡ sound_ranges_from ((get_or xs i no_range).seqno + 1) (drop (i + 1) xs)
  sound_next e = rw (add-one (get_or xs i no_range).seqno) (sound_step ∙ rw e)

pub sound_end : (xs : List ExternalsRangeReaderState) (low i : ℕ) → length xs ≤ i → sound_ranges_from low (drop i xs) ≡ true
unfolding sound_ranges_from
sound_end xs low i h = rw (drop_of_length-le xs h)

-- each of them has counts within the cap
pub sound_counts : (low : ℕ) (l : List ExternalsRangeReaderState) → sound_ranges_from low l ≡ true → (i : ℕ) → i < length l → partitions_number (get_or l i no_range).by_partitions ≡ 0
unfolding sound_ranges_from
sound_counts low [] e i h = absurd (omega arith)
sound_counts low (r ∷ l) e zero h = eqb-true _ _ (and_parts (leb low r.seqno) _ (and_parts (range_sound low r) _ e).0).1
sound_counts low (r ∷ l) e (suc i) h = sound_counts (suc r.seqno) l (and_parts (range_sound low r) _ e).1 i (omega arith)

-- ---- question 5
pub sound_table : (ranges : List ExternalsRangeReaderState) (len : ℕ) → len ≤ max_ranges → sound_ranges_from 0 (take len ranges) ≡ true → 0 ≡ ranges_number ranges len
sound_table ranges len h e = sym (pick_yes _ _ _ (ap (λ (b : Bool). b && sound_ranges_from 0 (take len ranges)) (le-leb len max_ranges h) ∙ e))

module _ (state : ExternalsReaderState) where
  pub by_ranges : ranges_number state.ranges state.len ≡ state_number state
  unfolding state_number
  by_ranges = refl

  -- what question 5 gives to a call that goes on
  pub sound_parts : state_number state ≡ 0 → (state.len ≤ max_ranges) × (sound_ranges_from 0 (held_ranges state) ≡ true)
  unfolding state_number
  sound_parts e =
      let p = and_parts (leb state.len max_ranges) (sound_ranges_from 0 (held_ranges state)) (number_zero _ 5 (omega arith) e) in
      (leb-true _ _ p.0, p.1)

-- ---- question 4
module _ (limits : List ℕ) (most : ℕ) (limits_fit : limits_number limits ≡ 0) where
  last_setting : settings_number limits most ≡ pick (leb most max_open_ranges) 0 4
  unfolding settings_number
  last_setting = first_yes _ _ limits_fit ∙ first_alone (pick (leb most max_open_ranges) 0 4)

  pub settings_fit : most ≤ max_ranges → 0 ≡ settings_number limits most
  settings_fit h = sym (last_setting ∙ pick_yes _ _ _ (le-leb most max_open_ranges h))
