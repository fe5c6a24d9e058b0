-- Questions 4 and 5 of the reader in document 01's numbers, and "Offsets" on ranges small enough to be seen.
use Rattle.std.specs.Prelude.{Option}
use Prim.Native.Nat.{ℕ, zero, suc, ◌+◌, ◌≤◌, ◌<◌}
use mathlib.Core.Path.{◌≡◌, refl}
use mathlib.Core.Bool.{Bool, true, false}
use mathlib.Core.List.{List, [], ◌∷◌, ◌++◌}
use lib.ListN.{replicate}
use borrow.Author.Tests.{le-leb, lt-leb}
use Rattle.shard_ident.specs.Shard.{shard_number}
use Rattle.router.specs.Router.{routes_number}
use Rattle.cache_rules.specs.Rules.{area_bytes}
use Rattle.ext_types.specs.declared.ChainTime.{ChainTime}
use Rattle.ext_types.specs.declared.Seconds.{Seconds}
use Rattle.messages_buffer.specs.declared.ExternalsPartitionRangeReaderState.{ExternalsPartitionRangeReaderState}
use Rattle.messages_buffer.specs.Fullness.{every, limits_number, partitions_number, first_no}
use Rattle.range_rules.specs.declared.ExternalsRangeReaderState.{ExternalsRangeReaderState}
use Rattle.range_rules.specs.Rules.{no_key}
use Rattle.reader_rules.specs.declared.ExternalsPartitionReaderState.{ExternalsPartitionReaderState}
use Rattle.reader_rules.specs.declared.ExternalsReader.{ExternalsReader}
use Rattle.reader_rules.specs.declared.PartitionTest.TheVariants.{InRange, InReader, Unprocessed, Empty, Reached, Collected}
use Rattle.reader_rules.specs.Each.{each}
use Rattle.reader_rules.specs.State.{held_ranges, sound_ranges_from, ranges_number, settings_number, open_ranges_limit_of, settled_number, all_questions}
use Rattle.reader_rules.specs.Offsets.{reader_partition, record_of, last_range, last_only, place_of, on_place, on_last, meets, all_below, partitions_meet, all_fully_read, tally_from, tally_of, shown_by}

-- a partition's record in a range: messages in its buffer, skip offset and processed offset
abbrev holding : ℕ → ℕ → ℕ → ExternalsPartitionRangeReaderState
holding count skip processed = record { count = count; skip_offset = skip; processed_offset = processed; present = true }

abbrev lacking : ExternalsPartitionRangeReaderState
lacking = record { count = 1025; skip_offset = 9; processed_offset = 9; present = false }

abbrev range : ℕ → List ExternalsPartitionRangeReaderState → ExternalsRangeReaderState
range seqno partitions =
    record {
      seqno = seqno;
      from = no_key;
      to = no_key;
      current_position = no_key;
      chain_time = record { 0 = 0 };
      fully_read = false;
      by_partitions = partitions;
    }

-- n ranges with seqnos one apart
abbrev ranges_from : ℕ → ℕ → List ExternalsRangeReaderState
ranges_from zero seqno = []
ranges_from (suc n) seqno = range seqno [] ∷ ranges_from n (seqno + 1)

-- the reader's record of a partition
abbrev at : ℕ → ExternalsPartitionReaderState
at offset = record { processed_to = no_key; curr_processed_offset = offset; present = true }

abbrev nowhere : ExternalsPartitionReaderState
nowhere = record { processed_to = no_key; curr_processed_offset = 9; present = false }

-- ---- question 5
pub sixteen_ranges_are_held_and_one_more_is_not : (ranges_number (ranges_from 16 0) 16 ≡ 0) × (ranges_number (ranges_from 17 0) 17 ≡ 5)
unfolding sound_ranges_from partitions_number every
sixteen_ranges_are_held_and_one_more_is_not = (refl, refl)

pub seqnos_rise_strictly : (ranges_number (range 3 [] ∷ range 4 [] ∷ []) 2 ≡ 0) × (ranges_number (range 3 [] ∷ range 3 [] ∷ []) 2 ≡ 5)
unfolding sound_ranges_from partitions_number every
seqnos_rise_strictly = (refl, refl)

pub a_slot_behind_the_ranges_is_not_asked : ranges_number (range 3 [] ∷ range 3 [] ∷ []) 1 ≡ 0
unfolding sound_ranges_from partitions_number every
a_slot_behind_the_ranges_is_not_asked = refl

pub a_buffer_holds_at_most_1024 : (ranges_number (range 3 (lacking ∷ holding 1024 0 0 ∷ []) ∷ []) 1 ≡ 0) × (ranges_number (range 3 (lacking ∷ holding 1025 0 0 ∷ []) ∷ []) 1 ≡ 5)
unfolding sound_ranges_from partitions_number every
a_buffer_holds_at_most_1024 = (refl, refl)

-- ---- question 4
pub limits_are_at_most_1024_and_open_ranges_at_most_16 : (settings_number (1024 ∷ 65535 ∷ []) 16 ≡ 0) × (settings_number (1025 ∷ []) 16 ≡ 4) × (settings_number (1024 ∷ []) 17 ≡ 4)
unfolding settings_number limits_number every first_no
limits_are_at_most_1024_and_open_ranges_at_most_16 = (refl, refl, refl)

-- as in the Rust
pub two_ranges_may_always_be_open : (timeout : Seconds) (new : Bool)
    → let limit : ℕ → ℕ = λ n. open_ranges_limit_of (record { externals_expire_timeout = timeout; open_ranges_limit = n; new_is_some = new }) in (limit 0 ≡ 2) × (limit 1 ≡ 2) × (limit 2 ≡ 2) × (limit 3 ≡ 3)
two_ranges_may_always_be_open timeout new = (refl, refl, refl, refl)

-- ---- the questions of a read of all, in their order
module _ (n : ℕ) (routes : List ℕ) (r : ExternalsReader) (five : ℕ) (active : Bool) where
  pub a_short_message_area_is_refused_first : n < 33792 → all_questions n routes r five active ≡ 1
  unfolding first_no
  a_short_message_area_is_refused_first h = rw (lt-leb area_bytes n h)

  module _ (long : 33792 ≤ n) (two : shard_number r.for_shard_id ≡ 0) (three : routes_number routes ≡ 0) (settled : settled_number r ≡ 0) (cache : five ≡ 0) where
    pub question_9_comes_last : active ≡ false → all_questions n routes r five active ≡ 9
    unfolding first_no
    question_9_comes_last e = rw (le-leb area_bytes n long, two, three, settled, cache, e)

    pub a_read_that_no_question_refuses_has_number_0 : active ≡ true → all_questions n routes r five active ≡ 0
    unfolding first_no
    a_read_that_no_question_refuses_has_number_0 e = rw (le-leb area_bytes n long, two, three, settled, cache, e)

-- ---- places of the list
module _ (a b c : ExternalsRangeReaderState) (f : ExternalsRangeReaderState → ExternalsRangeReaderState) where
  pub only_the_last_range_is_looked_at_kept_or_changed : (last_range (a ∷ b ∷ c ∷ []) ≡ c) × (last_only (a ∷ b ∷ c ∷ []) ≡ c ∷ []) × (on_last f (a ∷ b ∷ c ∷ []) ≡ a ∷ b ∷ f c ∷ [])
  only_the_last_range_is_looked_at_kept_or_changed = (refl, refl, refl)

  pub only_the_named_range_is_changed : on_place 1 f (a ∷ b ∷ c ∷ []) ≡ a ∷ f b ∷ c ∷ []
  only_the_named_range_is_changed = refl

  pub the_ranges_held_are_the_first : (ps : List ExternalsPartitionReaderState) (t : Option ChainTime)
      → held_ranges (record { ranges = a ∷ b ∷ c ∷ []; len = 2; by_partitions = ps; last_read_to_anchor_chain_time = t }) ≡ a ∷ b ∷ []
  the_ranges_held_are_the_first ps t = refl

pub without_a_range_every_partition_is_absent : (i : ℕ) → (record_of i (last_range [])).present ≡ false
without_a_range_every_partition_is_absent i = refl

pub a_partition_above_7_is_absent_in_the_reader : (p : ExternalsPartitionReaderState) → (reader_partition 8 (replicate 8 p)).present ≡ false
a_partition_above_7_is_absent_in_the_reader p = refl

pub a_range_is_found_by_its_seqno : (place_of 7 (ranges_from 3 6) ≡ 1) × (place_of 9 (ranges_from 3 6) ≡ 3)
unfolding place_of
a_range_is_found_by_its_seqno = (refl, refl)

-- ---- tests of a partition
pub a_partition_of_the_reader_must_be_in_the_range : (meets InRange (at 4) lacking ≡ false) × (meets InRange (at 4) (holding 2 3 4) ≡ true) × (meets InRange nowhere lacking ≡ true)
unfolding meets
a_partition_of_the_reader_must_be_in_the_range = (refl, refl, refl)

pub a_partition_of_the_range_must_be_in_the_reader : (meets InReader nowhere (holding 2 3 4) ≡ false) × (meets InReader (at 4) (holding 2 3 4) ≡ true) × (meets InReader nowhere lacking ≡ true)
unfolding meets
a_partition_of_the_range_must_be_in_the_reader = (refl, refl, refl)

pub unprocessed_is_a_processed_offset_of_0 : (meets Unprocessed (at 4) (holding 2 3 0) ≡ true) × (meets Unprocessed (at 4) (holding 0 0 1) ≡ false) × (meets Unprocessed (at 4) lacking ≡ true)
unfolding meets
unprocessed_is_a_processed_offset_of_0 = (refl, refl, refl)

pub empty_is_a_count_of_0 : (meets Empty (at 4) (holding 0 3 4) ≡ true) × (meets Empty (at 4) (holding 1 0 0) ≡ false) × (meets Empty (at 4) lacking ≡ true)
unfolding meets
empty_is_a_count_of_0 = (refl, refl, refl)

pub an_offset_is_reached_at_the_current_one : (meets Reached (at 4) (holding 9 9 4) ≡ true) × (meets Reached (at 4) (holding 0 0 5) ≡ false) × (meets Reached (at 4) lacking ≡ true)
unfolding meets
an_offset_is_reached_at_the_current_one = (refl, refl, refl)

pub collected_is_an_empty_buffer_and_the_skip_offset_reached : (meets Collected (at 4) (holding 0 4 9) ≡ true) × (meets Collected (at 4) (holding 1 4 0) ≡ false) × (meets Collected (at 4) (holding 0 5 0) ≡ false) × (meets Collected (at 4) lacking ≡ true)
unfolding meets
collected_is_an_empty_buffer_and_the_skip_offset_reached = (refl, refl, refl, refl)

-- of a partition that the reader lacks the current offset is 0
pub of_a_missing_partition_only_skip_offset_0_is_reached : (meets Collected nowhere (holding 0 0 9) ≡ true) × (meets Collected nowhere (holding 0 1 0) ≡ false)
unfolding meets
of_a_missing_partition_only_skip_offset_0_is_reached = (refl, refl)

-- partition 7 is asked too, and there is no partition 8
pub all_eight_partitions_are_asked :
    (partitions_meet Empty [] [] ≡ true) × (partitions_meet Empty [] (holding 1 0 0 ∷ []) ≡ false) × (partitions_meet Empty [] (replicate 7 lacking ++ (holding 1 0 0 ∷ [])) ≡ false) × (partitions_meet Empty [] (replicate 8 lacking ++ (holding 1 0 0 ∷ [])) ≡ true)
unfolding all_below meets
all_eight_partitions_are_asked = (refl, refl, refl, refl)

pub one_range_not_fully_read_is_enough : all_fully_read (ranges_from 1 0) ≡ false
unfolding every
one_range_not_fully_read_is_enough = refl

-- ---- what ranges together hold
abbrev three : List ExternalsRangeReaderState
three = range 3 (holding 2 1 7 ∷ []) ∷ range 4 (lacking ∷ []) ∷ range 5 (holding 3 8 6 ∷ []) ∷ []

pub counts_are_summed_and_the_greatest_processed_offset_is_taken : (tally_of 0 three ≡ record { present = true; count = 5; processed = 7 }) × (tally_of 1 three ≡ record { present = false; count = 0; processed = 0 })
unfolding tally_from
counts_are_summed_and_the_greatest_processed_offset_is_taken = (refl, refl)

pub offsets_or_counts_are_shown_for_eight_partitions :
    ((shown_by true three).values ≡ 7 ∷ 0 ∷ 0 ∷ 0 ∷ 0 ∷ 0 ∷ 0 ∷ 0 ∷ []) × ((shown_by false three).values ≡ 5 ∷ 0 ∷ 0 ∷ 0 ∷ 0 ∷ 0 ∷ 0 ∷ 0 ∷ []) × ((shown_by true three).present ≡ true ∷ false ∷ false ∷ false ∷ false ∷ false ∷ false ∷ false ∷ []) × ((shown_by true three).number ≡ 0)
unfolding each tally_from
offsets_or_counts_are_shown_for_eight_partitions = (refl, refl, refl, refl)
