-- One reader with two ranges, and what each call but the read answers of it, computed. What a range or the reader
-- keeps is seen in the same answers: they are whole readers.
use Rattle.std.specs.Prelude.{None, Some}
use Prim.Native.Nat.{ℕ}
use mathlib.Core.Path.{◌≡◌, refl}
use mathlib.Core.Bool.{Bool, true, false}
use mathlib.Core.List.{List, [], ◌∷◌}
use lib.IntN.{pos}
use lib.ListN.{replicate}
use Rattle.ext_types.specs.declared.ExternalKey.{ExternalKey}
use Rattle.ext_types.specs.Keys.{key_equal}
use Rattle.shard_ident.specs.Shard.{lowest_set, is_shard}
use Rattle.messages_buffer.specs.declared.ExternalsPartitionRangeReaderState.{ExternalsPartitionRangeReaderState}
use Rattle.messages_buffer.specs.Fullness.{every, limits_number, partitions_number, first_no}
use Rattle.anchors_cache.specs.declared.AnchorsCacheTransaction.{AnchorsCacheTransaction}
use Rattle.anchors_cache.specs.Calls.{flag_answer, pending_call}
use Rattle.range_rules.specs.declared.ExternalsRangeReaderState.{ExternalsRangeReaderState}
use Rattle.range_rules.specs.Rules.{key_at, no_key}
use Rattle.reader_rules.specs.declared.ExternalsPartitionReaderState.{ExternalsPartitionReaderState}
use Rattle.reader_rules.specs.declared.ExternalsReader.{ExternalsReader}
use Rattle.reader_rules.specs.Each.{each}
use Rattle.reader_rules.specs.State.{sound_ranges_from, state_number, settings_number, settled_number, reader_number, with_state, with_last, with_limits}
use Rattle.reader_rules.specs.Rules.{with_default, partitions_entered, next_range}
use Rattle.reader_rules.specs.Offsets.{place_of, meets, all_below, tally_from}
use Rattle.externals_reader.specs.Calls.{new_call, reset_call, drop_last_call, set_limits_call, partition_ids_call, next_range_call}
use Rattle.reader_offsets.specs.Calls.{offset_refusal, partitions_answer, finalize_call, limit_reached_call, non_zero_offset_call, offset_reached_call, offsets_reached_call, count_call, has_messages_call, not_fully_read_call, read_and_collected_call, check_read_and_collected_call, all_collected_call, pending_externals_call, last_offsets_call, retain_call, set_from_call, increment_call, drop_call, set_skip_call, set_processed_call, taken_call}

-- ---- the reader
-- a partition's record in a range: count, skip offset, processed offset
abbrev part : ℕ → ℕ → ℕ → ExternalsPartitionRangeReaderState
part count skip processed = record { count = count; skip_offset = skip; processed_offset = processed; present = true }

abbrev absent : ExternalsPartitionRangeReaderState
absent = record { count = 0; skip_offset = 0; processed_offset = 0; present = false }

abbrev parts : ExternalsPartitionRangeReaderState → ExternalsPartitionRangeReaderState → List ExternalsPartitionRangeReaderState
parts p q = p ∷ q ∷ replicate 6 absent

-- partitions 0 and 1 of a range that is read to its end, and of the block's own, which stands at (3, 1)
abbrev older : ExternalsPartitionRangeReaderState → ExternalsPartitionRangeReaderState → ExternalsRangeReaderState
older p q = record { seqno = 3; from = key_at 1 0; to = key_at 2 1; current_position = key_at 2 1; chain_time = record { 0 = 1000 }; fully_read = true; by_partitions = parts p q }

abbrev newer : ExternalKey → ExternalsPartitionRangeReaderState → ExternalsPartitionRangeReaderState → ExternalsRangeReaderState
newer from p q = record { seqno = 5; from = from; to = key_at 4 2; current_position = key_at 3 1; chain_time = record { 0 = 2000 }; fully_read = false; by_partitions = parts p q }

-- the reader's own record of a partition, at this current offset
abbrev at : ExternalKey → ℕ → ExternalsPartitionReaderState
at processed offset = record { processed_to = processed; curr_processed_offset = offset; present = true }

abbrev nowhere : ExternalsPartitionReaderState
nowhere = record { processed_to = no_key; curr_processed_offset = 0; present = false }

abbrev reader : ℕ → Bool → ExternalsPartitionReaderState → ExternalsPartitionReaderState → ℕ → List ExternalsRangeReaderState → ExternalsReader
reader limit mark p q len ranges =
    record {
      for_shard_id = record { workchain = pos 0; prefix = 9223372036854775808 };
      block_seqno = 5;
      next_chain_time = record { 0 = 3000 };
      msgs_exec_params = record { externals_expire_timeout = record { 0 = 60 }; open_ranges_limit = limit; new_is_some = false };
      buffer_limits_by_partitions = 2 ∷ 2 ∷ replicate 6 65535;
      reader_state = record { ranges = ranges; len = len; by_partitions = p ∷ q ∷ replicate 6 nowhere; last_read_to_anchor_chain_time = None };
      all_ranges_fully_read = mark;
    }

-- a slot behind the ranges
abbrev free : ExternalsRangeReaderState
free = newer no_key (part 9 9 9) absent

abbrev start : ExternalKey
start = key_at 2 1

-- two ranges that hold partition 0 alone, at current offset o
abbrev two : ℕ → ExternalsReader
two o = reader 2 false (at no_key o) nowhere 2 (older (part 2 1 3) absent ∷ newer start (part 1 4 4) absent ∷ free ∷ [])

-- the same with empty buffers, and the mark of all ranges read
abbrev emptied : Bool → ℕ → ExternalsReader
emptied mark o = reader 2 mark (at no_key o) nowhere 2 (older (part 0 1 3) absent ∷ newer start (part 0 4 4) absent ∷ free ∷ [])

-- no range at all
abbrev bare : ExternalsReader
bare = reader 2 false (at no_key 6) nowhere 0 (free ∷ [])

-- two ranges of one seqno: question 5 is answered "no"
abbrev unsound : ExternalsReader
unsound = reader 2 false (at no_key 6) nowhere 2 (free ∷ free ∷ [])

-- partition 1 is in the last range and not in the reader, or the other way round
abbrev not_in_reader : ExternalsReader
not_in_reader = reader 2 false (at no_key 6) nowhere 1 (newer start (part 1 4 4) (part 0 0 0) ∷ free ∷ [])

abbrev not_in_range : ExternalsReader
not_in_range = reader 2 false (at no_key 6) (at no_key 6) 1 (newer start (part 1 4 4) absent ∷ free ∷ [])

-- a range that stands where it begins
abbrev begun : ℕ → ExternalKey → ℕ → ExternalsPartitionRangeReaderState → ExternalsRangeReaderState
begun seqno from time p = record { seqno = seqno; from = from; to = from; current_position = from; chain_time = record { 0 = time }; fully_read = false; by_partitions = parts p absent }

-- ---- questions 5, 15 and 16
pub question_5_comes_before_15 : (increment_call 1 unsound ≡ record { number = 5; reader = unsound }) × (increment_call 1 (two 6) ≡ record { number = 15; reader = two 6 })
unfolding increment_call offset_refusal first_no state_number sound_ranges_from partitions_number every
question_5_comes_before_15 = (refl, refl)

pub a_refused_call_shows_no_partition : count_call unsound ≡ record { number = 5; values = replicate 8 0; present = replicate 8 false }
unfolding count_call partitions_answer first_no state_number sound_ranges_from partitions_number every
a_refused_call_shows_no_partition = refl

-- ---- the calls of `externals_reader`
-- partition 1 has a limit and gets a record; the others have none
pub new_gives_a_record_to_a_partition_with_a_limit : (new_call (two 6) ≡ record { number = 0; reader = reader 2 false (at no_key 6) (at no_key 0) 2 (older (part 2 1 3) absent ∷ newer start (part 1 4 4) absent ∷ free ∷ []) }) × (new_call unsound ≡ record { number = 5; reader = unsound })
unfolding new_call reader_number is_shard lowest_set settled_number settings_number limits_number first_no state_number sound_ranges_from partitions_number every partitions_entered with_default each key_equal
new_gives_a_record_to_a_partition_with_a_limit = (refl, refl)

pub a_reset_clears_the_mark : (reset_call (emptied true 6) ≡ record { number = 0; reader = emptied false 6 }) × (reset_call unsound ≡ record { number = 5; reader = unsound })
unfolding reset_call state_number sound_ranges_from partitions_number every
a_reset_clears_the_mark = (refl, refl)

pub the_saved_last_chain_time_is_dropped : drop_last_call (with_state (two 6) (with_last (two 6).reader_state (Some (record { 0 = 2000 })))) ≡ record { number = 0; reader = two 6 }
unfolding drop_last_call state_number sound_ranges_from partitions_number every
the_saved_last_chain_time_is_dropped = refl

pub limits_that_question_4_lets_pass_are_set : (set_limits_call (two 6) (replicate 8 1024) ≡ record { number = 0; reader = with_limits (two 6) (replicate 8 1024) }) × (set_limits_call (two 6) (replicate 8 1025) ≡ record { number = 4; reader = two 6 })
unfolding set_limits_call settled_number settings_number limits_number first_no state_number sound_ranges_from partitions_number every
limits_that_question_4_lets_pass_are_set = (refl, refl)

pub partition_ids_are_those_of_the_reader : (partition_ids_call (two 6) ≡ record { number = 0; present = true ∷ replicate 7 false }) × (partition_ids_call unsound ≡ record { number = 5; present = replicate 8 false })
unfolding partition_ids_call state_number sound_ranges_from partitions_number every
partition_ids_are_those_of_the_reader = (refl, refl)

-- it begins at the last one's "to", (4, 2), with the reader's offsets; a refused call shows an empty one
pub the_next_range_is_the_block's_behind_the_last :
    (next_range_call (two 6) ≡ record { number = 0; range = begun 5 (key_at 4 2) 3000 (part 0 6 6) }) × (next_range_call unsound ≡ record { number = 5; range = begun 0 no_key 0 absent })
unfolding next_range_call state_number sound_ranges_from partitions_number every next_range
the_next_range_is_the_block's_behind_the_last = (refl, refl)

-- ---- finalize
-- 6 is above every processed offset: the last range takes it over, and the range at its end keeps its mark
pub finalize_takes_the_current_offset_over_into_the_last_range :
    finalize_call (two 6) ≡ record { number = 0; reader = reader 2 false (at no_key 6) nowhere 2 (older (part 2 1 3) absent ∷ newer start (part 1 4 6) absent ∷ free ∷ []) }
unfolding finalize_call offset_refusal first_no state_number sound_ranges_from partitions_number every meets all_below tally_from each key_equal
finalize_takes_the_current_offset_over_into_the_last_range = refl

pub finalize_needs_each_reader_partition_in_every_range : finalize_call not_in_range ≡ record { number = 15; reader = not_in_range }
unfolding finalize_call offset_refusal first_no state_number sound_ranges_from partitions_number every meets all_below
finalize_needs_each_reader_partition_in_every_range = refl

-- ---- questions about ranges and buffers
pub the_open_ranges_limit_is_reached_at_the_limit : (limit_reached_call (two 6) ≡ record { number = 0; flag = true }) × (limit_reached_call (reader 3 false (at no_key 6) nowhere 2 (older absent absent ∷ newer start absent absent ∷ [])) ≡ record { number = 0; flag = false })
unfolding limit_reached_call flag_answer settled_number settings_number limits_number first_no state_number sound_ranges_from partitions_number every
the_open_ranges_limit_is_reached_at_the_limit = (refl, refl)

pub one_processed_offset_above_0_is_enough : (non_zero_offset_call (two 6) ≡ record { number = 0; flag = true }) × (non_zero_offset_call bare ≡ record { number = 0; flag = false })
unfolding non_zero_offset_call flag_answer first_no state_number sound_ranges_from partitions_number every meets all_below
one_processed_offset_above_0_is_enough = (refl, refl)

-- the last range's is 4; a partition that the reader or the range lacks counts as reached
pub the_last_range's_offset_is_reached_at_the_current_one :
    (offset_reached_call 0 (two 4) ≡ record { number = 0; flag = true }) × (offset_reached_call 0 (two 3) ≡ record { number = 0; flag = false }) × (offset_reached_call 1 not_in_reader ≡ record { number = 0; flag = true }) × (offset_reached_call 1 not_in_range ≡ record { number = 0; flag = true })
unfolding offset_reached_call flag_answer first_no state_number sound_ranges_from partitions_number every meets
the_last_range's_offset_is_reached_at_the_current_one = (refl, refl, refl, refl)

pub all_offsets_of_the_last_range_are_asked_for :
    (offsets_reached_call (two 4) ≡ record { number = 0; flag = true }) × (offsets_reached_call (two 3) ≡ record { number = 0; flag = false }) × (offsets_reached_call not_in_reader ≡ record { number = 15; flag = false })
unfolding offsets_reached_call flag_answer offset_refusal first_no state_number sound_ranges_from partitions_number every meets all_below
all_offsets_of_the_last_range_are_asked_for = (refl, refl, refl)

pub counts_by_partitions_are_those_of_all_ranges : count_call (two 6) ≡ record { number = 0; values = 3 ∷ replicate 7 0; present = true ∷ replicate 7 false }
unfolding count_call partitions_answer first_no state_number sound_ranges_from partitions_number every tally_from each
counts_by_partitions_are_those_of_all_ranges = refl

pub offsets_by_partitions_are_the_last_range's : last_offsets_call (two 6) ≡ record { number = 0; values = 4 ∷ replicate 7 0; present = true ∷ replicate 7 false }
unfolding last_offsets_call partitions_answer first_no state_number sound_ranges_from partitions_number every tally_from each
offsets_by_partitions_are_the_last_range's = refl

pub messages_are_in_buffers_where_one_count_is_above_0 : (has_messages_call (two 6) ≡ record { number = 0; flag = true }) × (has_messages_call (emptied false 6) ≡ record { number = 0; flag = false })
unfolding has_messages_call flag_answer first_no state_number sound_ranges_from partitions_number every meets all_below
messages_are_in_buffers_where_one_count_is_above_0 = (refl, refl)

pub the_mark_says_whether_ranges_are_left_to_read : (not_fully_read_call (emptied false 6) ≡ record { number = 0; flag = true }) × (not_fully_read_call (emptied true 6) ≡ record { number = 0; flag = false })
unfolding not_fully_read_call flag_answer first_no state_number sound_ranges_from partitions_number every
the_mark_says_whether_ranges_are_left_to_read = (refl, refl)

pub read_and_collected_is_the_mark_and_empty_buffers :
    (read_and_collected_call (emptied true 6) ≡ record { number = 0; flag = true }) × (read_and_collected_call (emptied false 6) ≡ record { number = 0; flag = false }) × (read_and_collected_call (reader 2 true (at no_key 6) nowhere 1 (older (part 2 1 3) absent ∷ [])) ≡ record { number = 0; flag = false })
unfolding read_and_collected_call flag_answer first_no state_number sound_ranges_from partitions_number every meets all_below
read_and_collected_is_the_mark_and_empty_buffers = (refl, refl, refl)

-- the check looks at the ranges and not at the mark
pub the_check_of_it_looks_at_every_range :
    (check_read_and_collected_call (emptied true 6) ≡ record { number = 0; flag = false }) × (check_read_and_collected_call (reader 2 false (at no_key 6) nowhere 1 (older (part 0 1 3) absent ∷ [])) ≡ record { number = 0; flag = true }) × (check_read_and_collected_call (reader 2 true (at no_key 6) nowhere 1 (older (part 2 1 3) absent ∷ [])) ≡ record { number = 0; flag = false })
unfolding check_read_and_collected_call flag_answer first_no state_number sound_ranges_from partitions_number every meets all_below
the_check_of_it_looks_at_every_range = (refl, refl, refl)

-- skip offset 4
pub all_is_collected_where_buffers_are_empty_and_skip_offsets_reached : (all_collected_call (emptied false 4) ≡ record { number = 0; flag = true }) × (all_collected_call (emptied false 3) ≡ record { number = 0; flag = false }) × (all_collected_call (two 6) ≡ record { number = 0; flag = false })
unfolding all_collected_call flag_answer first_no state_number sound_ranges_from partitions_number every meets all_below
all_is_collected_where_buffers_are_empty_and_skip_offsets_reached = (refl, refl, refl)

pub pending_externals_are_the_cache's_behind_question_5 : (tables : List ℕ) (t : AnchorsCacheTransaction) → (pending_externals_call tables t (two 6) ≡ pending_call tables t) × (pending_externals_call tables t unsound ≡ record { number = 5; flag = false })
unfolding pending_externals_call first_no state_number sound_ranges_from partitions_number every
pending_externals_are_the_cache's_behind_question_5 tables t = (refl, refl)

-- ---- changes
-- the slots behind the one that stays are as they were
pub only_the_last_range_is_retained :
    (retain_call (two 6) ≡ record { number = 0; reader = reader 2 false (at no_key 6) nowhere 1 (newer start (part 1 4 4) absent ∷ newer start (part 1 4 4) absent ∷ free ∷ []) }) × (retain_call bare ≡ record { number = 15; reader = bare })
unfolding retain_call offset_refusal first_no state_number sound_ranges_from partitions_number every
only_the_last_range_is_retained = (refl, refl)

-- where the block, 5, has no range yet
pub retaining_clears_the_mark_where_the_last_range_is_older :
    ((retain_call (emptied true 6)).reader.all_ranges_fully_read ≡ true) × ((retain_call (emptied false 6)).reader.all_ranges_fully_read ≡ false) × ((retain_call (reader 2 true (at no_key 6) nowhere 1 (older (part 2 1 3) absent ∷ []))).reader.all_ranges_fully_read ≡ false)
unfolding retain_call offset_refusal first_no state_number sound_ranges_from partitions_number every
retaining_clears_the_mark_where_the_last_range_is_older = (refl, refl, refl)

pub from_is_set_in_the_last_range_alone :
    (set_from_call (two 6) ≡ record { number = 0; reader = reader 2 false (at no_key 6) nowhere 2 (older (part 2 1 3) absent ∷ newer (key_at 3 1) (part 1 4 4) absent ∷ free ∷ []) }) × ((set_from_call not_in_range).number ≡ 0) × (set_from_call bare ≡ record { number = 15; reader = bare })
unfolding set_from_call offset_refusal first_no state_number sound_ranges_from partitions_number every
from_is_set_in_the_last_range_alone = (refl, refl, refl)

pub the_current_offset_goes_up_by_1_and_stays_in_32_bits :
    (increment_call 0 (two 6) ≡ record { number = 0; reader = two 7 }) × ((increment_call 0 (two 4294967294)).number ≡ 0) × (increment_call 0 (two 4294967295) ≡ record { number = 16; reader = two 4294967295 })
unfolding increment_call offset_refusal first_no state_number sound_ranges_from partitions_number every
the_current_offset_goes_up_by_1_and_stays_in_32_bits = (refl, refl, refl)

pub a_drop_clears_offsets_in_the_reader_and_the_last_range :
    (drop_call 0 true (two 6) ≡ record { number = 0; reader = reader 2 false (at no_key 0) nowhere 2 (older (part 2 1 3) absent ∷ newer start (part 1 0 0) absent ∷ free ∷ []) })
    × (drop_call 0 false (two 6) ≡ record { number = 0; reader = reader 2 false (at no_key 0) nowhere 2 (older (part 2 1 3) absent ∷ newer start (part 1 4 0) absent ∷ free ∷ []) })
unfolding drop_call offset_refusal first_no state_number sound_ranges_from partitions_number every
a_drop_clears_offsets_in_the_reader_and_the_last_range = (refl, refl)

pub a_drop_needs_the_partition_in_both : (drop_call 1 true not_in_reader ≡ record { number = 15; reader = not_in_reader }) × (drop_call 1 true not_in_range ≡ record { number = 15; reader = not_in_range })
unfolding drop_call offset_refusal first_no state_number sound_ranges_from partitions_number every
a_drop_needs_the_partition_in_both = (refl, refl)

pub the_skip_offset_is_raised_to_the_current_one :
    (set_skip_call 0 (two 6) ≡ record { number = 0; reader = reader 2 false (at no_key 6) nowhere 2 (older (part 2 1 3) absent ∷ newer start (part 1 6 6) absent ∷ free ∷ []) }) × (set_skip_call 0 (two 4) ≡ record { number = 0; reader = two 4 }) × (set_skip_call 1 not_in_reader ≡ record { number = 15; reader = not_in_reader })
unfolding set_skip_call offset_refusal first_no state_number sound_ranges_from partitions_number every
the_skip_offset_is_raised_to_the_current_one = (refl, refl, refl)

pub processed_is_set_to_the_last_range's_position :
    (set_processed_call 0 (two 6) ≡ record { number = 0; reader = reader 2 false (at (key_at 3 1) 6) nowhere 2 (older (part 2 1 3) absent ∷ newer start (part 1 4 4) absent ∷ free ∷ []) }) × ((set_processed_call 0 not_in_range).number ≡ 0) × (set_processed_call 1 (two 6) ≡ record { number = 15; reader = two 6 }) × (set_processed_call 0 bare ≡ record { number = 15; reader = bare })
unfolding set_processed_call offset_refusal first_no state_number sound_ranges_from partitions_number every
processed_is_set_to_the_last_range's_position = (refl, refl, refl, refl)

pub what_the_host_took_leaves_the_count_of_the_named_range :
    (taken_call 3 0 1 (two 6) ≡ record { number = 0; reader = reader 2 false (at no_key 6) nowhere 2 (older (part 1 1 3) absent ∷ newer start (part 1 4 4) absent ∷ free ∷ []) })
    × ((taken_call 3 0 2 (two 6)).number ≡ 0) × (taken_call 3 0 3 (two 6) ≡ record { number = 16; reader = two 6 }) × (taken_call 4 0 0 (two 6) ≡ record { number = 15; reader = two 6 }) × (taken_call 3 1 0 (two 6) ≡ record { number = 15; reader = two 6 })
unfolding taken_call offset_refusal first_no state_number sound_ranges_from partitions_number every place_of
what_the_host_took_leaves_the_count_of_the_named_range = (refl, refl, refl, refl, refl)
