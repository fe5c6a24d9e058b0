-- Limits and counts in document 01's numbers, free places, and what one message more leaves.
use Prim.Native.Nat.{ℕ, ◌+◌}
use mathlib.Core.Path.{◌≡◌, refl}
use mathlib.Core.Bool.{Bool, true, false}
use mathlib.Core.List.{[], ◌∷◌}
use Rattle.messages_buffer.specs.declared.ExternalsPartitionRangeReaderState.{ExternalsPartitionRangeReaderState}
use Rattle.messages_buffer.specs.Fullness.{no_limit, free_in, smallest, range_free, has_limit, full_partition, one_more, no_partition, every, buffers, all_limited, limits_number, partitions_number, limited_number, first_no, fill_number, fill_state}

abbrev partition : ℕ → Bool → ExternalsPartitionRangeReaderState
partition count present = record { count = count; skip_offset = 0; processed_offset = 0; present = present }

pub a_limit_is_at_most_1024_or_none : (limits_number (1024 ∷ 65535 ∷ []) ≡ 0) × (limits_number (1025 ∷ []) ≡ 4) × (limits_number (65534 ∷ []) ≡ 4)
unfolding limits_number every
a_limit_is_at_most_1024_or_none = (refl, refl, refl)

pub a_count_is_at_most_1024_where_the_partition_is_present : (partitions_number (partition 1024 true ∷ partition 1025 false ∷ []) ≡ 0) × (partitions_number (partition 1025 true ∷ []) ≡ 5)
unfolding partitions_number every
a_count_is_at_most_1024_where_the_partition_is_present = (refl, refl)

-- limit 9: seven places beside two messages; none where the count is at or above the limit
pub free_places_are_limit_less_count_or_0 : (free_in 2 9 ≡ 7) × (free_in 9 9 ≡ 0) × (free_in 12 9 ≡ 0)
unfolding free_in
free_places_are_limit_less_count_or_0 = (refl, refl, refl)

-- the smallest over those that are there
pub an_absent_partition_has_no_places : range_free (9 ∷ 1024 ∷ 4 ∷ []) (partition 2 true ∷ partition 24 true ∷ partition 4 false ∷ []) ≡ 7
unfolding range_free smallest buffers free_in
an_absent_partition_has_no_places = refl

-- a refusal tells 0 beside its number
pub a_range_check_answers_the_places_or_the_number : (fill_state (9 ∷ []) (partition 2 true ∷ []) ≡ record { number = 0; free = 7 })
    × (fill_state (1025 ∷ []) (partition 2 true ∷ []) ≡ record { number = 4; free = 0 })
    × (fill_state (9 ∷ []) (partition 1025 true ∷ []) ≡ record { number = 5; free = 0 })
    × (fill_state (65535 ∷ []) (partition 2 true ∷ []) ≡ record { number = 10; free = 0 })
unfolding fill_state fill_number first_no limits_number partitions_number limited_number all_limited range_free smallest buffers free_in every
a_range_check_answers_the_places_or_the_number = (refl, refl, refl, refl)

-- 65535 in a table of limits
pub a_partition_without_a_limit_is_refused_by_10 : (limited_number (65535 ∷ []) (partition 0 true ∷ []) ≡ 10) × (limited_number (1024 ∷ []) (partition 0 true ∷ []) ≡ 0) × (limited_number (65535 ∷ []) (partition 0 false ∷ []) ≡ 0)
unfolding limited_number all_limited buffers every
a_partition_without_a_limit_is_refused_by_10 = (refl, refl, refl)

pub one_more_changes_the_count_alone : (p : ExternalsPartitionRangeReaderState) → ((one_more p).count ≡ p.count + 1) × ((one_more p).skip_offset ≡ p.skip_offset) × ((one_more p).processed_offset ≡ p.processed_offset) × ((one_more p).present ≡ p.present)
one_more_changes_the_count_alone p = (refl, refl, refl, refl)

pub past_the_table_a_partition_is_absent : (limit : ℕ) → (full_partition limit no_partition ≡ false) × (has_limit no_limit no_partition ≡ true)
past_the_table_a_partition_is_absent limit = (refl, refl)
