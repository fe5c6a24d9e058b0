-- What each public call answers, for every argument: the number by document 01's questions in order, and the rule's
-- answer or the reader as at entry.
use Rattle.std.specs.Prelude.{ℕ, ◌+◌, ◌-◌, Bool, true, false, not, ◌&&◌, ◌||◌, List, [], ◌∷◌, leb, ltb, replicate}
use Rattle.messages_buffer.specs.Fullness.{first_no}
use Rattle.anchors_cache.specs.declared.AnchorsCacheTransaction.{AnchorsCacheTransaction}
use Rattle.anchors_cache.specs.Answers.{FlagAnswer}
use Rattle.cache_rules.specs.Rules.{ask}
use Rattle.anchors_cache.specs.Calls.{on_zero, flag_answer}
use Rattle.anchors_cache.specs.Calls as cache
use Rattle.range_rules.specs.declared.ExternalsRangeReaderState.{ExternalsRangeReaderState}
use Rattle.reader_rules.specs.declared.ExternalsPartitionReaderState.{ExternalsPartitionReaderState}
use Rattle.reader_rules.specs.declared.ExternalsReader.{ExternalsReader}
use Rattle.externals_reader.specs.Answers.{ReaderDone}
use Rattle.reader_rules.specs.State.{settled_number, with_mark, held_ranges, state_number, open_ranges_limit_of}
use Rattle.externals_reader.specs.Calls.{changed}
use Rattle.reader_rules.specs.Offsets.{ByPartitions}
use Rattle.reader_rules.specs.declared.PartitionTest.TheVariants.{InRange, InReader, Unprocessed, Empty, Reached, Collected}
use Rattle.reader_rules.specs.Offsets.{reader_partition, record_of, range_at, last_range, last_only, place_of, on_place, on_last, meets, ranges_meet, all_fully_read, shown_by, with_count, dropped, skip_raised, with_offset, with_processed_to, on_record, from_position, finalized, with_held, on_partition}

abbrev pub ranges_of : ExternalsReader → List ExternalsRangeReaderState
ranges_of s = held_ranges s.reader_state

abbrev pub partitions_of : ExternalsReader → List ExternalsPartitionReaderState
partitions_of s = s.reader_state.by_partitions

-- ---- numbers and answers
-- question 5 of the reader
abbrev pub sound_number : ExternalsReader → ℕ
sound_number s = state_number s.reader_state

-- questions 5, 15 and 16 of the reader
unfoldable pub offset_refusal : ExternalsReader → Bool → Bool → ℕ
offset_refusal s exists fits = first_no (sound_number s ∷ ask 15 exists 0 ∷ ask 16 fits 0 ∷ [])

unfoldable pub partitions_answer : ℕ → ByPartitions → ByPartitions
partitions_answer number a = on_zero number a (record { number = number; values = replicate 8 0; present = replicate 8 false })

-- ---- the calls, in the Rust's order
unfoldable pub finalize_call : ExternalsReader → ReaderDone
finalize_call s = changed (offset_refusal s (ranges_meet InRange (partitions_of s) (ranges_of s)) true) s (with_held (finalized (partitions_of s) (ranges_of s)) s)

-- questions 4 and 5
unfoldable pub limit_reached_call : ExternalsReader → FlagAnswer
limit_reached_call s = flag_answer (settled_number s) (leb (open_ranges_limit_of s.msgs_exec_params) s.reader_state.len)

unfoldable pub non_zero_offset_call : ExternalsReader → FlagAnswer
non_zero_offset_call s = flag_answer (sound_number s) (not (ranges_meet Unprocessed (partitions_of s) (ranges_of s)))

-- a partition that is missing in the reader, or in the last range, counts as reached
unfoldable pub offset_reached_call : ℕ → ExternalsReader → FlagAnswer
offset_reached_call i s =
    flag_answer (sound_number s) (not (reader_partition i (partitions_of s)).present || meets Reached (reader_partition i (partitions_of s)) (record_of i (last_range (ranges_of s))))

unfoldable pub offsets_reached_call : ExternalsReader → FlagAnswer
offsets_reached_call s =
    flag_answer (offset_refusal s (ranges_meet InReader (partitions_of s) (last_only (ranges_of s))) true) (ranges_meet Reached (partitions_of s) (last_only (ranges_of s)))

unfoldable pub count_call : ExternalsReader → ByPartitions
count_call s = partitions_answer (sound_number s) (shown_by false (ranges_of s))

unfoldable pub has_messages_call : ExternalsReader → FlagAnswer
has_messages_call s = flag_answer (sound_number s) (not (ranges_meet Empty (partitions_of s) (ranges_of s)))

unfoldable pub not_fully_read_call : ExternalsReader → FlagAnswer
not_fully_read_call s = flag_answer (sound_number s) (not s.all_ranges_fully_read)

unfoldable pub read_and_collected_call : ExternalsReader → FlagAnswer
read_and_collected_call s = flag_answer (sound_number s) (s.all_ranges_fully_read && ranges_meet Empty (partitions_of s) (ranges_of s))

unfoldable pub check_read_and_collected_call : ExternalsReader → FlagAnswer
check_read_and_collected_call s = flag_answer (sound_number s) (all_fully_read (ranges_of s) && ranges_meet Empty (partitions_of s) (ranges_of s))

unfoldable pub all_collected_call : ExternalsReader → FlagAnswer
all_collected_call s = flag_answer (sound_number s) (ranges_meet Collected (partitions_of s) (ranges_of s))

-- question 5 of the reader, then the cache's own call
unfoldable pub pending_externals_call : List ℕ → AnchorsCacheTransaction → ExternalsReader → FlagAnswer
pending_externals_call tables t s = on_zero (sound_number s) (cache.pending_call tables t) (record { number = sound_number s; flag = false })

unfoldable pub last_offsets_call : ExternalsReader → ByPartitions
last_offsets_call s = partitions_answer (sound_number s) (shown_by true (last_only (ranges_of s)))

-- where the block has no range yet, the all-read mark is cleared
unfoldable pub retain_call : ExternalsReader → ReaderDone
retain_call s =
    changed
    (offset_refusal s (ltb 0 s.reader_state.len) true)
    s
    (with_mark (with_held (last_only (ranges_of s)) s) (s.all_ranges_fully_read && leb s.block_seqno (last_range (ranges_of s)).seqno))

unfoldable pub set_from_call : ExternalsReader → ReaderDone
set_from_call s = changed (offset_refusal s (ltb 0 s.reader_state.len) true) s (with_held (on_last from_position (ranges_of s)) s)

unfoldable pub increment_call : ℕ → ExternalsReader → ReaderDone
increment_call i s =
    let p = reader_partition i (partitions_of s) in
    changed (offset_refusal s p.present (ltb (p.curr_processed_offset + 1) 4294967296)) s (on_partition i (with_offset (p.curr_processed_offset + 1)) s)

-- the partition stands in the reader and in the last range
abbrev pub in_last_of : ℕ → ExternalsReader → Bool
in_last_of i s = (reader_partition i (partitions_of s)).present && (record_of i (last_range (ranges_of s))).present

unfoldable pub drop_call : ℕ → Bool → ExternalsReader → ReaderDone
drop_call i skip s = changed (offset_refusal s (in_last_of i s) true) s (on_partition i (with_offset 0) (with_held (on_last (on_record i (dropped skip)) (ranges_of s)) s))

unfoldable pub set_skip_call : ℕ → ExternalsReader → ReaderDone
set_skip_call i s = changed (offset_refusal s (in_last_of i s) true) s (with_held (on_last (on_record i (skip_raised (reader_partition i (partitions_of s)).curr_processed_offset)) (ranges_of s)) s)

unfoldable pub set_processed_call : ℕ → ExternalsReader → ReaderDone
set_processed_call i s =
    changed
    (offset_refusal s ((reader_partition i (partitions_of s)).present && ltb 0 s.reader_state.len) true)
    s
    (on_partition i (with_processed_to (last_range (ranges_of s)).current_position) s)

-- Document 01: "the host reports how many it took of a range's partition (missing: 15)"; question 16: "is the number
-- taken at most the count?"
unfoldable pub taken_call : ℕ → ℕ → ℕ → ExternalsReader → ReaderDone
taken_call seqno i taken s =
    let place = place_of seqno (ranges_of s) in
    let x = record_of i (range_at place (ranges_of s)) in
    changed (offset_refusal s x.present (leb taken x.count)) s (with_held (on_place place (on_record i (with_count (x.count - taken))) (ranges_of s)) s)
