-- Document 01's sample session, as it computes from the definition: the seven records give its seven lines, with
-- ticket 7's `free 0` behind `read 0`;
-- and two inputs that are refused.
use Prim.Native.Nat.{ℕ}
use mathlib.Core.Path.{◌≡◌, refl}
use mathlib.Core.List.{List, [], ◌∷◌, ◌++◌}
use lib.ListN.{replicate}
use Rattle.anchors_cache.specs.Calls.{add_call, add_number, answer, close_call, open_call, pops_call, refusal, refusal_at, valid, valid_cache}
use Rattle.cache_rules.specs.Rules.{drop_stale, last_of, right_size, room, sound_from, sound_row, total, area_bytes}
use Rattle.anchors_cache.specs.Tables.{anchor_row, anchors, info_row, infos, view, with_messages, tables_bytes}
use Rattle.anchors_cache.specs.Windows.{added_area, added_cache, added_tables, in_cache, in_history, popped_cache, popped_times}
use Rattle.ext_types.specs.Keys.{key_above, key_equal}
use Rattle.reader_rules.specs.State.{reader_number, settled_number}
use Rattle.externals_reader.specs.Calls.{all_ranges_read, asked_of_read, new_call, read_all_call, window_read}
use Rattle.reader_rules.specs.Each.{each}
use Rattle.reader_rules.specs.Rules.{after_turn, with_next_range, before_skip_offsets, is_skipped, mode_for, next_range, partitions_entered, ranges_read, settled, sums, turn, turns, wants_next, with_default}
use Rattle.reader_rules.specs.State.{settings_number, sound_ranges_from as reader_sound_from, state_number}
use Rattle.lines.specs.Lines.{bad_line, end_line, free_line, entry_line, entry_lines, range_line, range_lines}
use Rattle.text.specs.Shown.{decimal, line, places, marked}
use Rattle.messages_buffer.specs.Fullness.{all_limited, buffers, every, first_no, free_in, limited_number, limits_number, partitions_number, range_free, smallest}
use Rattle.range_reader.specs.Calls.{asked_number, range_read}
use Rattle.range_rules.specs.Rules.{advanced, anchor_read, anchors_read, buffer_one, buffered, entry_bytes, expired, finished, judge, looked, message_read, messages_read, our_read, read_one, stopped}
use Rattle.records.specs.Records.{anchor_in, as_stated, author_of, byte_within, in_place, limits_of, params_of, record_number, shard_of}
use Rattle.router.specs.Router.{first_partition, none_twice, partition_of, partitions_exist, routes_number, sound_routes}
use Rattle.rows.specs.Rows.{appended as rows_appended, le, num_at, rows, word, written}
use Rattle.session_rules.proofs.Texts.{session_text}
use Rattle.session_rules.specs.Steps.{Lent, no_reader, plain_outcome, reaches_reader, read_said, read_text, reader_entries, reader_outcome, reader_reader, reader_said, settings_done, shard_done, step_of, taken_outcome}
use Rattle.session_rules.specs.Said.{anchor_taken, anchor_number, anchor_said, area_after, cache_said, called, do_name, end_said, is_read, is_taken, after_or_bad, malformed_said, new_session, record_counted, plain_area, plain_routes, plain_said, plain_tables, bad_said, tables_after}
use Rattle.shard_ident.specs.Shard.{big_endian, is_ours, is_shard, lowest_set, same_above_tag, same_bits, same_workchain}

-- shard 0 with prefix 8000000000000000 (hexadecimal)
abbrev pub shard_record : List ℕ
shard_record =
    1 ∷ 0
    ∷ 0 ∷ 0 ∷ 0 ∷ 0
    ∷ 0 ∷ 0 ∷ 0 ∷ 0 ∷ 0 ∷ 0 ∷ 0 ∷ 128
    ∷ []

-- next chain time 61000, timeout 60, seqno 5, open limit 4, none waiting, limit 2 for partition 0 only
abbrev pub settings_record : List ℕ
settings_record =
    3 ∷ 0
    ∷ 72 ∷ 238 ∷ 0 ∷ 0 ∷ 0 ∷ 0 ∷ 0 ∷ 0
    ∷ 60 ∷ 0 ∷ 0 ∷ 0
    ∷ 5 ∷ 0 ∷ 0 ∷ 0
    ∷ 4
    ∷ 0
    ∷ 2 ∷ 0 ∷ 255 ∷ 255 ∷ 255 ∷ 255 ∷ 255 ∷ 255 ∷ 255 ∷ 255 ∷ 255 ∷ 255 ∷ 255 ∷ 255 ∷ 255 ∷ 255
    ∷ []

-- an anchor without its messages, and a message of a workchain
abbrev pub anchor_record : ℕ → ℕ → ℕ → ℕ → ℕ → List ℕ → List ℕ
anchor_record id time₀ time₁ ours count messages =
    4 ∷ 0 ∷ id ∷ 0 ∷ 0 ∷ 0 ∷ time₀ ∷ time₁ ∷ 0 ∷ 0 ∷ 0 ∷ 0 ∷ 0 ∷ 0 ∷ (replicate 32 0 ++ (ours ∷ 0 ∷ 0 ∷ 0 ∷ count ∷ 0 ∷ messages))

abbrev pub message : ℕ → List ℕ
message workchain = workchain ∷ replicate 32 0

-- anchor 1 at 1000, ours 1, one message of ours
abbrev pub anchor_1 : List ℕ
anchor_1 = anchor_record 1 232 3 1 1 (message 0)

-- anchor 2 at 2000, ours 2, messages ours, workchain -1, ours
abbrev pub anchor_2 : List ℕ
anchor_2 = anchor_record 2 208 7 2 3 (message 0 ++ (message 255 ++ message 0))

abbrev pub do_record : ℕ → List ℕ
do_record d = 5 ∷ 0 ∷ d ∷ []

-- what the program lends
abbrev pub lent : Lent
lent = record { tables = replicate tables_bytes 0; area = replicate area_bytes 0; routes = replicate 8704 0; entries = replicate 26624 0 }

-- open 0, read 0, free 0, add 5 0 1 1 1000, add 5 0 2 1 2000, range 5 2 1 2 1 0, close 0, end 2 2 1
pub the_sample_session_prints_its_eight_lines :
    session_text lent new_session no_reader (shard_record ∷ settings_record ∷ anchor_1 ∷ anchor_2 ∷ do_record 1 ∷ do_record 3 ∷ do_record 7 ∷ [])
    ≡ 111 ∷ 112 ∷ 101 ∷ 110 ∷ 32 ∷ 48 ∷ 10
    ∷ 114 ∷ 101 ∷ 97 ∷ 100 ∷ 32 ∷ 48 ∷ 10
    ∷ 102 ∷ 114 ∷ 101 ∷ 101 ∷ 32 ∷ 48 ∷ 10
    ∷ 97 ∷ 100 ∷ 100 ∷ 32 ∷ 53 ∷ 32 ∷ 48 ∷ 32 ∷ 49 ∷ 32 ∷ 49 ∷ 32 ∷ 49 ∷ 48 ∷ 48 ∷ 48 ∷ 10
    ∷ 97 ∷ 100 ∷ 100 ∷ 32 ∷ 53 ∷ 32 ∷ 48 ∷ 32 ∷ 50 ∷ 32 ∷ 49 ∷ 32 ∷ 50 ∷ 48 ∷ 48 ∷ 48 ∷ 10
    ∷ 114 ∷ 97 ∷ 110 ∷ 103 ∷ 101 ∷ 32 ∷ 53 ∷ 32 ∷ 50 ∷ 32 ∷ 49 ∷ 32 ∷ 50 ∷ 32 ∷ 49 ∷ 32 ∷ 48 ∷ 10
    ∷ 99 ∷ 108 ∷ 111 ∷ 115 ∷ 101 ∷ 32 ∷ 48 ∷ 10
    ∷ 101 ∷ 110 ∷ 100 ∷ 32 ∷ 50 ∷ 32 ∷ 50 ∷ 32 ∷ 49 ∷ 10
    ∷ []
unfolding session_text add_call add_number answer close_call open_call pops_call refusal refusal_at valid valid_cache drop_stale last_of right_size room sound_from
    sound_row total anchor_row anchors info_row infos view with_messages added_area added_cache added_tables in_cache in_history popped_cache popped_times
    key_above key_equal all_ranges_read asked_of_read new_call read_all_call reader_number settled_number window_read each after_turn with_next_range before_skip_offsets
    is_skipped mode_for next_range partitions_entered ranges_read settled sums turn turns wants_next with_default settings_number
    reader_sound_from state_number decimal end_line free_line entry_line entry_lines line places range_line range_lines marked all_limited buffers every
    first_no free_in limited_number limits_number partitions_number range_free smallest asked_number range_read advanced anchor_read anchors_read buffer_one buffered
    entry_bytes expired finished judge looked message_read messages_read our_read read_one stopped anchor_in as_stated author_of byte_within in_place
    limits_of params_of record_number shard_of first_partition none_twice partition_of partitions_exist routes_number sound_routes rows_appended le num_at
    rows word written no_reader plain_outcome reaches_reader read_said read_text reader_entries reader_outcome reader_reader reader_said settings_done
    shard_done step_of taken_outcome anchor_taken anchor_number anchor_said area_after cache_said called do_name end_said is_read is_taken after_or_bad new_session
    record_counted plain_area plain_routes plain_said plain_tables tables_after big_endian is_ours is_shard lowest_set same_above_tag same_bits same_workchain
the_sample_session_prints_its_eight_lines = refl

-- bad 2 17
pub a_second_shard_is_bad : (l : Lent) → session_text l new_session no_reader (shard_record ∷ shard_record ∷ do_record 1 ∷ []) ≡ 98 ∷ 97 ∷ 100 ∷ 32 ∷ 50 ∷ 32 ∷ 49 ∷ 55 ∷ 10 ∷ []
unfolding session_text step_of is_taken record_number in_place as_stated num_at word record_counted new_session taken_outcome reaches_reader reader_outcome reader_said reader_reader reader_entries shard_done after_or_bad bad_said malformed_said end_said bad_line line marked decimal places shard_of is_shard lowest_set
a_second_shard_is_bad l = refl

pub an_end_before_the_settings_is_bad : (l : Lent) → session_text l new_session no_reader (shard_record ∷ []) ≡ 98 ∷ 97 ∷ 100 ∷ 32 ∷ 50 ∷ 32 ∷ 49 ∷ 55 ∷ 10 ∷ []
unfolding session_text step_of is_taken record_number in_place as_stated num_at word record_counted new_session taken_outcome reaches_reader reader_outcome reader_said reader_reader reader_entries shard_done after_or_bad bad_said malformed_said end_said bad_line line marked decimal places shard_of is_shard lowest_set
an_end_before_the_settings_is_bad l = refl
