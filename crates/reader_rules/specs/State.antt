-- Questions 4 and 5 of the reader, its limit of open ranges, and a range or the reader changed in one place.
use Rattle.std.specs.Prelude.{ℕ, suc, Bool, true, false, ◌&&◌, List, [], ◌∷◌, leb, ltb, eqb, take, Option}
use Rattle.ext_types.specs.declared.ChainTime.{ChainTime}
use Rattle.rows.specs.Rows.{pick}
use Rattle.ext_types.specs.declared.ExternalKey.{ExternalKey}
use Rattle.messages_buffer.specs.Fullness.{first_no, limits_number, partitions_number}
use Rattle.range_rules.specs.declared.ExternalsRangeReaderState.{ExternalsRangeReaderState}
use Rattle.range_rules.specs.Rules.{no_key}
use Rattle.reader_rules.specs.declared.ExternalsPartitionReaderState.{ExternalsPartitionReaderState}
use Rattle.reader_rules.specs.declared.ExternalsReaderState.{ExternalsReaderState}
use Rattle.reader_rules.specs.declared.MsgsExecutionParams.{MsgsExecutionParams}
use Rattle.reader_rules.specs.declared.ExternalsReader.{ExternalsReader}
use Rattle.shard_ident.specs.Shard.{shard_number}
use Rattle.router.specs.Router.{routes_number}
use Rattle.cache_rules.specs.Rules.{ask, area_bytes}

-- the ranges that a reader holds; the slots behind them are not looked at
abbrev pub held_ranges : ExternalsReaderState → List ExternalsRangeReaderState
held_ranges state = take state.len state.ranges

-- what is past the end of a table of ranges
abbrev pub no_range : ExternalsRangeReaderState
no_range =
    record {
      seqno = 0;
      from = no_key;
      to = no_key;
      current_position = no_key;
      chain_time = record { 0 = 0 };
      fully_read = false;
      by_partitions = [];
    }

-- what is past the end of a table of reader partitions
abbrev pub no_reader_partition : ExternalsPartitionReaderState
no_reader_partition = record { processed_to = no_key; curr_processed_offset = 0; present = false }

-- ---- question 5
-- Document 01, caps: "16 ranges"
abbrev pub max_ranges : ℕ
max_ranges = 16

-- Document 01: "seqnos strictly rising, .. buffer counts at most 1,024"
abbrev pub range_sound : ℕ → ExternalsRangeReaderState → Bool
range_sound low r = leb low r.seqno && eqb (partitions_number r.by_partitions) 0

unfoldable pub sound_ranges_from : ℕ → List ExternalsRangeReaderState → Bool
sound_ranges_from low [] = true
sound_ranges_from low (r ∷ l) = range_sound low r && sound_ranges_from (suc r.seqno) l

-- Document 01: "Are there at most 16 ranges"
abbrev pub ranges_number : List ExternalsRangeReaderState → ℕ → ℕ
ranges_number ranges len = pick (leb len max_ranges && sound_ranges_from 0 (take len ranges)) 0 5

unfoldable pub state_number : ExternalsReaderState → ℕ
state_number state = ranges_number state.ranges state.len

-- ---- question 4
-- as many ranges as there are slots
abbrev pub max_open_ranges : ℕ
max_open_ranges = max_ranges

-- Document 01: "Is each limit at most 1,024 and the open-ranges limit at most 16?"
unfoldable pub settings_number : List ℕ → ℕ → ℕ
settings_number limits most = first_no (limits_number limits ∷ pick (leb most max_open_ranges) 0 4 ∷ [])

-- the open-ranges limit that counts: never below 2, as in the Rust
abbrev pub open_ranges_limit_of : MsgsExecutionParams → ℕ
open_ranges_limit_of params = pick (ltb params.open_ranges_limit 2) 2 params.open_ranges_limit

-- ---- a range or the reader changed in one place
-- a range with another fully-read mark
abbrev pub with_fully_read : ExternalsRangeReaderState → Bool → ExternalsRangeReaderState
with_fully_read r mark =
    record {
      seqno = r.seqno;
      from = r.from;
      to = r.to;
      current_position = r.current_position;
      chain_time = r.chain_time;
      fully_read = mark;
      by_partitions = r.by_partitions;
    }

-- a range with another "to" and another position
abbrev pub with_to_and_position : ExternalsRangeReaderState → ExternalKey → ExternalKey → ExternalsRangeReaderState
with_to_and_position r to position =
    record {
      seqno = r.seqno;
      from = r.from;
      to = to;
      current_position = position;
      chain_time = r.chain_time;
      fully_read = r.fully_read;
      by_partitions = r.by_partitions;
    }

abbrev pub with_state : ExternalsReader → ExternalsReaderState → ExternalsReader
with_state r s =
    record {
      for_shard_id = r.for_shard_id;
      block_seqno = r.block_seqno;
      next_chain_time = r.next_chain_time;
      msgs_exec_params = r.msgs_exec_params;
      buffer_limits_by_partitions = r.buffer_limits_by_partitions;
      reader_state = s;
      all_ranges_fully_read = r.all_ranges_fully_read;
    }

abbrev pub with_mark : ExternalsReader → Bool → ExternalsReader
with_mark r mark =
    record {
      for_shard_id = r.for_shard_id;
      block_seqno = r.block_seqno;
      next_chain_time = r.next_chain_time;
      msgs_exec_params = r.msgs_exec_params;
      buffer_limits_by_partitions = r.buffer_limits_by_partitions;
      reader_state = r.reader_state;
      all_ranges_fully_read = mark;
    }

abbrev pub with_limits : ExternalsReader → List ℕ → ExternalsReader
with_limits r limits =
    record {
      for_shard_id = r.for_shard_id;
      block_seqno = r.block_seqno;
      next_chain_time = r.next_chain_time;
      msgs_exec_params = r.msgs_exec_params;
      buffer_limits_by_partitions = limits;
      reader_state = r.reader_state;
      all_ranges_fully_read = r.all_ranges_fully_read;
    }

abbrev pub with_last : ExternalsReaderState → Option ChainTime → ExternalsReaderState
with_last s last = record { ranges = s.ranges; len = s.len; by_partitions = s.by_partitions; last_read_to_anchor_chain_time = last }

-- ---- questions
-- questions 4 and 5
unfoldable pub settled_number : ExternalsReader → ℕ
settled_number r = first_no (settings_number r.buffer_limits_by_partitions r.msgs_exec_params.open_ranges_limit ∷ state_number r.reader_state ∷ [])

-- questions 2, 4 and 5
unfoldable pub reader_number : ExternalsReader → ℕ
reader_number r = first_no (shard_number r.for_shard_id ∷ settled_number r ∷ [])

-- the questions of a read of all: 1, 2, 3, 4, 5 (of the reader and, as `five`, of the cache) and 9; n is the length of
-- the message area
abbrev pub all_questions : ℕ → List ℕ → ExternalsReader → ℕ → Bool → ℕ
all_questions n routes r five active =
    first_no
    (ask 1 (leb area_bytes n) 0
    ∷ shard_number r.for_shard_id
    ∷ routes_number routes
    ∷ settled_number r
    ∷ five
    ∷ ask 9 active 0
    ∷ [])
