-- What each public call answers, for every argument.
use Rattle.std.specs.Prelude.{ℕ, Bool, false, List, [], ◌∷◌, map, eqb, length, replicate, Option, None, Some}
use Rattle.std.proofs.lemmas.List.Edits.{sets}
use Rattle.rows.specs.Rows.{pick}
use Rattle.reader_rules.specs.State.{settled_number, reader_number, all_questions, with_state, with_mark, with_limits, with_last, state_number}
use Rattle.reader_rules.specs.Rules.{state_entered, fixed_of, at_entry, range_from, next_range, Told, OneRange, ranges_read, time_saved}
use Rattle.ext_types.specs.declared.ExternalKey.{ExternalKey}
use Rattle.ext_types.specs.declared.ChainTime.{ChainTime}
use Rattle.shard_ident.specs.declared.ShardIdent.{ShardIdent}
use Rattle.messages_buffer.specs.Fullness.{first_no, no_partition}
use Rattle.anchors_cache.specs.declared.AnchorInfo.{AnchorInfo}
use Rattle.anchors_cache.specs.declared.AnchorsCacheTransaction.{AnchorsCacheTransaction}
use Rattle.cache_rules.specs.Rules.{last_of}
use Rattle.anchors_cache.specs.Tables.{history_of}
use Rattle.anchors_cache.specs.declared.AnchorsCache.{AnchorsCache}
use Rattle.anchors_cache.specs.Calls.{refusal, pops_call, info_found}
use Rattle.range_rules.specs.declared.ExternalsRangeReaderState.{ExternalsRangeReaderState}
use Rattle.range_rules.specs.Walks.{RangeRead}
use Rattle.range_rules.specs.Rules.{Outcome, silent, key_at, no_key, no_counts}
use Rattle.range_reader.specs.Calls.{ReadAnswer, asked_number, range_read, refused_answer, done_answer}
use Rattle.reader_rules.specs.declared.ExternalsPartitionReaderState.{ExternalsPartitionReaderState}
use Rattle.reader_rules.specs.declared.ExternalsReaderState.{ExternalsReaderState}
use Rattle.reader_rules.specs.declared.MsgsExecutionParams.{MsgsExecutionParams}
use Rattle.reader_rules.specs.declared.ExternalsReader.{ExternalsReader}
use Rattle.reader_rules.specs.declared.GetNextMessageGroupMode.{GetNextMessageGroupMode}
use Rattle.externals_reader.specs.Answers.{ReaderDone, PartitionIds, NextRange, ReadAllAnswer}
use Rattle.reader_rules.specs.declared.Fixed.{Fixed}
use Rattle.reader_rules.specs.Turns.{RangesRead}

-- a refusal gives only the number
abbrev pub changed : ℕ → ExternalsReader → ExternalsReader → ReaderDone
changed number before after = record { number = number; reader = pick (eqb number 0) after before }

-- ---- questions
unfoldable pub asked_of_read : List ℕ → List ℕ → AnchorsCacheTransaction → List ℕ → ExternalsReader → ℕ
asked_of_read tables area t routes r = all_questions (length area) routes r (refusal (length area) tables t) t.active

-- ---- the calls but the read
abbrev pub handed_in : ShardIdent → ℕ → ChainTime → MsgsExecutionParams → List ℕ → ExternalsReaderState → ExternalsReader
handed_in shard seqno time params limits state =
    record {
      for_shard_id = shard;
      block_seqno = seqno;
      next_chain_time = time;
      msgs_exec_params = params;
      buffer_limits_by_partitions = limits;
      reader_state = state;
      all_ranges_fully_read = false;
    }

unfoldable pub new_call : ExternalsReader → ReaderDone
new_call r = changed (reader_number r) r (with_state r (state_entered r.buffer_limits_by_partitions r.reader_state))

unfoldable pub reset_call : ExternalsReader → ReaderDone
reset_call r = changed (state_number r.reader_state) r (with_mark r false)

unfoldable pub drop_last_call : ExternalsReader → ReaderDone
drop_last_call r = changed (state_number r.reader_state) r (with_state r (with_last r.reader_state None))

-- question 4 of the settings that the reader then has
unfoldable pub set_limits_call : ExternalsReader → List ℕ → ReaderDone
set_limits_call r limits = changed (settled_number (with_limits r limits)) r (with_limits r limits)

abbrev pub is_present : ExternalsPartitionReaderState → Bool
is_present p = p.present

unfoldable pub partition_ids_call : ExternalsReader → PartitionIds
partition_ids_call r =
    let n = state_number r.reader_state in
    record { number = n; present = pick (eqb n 0) (map is_present r.reader_state.by_partitions) (replicate 8 false) }

unfoldable pub next_range_call : ExternalsReader → NextRange
next_range_call r =
    let s = r.reader_state in
    record {
      number = state_number s;
      range =
          pick (eqb (state_number s) 0)
          (next_range r.block_seqno r.next_chain_time s.by_partitions s.ranges s.len)
          (range_from 0 no_key (record { 0 = 0 }) (replicate 8 no_partition));
    }

-- ---- the read
abbrev pub end_of : Option AnchorInfo → Option ExternalKey
end_of None = None
end_of (Some i) = Some (key_at i.id i.all_exts_count)

abbrev pub told : ReadAnswer → Told
told a =
    record {
      number = a.number;
      free = a.free;
      pops = a.pops;
      used = a.used;
      last = a.last_chain_time;
      counts = a.counts;
      range = a.range;
    }

-- a range's read by its number and its six steps; t is what a refusal would leave, and no part of the answer
abbrev pub told_by : ℕ → AnchorsCacheTransaction → ExternalsRangeReaderState → Outcome RangeRead → Outcome Told
told_by number t range s = pick (eqb number 0) (record { value = told (done_answer range s.value t); entries = s.entries }) (silent (told (refused_answer number range t)))

-- one range's read on the window, as `read_externals_into_buffers` answers after so many pops
unfoldable pub window_read : List ℕ → List ℕ → AnchorsCacheTransaction → List ℕ → Fixed → OneRange
window_read tables area t routes x pops mode range room =
    let u = (pops_call (length area) pops tables t).state in
    let s = range_read tables area u x.shard routes x.limits x.processed x.params.externals_expire_timeout mode range room in
    told_by (first_no (asked_number tables area u x.shard routes x.limits range ∷ s.value.walk.number ∷ [])) u range s

-- the last imported entry's id and message count; pops never remove that entry
abbrev pub imported_in : List ℕ → AnchorsCache → Option ExternalKey
imported_in tables c = end_of (info_found (last_of (history_of tables c)))

unfoldable pub all_ranges_read : List ℕ → List ℕ → AnchorsCacheTransaction → List ℕ → ExternalsReader → GetNextMessageGroupMode → ℕ → Outcome RangesRead
all_ranges_read tables area t routes r mode room =
    let x = fixed_of r mode (imported_in tables t.cache) room in
    ranges_read (window_read tables area t routes x) x (at_entry r.reader_state)

abbrev pub reader_after : ExternalsReader → RangesRead → ExternalsReader
reader_after r q =
    with_mark
    (with_state r
    (record {
      ranges = q.ranges;
      len = q.len;
      by_partitions = r.reader_state.by_partitions;
      last_read_to_anchor_chain_time = time_saved q.so_far.last r.reader_state.last_read_to_anchor_chain_time;
    }))
    q.so_far.all_read

-- the answer, and the lent output's bytes
pub record ReadAllResult : Type 0 where
  pub answer : ReadAllAnswer
  pub out : List ℕ

-- a refusal, and a call that does nothing
abbrev pub unchanged : ℕ → ExternalsReader → AnchorsCacheTransaction → List ℕ → ReadAllResult
unchanged number r t out = record { answer = record { number = number; free = None; used = 0; counts = no_counts; reader = r; state = t }; out = out }

abbrev pub all_result : List ℕ → List ℕ → AnchorsCacheTransaction → ExternalsReader → Outcome RangesRead → List ℕ → ReadAllResult
all_result tables area t r s out =
    let q = s.value in
    pick (eqb q.so_far.number 0)
    (record {
      answer = record { number = 0; free = q.so_far.free; used = q.so_far.used; counts = q.so_far.counts; reader = reader_after r q; state = (pops_call (length area) q.so_far.pops tables t).state };
      out = sets out 0 s.entries;
    })
    (unchanged q.so_far.number r t out)

-- "Nothing is done once "all ranges read" is set", and the questions are asked before
unfoldable pub read_all_call : List ℕ → List ℕ → AnchorsCacheTransaction → List ℕ → ExternalsReader → GetNextMessageGroupMode → List ℕ → ReadAllResult
read_all_call tables area t routes r mode out =
    let n = asked_of_read tables area t routes r in
    pick (eqb n 0)
    (pick r.all_ranges_fully_read (unchanged 0 r t out) (all_result tables area t r (all_ranges_read tables area t routes r mode (length out)) out))
    (unchanged n r t out)
