-- What the calls answer and leave, in the host's shapes.
use Rattle.std.specs.Prelude.{ℕ, Bool, List, length}
use Rattle.shard_ident.specs.Shard as shard
use Rattle.router.specs.Router.{Answer}
use Rattle.messages_buffer.specs.Fullness as fullness
use Rattle.anchors_cache.specs.declared.AnchorsCacheTransaction.{AnchorsCacheTransaction}
use Rattle.anchors_cache.specs.declared.MempoolAnchor.{MempoolAnchor}
use Rattle.anchors_cache.specs.Answers.{Done, Popped, Trimmed, FlagAnswer as Flagged}
use Rattle.anchors_cache.specs.Calls.{on_zero, row_for, add_number, add_call, info_with, add_info_number, add_info_call}
use Rattle.anchors_cache.specs.Tables.{info_row}
use Rattle.anchors_cache.specs.Windows.{history_added, added_tables, added_area}
use Rattle.range_reader.specs.Calls.{ReadAnswer, ReadResult, read_call}
use Rattle.reader_rules.specs.declared.ExternalsReader.{ExternalsReader}
use Rattle.reader_rules.specs.Offsets.{ByPartitions as NumbersOfPartitions}
use Rattle.externals_reader.specs.Answers.{ReaderDone, PartitionIds as Partitions, NextRange as RangeToAppend, ReadAllAnswer}
use Rattle.externals_reader.specs.Calls.{ReadAllResult, handed_in, new_call, set_limits_call, read_all_call}
use Rattle.host.specs.declared.HistoryEntry.{HistoryEntry}
use Rattle.host.specs.declared.AllAnswer.{AllAnswer}
use Rattle.host.specs.declared.AnchorShown.{AnchorShown}
use Rattle.host.specs.declared.ByPartitions.{ByPartitions}
use Rattle.host.specs.declared.FillState.{FillState}
use Rattle.host.specs.declared.FlagAnswer.{FlagAnswer}
use Rattle.host.specs.declared.InfoShown.{InfoShown}
use Rattle.host.specs.declared.NextRange.{NextRange}
use Rattle.host.specs.declared.PartitionIds.{PartitionIds}
use Rattle.host.specs.declared.RangeAnswer.{RangeAnswer}
use Rattle.host.specs.declared.PartitionShown.{PartitionShown}
use Rattle.host.specs.declared.BufferLimits.{BufferLimits}
use Rattle.host.specs.declared.Reader.{Reader}
use Rattle.host.specs.declared.Externals.{Externals}
use Rattle.host.specs.declared.RangeAndCache.{RangeAndCache}
use Rattle.host.specs.declared.RangeSettings.{RangeSettings}
use Rattle.host.specs.Shapes.{group_mode, range_mode, no_time, saved_time, free_of, state_of, reader_of, left_reader, anchor_shown, info_shown}

-- ---- the cache
-- what is shown of a pop and of a trim, and the transaction that they leave
pub record AnchorPopped : Type 0 where
  pub answer : AnchorShown
  pub state : AnchorsCacheTransaction

pub record InfoTrimmed : Type 0 where
  pub answer : InfoShown
  pub state : AnchorsCacheTransaction

unfoldable pub pop_shown : Popped → AnchorPopped
pop_shown p = record { answer = anchor_shown p.number p.front p.author; state = p.state }

unfoldable pub trim_shown : Trimmed → InfoTrimmed
trim_shown p = record { answer = info_shown p.number p.last p.author; state = p.state }

-- an added anchor: the number and the transaction, the tables and the message area
pub record Added : Type 0 where
  pub done : Done
  pub tables : List ℕ
  pub area : List ℕ

unfoldable pub add_shown : List ℕ → List ℕ → MempoolAnchor → ℕ → List ℕ → AnchorsCacheTransaction → Added
add_shown tables area anchor ours messages t =
    let a = row_for anchor ours (length messages) in
    let number = add_number (length area) tables t anchor.id ours (length messages) in
    record {
      done = add_call number a (length area) (length messages) tables t;
      tables = on_zero number (added_tables a t.cache tables) tables;
      area = on_zero number (added_area a messages tables t.cache area) area;
    }

-- and an entry to the history alone
unfoldable pub entry_shown : List ℕ → List ℕ → HistoryEntry → AnchorsCacheTransaction → Added
entry_shown tables area e t =
    record {
      done = add_info_call (length area) tables t;
      tables = on_zero (add_info_number (length area) tables t) (history_added (info_row (info_with e.info e.author)) t.cache tables) tables;
      area = area;
    }

abbrev pub flag_shown : Flagged → FlagAnswer
flag_shown a = record { number = a.number; flag = a.flag }

-- ---- whose a message is, and its partition
abbrev pub ours_shown : shard.Answer → FlagAnswer
ours_shown a = record { number = a.number; flag = a.ours }

abbrev pub partition_shown : Answer → PartitionShown
partition_shown a = record { number = a.number; partition = a.value }

-- ---- free places
abbrev pub fill_shown : fullness.FillState → FillState
fill_shown a = record { number = a.number; free = a.free }

-- ---- the reader
-- the number of a call on the host's reader, and what it leaves of the reader
pub record ReaderAfter : Type 0 where
  pub number : ℕ
  pub reader : Reader

unfoldable pub reader_shown : Reader → ReaderDone → ReaderAfter
reader_shown was d = record { number = d.number; reader = left_reader was d.number d.reader }

-- a call on the reader that the host holds
abbrev pub on_reader : (ExternalsReader → ReaderDone) → Reader → ReaderAfter
on_reader call r = reader_shown r (call (reader_of r))

abbrev pub limits_set : BufferLimits → ExternalsReader → ReaderDone
limits_set limits r = set_limits_call r limits.by_partitions

-- a reader over the state that it is handed with
unfoldable pub new_shown : Reader → ReaderAfter
new_shown r = reader_shown r (new_call (handed_in r.for_shard_id r.block_seqno r.next_chain_time r.msgs_exec_params r.buffer_limits_by_partitions (state_of r.reader_state)))

abbrev pub partition_ids_shown : Partitions → PartitionIds
partition_ids_shown a = record { number = a.number; present = a.present }

abbrev pub next_range_shown : RangeToAppend → NextRange
next_range_shown a = record { number = a.number; range = a.range }

abbrev pub by_partitions_shown : NumbersOfPartitions → ByPartitions
by_partitions_shown a = record { number = a.number; values = a.values; present = a.present }

-- ---- the reads
pub record AllRead : Type 0 where
  pub answer : AllAnswer
  pub state : Externals

pub record RangeRead : Type 0 where
  pub answer : RangeAnswer
  pub state : RangeAndCache

abbrev pub all_answer : ReadAllAnswer → AllAnswer
all_answer a = record { number = a.number; free = free_of a.free; used = a.used; counts = a.counts }

abbrev pub range_answer : ReadAnswer → RangeAnswer
range_answer a = record { number = a.number; free = a.free; last_chain_time = saved_time no_time a.last_chain_time; pops = a.pops; used = a.used; counts = a.counts }

-- a read of all ranges: what it answers and leaves, and the output
abbrev pub read_all_shown : Reader → ReadAllAnswer → AllRead
read_all_shown was a =
    record {
      answer = all_answer a;
      state = record { transaction = a.state; reader = left_reader was a.number a.reader };
    }

unfoldable pub read_all : List ℕ → List ℕ → List ℕ → List ℕ → Bool → Externals → ReadAllResult
read_all out tables area routes refill e = read_all_call tables area e.transaction routes (reader_of e.reader) (group_mode refill) out

-- one range's
abbrev pub read_range_shown : ReadAnswer → RangeRead
read_range_shown a =
    record {
      answer = range_answer a;
      state = record { transaction = a.state; range = a.range };
    }

unfoldable pub read_range : List ℕ → List ℕ → List ℕ → List ℕ → RangeSettings → RangeAndCache → ReadResult
read_range out tables area routes s e = read_call tables area e.transaction s.shard routes s.limits s.processed s.timeout (range_mode s.to_previous) e.range out
