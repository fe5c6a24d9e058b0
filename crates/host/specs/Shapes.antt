-- What a host holds, against what the calls take: the enums as a mark and what it marks.
use Rattle.std.specs.Prelude.{ℕ, Bool, true, false, List, Option, None, Some}
use Rattle.ext_types.specs.declared.ChainTime.{ChainTime}
use Rattle.anchors_cache.specs.declared.AnchorInfo.{AnchorInfo}
use Rattle.anchors_cache.specs.declared.CachedAnchor.{CachedAnchor}
use Rattle.anchors_cache.specs.Answers.{InfoAnswer}
use Rattle.anchors_cache.specs.Answers.{AnchorAnswer}
use Rattle.anchors_cache.specs.Calls.{on_zero}
use Rattle.range_rules.specs.declared.ReadNextExternalsMode.{ReadNextExternalsMode}
use Rattle.range_rules.specs.declared.ReadNextExternalsMode.TheVariants.{ToTheEnd, ToPreviuosReadTo}
use Rattle.reader_rules.specs.declared.GetNextMessageGroupMode.{GetNextMessageGroupMode}
use Rattle.reader_rules.specs.declared.GetNextMessageGroupMode.TheVariants.{Continue, Refill}
use Rattle.reader_rules.specs.declared.ExternalsReader.{ExternalsReader}
use Rattle.reader_rules.specs.declared.ExternalsReaderState.{ExternalsReaderState}
use Rattle.range_reader.specs.declared.RangeSettings.{RangeSettings as CoreSettings}
use Rattle.host.specs.declared.RangeSettings.{RangeSettings}
use Rattle.host.specs.declared.SavedTime.{SavedTime}
use Rattle.host.specs.declared.Free.{Free}
use Rattle.host.specs.declared.ReaderState.{ReaderState}
use Rattle.host.specs.declared.Reader.{Reader}
use Rattle.host.specs.declared.AnchorShown.{AnchorShown}
use Rattle.host.specs.declared.InfoShown.{InfoShown}

-- ---- modes
abbrev pub group_mode : Bool → GetNextMessageGroupMode
group_mode true = Refill
group_mode false = Continue

abbrev pub range_mode : Bool → ReadNextExternalsMode
range_mode true = ToPreviuosReadTo
range_mode false = ToTheEnd

-- ---- what a read of one range is told
abbrev pub settings_of : RangeSettings → CoreSettings
settings_of s = record { shard = s.shard; limits = s.limits; processed = s.processed; timeout = s.timeout; mode = range_mode s.to_previous }

-- ---- a chain time that may be missing
abbrev pub no_time : ChainTime
no_time = record { 0 = 0 }

abbrev pub last_time : Bool → ChainTime → Option ChainTime
last_time true ct = Some ct
last_time false ct = None

-- where there is none, the time beside the mark is free
abbrev pub saved_time : ChainTime → Option ChainTime → SavedTime
saved_time unset None = record { present = false; time = unset }
saved_time unset (Some ct) = record { present = true; time = ct }

-- ---- free places that may be missing
abbrev pub free_of : Option ℕ → Free
free_of None = record { present = false; places = 0 }
free_of (Some n) = record { present = true; places = n }

-- ---- the reader
abbrev pub state_of : ReaderState → ExternalsReaderState
state_of s = record { ranges = s.ranges; len = s.len; by_partitions = s.by_partitions; last_read_to_anchor_chain_time = last_time s.last_read_to_anchor_chain_time.present s.last_read_to_anchor_chain_time.time }

unfoldable pub reader_of : Reader → ExternalsReader
reader_of r =
    record {
      for_shard_id = r.for_shard_id;
      block_seqno = r.block_seqno;
      next_chain_time = r.next_chain_time;
      msgs_exec_params = r.msgs_exec_params;
      buffer_limits_by_partitions = r.buffer_limits_by_partitions;
      reader_state = state_of r.reader_state;
      all_ranges_fully_read = r.all_ranges_fully_read;
    }

abbrev pub held_state : ChainTime → ExternalsReaderState → ReaderState
held_state unset s = record { ranges = s.ranges; len = s.len; by_partitions = s.by_partitions; last_read_to_anchor_chain_time = saved_time unset s.last_read_to_anchor_chain_time }

unfoldable pub held_reader : ChainTime → ExternalsReader → Reader
held_reader unset r =
    record {
      for_shard_id = r.for_shard_id;
      block_seqno = r.block_seqno;
      next_chain_time = r.next_chain_time;
      msgs_exec_params = r.msgs_exec_params;
      buffer_limits_by_partitions = r.buffer_limits_by_partitions;
      reader_state = held_state unset r.reader_state;
      all_ranges_fully_read = r.all_ranges_fully_read;
    }

-- What a call leaves of the host's reader, where it answers the number and the core has r then: all as it was where the
-- call is refused, and a time that no mark says is there as it was where the call is done.
unfoldable pub left_reader : Reader → ℕ → ExternalsReader → Reader
left_reader was number r = on_zero number (held_reader was.reader_state.last_read_to_anchor_chain_time.time r) was

-- ---- an anchor, and an entry of the history; nothing found is zeros
abbrev pub no_anchor : CachedAnchor
no_anchor = record { id = 0; chain_time = no_time; ours = 0; count = 0; place = 0 }

abbrev pub anchor_shown : ℕ → Option CachedAnchor → List ℕ → AnchorShown
anchor_shown number (Some a) author = record { number = number; found = true; anchor = a; author = author }
anchor_shown number None author = record { number = number; found = false; anchor = no_anchor; author = author }

abbrev pub no_info : AnchorInfo
no_info = record { id = 0; ct = no_time; all_exts_count = 0; our_exts_count = 0 }

abbrev pub info_shown : ℕ → Option AnchorInfo → List ℕ → InfoShown
info_shown number (Some i) author = record { number = number; found = true; info = i; author = author }
info_shown number None author = record { number = number; found = false; info = no_info; author = author }

abbrev pub anchor_answer : AnchorAnswer → AnchorShown
anchor_answer a = anchor_shown a.number a.anchor a.author

abbrev pub info_answer : InfoAnswer → InfoShown
info_answer a = info_shown a.number a.info a.author
