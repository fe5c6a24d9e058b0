-- What the walk over an anchor's messages holds in its locals, and the `Walk` that these stand for.
use Rattle.std.specs.Prelude.{ℕ, ◌+◌, List, [], leb, eqb, Result, Ok, Err}
use Rattle.refusals.specs.declared.Refusal.{Refusal}
use Rattle.refusals.specs.Refusals.{number_of}
use Rattle.rows.specs.Rows.{pick}
use Rattle.ext_types.specs.declared.ChainTime.{ChainTime}
use Rattle.ext_types.specs.declared.ExternalKey.{ExternalKey}
use Rattle.messages_buffer.specs.declared.ExternalsPartitionRangeReaderState.{ExternalsPartitionRangeReaderState}
use Rattle.messages_buffer.specs.Fullness.{free_in, least, one_more}
use Rattle.range_reader.specs.declared.Entry.{Entry}
use Rattle.range_rules.specs.declared.Buffers.{Buffers}
use Rattle.range_rules.specs.declared.Place.{Place}
use Rattle.range_rules.specs.declared.ProcessedTo.{ProcessedTo}
use Rattle.range_reader.specs.declared.Progress.{Progress}
use Rattle.range_reader.specs.declared.Taken.{Taken}
use Rattle.range_reader.specs.declared.Verdict.{Verdict as CodeVerdict}
use Rattle.range_reader.specs.declared.Verdict.TheVariants as code
use Rattle.range_reader.specs.declared.Walk.{Walk}
use Rattle.range_rules.specs.Walks.{Verdict, Keep, Buffer, Refuse}
use Rattle.range_rules.specs.Rules.{moved_to, key_at, judge, entry_bytes, entry_len}

abbrev pub progress_of : Buffers → Progress
progress_of b = record { free = b.free; used = b.used }

-- the place follows from the offset: where no message was read it is as before
unfoldable pub place_at : ExternalKey → Place → ℕ → Place
place_at end place offset = pick (eqb place.key.msgs_offset offset) place (moved_to end (key_at place.key.anchor_id offset) place)

abbrev pub walk_of : Walk → ExternalKey → ℕ → Progress → List ExternalsPartitionRangeReaderState → List ℕ → List ℕ → Walk
walk_of start end offset b partitions read buffered =
    record {
      place = place_at end start.place offset;
      buffers = record { free = b.free; used = b.used; by_partitions = partitions };
      counts = record { read = read; expired = start.counts.expired; buffered = buffered };
    }

-- ---- a message of ours
abbrev pub entry_at : ℕ → ℕ → ℕ → ℕ → ChainTime → Entry
entry_at seqno p id offset time = record { seqno = seqno; partition = p; key = key_at id offset; time = time }

abbrev pub bytes_of : Entry → List ℕ
bytes_of e = entry_bytes e.seqno e.partition e.key e.time

abbrev pub verdict_at : ProcessedTo → ExternalsPartitionRangeReaderState → ExternalKey → Progress → ℕ → Verdict
verdict_at processed partition key b room = judge processed partition key (leb (b.used + entry_len) room)

-- the rules' verdict that the code's stands for
abbrev pub verdict_told : Result CodeVerdict Refusal → Verdict
verdict_told (Ok code.Keep) = Keep
verdict_told (Ok code.Buffer) = Buffer
verdict_told (Err r) = Refuse (number_of r)

-- a refusal by its number
abbrev pub numbered : {A : Type 0} → Result A Refusal → Result A ℕ
numbered (Ok a) = Ok a
numbered (Err r) = Err (number_of r)

-- one message more in a buffer; of all buffers only that one has fewer places free
abbrev pub grown : ℕ → ExternalsPartitionRangeReaderState → Progress → Taken
grown limit partition b =
    record {
      progress = record { free = least b.free (free_in (partition.count + 1) limit); used = b.used + entry_len };
      buffered = 1;
      partition = one_more partition;
    }

-- what a verdict changes in the message's partition
unfoldable pub taken : Verdict → ℕ → ExternalsPartitionRangeReaderState → Progress → Result Taken ℕ
taken Keep limit partition b = Ok (record { progress = b; buffered = 0; partition = partition })
taken Buffer limit partition b = Ok (grown limit partition b)
taken (Refuse n) limit partition b = Err n

unfoldable pub entries_of : Verdict → Entry → List ℕ
entries_of Keep e = []
entries_of Buffer e = bytes_of e
entries_of (Refuse n) e = []
