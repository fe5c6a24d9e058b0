-- What the calls answer, in document 01's terms: its number and the values that it names. For each kind of answer the
-- record, and the record that a call's result stands for: a refused call answers no value, and leaves what it was
-- handed as it was.
use Rattle.std.specs.Prelude.{ℕ, List, Bool, false, replicate, Option, None, Result, Ok, Err}
use Rattle.refusals.specs.declared.Refusal.{Refusal}
use Rattle.refusals.specs.Refusals.{number_of}
use Rattle.messages_buffer.specs.Fullness.{no_partition}
use Rattle.range_rules.specs.declared.ExternalsRangeReaderState.{ExternalsRangeReaderState}
use Rattle.range_rules.specs.declared.ReadCounts.{ReadCounts}
use Rattle.range_rules.specs.Rules.{no_key, no_counts}
use Rattle.anchors_cache.specs.declared.AnchorsCacheTransaction.{AnchorsCacheTransaction}
use Rattle.reader_rules.specs.declared.ExternalsReader.{ExternalsReader}
use Rattle.reader_rules.specs.Rules.{range_from}
use Rattle.externals_reader.specs.declared.ReadIntoBuffers.{ReadIntoBuffers}

-- a call that changes the reader
pub record ReaderDone : Type 0 where
  pub number : ℕ
  pub reader : ExternalsReader

-- which partitions there are
pub record PartitionIds : Type 0 where
  pub number : ℕ
  pub present : List Bool

pub record NextRange : Type 0 where
  pub number : ℕ
  pub range : ExternalsRangeReaderState

-- a read of all ranges
pub record ReadAllAnswer : Type 0 where
  pub number : ℕ
  pub free : Option ℕ
  pub used : ℕ
  pub counts : ReadCounts
  pub reader : ExternalsReader
  pub state : AnchorsCacheTransaction

-- r is the reader that the call was handed
abbrev pub reader_done_of : ExternalsReader → Result ExternalsReader Refusal → ReaderDone
reader_done_of r (Ok s) = record { number = 0; reader = s }
reader_done_of r (Err e) = record { number = number_of e; reader = r }

abbrev pub partition_ids_of : Result (List Bool) Refusal → PartitionIds
partition_ids_of (Ok present) = record { number = 0; present = present }
partition_ids_of (Err e) = record { number = number_of e; present = replicate 8 false }

abbrev pub no_next_range : ExternalsRangeReaderState
no_next_range = range_from 0 no_key (record { 0 = 0 }) (replicate 8 no_partition)

abbrev pub next_range_of : Result ExternalsRangeReaderState Refusal → NextRange
next_range_of (Ok range) = record { number = 0; range = range }
next_range_of (Err e) = record { number = number_of e; range = no_next_range }

-- r and t are those that the call was handed
abbrev pub read_all_answer_of : ExternalsReader → AnchorsCacheTransaction → Result ReadIntoBuffers Refusal → ReadAllAnswer
read_all_answer_of r t (Ok a) = record { number = 0; free = a.free; used = a.used; counts = a.counts; reader = a.reader; state = a.state }
read_all_answer_of r t (Err e) = record { number = number_of e; free = None; used = 0; counts = no_counts; reader = r; state = t }
