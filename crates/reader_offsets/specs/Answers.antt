-- What a question about partitions answers, in document 01's terms: a number for each partition that is present, 0 for the
-- others, and what a result stands for.
use Rattle.std.specs.Prelude.{ℕ, Bool, true, false, List, length, ltb, map, replicate, Result, Ok, Err, Option, Some, None}
use Rattle.refusals.specs.declared.Refusal.{Refusal}
use Rattle.refusals.specs.Refusals.{number_of}
use Rattle.std.specs.Bool.{then_some}
use Rattle.rows.specs.Rows.{pick}
use Rattle.messages_buffer.specs.declared.ExternalsPartitionRangeReaderState.{ExternalsPartitionRangeReaderState}
use Rattle.reader_rules.specs.declared.ExternalsPartitionReaderState.{ExternalsPartitionReaderState}
use Rattle.reader_rules.specs.declared.Tally.{Tally}
use Rattle.reader_rules.specs.Offsets.{ByPartitions, shown, last_range, place_of}
use Rattle.range_rules.specs.declared.ExternalsRangeReaderState.{ExternalsRangeReaderState}

abbrev pub value_of : Option ℕ → ℕ
value_of None = 0
value_of (Some n) = n

abbrev pub is_there : Option ℕ → Bool
is_there None = false
is_there (Some n) = true

abbrev pub by_partitions_of : Result (List (Option ℕ)) Refusal → ByPartitions
by_partitions_of (Ok l) = record { number = 0; values = map value_of l; present = map is_there l }
by_partitions_of (Err e) = record { number = number_of e; values = replicate 8 0; present = replicate 8 false }

-- a tally's number, where any range has the partition
abbrev pub shown_if_present : Bool → Tally → Option ℕ
shown_if_present offsets t = pick t.present (Some (shown offsets t)) None

-- a record, where it is present
abbrev pub partition_there : ExternalsPartitionReaderState → Option ExternalsPartitionReaderState
partition_there p = then_some p.present p

abbrev pub record_there : ExternalsPartitionRangeReaderState → Option ExternalsPartitionRangeReaderState
record_there x = then_some x.present x

-- the last range, if there is one
abbrev pub last_there : List ExternalsRangeReaderState → Option ExternalsRangeReaderState
last_there l = then_some (ltb 0 (length l)) (last_range l)

-- the place of the range with this seqno, if there is one
abbrev pub place_there : ℕ → List ExternalsRangeReaderState → Option ℕ
place_there seqno l = then_some (ltb (place_of seqno l) (length l)) (place_of seqno l)
