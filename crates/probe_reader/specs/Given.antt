-- What is put without a call: the last chain time of a payload, and what of a state is another then.
use Rattle.std.specs.Prelude.{ℕ, List, eqb, get_or, Option, None, Some}
use Rattle.rows.specs.Rows.{pick, num_at}
use Rattle.ext_types.specs.declared.ChainTime.{ChainTime}
use Rattle.anchors_cache.specs.Calls.{time_of}
use Rattle.reader_rules.specs.declared.ExternalsReaderState.{ExternalsReaderState}
use Rattle.reader_rules.specs.declared.ExternalsPartitionReaderState.{ExternalsPartitionReaderState}

-- present 1 at 1, value 8 at 2
unfoldable pub last_of : List ℕ → Option ChainTime
last_of p = pick (eqb (get_or p 1 0) 1) (Some (time_of (num_at 8 2 p))) None

-- a state with other partitions: nothing else is another
abbrev pub with_partitions : ExternalsReaderState → List ExternalsPartitionReaderState → ExternalsReaderState
with_partitions s partitions = record {
  ranges = s.ranges;
  len = s.len;
  by_partitions = partitions;
  last_read_to_anchor_chain_time = s.last_read_to_anchor_chain_time;
}

-- a state with the ranges of another: nothing else is another
abbrev pub with_ranges : ExternalsReaderState → ExternalsReaderState → ExternalsReaderState
with_ranges s q = record {
  ranges = q.ranges;
  len = q.len;
  by_partitions = s.by_partitions;
  last_read_to_anchor_chain_time = s.last_read_to_anchor_chain_time;
}
