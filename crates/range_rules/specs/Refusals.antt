-- A test, on what is known at entry, that none of questions 11 to 14 can refuse the read.
use Rattle.std.specs.Prelude.{ℕ, ◌*◌, Bool, ◌&&◌, List, leb, get_or}
use Rattle.ext_types.specs.declared.ExternalKey.{ExternalKey}
use Rattle.router.specs.Router.{route_rows, route_partition_of}
use Rattle.messages_buffer.specs.declared.ExternalsPartitionRangeReaderState.{ExternalsPartitionRangeReaderState}
use Rattle.messages_buffer.specs.Fullness.{every, no_partition}
use Rattle.cache_rules.specs.Rules.{Row, total}
use Rattle.range_rules.specs.declared.Context.{Context}
use Rattle.range_rules.specs.declared.ProcessedTo.{ProcessedTo}
use Rattle.range_rules.specs.Rules.{no_processed, offset_in, entry_len}

-- questions 12 and 13 have the answer "yes" for partition p
abbrev pub is_open : List ProcessedTo → List ExternalsPartitionRangeReaderState → ℕ → Bool
is_open processed partitions p = (get_or processed p no_processed).present && (get_or partitions p no_partition).present

abbrev pub route_open : List ProcessedTo → List ExternalsPartitionRangeReaderState → List ℕ → Bool
route_open processed partitions route = is_open processed partitions (route_partition_of route)

-- every partition that a message can have: 0, and those of the routes
unfoldable pub all_open : List ProcessedTo → List ExternalsPartitionRangeReaderState → List ℕ → Bool
all_open processed partitions routes = is_open processed partitions 0 && every (route_open processed partitions) (route_rows routes)

-- question 11: only a walk that starts past the anchor's end does not move on
abbrev pub starts_within : ExternalKey → Row → Bool
starts_within position a = leb (offset_in position a.id) a.count

-- and question 14: room for an entry of each cached message
unfoldable pub all_fit : ExternalKey → ℕ → List Row → Bool
all_fit position room rows = every (starts_within position) rows && leb (entry_len * total rows) room

unfoldable pub cannot_refuse : Context → List ExternalsPartitionRangeReaderState → List ℕ → List Row → Bool
cannot_refuse x partitions routes rows = all_open x.processed partitions routes && all_fit x.position x.room rows
