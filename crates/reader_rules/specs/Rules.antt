-- Document 01, "All ranges": which ranges are read and how, what becomes of the others, and the next range. How one
-- range is read is handed in: on the window, or on the book's cache.
use Rattle.std.specs.Prelude.{ℕ, zero, suc, ◌+◌, ◌-◌, Bool, true, false, not, ◌&&◌, ◌||◌, List, [], ◌∷◌, map, ltb, leb, eqb, get_or, set, take, Option, None, Some}
use Rattle.std.proofs.Math.Option.{Option as Maybe, none, some}
use Rattle.std.proofs.lemmas.List.Edits.{sets}
use Rattle.rows.specs.Rows.{pick}
use Rattle.ext_types.specs.declared.ChainTime.{ChainTime}
use Rattle.ext_types.specs.declared.ExternalKey.{ExternalKey}
use Rattle.ext_types.specs.Keys.{key_equal}
use Rattle.messages_buffer.specs.declared.ExternalsPartitionRangeReaderState.{ExternalsPartitionRangeReaderState}
use Rattle.messages_buffer.specs.Fullness.{no_limit}
use Rattle.range_rules.specs.declared.ExternalsRangeReaderState.{ExternalsRangeReaderState}
use Rattle.range_rules.specs.declared.ReadCounts.{ReadCounts}
use Rattle.range_rules.specs.declared.ReadNextExternalsMode.{ReadNextExternalsMode}
use Rattle.range_rules.specs.declared.ReadNextExternalsMode.TheVariants.{ToTheEnd, ToPreviuosReadTo}
use Rattle.range_rules.specs.Rules.{Outcome, silent, followed, no_key, no_counts}
use Rattle.reader_rules.specs.declared.ExternalsPartitionReaderState.{ExternalsPartitionReaderState}
use Rattle.reader_rules.specs.declared.GetNextMessageGroupMode.{GetNextMessageGroupMode}
use Rattle.reader_rules.specs.declared.GetNextMessageGroupMode.TheVariants.{Continue, Refill}
use Rattle.reader_rules.specs.declared.Fixed.{Fixed}
use Rattle.reader_rules.specs.Turns.{SoFar, RangesRead}
use Rattle.reader_rules.specs.State.{no_range, no_reader_partition, open_ranges_limit_of, with_fully_read, with_to_and_position}
use Rattle.reader_rules.specs.Each.{each}
use Rattle.range_rules.specs.declared.ProcessedTo.{ProcessedTo}
use Rattle.reader_rules.specs.declared.ExternalsReaderState.{ExternalsReaderState}
use Rattle.reader_rules.specs.declared.ExternalsReader.{ExternalsReader}

-- ---- `new`
-- a partition that has a limit gets a record, if it has none
unfoldable pub with_default : ℕ → ExternalsPartitionReaderState → ExternalsPartitionReaderState
with_default limit p = pick (p.present || eqb limit no_limit) p (record { processed_to = no_key; curr_processed_offset = 0; present = true })

unfoldable pub partitions_entered : List ℕ → List ExternalsPartitionReaderState → List ExternalsPartitionReaderState
partitions_entered limits ps = each 8 (λ i. with_default (get_or limits i 0) (get_or ps i no_reader_partition))

-- fully read exactly where the position is "to"
abbrev pub range_entered : ExternalsRangeReaderState → ExternalsRangeReaderState
range_entered r = with_fully_read r (key_equal r.current_position r.to)

abbrev pub ranges_entered : ℕ → List ExternalsRangeReaderState → List ExternalsRangeReaderState
ranges_entered len ranges = sets ranges 0 (map range_entered (take len ranges))

abbrev pub state_entered : List ℕ → ExternalsReaderState → ExternalsReaderState
state_entered limits s =
    record {
      ranges = ranges_entered s.len s.ranges;
      len = s.len;
      by_partitions = partitions_entered limits s.by_partitions;
      last_read_to_anchor_chain_time = s.last_read_to_anchor_chain_time;
    }

-- ---- the next range
-- the last of the first len ranges, if there is one
abbrev pub last_or : {A : Type 0} → A → (ExternalsRangeReaderState → A) → ℕ → List ExternalsRangeReaderState → A
last_or empty of zero ranges = empty
last_or empty of (suc k) ranges = of (get_or ranges k no_range)

-- an empty buffer, both offsets at the current one
abbrev pub next_partition : ExternalsPartitionReaderState → ExternalsPartitionRangeReaderState
next_partition p = record { count = 0; skip_offset = p.curr_processed_offset; processed_offset = p.curr_processed_offset; present = p.present }

abbrev pub range_from : ℕ → ExternalKey → ChainTime → List ExternalsPartitionRangeReaderState → ExternalsRangeReaderState
range_from seqno from time parts =
    record {
      seqno = seqno;
      from = from;
      to = from;
      current_position = from;
      chain_time = time;
      fully_read = false;
      by_partitions = parts;
    }

-- it begins at the last range's "to"
unfoldable pub next_range : ℕ → ChainTime → List ExternalsPartitionReaderState → List ExternalsRangeReaderState → ℕ → ExternalsRangeReaderState
next_range seqno time parts ranges len = range_from seqno (last_or no_key (λ r. r.to) len ranges) time (map next_partition parts)

abbrev pub continues : GetNextMessageGroupMode → Bool
continues Continue = true
continues Refill = false

-- "When all are fully read, a range is appended and read if the mode is `Continue`, no new settings wait, the ranges
-- are below the open-ranges limit and the last seqno (0 in an empty list) is below the block's"
unfoldable pub wants_next : Fixed → RangesRead → Bool
wants_next x r =
    eqb r.so_far.number 0
    && (r.so_far.all_read
    && (continues x.mode
    && (not x.params.new_is_some
    && (not (leb (open_ranges_limit_of x.params) r.len) && ltb (last_or 0 (λ q. q.seqno) r.len r.ranges) x.block_seqno))))

-- ---- one range's turn
abbrev pub skip_offset_of : ExternalsPartitionRangeReaderState → ℕ
skip_offset_of q = pick q.present q.skip_offset 0

abbrev pub reached : ExternalsPartitionReaderState → ExternalsPartitionRangeReaderState → Bool
reached p q = p.present && leb (skip_offset_of q) p.curr_processed_offset

-- "every reader partition's current offset is below the range's skip offset (0 if missing)"
unfoldable pub before_skip_offsets : List ExternalsPartitionReaderState → List ExternalsPartitionRangeReaderState → Bool
before_skip_offsets [] qs = true
before_skip_offsets (p ∷ ps) [] = true
before_skip_offsets (p ∷ ps) (q ∷ qs) = not (reached p q) && before_skip_offsets ps qs

-- the block's own range
abbrev pub is_own : Fixed → ℕ → Bool
is_own x seqno = eqb seqno x.block_seqno

-- in `Refill` the block's own
abbrev pub waits : GetNextMessageGroupMode → Bool → Bool
waits Refill own = own
waits Continue own = false

unfoldable pub is_skipped : Fixed → ExternalsRangeReaderState → Bool
is_skipped x range = waits x.mode (is_own x range.seqno) || before_skip_offsets x.by_partitions range.by_partitions

-- "The block's own is read `ToTheEnd`, others `ToPreviuosReadTo`."
unfoldable pub mode_for : Fixed → ℕ → ReadNextExternalsMode
mode_for x seqno = pick (is_own x seqno) ToTheEnd ToPreviuosReadTo

abbrev pub moved_to_end : Option ExternalKey → ExternalsRangeReaderState → ExternalsRangeReaderState
moved_to_end None r = r
moved_to_end (Some key) r = with_to_and_position r key key

-- the key that a range's position and "to" become, or none
abbrev pub imported_value : Option ExternalKey → Maybe ExternalKey
imported_value None = none
imported_value (Some key) = some key

-- "When a read in this call leaves the block's own range fully read and history is nonempty, position and "to" become
-- the last imported entry's id and message count."
unfoldable pub settled : Fixed → ExternalsRangeReaderState → ExternalsRangeReaderState
settled x r = pick (r.fully_read && is_own x r.seqno) (moved_to_end x.imported r) r

unfoldable pub sums : List ℕ → List ℕ → List ℕ
sums a b = each 8 (λ i. get_or a i 0 + get_or b i 0)

-- "The call answers the counts, summed."
abbrev pub counts_added : ReadCounts → ReadCounts → ReadCounts
counts_added a b = record { read = sums a.read b.read; expired = sums a.expired b.expired; buffered = sums a.buffered b.buffered }

-- "The saved last chain time changes only if the last range read saw one."
abbrev pub time_saved : Option ChainTime → Option ChainTime → Option ChainTime
time_saved None saved = saved
time_saved (Some time) saved = Some time

-- the free places that the last range read reported, or none
abbrev pub free_value : Option ℕ → Maybe ℕ
free_value None = none
free_value (Some n) = some n

-- what one range's read answers, but for the transaction
pub record Told : Type 0 where
  pub number : ℕ
  pub free : ℕ
  pub pops : ℕ
  pub used : ℕ
  pub last : Option ChainTime
  pub counts : ReadCounts
  pub range : ExternalsRangeReaderState

-- a refusal gives only the number
abbrev pub numbered : ℕ → SoFar → SoFar
numbered n s = record { number = n; pops = s.pops; used = s.used; all_read = s.all_read; stopped = s.stopped; free = s.free; last = s.last; counts = s.counts }

abbrev pub not_all_read : SoFar → SoFar
not_all_read s = record { number = s.number; pops = s.pops; used = s.used; all_read = false; stopped = s.stopped; free = s.free; last = s.last; counts = s.counts }

-- "A full buffer in a range not fully read ends the call." The number of free places is that of the last range read.
abbrev pub added : SoFar → Told → SoFar
added s a =
    record {
      number = 0;
      pops = s.pops + a.pops;
      used = s.used + a.used;
      all_read = s.all_read && a.range.fully_read;
      stopped = eqb a.free 0 && not a.range.fully_read;
      free = Some a.free;
      last = a.last;
      counts = counts_added s.counts a.counts;
    }

abbrev pub read_of : SoFar → List ExternalsRangeReaderState → ℕ → RangesRead
read_of s ranges len = record { so_far = s; ranges = ranges; len = len }

unfoldable pub after_turn : Fixed → ℕ → RangesRead → Told → RangesRead
after_turn x i r a =
    pick (eqb a.number 0)
    (read_of (added r.so_far a) (set r.ranges i (settled x a.range)) r.len)
    (read_of (numbered a.number r.so_far) r.ranges r.len)

-- how one range is read: after so many pops, in a mode, from the range as it is, with so many output bytes left
abbrev pub OneRange : Type 0
OneRange = ℕ → ReadNextExternalsMode → ExternalsRangeReaderState → ℕ → Outcome Told

abbrev pub read_turn : OneRange → Fixed → ℕ → RangesRead → ExternalsRangeReaderState → Outcome RangesRead
read_turn one x i r range =
    let s = one r.so_far.pops (mode_for x range.seqno) range (x.room - r.so_far.used) in
    record { value = after_turn x i r s.value; entries = s.entries }

-- range i: a fully read one is passed, a skipped one leaves not all read
unfoldable pub turn : OneRange → Fixed → ℕ → RangesRead → Outcome RangesRead
turn one x i r =
    let range = get_or r.ranges i no_range in
    pick range.fully_read (silent r) (pick (is_skipped x range) (silent (read_of (not_all_read r.so_far) r.ranges r.len)) (read_turn one x i r range))

abbrev pub is_over : RangesRead → Bool
is_over r = not (eqb r.so_far.number 0) || r.so_far.stopped

-- "Ranges go by seqno": n of them from the i-th on
unfoldable pub turns : OneRange → Fixed → ℕ → ℕ → Outcome RangesRead → Outcome RangesRead
turns one x zero i s = s
turns one x (suc n) i s = pick (is_over s.value) s (turns one x n (i + 1) (followed s (turn one x i s.value)))

-- ---- all ranges
unfoldable pub with_next_range : Fixed → RangesRead → RangesRead
with_next_range x r =
    read_of r.so_far
    (set r.ranges r.len (next_range x.block_seqno x.next_chain_time x.by_partitions r.ranges r.len))
    (r.len + 1)

abbrev pub next_turn : OneRange → Fixed → Outcome RangesRead → Outcome RangesRead
next_turn one x s = pick (wants_next x s.value) (followed s (turn one x s.value.len (with_next_range x s.value))) s

-- every range in turn, then the next one if it is wanted; the mark becomes `all_read`
unfoldable pub ranges_read : OneRange → Fixed → RangesRead → Outcome RangesRead
ranges_read one x r = next_turn one x (turns one x r.len 0 (silent r))

-- ---- at entry
abbrev pub processed_of : ExternalsPartitionReaderState → ProcessedTo
processed_of p = record { key = p.processed_to; present = p.present }

abbrev pub fixed_of : ExternalsReader → GetNextMessageGroupMode → Option ExternalKey → ℕ → Fixed
fixed_of r mode end room =
    record {
      shard = r.for_shard_id;
      block_seqno = r.block_seqno;
      next_chain_time = r.next_chain_time;
      params = r.msgs_exec_params;
      limits = r.buffer_limits_by_partitions;
      mode = mode;
      by_partitions = r.reader_state.by_partitions;
      processed = map processed_of r.reader_state.by_partitions;
      imported = end;
      room = room;
    }

abbrev pub nothing_read : SoFar
nothing_read = record { number = 0; pops = 0; used = 0; all_read = true; stopped = false; free = None; last = None; counts = no_counts }

abbrev pub at_entry : ExternalsReaderState → RangesRead
at_entry s = read_of nothing_read s.ranges s.len
