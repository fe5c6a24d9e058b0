-- Document 01's "Offsets", and the questions about buffers and ranges, on the list of the ranges that a reader holds.
use Rattle.std.specs.Prelude.{ℕ, zero, suc, ◌+◌, ◌-◌, Bool, true, false, not, ◌&&◌, ◌||◌, List, [], ◌∷◌, ◌++◌, map, leb, ltb, eqb, length, get_or, set, drop}
use Rattle.rows.specs.Rows.{pick}
use Rattle.ext_types.specs.declared.ExternalKey.{ExternalKey}
use Rattle.ext_types.specs.Keys.{key_equal}
use Rattle.messages_buffer.specs.declared.ExternalsPartitionRangeReaderState.{ExternalsPartitionRangeReaderState}
use Rattle.messages_buffer.specs.Fullness.{every, no_partition}
use Rattle.range_rules.specs.declared.ExternalsRangeReaderState.{ExternalsRangeReaderState}
use Rattle.reader_rules.specs.declared.ExternalsPartitionReaderState.{ExternalsPartitionReaderState}
use Rattle.reader_rules.specs.declared.ExternalsReader.{ExternalsReader}
use Rattle.reader_rules.specs.Each.{each}
use Rattle.reader_rules.specs.State.{no_range, no_reader_partition, with_fully_read, with_state}
use Rattle.reader_rules.specs.declared.PartitionTest.{PartitionTest}
use Rattle.reader_rules.specs.declared.PartitionTest.TheVariants.{InRange, InReader, Unprocessed, Empty, Reached, Collected}
use Rattle.reader_rules.specs.declared.Tally.{Tally}

-- ---- a partition's records; one above 7 is absent
abbrev pub reader_partition : ℕ → List ExternalsPartitionReaderState → ExternalsPartitionReaderState
reader_partition i ps = get_or ps i no_reader_partition

abbrev pub record_at : ℕ → List ExternalsPartitionRangeReaderState → ExternalsPartitionRangeReaderState
record_at i xs = get_or xs i no_partition

abbrev pub record_of : ℕ → ExternalsRangeReaderState → ExternalsPartitionRangeReaderState
record_of i r = record_at i r.by_partitions

-- ---- places of the list
abbrev pub range_at : ℕ → List ExternalsRangeReaderState → ExternalsRangeReaderState
range_at i l = get_or l i no_range

-- without a range, none: every partition is absent in it
abbrev pub last_range : List ExternalsRangeReaderState → ExternalsRangeReaderState
last_range l = range_at (length l - 1) l

-- the last range alone, if there is one
abbrev pub last_only : List ExternalsRangeReaderState → List ExternalsRangeReaderState
last_only l = drop (length l - 1) l

-- the place of the range with this seqno; past the end where there is none
unfoldable pub place_of : ℕ → List ExternalsRangeReaderState → ℕ
place_of seqno [] = 0
place_of seqno (r ∷ l) = pick (eqb r.seqno seqno) 0 (suc (place_of seqno l))

abbrev pub on_place : ℕ → (ExternalsRangeReaderState → ExternalsRangeReaderState) → List ExternalsRangeReaderState → List ExternalsRangeReaderState
on_place i f l = set l i (f (range_at i l))

abbrev pub on_last : (ExternalsRangeReaderState → ExternalsRangeReaderState) → List ExternalsRangeReaderState → List ExternalsRangeReaderState
on_last f l = on_place (length l - 1) f l

-- ---- tests of a partition
-- nothing in the buffer, and the current offset (0 if missing) not below the range's skip offset
abbrev pub collected : ExternalsPartitionReaderState → ExternalsPartitionRangeReaderState → Bool
collected p x = not x.present || (eqb x.count 0 && leb x.skip_offset (pick p.present p.curr_processed_offset 0))

unfoldable pub meets : PartitionTest → ExternalsPartitionReaderState → ExternalsPartitionRangeReaderState → Bool
meets InRange p x = not p.present || x.present
meets InReader p x = not x.present || p.present
meets Unprocessed p x = not x.present || eqb x.processed_offset 0
meets Empty p x = not x.present || eqb x.count 0
meets Reached p x = not x.present || leb x.processed_offset p.curr_processed_offset
meets Collected p x = collected p x

-- a test of each of 0, 1, .. below n
unfoldable pub all_below : ℕ → (ℕ → Bool) → Bool
all_below zero f = true
all_below (suc n) f = all_below n f && f n

abbrev pub partitions_meet : PartitionTest → List ExternalsPartitionReaderState → List ExternalsPartitionRangeReaderState → Bool
partitions_meet test ps xs = all_below 8 (λ i. meets test (reader_partition i ps) (record_at i xs))

abbrev pub range_meets : PartitionTest → List ExternalsPartitionReaderState → ExternalsRangeReaderState → Bool
range_meets test ps r = partitions_meet test ps r.by_partitions

abbrev pub ranges_meet : PartitionTest → List ExternalsPartitionReaderState → List ExternalsRangeReaderState → Bool
ranges_meet test ps l = every (range_meets test ps) l

abbrev pub all_fully_read : List ExternalsRangeReaderState → Bool
all_fully_read l = every (λ (r : ExternalsRangeReaderState). r.fully_read) l

-- ---- what ranges together hold of a partition
abbrev pub no_tally : Tally
no_tally = record { present = false; count = 0; processed = 0 }

abbrev pub larger : ℕ → ℕ → ℕ
larger a b = pick (leb b a) a b

abbrev pub tallied : Tally → ExternalsPartitionRangeReaderState → Tally
tallied t x = pick x.present (record { present = true; count = t.count + x.count; processed = larger t.processed x.processed_offset }) t

unfoldable pub tally_from : ℕ → Tally → List ExternalsRangeReaderState → Tally
tally_from i t [] = t
tally_from i t (r ∷ l) = tally_from i (tallied t (record_of i r)) l

-- whether any has it, the sum of its counts, and its greatest processed offset
abbrev pub tally_of : ℕ → List ExternalsRangeReaderState → Tally
tally_of i l = tally_from i no_tally l

abbrev pub shown : Bool → Tally → ℕ
shown offsets t = pick offsets t.processed t.count

-- a number for each partition that is present, and 0 for the others
pub record ByPartitions : Type 0 where
  pub number : ℕ
  pub values : List ℕ
  pub present : List Bool

-- the processed offsets, or the counts, by partitions
abbrev pub shown_by : Bool → List ExternalsRangeReaderState → ByPartitions
shown_by offsets l = record { number = 0; values = each 8 (λ i. shown offsets (tally_of i l)); present = each 8 (λ i. (tally_of i l).present) }

-- ---- changes of a record
abbrev pub with_offsets : ℕ → ℕ → ExternalsPartitionRangeReaderState → ExternalsPartitionRangeReaderState
with_offsets skip processed x = record { count = x.count; skip_offset = skip; processed_offset = processed; present = x.present }

abbrev pub with_count : ℕ → ExternalsPartitionRangeReaderState → ExternalsPartitionRangeReaderState
with_count count x = record { count = count; skip_offset = x.skip_offset; processed_offset = x.processed_offset; present = x.present }

abbrev pub dropped : Bool → ExternalsPartitionRangeReaderState → ExternalsPartitionRangeReaderState
dropped skip x = with_offsets (pick skip 0 x.skip_offset) 0 x

-- only a greater offset is set
abbrev pub skip_raised : ℕ → ExternalsPartitionRangeReaderState → ExternalsPartitionRangeReaderState
skip_raised offset x = pick (leb offset x.processed_offset) x (with_offsets offset offset x)

-- the current offset, where it is above the greatest processed one
abbrev pub offset_raised : ExternalsPartitionReaderState → ℕ → ExternalsPartitionRangeReaderState → ExternalsPartitionRangeReaderState
offset_raised p greatest x = pick (p.present && ltb greatest p.curr_processed_offset) (with_offsets x.skip_offset p.curr_processed_offset x) x

abbrev pub with_offset : ℕ → ExternalsPartitionReaderState → ExternalsPartitionReaderState
with_offset offset p = record { processed_to = p.processed_to; curr_processed_offset = offset; present = p.present }

abbrev pub with_processed_to : ExternalKey → ExternalsPartitionReaderState → ExternalsPartitionReaderState
with_processed_to key p = record { processed_to = key; curr_processed_offset = p.curr_processed_offset; present = p.present }

-- ---- changes of a range
abbrev pub with_records : List ExternalsPartitionRangeReaderState → ExternalsRangeReaderState → ExternalsRangeReaderState
with_records xs r =
    record {
      seqno = r.seqno;
      from = r.from;
      to = r.to;
      current_position = r.current_position;
      chain_time = r.chain_time;
      fully_read = r.fully_read;
      by_partitions = xs;
    }

abbrev pub with_record : ℕ → ExternalsPartitionRangeReaderState → ExternalsRangeReaderState → ExternalsRangeReaderState
with_record i x r = with_records (set r.by_partitions i x) r

abbrev pub on_record : ℕ → (ExternalsPartitionRangeReaderState → ExternalsPartitionRangeReaderState) → ExternalsRangeReaderState → ExternalsRangeReaderState
on_record i f r = with_record i (f (record_of i r)) r

abbrev pub from_position : ExternalsRangeReaderState → ExternalsRangeReaderState
from_position r =
    record {
      seqno = r.seqno;
      from = r.current_position;
      to = r.to;
      current_position = r.current_position;
      chain_time = r.chain_time;
      fully_read = r.fully_read;
      by_partitions = r.by_partitions;
    }

-- a range at its end is fully read; no mark is cleared
abbrev pub marked : ExternalsRangeReaderState → ExternalsRangeReaderState
marked r = with_fully_read r (key_equal r.current_position r.to || r.fully_read)

abbrev pub raised_range : List ExternalsPartitionReaderState → List ExternalsRangeReaderState → ExternalsRangeReaderState → ExternalsRangeReaderState
raised_range ps l r = with_records (each 8 (λ i. offset_raised (reader_partition i ps) (tally_of i l).processed (record_of i r))) r

-- Document 01: `finalize`
abbrev pub finalized : List ExternalsPartitionReaderState → List ExternalsRangeReaderState → List ExternalsRangeReaderState
finalized ps l = map marked (on_last (raised_range ps l) l)

-- ---- changes of a reader
-- other ranges in its table
abbrev pub with_ranges : List ExternalsRangeReaderState → ℕ → ExternalsReader → ExternalsReader
with_ranges ranges len s =
    with_state
    s
    (record {
      ranges = ranges;
      len = len;
      by_partitions = s.reader_state.by_partitions;
      last_read_to_anchor_chain_time = s.reader_state.last_read_to_anchor_chain_time;
    })

-- other ranges held, from the first slot on; the slots behind them stay
abbrev pub with_held : List ExternalsRangeReaderState → ExternalsReader → ExternalsReader
with_held l s = with_ranges (l ++ drop (length l) s.reader_state.ranges) (length l) s

abbrev pub with_partition : ℕ → ExternalsPartitionReaderState → ExternalsReader → ExternalsReader
with_partition i p s =
    with_state
    s
    (record {
      ranges = s.reader_state.ranges;
      len = s.reader_state.len;
      by_partitions = set s.reader_state.by_partitions i p;
      last_read_to_anchor_chain_time = s.reader_state.last_read_to_anchor_chain_time;
    })

abbrev pub on_partition : ℕ → (ExternalsPartitionReaderState → ExternalsPartitionReaderState) → ExternalsReader → ExternalsReader
on_partition i f s = with_partition i (f (reader_partition i s.reader_state.by_partitions)) s
