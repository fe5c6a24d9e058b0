-- "Offsets": what each change of a record, a range or the reader sets, and that it sets nothing else. A change to what
-- is there already leaves the whole as it is.
use Rattle.std.proofs.lemmas.Bool.{or_left}
use Prim.Native.Nat.{ℕ, ◌≤◌, ◌<◌}
use mathlib.Core.Path.{◌≡◌, refl, sym, ap}
use mathlib.Core.Bool.{Bool, true, false, ◌||◌}
use mathlib.Core.List.{List}
use lib.Dec.{ltb}
use lib.ListN.{length, drop}
use lib.Seq.{set-get_or, take_at, drop_at}
use borrow.Author.Tests.{le-leb, lt-leb, lt-ltb, le-ltb}
use Rattle.rows.proofs.Laws.{pick_yes, pick_no, no_here, no_later, yes_here}
use Rattle.ext_types.specs.declared.ExternalKey.{ExternalKey}
use Rattle.ext_types.specs.Keys.{key_equal}
use Rattle.messages_buffer.specs.declared.ExternalsPartitionRangeReaderState.{ExternalsPartitionRangeReaderState}
use Rattle.range_rules.specs.declared.ExternalsRangeReaderState.{ExternalsRangeReaderState}
use Rattle.reader_rules.specs.declared.ExternalsPartitionReaderState.{ExternalsPartitionReaderState}
use Rattle.reader_rules.specs.declared.ExternalsReader.{ExternalsReader}
use Rattle.reader_rules.specs.State.{held_ranges, no_reader_partition, with_fully_read, with_state}
use Rattle.reader_rules.specs.Offsets.{with_offsets, with_count, dropped, skip_raised, offset_raised, with_offset, with_processed_to, with_records, from_position, marked, raised_range, with_ranges, with_held, on_partition}
use Rattle.reader_rules.proofs.Each.{each_length}

-- ---- a record
module _ (x : ExternalsPartitionRangeReaderState) where
  pub a_record_set_to_what_it_holds_stays : (with_offsets x.skip_offset x.processed_offset x ≡ x) × (with_count x.count x ≡ x)
  a_record_set_to_what_it_holds_stays = (refl, refl)

  pub a_drop_sets_the_processed_offset_to_0_and_the_skip_offset_only_if_told : (dropped true x ≡ with_offsets 0 0 x) × (dropped false x ≡ with_offsets x.skip_offset 0 x)
  a_drop_sets_the_processed_offset_to_0_and_the_skip_offset_only_if_told = (refl, refl)

  module _ (offset : ℕ) where
    pub an_offset_not_above_the_processed_one_changes_nothing : offset ≤ x.processed_offset → skip_raised offset x ≡ x
    an_offset_not_above_the_processed_one_changes_nothing h = pick_yes _ _ _ (le-leb offset x.processed_offset h)

    pub a_greater_offset_becomes_both : x.processed_offset < offset → skip_raised offset x ≡ with_offsets offset offset x
    a_greater_offset_becomes_both h = pick_no _ _ _ (lt-leb offset x.processed_offset h)

  module _ (p : ExternalsPartitionReaderState) (greatest : ℕ) where
    abbrev above : Bool
    above = ltb greatest p.curr_processed_offset

    pub finalize_takes_over_a_current_offset_above_the_greatest : p.present ≡ true → greatest < p.curr_processed_offset → offset_raised p greatest x ≡ with_offsets x.skip_offset p.curr_processed_offset x
    finalize_takes_over_a_current_offset_above_the_greatest e h = pick_yes _ _ _ (sym (yes_here p.present above true e (sym (lt-ltb greatest p.curr_processed_offset h))))

    pub finalize_takes_over_no_other : p.curr_processed_offset ≤ greatest → offset_raised p greatest x ≡ x
    finalize_takes_over_no_other h = pick_no _ _ _ (sym (no_later p.present above (le-ltb greatest p.curr_processed_offset h)))

    pub finalize_takes_nothing_over_from_a_missing_partition : p.present ≡ false → offset_raised p greatest x ≡ x
    finalize_takes_nothing_over_from_a_missing_partition e = pick_no _ _ _ (sym (no_here p.present above e))

pub the_reader's_record_set_to_what_it_holds_stays : (p : ExternalsPartitionReaderState) → (with_offset p.curr_processed_offset p ≡ p) × (with_processed_to p.processed_to p ≡ p)
the_reader's_record_set_to_what_it_holds_stays p = (refl, refl)

-- ---- a range
module _ (r : ExternalsRangeReaderState) where
  pub a_range_with_its_own_records_stays : with_records r.by_partitions r ≡ r
  a_range_with_its_own_records_stays = refl

  pub the_range_begins_where_it_stands : (from_position r).from ≡ r.current_position
  the_range_begins_where_it_stands = refl

  pub a_range_that_begins_where_it_stands_stays : r.from ≡ r.current_position → from_position r ≡ r
  a_range_that_begins_where_it_stands_stays e = ap begun (sym e)
    where
      begun : ExternalKey → ExternalsRangeReaderState
      begun from =
          record {
            seqno = r.seqno;
            from = from;
            to = r.to;
            current_position = r.current_position;
            chain_time = r.chain_time;
            fully_read = r.fully_read;
            by_partitions = r.by_partitions;
          }

  pub finalize_marks_a_range_at_its_end : key_equal r.current_position r.to ≡ true → (marked r).fully_read ≡ true
  finalize_marks_a_range_at_its_end e = or_left _ r.fully_read e

  pub finalize_leaves_a_range_that_is_not_at_its_end : key_equal r.current_position r.to ≡ false → marked r ≡ r
  finalize_leaves_a_range_that_is_not_at_its_end e = ap (λ (b : Bool). with_fully_read r (b || r.fully_read)) e

  pub a_finalized_range_has_eight_records : (ps : List ExternalsPartitionReaderState) (l : List ExternalsRangeReaderState) → length (raised_range ps l r).by_partitions ≡ 8
  a_finalized_range_has_eight_records ps l = each_length 8 _

-- ---- the reader
module _ (s : ExternalsReader) where
  abbrev slots : List ExternalsRangeReaderState
  slots = s.reader_state.ranges

  pub a_reader_with_its_own_ranges_stays : with_ranges slots s.reader_state.len s ≡ s
  a_reader_with_its_own_ranges_stays = refl

  pub a_reader_with_its_own_partition_stays : (i : ℕ) → on_partition i (λ p. p) s ≡ s
  a_reader_with_its_own_partition_stays i = ap held (set-get_or s.reader_state.by_partitions i no_reader_partition)
    where
      held : List ExternalsPartitionReaderState → ExternalsReader
      held ps = with_state s (record { ranges = slots; len = s.reader_state.len; by_partitions = ps; last_read_to_anchor_chain_time = s.reader_state.last_read_to_anchor_chain_time })

  module _ (l : List ExternalsRangeReaderState) where
    pub the_ranges_put_are_the_ranges_held : held_ranges (with_held l s).reader_state ≡ l
    the_ranges_put_are_the_ranges_held = take_at l (drop (length l) slots) (length l) refl

    pub the_slots_behind_the_ranges_put_stay : drop (length l) (with_held l s).reader_state.ranges ≡ drop (length l) slots
    the_slots_behind_the_ranges_put_stay = drop_at l (drop (length l) slots) (length l) refl
