-- Document 01's "All ranges", where it is easily misread: each law is a sentence of the paper.
use Rattle.std.proofs.lemmas.Bool.{or_left, or_right, or_from}
use Rattle.std.specs.Prelude.{Option, None, Some}
use Prim.Native.Nat.{ℕ, suc, ◌+◌, ◌-◌, ◌<◌}
use mathlib.Core.Path.{◌≡◌, refl, sym, ap, ◌∙◌}
use mathlib.Core.Bool.{Bool, true, false, not, ◌&&◌, ◌||◌}
use mathlib.Core.List.{List, [], ◌∷◌}
use mathlib.Core.Option.{none, some}
use native.Mathlib.Omega.{arith}
use lib.Dec.{eqb, ltb, leb}
use lib.ListN.{length, get_or, set}
use borrow.Author.Tests.{le-leb, eq-eqb, ne_eqb, eqb-true}
use Rattle.cache_rules.specs.Rules.{or_else}
use Rattle.rows.specs.Rows.{pick}
use Rattle.rows.proofs.Laws.{pick_yes, pick_no, no_here, no_later, yes_here, yes_later}
use Rattle.ext_types.specs.declared.ChainTime.{ChainTime}
use Rattle.ext_types.specs.declared.ExternalKey.{ExternalKey}
use Rattle.ext_types.specs.Keys.{key_equal}
use Rattle.messages_buffer.specs.declared.ExternalsPartitionRangeReaderState.{ExternalsPartitionRangeReaderState}
use Rattle.messages_buffer.specs.Fullness.{no_limit}
use Rattle.range_rules.specs.declared.ExternalsRangeReaderState.{ExternalsRangeReaderState}
use Rattle.range_rules.specs.declared.ReadCounts.{ReadCounts}
use Rattle.range_rules.specs.declared.ReadNextExternalsMode.TheVariants.{ToTheEnd, ToPreviuosReadTo}
use Rattle.range_rules.specs.Rules.{Outcome, silent, followed, no_key, time_value}
use Rattle.reader_rules.specs.declared.ExternalsPartitionReaderState.{ExternalsPartitionReaderState}
use Rattle.reader_rules.specs.declared.GetNextMessageGroupMode.TheVariants.{Continue, Refill}
use Rattle.reader_rules.specs.declared.Fixed.{Fixed}
use Rattle.reader_rules.specs.Turns.{SoFar, RangesRead}
use Rattle.reader_rules.specs.declared.ExternalsReaderState.{ExternalsReaderState}
use Rattle.reader_rules.specs.State.{no_range, no_reader_partition, with_fully_read, with_to_and_position, open_ranges_limit_of}
use Rattle.reader_rules.proofs.Each.{each_at, each_length}
use Rattle.reader_rules.specs.Rules.{with_default, partitions_entered, range_entered, ranges_entered, last_or, next_partition, next_range, continues, wants_next, reached, before_skip_offsets, is_own, waits, is_skipped, mode_for, moved_to_end, settled, Told, numbered, not_all_read, added, read_of, after_turn, sums, counts_added, OneRange, read_turn, turn, is_over, turns, with_next_range, at_entry, time_saved, free_value}

-- ---- `new`
pub a_partition_that_is_there_stays : (limit : ℕ) (p : ExternalsPartitionReaderState) → p.present ≡ true → with_default limit p ≡ p
unfolding with_default
a_partition_that_is_there_stays limit p e = pick_yes _ _ _ (ap (λ (b : Bool). b || eqb limit no_limit) e)

pub a_partition_without_a_limit_gets_no_record : (limit : ℕ) (p : ExternalsPartitionReaderState) → p.present ≡ false → eqb limit no_limit ≡ true → with_default limit p ≡ p
unfolding with_default
a_partition_without_a_limit_gets_no_record limit p e l = pick_yes _ _ _ (ap (λ (b : Bool). b || eqb limit no_limit) e ∙ l)

pub a_partition_with_a_limit_gets_a_record_at_the_first_key : (limit : ℕ) (p : ExternalsPartitionReaderState) → p.present ≡ false → eqb limit no_limit ≡ false
    → with_default limit p ≡ record { processed_to = no_key; curr_processed_offset = 0; present = true }
unfolding with_default
a_partition_with_a_limit_gets_a_record_at_the_first_key limit p e l = pick_no _ _ _ (or_from _ _ e l)

pub each_of_eight_partitions_is_entered_by_its_own_limit : (limits : List ℕ) (ps : List ExternalsPartitionReaderState) (i : ℕ) → i < 8
    → get_or (partitions_entered limits ps) i no_reader_partition ≡ with_default (get_or limits i 0) (get_or ps i no_reader_partition)
unfolding partitions_entered
each_of_eight_partitions_is_entered_by_its_own_limit limits ps i h = each_at 8 (λ j. with_default (get_or limits j 0) (get_or ps j no_reader_partition)) i no_reader_partition h

pub there_are_eight_partitions : (limits : List ℕ) (ps : List ExternalsPartitionReaderState) (a b : List ℕ) → (length (partitions_entered limits ps) ≡ 8) × (length (sums a b) ≡ 8)
unfolding partitions_entered sums
there_are_eight_partitions limits ps a b = (each_length 8 _, each_length 8 _)

pub a_range_is_fully_read_exactly_where_its_position_is_to : (r : ExternalsRangeReaderState) → (range_entered r).fully_read ≡ key_equal r.current_position r.to
a_range_is_fully_read_exactly_where_its_position_is_to r = refl

-- `new` changes the mark and nothing else of a range, and no slot behind the ranges
pub a_range_whose_mark_is_right_is_entered_as_it_is : (r : ExternalsRangeReaderState) → key_equal r.current_position r.to ≡ r.fully_read → range_entered r ≡ r
a_range_whose_mark_is_right_is_entered_as_it_is r e = ap (with_fully_read r) e

pub the_slots_behind_the_ranges_stay : (a b c : ExternalsRangeReaderState) → ranges_entered 2 (a ∷ b ∷ c ∷ []) ≡ range_entered a ∷ range_entered b ∷ c ∷ []
the_slots_behind_the_ranges_stay a b c = refl

-- ---- the next range
module _ (seqno : ℕ) (time : ChainTime) (parts : List ExternalsPartitionReaderState) (ranges : List ExternalsRangeReaderState) (k : ℕ) where
  pub the_next_range_begins_at_the_last_one's_to : (next_range seqno time parts ranges (suc k)).from ≡ (get_or ranges k no_range).to
  unfolding next_range
  the_next_range_begins_at_the_last_one's_to = refl

  pub the_next_range_has_the_block's_seqno_and_the_next_chain_time : (n : ℕ) → ((next_range seqno time parts ranges n).seqno ≡ seqno) × ((next_range seqno time parts ranges n).chain_time ≡ time)
  unfolding next_range
  the_next_range_has_the_block's_seqno_and_the_next_chain_time n = (refl, refl)

  pub the_next_range_stands_at_its_beginning_not_fully_read : (n : ℕ)
      → ((next_range seqno time parts ranges n).to ≡ (next_range seqno time parts ranges n).from) × ((next_range seqno time parts ranges n).current_position ≡ (next_range seqno time parts ranges n).from) × ((next_range seqno time parts ranges n).fully_read ≡ false)
  unfolding next_range
  the_next_range_stands_at_its_beginning_not_fully_read n = (refl, refl, refl)

  pub the_first_range_of_all_begins_at_the_first_key : (next_range seqno time parts ranges 0).from ≡ no_key
  unfolding next_range
  the_first_range_of_all_begins_at_the_first_key = refl

pub the_next_range_has_the_reader's_partitions_with_empty_buffers : (p : ExternalsPartitionReaderState) → ((next_partition p).count ≡ 0) × ((next_partition p).present ≡ p.present)
the_next_range_has_the_reader's_partitions_with_empty_buffers p = (refl, refl)

pub the_next_range's_offsets_are_the_current_ones : (p : ExternalsPartitionReaderState) → ((next_partition p).skip_offset ≡ p.curr_processed_offset) × ((next_partition p).processed_offset ≡ p.curr_processed_offset)
the_next_range's_offsets_are_the_current_ones p = (refl, refl)

module _ (x : Fixed) (r : RangesRead) where
  abbrev done : Bool
  done = eqb r.so_far.number 0

  abbrev all : Bool
  all = r.so_far.all_read

  abbrev settled_in : Bool
  settled_in = not x.params.new_is_some

  abbrev below : Bool
  below = not (leb (open_ranges_limit_of x.params) r.len)

  pub no_range_is_appended_after_a_refusal : 0 < r.so_far.number → wants_next x r ≡ false
  unfolding wants_next
  no_range_is_appended_after_a_refusal h = sym (no_here done _ (ne_eqb r.so_far.number 0 (λ (e : r.so_far.number ≡ 0). omega arith)))

  -- "(0 in an empty list)"
  pub in_an_empty_list_the_last_seqno_is_0 : last_or 0 (λ q. q.seqno) 0 r.ranges ≡ 0
  in_an_empty_list_the_last_seqno_is_0 = refl

  pub no_range_is_appended_where_one_is_not_fully_read : r.so_far.all_read ≡ false → wants_next x r ≡ false
  unfolding wants_next
  no_range_is_appended_where_one_is_not_fully_read e = sym (no_later done _ (sym (no_here all _ e)))

  pub no_range_is_appended_in_refill : x.mode ≡ Refill → wants_next x r ≡ false
  unfolding wants_next
  no_range_is_appended_in_refill e = sym (no_later done _ (sym (no_later all _ (sym (no_here (continues x.mode) _ (ap continues e))))))

  pub no_range_is_appended_while_new_settings_wait : x.params.new_is_some ≡ true → wants_next x r ≡ false
  unfolding wants_next
  no_range_is_appended_while_new_settings_wait e = sym (no_later done _ (sym (no_later all _ (sym (no_later (continues x.mode) _ (sym (no_here settled_in _ (ap not e))))))))

  pub no_range_is_appended_at_the_open_ranges_limit : leb (open_ranges_limit_of x.params) r.len ≡ true → wants_next x r ≡ false
  unfolding wants_next
  no_range_is_appended_at_the_open_ranges_limit e = sym (no_later done _ (sym (no_later all _ (sym (no_later (continues x.mode) _ (sym (no_later settled_in _ (sym (no_here below _ (ap not e))))))))))

  pub no_range_is_appended_once_the_last_is_the_block's : ltb (last_or 0 (λ q. q.seqno) r.len r.ranges) x.block_seqno ≡ false → wants_next x r ≡ false
  unfolding wants_next
  no_range_is_appended_once_the_last_is_the_block's e = sym (no_later done _ (sym (no_later all _ (sym (no_later (continues x.mode) _ (sym (no_later settled_in _ (sym (no_later below _ e)))))))))

  pub a_range_is_appended_where_nothing_speaks_against_it : r.so_far.number ≡ 0 → r.so_far.all_read ≡ true → x.mode ≡ Continue → x.params.new_is_some ≡ false
      → leb (open_ranges_limit_of x.params) r.len ≡ false → ltb (last_or 0 (λ q. q.seqno) r.len r.ranges) x.block_seqno ≡ true → wants_next x r ≡ true
  unfolding wants_next
  a_range_is_appended_where_nothing_speaks_against_it n a m s l e =
      sym (yes_here done _ true (ap (λ (k : ℕ). eqb k 0) n) (yes_here all _ true a (yes_here (continues x.mode) _ true (ap continues m) (yes_here settled_in _ true (ap not s) (yes_here below _ true (ap not l) (sym e))))))

-- ---- which ranges are read, and how
pub a_range_whose_skip_offset_is_the_current_one_is_reached : (p : ExternalsPartitionReaderState) (q : ExternalsPartitionRangeReaderState) → p.present ≡ true → q.present ≡ true → q.skip_offset ≡ p.curr_processed_offset → reached p q ≡ true
a_range_whose_skip_offset_is_the_current_one_is_reached p q a b e =
    ap (λ (c : Bool). c && leb (pick q.present q.skip_offset 0) p.curr_processed_offset) a
    ∙ (ap (λ (c : Bool). leb (pick c q.skip_offset 0) p.curr_processed_offset) b ∙ le-leb q.skip_offset p.curr_processed_offset (omega arith))

module _ (p : ExternalsPartitionReaderState) (q : ExternalsPartitionRangeReaderState) where
  -- "0 if missing"
  pub a_missing_skip_offset_is_always_reached : p.present ≡ true → q.present ≡ false → reached p q ≡ true
  a_missing_skip_offset_is_always_reached a b =
      ap (λ (c : Bool). c && leb (pick q.present q.skip_offset 0) p.curr_processed_offset) a
      ∙ (ap (λ (c : Bool). leb (pick c q.skip_offset 0) p.curr_processed_offset) b ∙ le-leb 0 p.curr_processed_offset (omega arith))

  pub a_partition_that_the_reader_lacks_reaches_nothing : p.present ≡ false → reached p q ≡ false
  a_partition_that_the_reader_lacks_reaches_nothing a = sym (no_here p.present _ a)

  module _ (ps : List ExternalsPartitionReaderState) (qs : List ExternalsPartitionRangeReaderState) where
    pub one_partition_that_reaches_it_is_enough : reached p q ≡ true → before_skip_offsets (p ∷ ps) (q ∷ qs) ≡ false
    unfolding before_skip_offsets
    one_partition_that_reaches_it_is_enough e = sym (no_here (not (reached p q)) _ (ap not e))

    pub else_the_others_decide : reached p q ≡ false → before_skip_offsets (p ∷ ps) (q ∷ qs) ≡ before_skip_offsets ps qs
    unfolding before_skip_offsets
    else_the_others_decide e = ap (λ (b : Bool). not b && before_skip_offsets ps qs) e

pub where_no_partition_reaches_it_a_range_is_skipped : (ps : List ExternalsPartitionReaderState) (qs : List ExternalsPartitionRangeReaderState) → (before_skip_offsets [] qs ≡ true) × (before_skip_offsets ps [] ≡ true)
unfolding before_skip_offsets
where_no_partition_reaches_it_a_range_is_skipped [] qs = (refl, refl)
where_no_partition_reaches_it_a_range_is_skipped (p ∷ ps) qs = (refl, refl)

pub the_block's_own_range_is_that_of_its_seqno_alone : (x : Fixed) (seqno : ℕ) → (is_own x x.block_seqno ≡ true) × (is_own x seqno ≡ true → seqno ≡ x.block_seqno)
the_block's_own_range_is_that_of_its_seqno_alone x seqno = (eq-eqb x.block_seqno _ refl, λ e. eqb-true seqno x.block_seqno e)

module _ (x : Fixed) (range : ExternalsRangeReaderState) where
  pub in_continue_a_range_is_skipped_for_its_offsets_alone : x.mode ≡ Continue → is_skipped x range ≡ before_skip_offsets x.by_partitions range.by_partitions
  unfolding is_skipped
  in_continue_a_range_is_skipped_for_its_offsets_alone e = ap (λ m. waits m (is_own x range.seqno) || before_skip_offsets x.by_partitions range.by_partitions) e

  pub in_refill_the_block's_own_range_is_skipped : x.mode ≡ Refill → is_own x range.seqno ≡ true → is_skipped x range ≡ true
  unfolding is_skipped
  in_refill_the_block's_own_range_is_skipped e o = or_left (waits x.mode (is_own x range.seqno)) _ (ap (λ m. waits m (is_own x range.seqno)) e ∙ o)

  pub the_block's_own_range_is_read_to_the_end : is_own x range.seqno ≡ true → mode_for x range.seqno ≡ ToTheEnd
  unfolding mode_for
  the_block's_own_range_is_read_to_the_end o = pick_yes _ _ _ o

  pub other_ranges_are_read_to_their_saved_end : is_own x range.seqno ≡ false → mode_for x range.seqno ≡ ToPreviuosReadTo
  unfolding mode_for
  other_ranges_are_read_to_their_saved_end o = pick_no _ _ _ o

  pub no_other_range_is_moved : is_own x range.seqno ≡ false → settled x range ≡ range
  unfolding settled
  no_other_range_is_moved o = pick_no _ _ _ (sym (no_later range.fully_read _ o))

  pub no_range_is_moved_before_it_is_fully_read : range.fully_read ≡ false → settled x range ≡ range
  unfolding settled
  no_range_is_moved_before_it_is_fully_read f = pick_no _ _ _ (ap (λ (b : Bool). b && is_own x range.seqno) f)

  -- the last imported entry's place, larger or not
  pub the_block's_own_range_fully_read_stands_at_the_last_imported_entry : (key : ExternalKey) → range.fully_read ≡ true → is_own x range.seqno ≡ true → x.imported ≡ Some key
      → ((settled x range).current_position ≡ key) × ((settled x range).to ≡ key)
  unfolding settled
  the_block's_own_range_fully_read_stands_at_the_last_imported_entry key f o e =
      let h : settled x range ≡ moved_to_end (Some key) range = pick_yes _ _ _ (ap (λ (b : Bool). b && is_own x range.seqno) f ∙ o) ∙ ap (λ i. moved_to_end i range) e in
      (ap (λ (q : ExternalsRangeReaderState). q.current_position) h, ap (λ (q : ExternalsRangeReaderState). q.to) h)

pub a_range_that_stands_at_the_last_imported_entry_stays_as_it_is : (key : ExternalKey) (r : ExternalsRangeReaderState) → r.current_position ≡ key → r.to ≡ key → moved_to_end (Some key) r ≡ r
a_range_that_stands_at_the_last_imported_entry_stays_as_it_is key r p t = ap (λ (k : ExternalKey). with_to_and_position r key k) (sym p) ∙ ap (λ (k : ExternalKey). with_to_and_position r k r.current_position) (sym t)

-- ---- what a turn comes to
-- at entry nothing is popped, written, counted or reported, and no range is yet known not to be read
pub before_the_first_turn_all_counts_as_read : (s : ExternalsReaderState)
    → ((at_entry s).so_far.number ≡ 0) × ((at_entry s).so_far.pops ≡ 0) × ((at_entry s).so_far.used ≡ 0) × ((at_entry s).so_far.all_read ≡ true) × ((at_entry s).so_far.stopped ≡ false) × (free_value (at_entry s).so_far.free ≡ none)
before_the_first_turn_all_counts_as_read s = (refl, refl, refl, refl, refl, refl)

-- and where that is known already, nothing
pub a_skipped_range_changes_only_whether_all_are_read : (s : SoFar) → ((not_all_read s).all_read ≡ false) × (s.all_read ≡ false → not_all_read s ≡ s)
a_skipped_range_changes_only_whether_all_are_read s = (refl, λ e. ap said (sym e))
  where
    said : Bool → SoFar
    said b = record { number = s.number; pops = s.pops; used = s.used; all_read = b; stopped = s.stopped; free = s.free; last = s.last; counts = s.counts }

module _ (s : SoFar) (a : Told) where
  pub a_full_buffer_in_a_range_fully_read_does_not_end_the_call : a.range.fully_read ≡ true → (added s a).stopped ≡ false
  a_full_buffer_in_a_range_fully_read_does_not_end_the_call e = sym (no_later (eqb a.free 0) _ (ap not e))

  pub a_full_buffer_in_a_range_not_fully_read_ends_the_call : a.free ≡ 0 → a.range.fully_read ≡ false → (added s a).stopped ≡ true
  a_full_buffer_in_a_range_not_fully_read_ends_the_call f e = ap (λ (b : Bool). b && not a.range.fully_read) (eq-eqb a.free 0 f) ∙ ap not e

  -- and only a full one does
  pub a_range_with_a_place_free_does_not_end_the_call : (a.free ≡ 0 → ⊥) → (added s a).stopped ≡ false
  a_range_with_a_place_free_does_not_end_the_call f = ap (λ (b : Bool). b && not a.range.fully_read) (ne_eqb a.free 0 f)

  pub a_range_read_tells_its_own_free_places : free_value (added s a).free ≡ some a.free
  a_range_read_tells_its_own_free_places = refl

  pub the_last_chain_time_is_that_of_the_last_range_read : (added s a).last ≡ a.last
  the_last_chain_time_is_that_of_the_last_range_read = refl

  pub a_turn_that_is_not_refused_has_number_0 : (added s a).number ≡ 0
  a_turn_that_is_not_refused_has_number_0 = refl

  pub the_bytes_of_the_ranges_are_summed : (added s a).used ≡ s.used + a.used
  the_bytes_of_the_ranges_are_summed = refl

  pub one_range_not_fully_read_leaves_not_all_read : a.range.fully_read ≡ false → (added s a).all_read ≡ false
  one_range_not_fully_read_leaves_not_all_read e = sym (no_later s.all_read _ e)

  pub a_range_fully_read_leaves_it_to_the_others : a.range.fully_read ≡ true → (added s a).all_read ≡ s.all_read
  a_range_fully_read_leaves_it_to_the_others e = sym (yes_later s.all_read _ e)

  pub every_range's_pops_are_summed : (added s a).pops ≡ s.pops + a.pops
  every_range's_pops_are_summed = refl

module _ (x : Fixed) (i : ℕ) (r : RangesRead) (a : Told) (e : eqb a.number 0 ≡ false) where
  abbrev after : RangesRead
  after = after_turn x i r a

  pub a_refused_range's_number_is_the_call's : after.so_far.number ≡ a.number
  unfolding after_turn
  a_refused_range's_number_is_the_call's = rw e

  pub a_refused_range_leaves_what_the_turns_before_came_to : (after.so_far.pops ≡ r.so_far.pops) × ((after.so_far.used ≡ r.so_far.used) × ((after.so_far.counts ≡ r.so_far.counts) × (after.ranges ≡ r.ranges)))
  unfolding after_turn
  a_refused_range_leaves_what_the_turns_before_came_to = rw e (refl, (refl, (refl, refl)))

pub a_refusal_gives_only_the_number : (s : SoFar) → numbered s.number s ≡ s
a_refusal_gives_only_the_number s = refl

-- "When a read in this call leaves .."
pub a_range_read_goes_back_to_its_place_settled : (x : Fixed) (i : ℕ) (r : RangesRead) (a : Told) → a.number ≡ 0 → (after_turn x i r a).ranges ≡ set r.ranges i (settled x a.range)
unfolding after_turn
a_range_read_goes_back_to_its_place_settled x i r a e = ap (λ (q : RangesRead). q.ranges) (pick_yes _ _ _ (eq-eqb a.number 0 e))

module _ (one : OneRange) (x : Fixed) (n i : ℕ) (s : Outcome RangesRead) where
  pub no_range_is_read_after_a_refusal : 0 < s.value.so_far.number → turns one x (suc n) i s ≡ s
  unfolding turns
  no_range_is_read_after_a_refusal h = pick_yes _ _ _ (or_left _ s.value.so_far.stopped (ap not (ne_eqb s.value.so_far.number 0 (λ (e : s.value.so_far.number ≡ 0). omega arith))))

  pub no_range_is_read_after_one_that_stopped_the_call : s.value.so_far.stopped ≡ true → turns one x (suc n) i s ≡ s
  unfolding turns
  no_range_is_read_after_one_that_stopped_the_call e = pick_yes (is_over s.value) _ _ (or_right (not (eqb s.value.so_far.number 0)) _ e)

  pub else_the_next_range_has_its_turn : s.value.so_far.number ≡ 0 → s.value.so_far.stopped ≡ false → turns one x (suc n) i s ≡ turns one x n (i + 1) (followed s (turn one x i s.value))
  unfolding turns
  else_the_next_range_has_its_turn e f = pick_no _ _ _ (or_from _ _ (ap (λ (m : ℕ). not (eqb m 0)) e) f)

-- the range appended is the one behind the last
pub an_appended_range_is_the_last : (x : Fixed) (r : RangesRead) → (with_next_range x r).len ≡ r.len + 1
unfolding with_next_range
an_appended_range_is_the_last x r = refl

module _ (one : OneRange) (x : Fixed) (i : ℕ) (r : RangesRead) where
  -- behind the pops and the bytes of the turns before
  pub a_range_goes_on_from_the_pops_and_bytes_so_far : (range : ExternalsRangeReaderState)
      → (read_turn one x i r range).entries ≡ (one r.so_far.pops (mode_for x range.seqno) range (x.room - r.so_far.used)).entries
  a_range_goes_on_from_the_pops_and_bytes_so_far range = refl

  pub a_fully_read_range_is_passed : (get_or r.ranges i no_range).fully_read ≡ true → turn one x i r ≡ silent r
  unfolding turn
  a_fully_read_range_is_passed e = pick_yes _ _ _ e

  pub a_skipped_range_leaves_not_all_read : (get_or r.ranges i no_range).fully_read ≡ false → is_skipped x (get_or r.ranges i no_range) ≡ true → turn one x i r ≡ silent (read_of (not_all_read r.so_far) r.ranges r.len)
  unfolding turn
  a_skipped_range_leaves_not_all_read e k = pick_no _ _ _ e ∙ pick_yes _ _ _ k

  pub any_other_range_is_read : (get_or r.ranges i no_range).fully_read ≡ false → is_skipped x (get_or r.ranges i no_range) ≡ false → turn one x i r ≡ read_turn one x i r (get_or r.ranges i no_range)
  unfolding turn
  any_other_range_is_read e k = pick_no _ _ _ e ∙ pick_no _ _ _ k

-- "The call answers the counts, summed."
module _ (a b : ReadCounts) (p : ℕ) (few : p < 8) where
  pub the_counts_of_the_ranges_are_summed : (get_or (counts_added a b).read p 0 ≡ get_or a.read p 0 + get_or b.read p 0)
      × ((get_or (counts_added a b).expired p 0 ≡ get_or a.expired p 0 + get_or b.expired p 0) × (get_or (counts_added a b).buffered p 0 ≡ get_or a.buffered p 0 + get_or b.buffered p 0))
  unfolding sums
  the_counts_of_the_ranges_are_summed = (
    each_at 8 (λ j. get_or a.read j 0 + get_or b.read j 0) p 0 few,
    (each_at 8 (λ j. get_or a.expired j 0 + get_or b.expired j 0) p 0 few, each_at 8 (λ j. get_or a.buffered j 0 + get_or b.buffered j 0) p 0 few),
  )

-- ---- the saved last chain time
pub the_saved_last_chain_time_changes_only_if_one_was_seen : (saved : Option ChainTime) → time_saved None saved ≡ saved
the_saved_last_chain_time_changes_only_if_one_was_seen saved = refl

pub a_seen_chain_time_is_saved : (time : ChainTime) (saved : Option ChainTime) → time_saved (Some time) saved ≡ Some time
a_seen_chain_time_is_saved time saved = refl

-- in the paper's values: the time that was seen, else the one saved before
pub the_saved_time_is_the_one_seen_else_the_one_before : (seen saved : Option ChainTime) → time_value (time_saved seen saved) ≡ or_else (time_value seen) (time_value saved)
the_saved_time_is_the_one_seen_else_the_one_before None saved = refl
the_saved_time_is_the_one_seen_else_the_one_before (Some time) saved = refl
