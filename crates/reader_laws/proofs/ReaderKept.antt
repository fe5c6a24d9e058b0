-- Question 5 of the reader is kept by every call that changes a reader: one law for the thirteen.
use Prim.Native.Nat.{ℕ, ◌+◌, ◌-◌, ◌≤◌, ◌<◌}
use mathlib.Core.Path.{◌≡◌, refl, sym, subst}
use mathlib.Core.Bool.{Bool, true}
use mathlib.Core.List.{List}
use native.Mathlib.Omega.{arith}
use lib.Dec.{eqb}
use borrow.Author.Tests.{eq-eqb}
use lib.ListN.{length, set, length-take, length-drop, length-set, length-map}
use Rattle.rows.proofs.Laws.{pick_both, pick_yes}
use Rattle.messages_buffer.specs.Fullness.{partitions_number}
use Rattle.messages_buffer.proofs.Laws.{first_zero}
use Rattle.anchors_cache.specs.declared.AnchorsCacheTransaction.{AnchorsCacheTransaction}
use Rattle.range_rules.specs.declared.ExternalsRangeReaderState.{ExternalsRangeReaderState}
use Rattle.reader_rules.specs.declared.ExternalsReaderState.{ExternalsReaderState}
use Rattle.reader_rules.specs.declared.ExternalsReader.{ExternalsReader}
use Rattle.reader_rules.specs.declared.GetNextMessageGroupMode.{GetNextMessageGroupMode}
use Rattle.reader_rules.specs.State.{max_ranges, sound_ranges_from, state_number, reader_number}
use Rattle.reader_rules.specs.Rules.{state_entered, next_range}
use Rattle.reader_rules.specs.Offsets.{range_at, record_of, reader_partition, last_only, place_of, on_place, on_record, with_count, dropped, skip_raised, from_position, marked, raised_range, finalized, with_held}
use Rattle.reader_rules.proofs.Kept.{next_fits, new_keeps_question_5, the_last_range_alone_answers_question_5, a_range_from_its_position_keeps_question_5, a_dropped_offset_keeps_question_5, a_raised_skip_offset_keeps_question_5, messages_taken_keep_question_5, finalize_keeps_question_5, held_behind, held_entered, last_seqno, a_range_above_the_last_keeps_question_5}
use Rattle.externals_reader.specs.Answers.{ReaderDone}
use Rattle.externals_reader.specs.Calls.{changed, new_call, reset_call, drop_last_call, set_limits_call, next_range_call, read_all_call, ReadAllResult}
use Rattle.externals_reader.proofs.Sound.{sound_parts}
use Rattle.reader_offsets.specs.Calls.{ranges_of, partitions_of, offset_refusal, finalize_call, retain_call, set_from_call, increment_call, drop_call, set_skip_call, set_processed_call, taken_call}
use Rattle.reader_laws.proofs.AllKept.{Shaped, answers_5, settled_five, asked_five, answered, a_read_of_all_keeps_question_5_of_its_reader}

-- ---- the calls that change a reader, with what else they take
pub data Change : Type 0 where
  new : Change
  reset_read_state : Change
  drop_last_read_to_anchor_chain_time : Change
  set_buffer_limits_by_partition : List ℕ → Change
  read_into_buffers : List ℕ → List ℕ → AnchorsCacheTransaction → List ℕ → GetNextMessageGroupMode → List ℕ → Change
  finalize : Change
  retain_only_last_range_state : Change
  set_from_to_current_position_in_last_range_state : Change
  increment_curr_processed_offset : ℕ → Change
  drop_processing_offset : ℕ → Bool → Change
  set_skip_processed_offset_to_current : ℕ → Change
  set_processed_to_current_position : ℕ → Change
  messages_taken : ℕ → ℕ → ℕ → Change

-- as the contracts say
abbrev pub called : Change → ExternalsReader → ReaderDone
called new r = new_call r
called reset_read_state r = reset_call r
called drop_last_read_to_anchor_chain_time r = drop_last_call r
called (set_buffer_limits_by_partition limits) r = set_limits_call r limits
called (read_into_buffers tables area t routes mode out) r =
    let a = (read_all_call tables area t routes r mode out).answer in record { number = a.number; reader = a.reader }
called finalize r = finalize_call r
called retain_only_last_range_state r = retain_call r
called set_from_to_current_position_in_last_range_state r = set_from_call r
called (increment_curr_processed_offset i) r = increment_call i r
called (drop_processing_offset i skip) r = drop_call i skip r
called (set_skip_processed_offset_to_current i) r = set_skip_call i r
called (set_processed_to_current_position i) r = set_processed_call i r
called (messages_taken seqno i taken) r = taken_call seqno i taken r

abbrev Five : ExternalsReader → Type 0
Five r = state_number r.reader_state ≡ 0

-- ---- what a call that answers 0 was asked
offset_asked : (r : ExternalsReader) (exists fits : Bool) → offset_refusal r exists fits ≡ 0 → Five r
unfolding offset_refusal
offset_asked r exists fits z = (first_zero _ _ z).0

new_asked : (r : ExternalsReader) → reader_number r ≡ 0 → Five r
unfolding reader_number
new_asked r z = settled_five r (first_zero _ _ (first_zero _ _ z).1).0

read_asked : (tables area : List ℕ) (t : AnchorsCacheTransaction) (routes : List ℕ) (r : ExternalsReader) (mode : GetNextMessageGroupMode) (out : List ℕ) → (read_all_call tables area t routes r mode out).answer.number ≡ 0 → Five r
read_asked tables area t routes r mode out =
    let P : ReadAllResult → Type 0 = λ d. d.answer.number ≡ 0 → Five r in
    let five = asked_five tables area t routes r in
    answered tables area t routes r mode out P (λ z m e. five z) (λ n z. absurd (n z)) (λ z m e. five z)

asked : (c : Change) (r : ExternalsReader) → (called c r).number ≡ 0 → Five r
unfolding new_call reset_call drop_last_call set_limits_call finalize_call retain_call set_from_call increment_call drop_call set_skip_call set_processed_call taken_call
asked new r z = new_asked r z
asked reset_read_state r z = z
asked drop_last_read_to_anchor_chain_time r z = z
asked (set_buffer_limits_by_partition limits) r z = settled_five _ z
asked (read_into_buffers tables area t routes mode out) r z = read_asked tables area t routes r mode out z
asked finalize r z = offset_asked r _ _ z
asked retain_only_last_range_state r z = offset_asked r _ _ z
asked set_from_to_current_position_in_last_range_state r z = offset_asked r _ _ z
asked (increment_curr_processed_offset i) r z = offset_asked r _ _ z
asked (drop_processing_offset i skip) r z = offset_asked r _ _ z
asked (set_skip_processed_offset_to_current i) r z = offset_asked r _ _ z
asked (set_processed_to_current_position i) r z = offset_asked r _ _ z
asked (messages_taken seqno i taken) r z = offset_asked r _ _ z

-- ---- what a call leaves
changed_five : (d : ReaderDone) (n : ℕ) (r after : ExternalsReader) → d ≡ changed n r after → Five r → Five after → Five d.reader
changed_five d n r after q e f = subst (λ (a : ReaderDone). Five a.reader) (sym q) (pick_both Five (eqb n 0) after r f e)

module _ (r : ExternalsReader) (five : Five r) where
  abbrev l : List ExternalsRangeReaderState
  l = ranges_of r

  few : length l ≤ max_ranges
  few = omega (arith, (sound_parts r.reader_state five).0, length-take r.reader_state.len r.reader_state.ranges)

  sound : sound_ranges_from 0 l ≡ true
  sound = (sound_parts r.reader_state five).1

  held_five : (m : List ExternalsRangeReaderState) → length m ≤ length l → sound_ranges_from 0 m ≡ true → Five (with_held m r)
  held_five m h e = answers_5 (with_held m r).reader_state (omega (arith, h, few)) (rw (held_behind m r) e)

  place_five : (i : ℕ) (f : ExternalsRangeReaderState → ExternalsRangeReaderState) → sound_ranges_from 0 (on_place i f l) ≡ true → Five (with_held (on_place i f l) r)
  place_five i f e = held_five (on_place i f l) (omega (arith, length-set l i (f (range_at i l)))) e

  finalized_five : Five (with_held (finalized (partitions_of r) l) r)
  finalized_five =
      let ps = partitions_of r in
      let last = length l - 1 in
      held_five (finalized ps l) (omega (arith, length-map (on_place last (raised_range ps l) l) marked, length-set l last (raised_range ps l (range_at last l)))) (finalize_keeps_question_5 l sound ps)

  entered_five : state_number (state_entered r.buffer_limits_by_partitions r.reader_state) ≡ 0
  entered_five =
      let s = state_entered r.buffer_limits_by_partitions r.reader_state in
      answers_5 s (sound_parts r.reader_state five).0 (rw (held_entered r.buffer_limits_by_partitions r.reader_state) (new_keeps_question_5 l sound))

-- every call, refused or not, that is handed a reader that passes question 5 leaves one that does
pub every_call_keeps_question_5_of_the_reader : (c : Change) (r : ExternalsReader) → Shaped r → state_number r.reader_state ≡ 0 → state_number (called c r).reader.reader_state ≡ 0
unfolding new_call reset_call drop_last_call set_limits_call finalize_call retain_call set_from_call increment_call drop_call set_skip_call set_processed_call taken_call state_number
every_call_keeps_question_5_of_the_reader new r h e = changed_five (new_call r) _ r _ refl e (entered_five r e)
every_call_keeps_question_5_of_the_reader reset_read_state r h e = changed_five (reset_call r) _ r _ refl e e
every_call_keeps_question_5_of_the_reader drop_last_read_to_anchor_chain_time r h e = changed_five (drop_last_call r) _ r _ refl e e
every_call_keeps_question_5_of_the_reader (set_buffer_limits_by_partition limits) r h e = changed_five (set_limits_call r limits) _ r _ refl e e
every_call_keeps_question_5_of_the_reader (read_into_buffers tables area t routes mode out) r h e = a_read_of_all_keeps_question_5_of_its_reader tables area t routes r mode out h e
every_call_keeps_question_5_of_the_reader finalize r h e = changed_five (finalize_call r) _ r _ refl e (finalized_five r e)
every_call_keeps_question_5_of_the_reader retain_only_last_range_state r h e =
    changed_five (retain_call r) _ r _ refl e (held_five r e (last_only (ranges_of r)) (omega (arith, length-drop (length (ranges_of r) - 1) (ranges_of r))) (the_last_range_alone_answers_question_5 (ranges_of r) (sound r e)))
every_call_keeps_question_5_of_the_reader set_from_to_current_position_in_last_range_state r h e =
    let last = length (ranges_of r) - 1 in
    changed_five (set_from_call r) _ r _ refl e (place_five r e last from_position (a_range_from_its_position_keeps_question_5 (ranges_of r) (sound r e) last))
every_call_keeps_question_5_of_the_reader (increment_curr_processed_offset i) r h e = changed_five (increment_call i r) _ r _ refl e e
every_call_keeps_question_5_of_the_reader (drop_processing_offset i skip) r h e =
    let last = length (ranges_of r) - 1 in
    changed_five (drop_call i skip r) _ r _ refl e (place_five r e last (on_record i (dropped skip)) (a_dropped_offset_keeps_question_5 (ranges_of r) (sound r e) last i skip))
every_call_keeps_question_5_of_the_reader (set_skip_processed_offset_to_current i) r h e =
    let last = length (ranges_of r) - 1 in
    let offset = (reader_partition i (partitions_of r)).curr_processed_offset in
    changed_five (set_skip_call i r) _ r _ refl e (place_five r e last (on_record i (skip_raised offset)) (a_raised_skip_offset_keeps_question_5 (ranges_of r) (sound r e) last i offset))
every_call_keeps_question_5_of_the_reader (set_processed_to_current_position i) r h e = changed_five (set_processed_call i r) _ r _ refl e e
every_call_keeps_question_5_of_the_reader (messages_taken seqno i taken) r h e =
    let place = place_of seqno (ranges_of r) in
    changed_five (taken_call seqno i taken r) _ r _ refl e
    (place_five r e place (on_record i (with_count ((record_of i (range_at place (ranges_of r))).count - taken))) (messages_taken_keep_question_5 (ranges_of r) (sound r e) place i taken))

-- each of them asks question 5 first, so it need not be known of the reader before
pub a_reader_left_by_a_call_answering_0_passes_question_5 : (c : Change) (r : ExternalsReader) → Shaped r → (called c r).number ≡ 0 → state_number (called c r).reader.reader_state ≡ 0
a_reader_left_by_a_call_answering_0_passes_question_5 c r h z = every_call_keeps_question_5_of_the_reader c r h (asked c r z)

-- ---- the next range
-- one range more behind those held
abbrev pub behind : ExternalsRangeReaderState → ExternalsReaderState → ExternalsReaderState
behind range s =
    record {
      ranges = set s.ranges s.len range;
      len = s.len + 1;
      by_partitions = s.by_partitions;
      last_read_to_anchor_chain_time = s.last_read_to_anchor_chain_time;
    }

-- where there is a slot and the last seqno is below the block's, as `wantsNext` asks
pub the_next_range_behind_the_others_keeps_question_5 : (r : ExternalsReader) → (next_range_call r).number ≡ 0 → r.reader_state.len < max_ranges → last_seqno r.reader_state.len r.reader_state.ranges < r.block_seqno
    → state_number (behind (next_range_call r).range r.reader_state) ≡ 0
unfolding next_range_call next_range partitions_number
the_next_range_behind_the_others_keeps_question_5 r z few above =
    let s = r.reader_state in
    let next = next_range r.block_seqno r.next_chain_time s.by_partitions s.ranges s.len in
    let e : (next_range_call r).range ≡ next = pick_yes _ _ _ (eq-eqb (state_number s) 0 z) in
    subst (λ (q : ExternalsRangeReaderState). state_number (behind q s) ≡ 0) (sym e)
    (answers_5 (behind next s) (omega arith) (a_range_above_the_last_keeps_question_5 s.len s.ranges next (sound_parts s z).1 above (pick_yes _ _ _ (next_fits s.by_partitions))))
