-- Document 01's six steps, where they are easily misread: each law is a sentence of the paper about one step.
use Rattle.std.proofs.lemmas.Bool.{or_from}
use Rattle.std.proofs.Math.Bool.{or-false}
use Rattle.std.specs.Prelude.{None}
use Prim.Native.Nat.{ℕ, zero, suc, ◌+◌, ◌≤◌, ◌<◌}
use mathlib.Core.Path.{◌≡◌, refl, sym, ap, ◌∙◌}
use mathlib.Core.Bool.{Bool, true, false, not, ◌||◌}
use mathlib.Core.List.{List, [], ◌∷◌}
use native.Mathlib.Omega.{arith}
use lib.Dec.{eqb, ltb}
use borrow.Author.Tests.{eq-eqb, le-ltb, le-leb, lt-leb}
use Rattle.rows.proofs.Laws.{pick_yes, pick_no, no_later}
use Rattle.ext_types.specs.declared.ChainTime.{ChainTime}
use Rattle.ext_types.specs.declared.ExternalKey.{ExternalKey}
use Rattle.ext_types.specs.Keys.{key_above, key_equal}
use Rattle.ext_types.specs.declared.Seconds.{Seconds}
use Rattle.ext_types.specs.Time.{expired_at, millis_of}
use Rattle.shard_ident.specs.declared.ShardIdent.{ShardIdent}
use Rattle.shard_ident.specs.Shard.{shard_number}
use Rattle.router.specs.Router.{routes_number}
use Rattle.cache_rules.specs.Rules.{area_bytes}
use Rattle.messages_buffer.specs.Fullness.{limits_number, partitions_number, limited_number, first_no}
use Rattle.messages_buffer.specs.declared.ExternalsPartitionRangeReaderState.{ExternalsPartitionRangeReaderState}
use Rattle.range_rules.specs.declared.Context.{Context}
use Rattle.range_rules.specs.Walks.{Walk, RangeRead, Keep, Buffer, Refuse}
use Rattle.range_rules.specs.declared.ProcessedTo.{ProcessedTo}
use Rattle.range_rules.specs.declared.ReadNextExternalsMode.{ReadNextExternalsMode}
use Rattle.range_rules.specs.declared.ReadNextExternalsMode.TheVariants.{ToTheEnd}
use Rattle.range_rules.specs.declared.ExternalsRangeReaderState.{ExternalsRangeReaderState}
use Rattle.range_rules.specs.Rules.{Outcome, key_at, with_place, next_key, end_reached, raised, advanced, ends, full, stopped, no_key, no_processed, judge, more, read_one, buffer_one, after, popped, offset_in, look_key, looked, expired, leave, after_pop, is_whole, finished, anchor_read, anchors_read, context_of, entry_of, six_steps, range_after, range_questions}

abbrev zeros : List ℕ
zeros = 0 ∷ 0 ∷ 0 ∷ 0 ∷ 0 ∷ 0 ∷ 0 ∷ 0 ∷ []

-- ---- at entry
-- `no_key` is where the first range of all begins
pub no_key_is_below_the_first : (key : ExternalKey) → key_above no_key key ≡ false
unfolding key_above
no_key_is_below_the_first key = or_from _ _ (le-ltb key.anchor_id 0 (omega arith)) (sym (no_later (eqb 0 key.anchor_id) _ (le-ltb key.msgs_offset 0 (omega arith))))

-- "Fix the position and saved end at entry."
module _ (shard : ShardIdent) (limits : List ℕ) (processed : List ProcessedTo) (timeout : Seconds) (mode : ReadNextExternalsMode) (range : ExternalsRangeReaderState) (room free : ℕ) where
  abbrev fixed : Context
  fixed = context_of shard limits processed timeout mode range room

  pub the_position_is_fixed_at_entry : fixed.position ≡ range.current_position
  the_position_is_fixed_at_entry = refl

  pub the_saved_end_is_to_at_entry : fixed.saved_end ≡ range.to
  the_saved_end_is_to_at_entry = refl

  -- the range's own chain time, and the timeout in milliseconds
  pub expiry_is_by_the_range's_chain_time : (fixed.chain_time ≡ range.chain_time) × (fixed.limit ≡ millis_of timeout)
  expiry_is_by_the_range's_chain_time = (refl, refl)

  pub a_read_starts_at_the_range's_position_and_to : ((entry_of range free).walk.place.position ≡ range.current_position) × ((entry_of range free).walk.place.to ≡ range.to)
  a_read_starts_at_the_range's_position_and_to = (refl, refl)

  -- so an anchor that step 2 pops does not end it
  pub a_read_does_not_begin_ended : (entry_of range free).ended ≡ false
  a_read_does_not_begin_ended = refl

-- the questions before the steps, in their order
module _ (n : ℕ) (shard : ShardIdent) (routes limits : List ℕ) (five : ℕ) (range : ExternalsRangeReaderState) (active : Bool) where
  pub a_short_message_area_is_refused_first : n < 33792 → range_questions n shard routes limits five range active ≡ 1
  unfolding first_no
  a_short_message_area_is_refused_first h = rw (lt-leb area_bytes n h)

  module _ (long : 33792 ≤ n) (two : shard_number shard ≡ 0) (three : routes_number routes ≡ 0) (four : limits_number limits ≡ 0) (cache : five ≡ 0) (ranges : partitions_number range.by_partitions ≡ 0) where
    pub without_a_transaction_question_9_refuses_before_10 : active ≡ false → range_questions n shard routes limits five range active ≡ 9
    unfolding first_no
    without_a_transaction_question_9_refuses_before_10 e = rw (le-leb area_bytes n long, two, three, four, cache, ranges, e)

    pub question_10_comes_last : active ≡ true → range_questions n shard routes limits five range active ≡ limited_number limits range.by_partitions
    unfolding first_no
    question_10_comes_last e = rw (le-leb area_bytes n long, two, three, four, cache, ranges, e) (only (limited_number limits range.by_partitions))
      where
        only : (k : ℕ) → first_no (k ∷ []) ≡ k
        only zero = refl
        only (suc k) = refl

-- ---- step 1
module _ (x : Context) (routes : List ℕ) (range : ExternalsRangeReaderState) where
  abbrev untouched : RangeRead
  untouched = (six_steps x routes range []).value

  pub a_read_of_an_empty_cache_ends_fully_read : (untouched.fully_read ≡ true) × (untouched.ended ≡ true)
  unfolding anchors_read
  a_read_of_an_empty_cache_ends_fully_read = (refl, refl)

  pub a_read_of_an_empty_cache_answers_0_with_no_pop_no_byte_and_no_count :
      (untouched.walk.number ≡ 0) × (untouched.pops ≡ 0) × (untouched.walk.buffers.used ≡ 0) × (untouched.last ≡ None) × (untouched.walk.counts ≡ record { read = zeros; expired = zeros; buffered = zeros })
  unfolding anchors_read
  a_read_of_an_empty_cache_answers_0_with_no_pop_no_byte_and_no_count = (refl, refl, refl, refl, refl)

  pub a_read_of_an_empty_cache_only_marks_the_range :
      range_after range untouched
      ≡ record {
        seqno = range.seqno;
        from = range.from;
        to = range.to;
        current_position = range.current_position;
        chain_time = range.chain_time;
        fully_read = true;
        by_partitions = range.by_partitions;
      }
  unfolding anchors_read
  a_read_of_an_empty_cache_only_marks_the_range = refl

-- ---- step 2
module _ (x : Context) (routes : List ℕ) (id : ℕ) (time : ChainTime) (l : List (List ℕ)) (r : RangeRead) where
  pub a_skipped_anchor_is_popped_and_changes_nothing_else : ltb id x.position.anchor_id ≡ true → (anchor_read x routes id time l r).value ≡ popped r
  unfolding anchor_read
  a_skipped_anchor_is_popped_and_changes_nothing_else e = ap (λ (s : Outcome RangeRead). s.value) (pick_yes _ _ _ e)

  pub a_skipped_anchor_leaves_the_marks_and_the_last_chain_time : ltb id x.position.anchor_id ≡ true
      → ((anchor_read x routes id time l r).value.fully_read ≡ r.fully_read) × ((anchor_read x routes id time l r).value.ended ≡ r.ended) × ((anchor_read x routes id time l r).value.last ≡ r.last)
  a_skipped_anchor_leaves_the_marks_and_the_last_chain_time e =
      let h = a_skipped_anchor_is_popped_and_changes_nothing_else e in
      (ap (λ (q : RangeRead). q.fully_read) h, ap (λ (q : RangeRead). q.ended) h, ap (λ (q : RangeRead). q.last) h)

-- ---- step 3
-- the key and the mark of the anchor before are forgotten, so what they were at entry does not count
pub a_look_at_an_anchor_begins_anew : (x : Context) (id : ℕ) (w : Walk) (key : ExternalKey) (mark : Bool) → looked x id (with_place (record { key = key; reached = mark; position = w.place.position; to = w.place.to }) w) ≡ looked x id w
unfolding looked
a_look_at_an_anchor_begins_anew x id w key mark = refl

pub on_the_position's_own_anchor_the_offset_is_the_position's : (position : ExternalKey) → offset_in position position.anchor_id ≡ position.msgs_offset
on_the_position's_own_anchor_the_offset_is_the_position's position = pick_yes _ _ _ (eq-eqb position.anchor_id _ refl)

pub elsewhere_the_offset_is_0 : (position : ExternalKey) (id : ℕ) → eqb position.anchor_id id ≡ false → offset_in position id ≡ 0
elsewhere_the_offset_is_0 position id e = pick_no _ _ _ e

pub at_the_saved_end's_id_only_its_offset_reaches_it : (id a b : ℕ) → end_reached (key_at id a) (key_at id b) ≡ eqb a b
unfolding key_equal
at_the_saved_end's_id_only_its_offset_reaches_it id a b = rw (le-ltb id id (omega arith), eq-eqb id id refl)

pub any_anchor_above_the_saved_end's_reaches_it : (key end : ExternalKey) → ltb end.anchor_id key.anchor_id ≡ true → end_reached key end ≡ true
any_anchor_above_the_saved_end's_reaches_it key end e = rw e

-- ---- step 4
-- whatever the buffers hold
module _ (x : Context) (routes : List ℕ) (id : ℕ) (time : ChainTime) (l : List (List ℕ)) (r : RangeRead) (i : ltb id x.position.anchor_id ≡ false) (old : expired_at x.chain_time time x.limit ≡ true) where
  pub an_expired_anchor_is_popped_full_or_not : (anchor_read x routes id time l r).value.pops ≡ r.pops + 1
  unfolding anchor_read expired
  an_expired_anchor_is_popped_full_or_not = ap (λ (s : Outcome RangeRead). s.value.pops) (pick_no _ _ _ i ∙ pick_yes _ _ _ old)

  pub an_expired_anchor_does_not_end_the_read : (anchor_read x routes id time l r).value.ended ≡ false
  unfolding anchor_read expired
  an_expired_anchor_does_not_end_the_read = ap (λ (s : Outcome RangeRead). s.value.ended) (pick_no _ _ _ i ∙ pick_yes _ _ _ old)

  pub an_expired_anchor's_position_is_its_id_and_offset : (anchor_read x routes id time l r).value.walk.place.position ≡ look_key x id
  unfolding anchor_read expired looked
  an_expired_anchor's_position_is_its_id_and_offset = ap (λ (s : Outcome RangeRead). s.value.walk.place.position) (pick_no _ _ _ i ∙ pick_yes _ _ _ old)

  pub an_expired_anchor_leaves_the_fully_read_mark : (anchor_read x routes id time l r).value.fully_read ≡ r.fully_read
  unfolding anchor_read expired
  an_expired_anchor_leaves_the_fully_read_mark = ap (λ (s : Outcome RangeRead). s.value.fully_read) (pick_no _ _ _ i ∙ pick_yes _ _ _ old)

  pub an_expired_anchor's_messages_are_not_put : (anchor_read x routes id time l r).entries ≡ []
  unfolding anchor_read
  an_expired_anchor's_messages_are_not_put = ap (λ (s : Outcome RangeRead). s.entries) (pick_no _ _ _ i ∙ pick_yes _ _ _ old)

-- ---- step 5
pub the_saved_end_is_the_one_at_entry : (x : Context) (w : Walk) → (advanced x w).place.reached ≡ end_reached (next_key w.place.key) x.saved_end
unfolding advanced
the_saved_end_is_the_one_at_entry x w = refl

pub to_is_raised_when_passed : (key to : ExternalKey) → key_above key to ≡ true → raised key to ≡ key
to_is_raised_when_passed key to e = pick_yes _ _ _ e

pub to_stays_when_not_passed : (key to : ExternalKey) → key_above key to ≡ false → raised key to ≡ to
to_stays_when_not_passed key to e = pick_no _ _ _ e

-- the saved end ends no walk `ToTheEnd`
pub to_the_end_only_a_full_buffer_stops_the_messages : (x : Context) (w : Walk) → w.number ≡ 0 → x.mode ≡ ToTheEnd → stopped x w ≡ full w.buffers
unfolding stopped
to_the_end_only_a_full_buffer_stops_the_messages x w n e =
    ap (λ (b : Bool). not b || (full w.buffers || ends x.mode w.place.reached)) (eq-eqb w.number 0 n)
    ∙ (ap (λ (m : ReadNextExternalsMode). full w.buffers || ends m w.place.reached) e ∙ or-false (full w.buffers))

-- questions 12, 13 and 14, in their order
module _ (q : ProcessedTo) (partition : ExternalsPartitionRangeReaderState) (key : ExternalKey) (room : Bool) where
  pub question_12_is_asked_of_every_message_of_ours : q.present ≡ false → judge q partition key room ≡ Refuse 12
  unfolding judge
  question_12_is_asked_of_every_message_of_ours e = pick_no _ _ _ e

  -- past the table there is none
  pub a_partition_that_is_not_there_has_no_processed_position : judge no_processed partition key room ≡ Refuse 12
  unfolding judge
  a_partition_that_is_not_there_has_no_processed_position = refl

  pub a_message_not_above_the_processed_position_is_not_buffered : q.present ≡ true → key_above key q.key ≡ false → judge q partition key room ≡ Keep
  unfolding judge
  a_message_not_above_the_processed_position_is_not_buffered e k = pick_yes _ _ _ e ∙ pick_no _ _ _ k

  module _ (e : q.present ≡ true) (k : key_above key q.key ≡ true) where
    pub question_13_is_asked_of_what_is_to_be_buffered : partition.present ≡ false → judge q partition key room ≡ Refuse 13
    unfolding judge
    question_13_is_asked_of_what_is_to_be_buffered p = pick_yes _ _ _ e ∙ (pick_yes _ _ _ k ∙ pick_no _ _ _ p)

    pub question_14_comes_last : partition.present ≡ true → room ≡ false → judge q partition key room ≡ Refuse 14
    unfolding judge
    question_14_comes_last p o = pick_yes _ _ _ e ∙ (pick_yes _ _ _ k ∙ (pick_yes _ _ _ p ∙ pick_no _ _ _ o))

    pub a_message_above_the_processed_position_is_buffered : partition.present ≡ true → room ≡ true → judge q partition key room ≡ Buffer
    unfolding judge
    a_message_above_the_processed_position_is_buffered p o = pick_yes _ _ _ e ∙ (pick_yes _ _ _ k ∙ (pick_yes _ _ _ p ∙ pick_yes _ _ _ o))

-- a message of ours that is not refused is counted as read once, buffered or not; a buffered one as buffered too
module _ (x : Context) (time : ChainTime) (p : ℕ) (w : Walk) where
  pub a_kept_message_is_counted_as_read : (after Keep x time p w).value.counts.read ≡ more w.counts.read p
  unfolding read_one
  a_kept_message_is_counted_as_read = refl

  pub a_buffered_message_is_counted_as_read : (after Buffer x time p w).value.counts.read ≡ more w.counts.read p
  unfolding read_one buffer_one
  a_buffered_message_is_counted_as_read = refl

  pub a_buffered_message_is_counted_as_buffered : (after Buffer x time p w).value.counts.buffered ≡ more w.counts.buffered p
  unfolding read_one buffer_one
  a_buffered_message_is_counted_as_buffered = refl

-- ---- step 6
module _ (x : Context) (time : ChainTime) (count : ℕ) (w : Walk) (r : RangeRead) (n : w.number ≡ 0) where
  abbrev left : Bool → Bool → RangeRead
  left fully ended = leave w time (after_pop (is_whole w count) r.pops) fully ended

  -- the saved end is judged before a full buffer
  pub at_the_saved_end_the_range_is_fully_read : ends x.mode w.place.reached ≡ true → finished x time count w r ≡ left true true
  unfolding finished
  at_the_saved_end_the_range_is_fully_read e = pick_no _ _ _ (ap not (eq-eqb w.number 0 n)) ∙ pick_yes _ _ _ e

  module _ (e : ends x.mode w.place.reached ≡ false) where
    -- also then an anchor read to its end is popped
    pub a_full_buffer_ends_the_read : full w.buffers ≡ true → finished x time count w r ≡ left r.fully_read true
    unfolding finished
    a_full_buffer_ends_the_read f = pick_no _ _ _ (ap not (eq-eqb w.number 0 n)) ∙ (pick_no _ _ _ e ∙ pick_yes _ _ _ f)

    pub an_anchor_read_to_its_end_is_popped_and_the_read_goes_on : full w.buffers ≡ false → is_whole w count ≡ true → finished x time count w r ≡ left r.fully_read false
    unfolding finished
    an_anchor_read_to_its_end_is_popped_and_the_read_goes_on f g = pick_no _ _ _ (ap not (eq-eqb w.number 0 n)) ∙ (pick_no _ _ _ e ∙ (pick_no _ _ _ f ∙ pick_yes _ _ _ g))

pub where_the_offset_is_the_message_count_one_more_is_popped : (w : Walk) (count pops : ℕ) → w.place.key.msgs_offset ≡ count → after_pop (is_whole w count) pops ≡ pops + 1
where_the_offset_is_the_message_count_one_more_is_popped w count pops e = ap (λ (b : Bool). after_pop b pops) (eq-eqb w.place.key.msgs_offset count e)
