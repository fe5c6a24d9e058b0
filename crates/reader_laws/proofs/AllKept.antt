-- What a read of all keeps: question 5 of its reader; and what it answers: the mark, numbers 10 to 14, sums within a
-- cap.
use Rattle.std.proofs.lemmas.Bool.{or_left}
use Prim.Native.Nat.{ℕ, ◌≤◌}
use mathlib.Core.Path.{◌≡◌, refl, sym, ap, subst, ◌∙◌}
use mathlib.Core.Bool.{Bool, true, false, ◌||◌}
use mathlib.Core.List.{List, [], ◌∷◌}
use mathlib.Core.Logic.{◌⊎◌, inl, inr}
use native.Mathlib.Omega.{arith}
use lib.Dec.{eqb}
use lib.ListN.{length, take}
use lib.Seq.{sets}
use borrow.Author.Tests.{eqb-true, eqb-false}
use Rattle.rows.specs.Rows.{pick}
use Rattle.rows.proofs.Laws.{pick_both}
use Rattle.messages_buffer.specs.Fullness.{all_limited, limited_number, first_no}
use Rattle.messages_buffer.proofs.Laws.{first_zero, first_alone}
use Rattle.anchors_cache.specs.declared.AnchorsCacheTransaction.{AnchorsCacheTransaction}
use Rattle.anchors_cache.specs.Tables.{view}
use Rattle.anchors_cache.specs.Calls.{pops_call, closed_transaction}
use Rattle.cache_rules.specs.Rules.{Cache}
use Rattle.cache_laws.specs.Book.{pop_times}
use Rattle.range_rules.specs.declared.ExternalsRangeReaderState.{ExternalsRangeReaderState}
use Rattle.range_rules.specs.Walks.{RangeRead}
use Rattle.range_rules.specs.declared.ReadNextExternalsMode.{ReadNextExternalsMode}
use Rattle.range_rules.specs.Rules.{Outcome, silent, context_of, no_counts}
use Rattle.range_rules.specs.Bounds.{AtMost}
use Rattle.range_rules.proofs.Counts.{zeros}
use Rattle.range_rules.proofs.Kept.{the_six_steps_refuse_by_11_to_14_alone}
use Rattle.range_reader.specs.Calls.{asked_number, range_read, refused_answer, done_answer}
use Rattle.range_laws.proofs.Kept.{the_steps_of_a_read_keep_the_counts}
use Rattle.reader_rules.specs.declared.ExternalsReader.{ExternalsReader}
use Rattle.reader_rules.specs.declared.ExternalsReaderState.{ExternalsReaderState}
use Rattle.reader_rules.specs.declared.GetNextMessageGroupMode.{GetNextMessageGroupMode}
use Rattle.reader_rules.specs.declared.Fixed.{Fixed}
use Rattle.reader_rules.specs.Turns.{RangesRead}
use Rattle.reader_rules.specs.State.{held_ranges, max_ranges, sound_ranges_from, settled_number, state_number}
use Rattle.reader_rules.specs.Rules.{Told, fixed_of, at_entry, ranges_read}
use Rattle.reader_rules.specs.Offsets.{all_fully_read}
use Rattle.reader_rules.proofs.Kept.{Eight, LeftOf, Sound, a_read_of_all_keeps_question_5}
use Rattle.reader_rules.proofs.Marks.{the_mark_says_whether_every_range_is_fully_read}
use Rattle.reader_rules.proofs.Sums.{max_sum, each_sum_is_at_most_1024_for_each_of_16_ranges, the_number_of_a_read_of_all_is_0_or_a_range's}
use Rattle.externals_reader.specs.Calls.{asked_of_read, told, told_by, window_read, imported_in, all_ranges_read, reader_after, ReadAllResult, unchanged, all_result, read_all_call}
use Rattle.externals_reader.specs.Ready.{Start}
use Rattle.externals_reader.proofs.Sound.{by_ranges, sound_parts, sound_table}
use Rattle.externals_reader.proofs.CallLaws.{call_start}
use Rattle.externals_reader.proofs.TurnLaws.{window_fits}
use Rattle.reader_laws.specs.AllRanges.{HandedAll, book_fixed, range_steps}
use Rattle.reader_laws.proofs.Entered.{asked_same, all_same}
use Rattle.reader_laws.proofs.Laws.{unasked_range, no_range_is_refused_by_question_5_in_a_read_of_all}
use Rattle.reader_laws.proofs.AllPassed.{answered_yes}

-- ---- question 5
pub answers_5 : (s : ExternalsReaderState) → s.len ≤ max_ranges → sound_ranges_from 0 (held_ranges s) ≡ true → state_number s ≡ 0
answers_5 s h e = sym (by_ranges s) ∙ sym (sound_table s.ranges s.len h e)

pub settled_five : (r : ExternalsReader) → settled_number r ≡ 0 → state_number r.reader_state ≡ 0
unfolding settled_number
settled_five r z = (first_zero _ _ (first_zero _ _ z).1).0

pub asked_five : (tables area : List ℕ) (t : AnchorsCacheTransaction) (routes : List ℕ) (r : ExternalsReader) → asked_of_read tables area t routes r ≡ 0 → state_number r.reader_state ≡ 0
unfolding asked_of_read
asked_five tables area t routes r z = settled_five r (first_zero _ _ (first_zero _ _ (first_zero _ _ (first_zero _ _ z).1).1).1).0

-- eight limits, and eight records in the reader and in each of its ranges, as the types say
pub record Shaped (r : ExternalsReader) : Type 0 where
  pub limits : length r.buffer_limits_by_partitions ≡ 8
  pub partitions : length r.reader_state.by_partitions ≡ 8
  pub ranges : Eight r.reader_state.ranges

-- one range's read on the window: where it is not refused, the questions were answered "yes", and it tells what the six
-- steps came to
module _ (tables area : List ℕ) (t : AnchorsCacheTransaction) (routes : List ℕ) (x : Fixed) (pops : ℕ) (mode : ReadNextExternalsMode) (range : ExternalsRangeReaderState) (room : ℕ) where
  abbrev before : AnchorsCacheTransaction
  before = (pops_call (length area) pops tables t).state

  abbrev steps : Outcome RangeRead
  steps = range_read tables area before x.shard routes x.limits x.processed x.params.externals_expire_timeout mode range room

  abbrev asked : ℕ
  asked = asked_number tables area before x.shard routes x.limits range

  pub window_done : (P : Told → Type 0) → (asked ≡ 0 → P (told (done_answer range steps.value before)))
      → (window_read tables area t routes x pops mode range room).value.number ≡ 0 → P (window_read tables area t routes x pops mode range room).value
  unfolding window_read
  window_done P done = go (eqb number 0) refl
    where
      number : ℕ
      number = first_no (asked ∷ steps.value.walk.number ∷ [])

      go : (b : Bool) → eqb number 0 ≡ b
          → (let a = (pick b (record { value = told (done_answer range steps.value before); entries = steps.entries }) (silent (told (refused_answer number range before)))).value in a.number ≡ 0 → P a)
      go true e z = done (first_zero _ _ (eqb-true number 0 e)).0
      go false e z = absurd (eqb-false number 0 e z)

  window_left : length x.limits ≡ 8 → length range.by_partitions ≡ 8
      → (window_read tables area t routes x pops mode range room).value.number ≡ 0 → LeftOf range (window_read tables area t routes x pops mode range room).value.range
  window_left eight records =
      let P : Told → Type 0 = λ a. LeftOf range a.range in
      window_done P
      (λ z. let k = the_steps_of_a_read_keep_the_counts tables area before x.shard routes x.limits x.processed x.params.externals_expire_timeout mode range eight records z room in
      record { in_place = record { seqno = refl; counts = k.0 }; eight = k.1 })

module _ (tables area : List ℕ) (t : AnchorsCacheTransaction) (routes : List ℕ) (r : ExternalsReader) (mode : GetNextMessageGroupMode) (out : List ℕ) where
  abbrev state : ExternalsReaderState
  state = r.reader_state

  abbrev pub fixed : Fixed
  fixed = fixed_of r mode (imported_in tables t.cache) (length out)

  abbrev all : Outcome RangesRead
  all = all_ranges_read tables area t routes r mode (length out)

  -- nothing is done, a refusal, or what the ranges' turns came to
  pub answered : (P : ReadAllResult → Type 0) → (asked_of_read tables area t routes r ≡ 0 → r.all_ranges_fully_read ≡ true → P (unchanged 0 r t out)) → ((asked_of_read tables area t routes r ≡ 0 → ⊥) → P (unchanged (asked_of_read tables area t routes r) r t out))
      → (asked_of_read tables area t routes r ≡ 0 → r.all_ranges_fully_read ≡ false → P (all_result tables area t r all out)) → P (read_all_call tables area t routes r mode out)
  unfolding read_all_call
  answered P idle refused done = go (eqb n 0) refl r.all_ranges_fully_read refl
    where
      n : ℕ
      n = asked_of_read tables area t routes r

      go : (b : Bool) → eqb n 0 ≡ b → (c : Bool) → r.all_ranges_fully_read ≡ c → P (pick b (pick c (unchanged 0 r t out) (all_result tables area t r all out)) (unchanged n r t out))
      go true e true m = idle (eqb-true n 0 e) m
      go true e false m = done (eqb-true n 0 e) m
      go false e c m = refused (eqb-false n 0 e)

  -- questions 4 and 5: the open-ranges limit and the ranges are within 16, whatever the output's length
  pub begun : asked_of_read tables area t routes r ≡ 0 → r.all_ranges_fully_read ≡ false → Start (fixed_of r mode (imported_in tables t.cache) 0) (at_entry state) []
  begun z m = call_start tables area t routes r mode [] z m (fixed_of r mode (imported_in tables t.cache) 0) refl (omega arith)

  all_sound : Shaped r → state_number state ≡ 0 → asked_of_read tables area t routes r ≡ 0 → r.all_ranges_fully_read ≡ false → Sound all.value
  unfolding all_ranges_read
  all_sound h five z m =
      let p = sound_parts state five in
      a_read_of_all_keeps_question_5 (window_read tables area t routes fixed) fixed (begun z m).limit h.partitions (λ pops mode range room. window_left tables area t routes fixed pops mode range room h.limits) (at_entry state) (record { few = p.0; sound = p.1; eight = h.ranges })

  pub a_read_of_all_keeps_question_5_of_its_reader : Shaped r → state_number r.reader_state ≡ 0 → state_number (read_all_call tables area t routes r mode out).answer.reader.reader_state ≡ 0
  unfolding state_number
  a_read_of_all_keeps_question_5_of_its_reader h five =
      let P : ReadAllResult → Type 0 = λ d. state_number d.answer.reader.reader_state ≡ 0 in
      answered P (λ z m. five) (λ n. five)
      (λ z m. let s = all_sound h five z m in pick_both P (eqb all.value.so_far.number 0) _ _ (answers_5 (record { ranges = all.value.ranges; len = all.value.len; by_partitions = state.by_partitions; last_read_to_anchor_chain_time = state.last_read_to_anchor_chain_time }) s.few s.sound) five)

  -- ---- the mark
  -- of the sixteen slots that a reader's type gives: "else the mark is set"
  pub the_mark_is_set_where_it_was_or_every_range_is_fully_read : length r.reader_state.ranges ≡ max_ranges
      → (let a = (read_all_call tables area t routes r mode out).answer in a.number ≡ 0 → a.reader.all_ranges_fully_read ≡ (r.all_ranges_fully_read || all_fully_read (held_ranges a.reader.reader_state)))
  unfolding all_ranges_read
  the_mark_is_set_where_it_was_or_every_range_is_fully_read sixteen = answered P (λ z m y. m ∙ sym (or_left _ _ m)) (λ n y. absurd (n y)) (λ z m. go z m (eqb all.value.so_far.number 0) refl)
    where
      P : ReadAllResult → Type 0
      P d = d.answer.number ≡ 0 → d.answer.reader.all_ranges_fully_read ≡ (r.all_ranges_fully_read || all_fully_read (held_ranges d.answer.reader.reader_state))

      q : RangesRead
      q = all.value

      done : ReadAllResult
      done =
          record {
            answer = record { number = 0; free = q.so_far.free; used = q.so_far.used; counts = q.so_far.counts; reader = reader_after r q; state = (pops_call (length area) q.so_far.pops tables t).state };
            out = sets out 0 all.entries;
          }

      go : asked_of_read tables area t routes r ≡ 0 → r.all_ranges_fully_read ≡ false → (b : Bool) → eqb q.so_far.number 0 ≡ b → P (pick b done (unchanged q.so_far.number r t out))
      go z m true e y =
          let s = begun z m in
          let marks = the_mark_says_whether_every_range_is_fully_read (window_read tables area t routes fixed) fixed state (omega (arith, s.slots, sixteen)) (omega (arith, s.limit, sixteen)) (eqb-true _ 0 e) in
          marks ∙ ap (λ (b : Bool). b || all_fully_read (take q.len q.ranges)) (sym m)
      go z m false e y = absurd (eqb-false q.so_far.number 0 e y)

  -- ---- the sums
  pub each_sum_of_a_read_of_all_is_at_most_1024_for_each_of_16_ranges : AtMost max_sum (read_all_call tables area t routes r mode out).answer.counts
  unfolding all_ranges_read
  each_sum_of_a_read_of_all_is_at_most_1024_for_each_of_16_ranges =
      let P : ReadAllResult → Type 0 = λ d. AtMost max_sum d.answer.counts in
      answered P (λ z m. none) (λ n. none)
      (λ z m. pick_both P (eqb all.value.so_far.number 0) _ _ (sums z m) none)
    where
      none : {k : ℕ} → AtMost k no_counts
      none = record { read = λ i. zeros 8 i _; expired = λ i. zeros 8 i _; buffered = λ i. zeros 8 i _ }

      sums : asked_of_read tables area t routes r ≡ 0 → r.all_ranges_fully_read ≡ false → AtMost max_sum all.value.so_far.counts
      sums z m =
          let s = begun z m in
          each_sum_is_at_most_1024_for_each_of_16_ranges (window_read tables area t routes fixed) fixed s.limit (λ pops mode range room. (window_fits tables area t routes fixed pops mode range room).counts) (at_entry state) s.slots none

-- ---- the number
abbrev pub DoneOr10To14 : ℕ → Type 0
DoneOr10To14 n = (n ≡ 0) ⊎ ((10 ≤ n) × (n ≤ 14))

told_number : (n : ℕ) (t : AnchorsCacheTransaction) (range : ExternalsRangeReaderState) (s : Outcome RangeRead) → (told_by n t range s).value.number ≡ n
told_number n t range s = go (eqb n 0) refl
  where
    go : (b : Bool) → eqb n 0 ≡ b → (pick b (record { value = told (done_answer range s.value t); entries = s.entries }) (silent (told (refused_answer n range t)))).value.number ≡ n
    go true e = sym (eqb-true n 0 e)
    go false e = refl

first_of : (b : Bool) (n : ℕ) → (n ≡ 0) ⊎ ((11 ≤ n) × (n ≤ 14)) → DoneOr10To14 (first_no (pick b 0 10 ∷ n ∷ []))
unfolding first_no
first_of true n (inl e) = inl (first_alone n ∙ e)
first_of true n (inr h) = inr (rw (first_alone n) (omega (arith, h.0)), rw (first_alone n) h.1)
first_of false n h = inr (omega arith, omega arith)

-- a range whose questions but the 10th are answered "yes"
unasked_number : (routes : List ℕ) (x : Fixed) (v : Cache) (pops : ℕ) (mode : ReadNextExternalsMode) (range : ExternalsRangeReaderState) (room : ℕ) → DoneOr10To14 (unasked_range routes x v pops mode range room).value.number
unfolding range_steps limited_number
unasked_number routes x v pops mode range room =
    let c = context_of x.shard x.limits x.processed x.params.externals_expire_timeout mode range room in
    let s = range_steps routes x (pop_times pops v) mode range room in
    subst DoneOr10To14 (sym (told_number _ closed_transaction range s))
    (first_of (all_limited x.limits range.by_partitions) s.value.walk.number (the_six_steps_refuse_by_11_to_14_alone c routes range (pop_times pops v).anchors))

-- where questions 1 to 5 and 9 are answered "yes" at entry, they are in every range after any pops
pub inside_a_read_of_all_only_10_to_14_refuse : (tables area : List ℕ) (t : AnchorsCacheTransaction) (h : HandedAll) → asked_of_read tables area t h.routes h.reader ≡ 0
    → DoneOr10To14 (read_all_call tables area t h.routes h.reader h.mode h.out).answer.number
inside_a_read_of_all_only_10_to_14_refuse tables area t h z =
    let P : ReadAllResult → Type 0 = λ d. DoneOr10To14 d.answer.number in
    answered tables area t h.routes h.reader h.mode h.out P (λ y m. inl refl) (λ n. absurd (n z))
    (λ y m. pick_both P (eqb whole.value.so_far.number 0) _ _ (inl refl) number)
  where
    whole : Outcome RangesRead
    whole = all_ranges_read tables area t h.routes h.reader h.mode (length h.out)

    v : Cache
    v = view tables area t.cache

    same : whole ≡ ranges_read (unasked_range h.routes (book_fixed h v) v) (book_fixed h v) (at_entry h.reader.reader_state)
    same =
        let a = answered_yes tables area t h z in
        all_same tables area t a.open_now a.big a.cache_ok a.undo_ok h (sym (asked_same tables area t a.open_now a.big a.cache_ok a.undo_ok h) ∙ z)
        ∙ no_range_is_refused_by_question_5_in_a_read_of_all h v (asked_five tables area t h.routes h.reader z)

    number : DoneOr10To14 whole.value.so_far.number
    number =
        subst (λ (s : Outcome RangesRead). DoneOr10To14 s.value.so_far.number) (sym same)
        (the_number_of_a_read_of_all_is_0_or_a_range's DoneOr10To14 (inl refl) (book_fixed h v) (unasked_range h.routes (book_fixed h v) v) (unasked_number h.routes (book_fixed h v) v) (at_entry h.reader.reader_state) (inl refl))
