-- What the read of all ranges does and does not do, each law named as a sentence.
use Prim.Native.Nat.{ℕ, zero, suc, ◌<◌}
use mathlib.Core.Path.{◌≡◌, refl, sym, ap, ◌∙◌}
use mathlib.Core.Bool.{Bool, true, false}
use mathlib.Core.List.{List, [], ◌∷◌, ◌++◌}
use mathlib.Core.Logic.{◌⊎◌, inl, inr}
use native.Mathlib.Omega.{arith}
use lib.Dec.{leb, eqb, ltb}
use lib.ListN.{length, get_or, take}
use Rattle.rows.specs.Rows.{pick}
use Rattle.rows.proofs.Laws.{pick_no, pick_both}
use borrow.Author.Tests.{ne_eqb}
use Rattle.shard_ident.specs.Shard.{shard_number}
use Rattle.router.specs.Router.{routes_number}
use Rattle.messages_buffer.specs.Fullness.{every, partitions_number, limited_number, first_no}
use Rattle.anchors_cache.specs.declared.AnchorsCacheTransaction.{AnchorsCacheTransaction}
use Rattle.anchors_cache.specs.Answers.{Done}
use Rattle.cache_rules.specs.Rules.{Anchor, Cache, Info, ask, last_of, drop_stale, pop_from, pop_front, area_bytes}
use Rattle.anchors_cache.specs.Tables.{view}
use Rattle.anchors_cache.specs.Windows.{popped_times}
use Rattle.anchors_cache.specs.Calls.{refusal, on_zero, answer, with_cache, pops_call, closed_transaction}
use Rattle.cache_laws.specs.Book.{pop_times}
use Rattle.cache_laws.proofs.Free.{Agree, times_same, free_bytes, free_bytes_in_views}
use Rattle.range_rules.specs.declared.ExternalsRangeReaderState.{ExternalsRangeReaderState}
use Rattle.range_rules.specs.declared.ReadNextExternalsMode.{ReadNextExternalsMode}
use Rattle.range_rules.proofs.Counts.{zeros}
use Rattle.range_rules.specs.Rules.{Outcome}
use Rattle.messages_buffer.proofs.Laws.{first_yes, first_alone}
use Rattle.range_laws.proofs.Laws as one-range
use Rattle.reader_rules.specs.declared.ExternalsReader.{ExternalsReader}
use Rattle.reader_rules.specs.declared.GetNextMessageGroupMode.{GetNextMessageGroupMode}
use Rattle.reader_rules.specs.declared.Fixed.{Fixed}
use Rattle.reader_rules.specs.Turns.{RangesRead}
use Rattle.reader_rules.specs.State.{no_range, sound_ranges_from, state_number, settled_number}
use Rattle.reader_rules.specs.Rules.{OneRange, next_range, ranges_read, fixed_of, at_entry}
use Rattle.externals_reader.specs.Calls.{asked_of_read, told_by, window_read, imported_in, all_ranges_read, ReadAllResult, unchanged, all_result, read_all_call}
use Rattle.externals_reader.proofs.Sound.{sound_parts, sound_counts}
use Rattle.reader_laws.specs.AllRanges.{HandedAll, imported_of, book_fixed, range_steps, book_range, book_all_read}
use Rattle.reader_rules.proofs.Kept.{next_fits}
use Rattle.reader_rules.proofs.Turns.{two_ways_to_read_a_range_that_agree_read_all_alike, the_read_of_all_looks_only_at_the_ranges_it_reads}

-- ---- what a call changes
-- a question after those answered "yes"
after_yes : (l : List ℕ) (k : ℕ) → first_no l ≡ 0 → first_no (l ++ (k ∷ [])) ≡ k
unfolding first_no
after_yes [] k z = first_alone k
after_yes (zero ∷ l) k z = after_yes l k z
after_yes (suc n ∷ l) k z = absurd (omega arith)

module _ (tables area : List ℕ) (t : AnchorsCacheTransaction) (routes : List ℕ) (r : ExternalsReader) (mode : GetNextMessageGroupMode) (out : List ℕ) where
  abbrev ranges_read_lem : Outcome RangesRead
  ranges_read_lem = all_ranges_read tables area t routes r mode (length out)

  -- it gives only the number: counts and used bytes are 0; reader, transaction and output are as handed in
  pub a_refused_read_of_all_changes_nothing : ((read_all_call tables area t routes r mode out).answer.number ≡ 0 → ⊥)
      → read_all_call tables area t routes r mode out ≡ unchanged (read_all_call tables area t routes r mode out).answer.number r t out
  unfolding read_all_call
  a_refused_read_of_all_changes_nothing =
      let P : ReadAllResult → Type 0 = λ d. (d.answer.number ≡ 0 → ⊥) → d ≡ unchanged d.answer.number r t out in
      pick_both P (eqb (asked_of_read tables area t routes r) 0) _ _
      (pick_both P r.all_ranges_fully_read _ _ (λ h. refl) (pick_both P (eqb ranges_read_lem.value.so_far.number 0) _ _ (λ h. absurd (h refl)) (λ h. refl)))
      (λ h. refl)

  pub a_read_of_all_that_changes_nothing_tells_no_bytes_and_no_counts : (number p : ℕ)
      → let a = (unchanged number r t out).answer in (a.used ≡ 0) × (get_or a.counts.read p 0 ≡ 0) × (get_or a.counts.expired p 0 ≡ 0) × (get_or a.counts.buffered p 0 ≡ 0)
  a_read_of_all_that_changes_nothing_tells_no_bytes_and_no_counts number p = let z = zeros 8 p 0 in (refl, omega (arith, z), omega (arith, z), omega (arith, z))

  pub once_all_ranges_are_read_only_the_questions_are_asked : r.all_ranges_fully_read ≡ true → read_all_call tables area t routes r mode out ≡ unchanged (asked_of_read tables area t routes r) r t out
  unfolding read_all_call
  once_all_ranges_are_read_only_the_questions_are_asked e =
      ap (λ (b : Bool). pick (eqb (asked_of_read tables area t routes r) 0) (pick b (unchanged 0 r t out) (all_result tables area t r ranges_read_lem out)) (unchanged (asked_of_read tables area t routes r) r t out)) e
      ∙ go (asked_of_read tables area t routes r)
    where
      go : (n : ℕ) → pick (eqb n 0) (unchanged 0 r t out) (unchanged n r t out) ≡ unchanged n r t out
      go zero = refl
      go (suc n) = pick_no _ _ _ (ne_eqb (suc n) 0 (λ (q : suc n ≡ 0). omega arith))

  -- "Nothing is done" comes after questions 1 to 5 and 9
  pub the_questions_come_before_nothing_is_done : r.all_ranges_fully_read ≡ true → t.active ≡ false
      → first_no (ask 1 (leb area_bytes (length area)) 0 ∷ shard_number r.for_shard_id ∷ routes_number routes ∷ settled_number r ∷ refusal (length area) tables t ∷ []) ≡ 0
      → (read_all_call tables area t routes r mode out).answer.number ≡ 9
  unfolding asked_of_read
  the_questions_come_before_nothing_is_done e closed z =
      let l = ask 1 (leb area_bytes (length area)) 0 ∷ shard_number r.for_shard_id ∷ routes_number routes ∷ settled_number r ∷ refusal (length area) tables t ∷ [] in
      ap (λ (d : ReadAllResult). d.answer.number) (once_all_ranges_are_read_only_the_questions_are_asked e)
      ∙ (ap (λ (b : Bool). first_no (l ++ (ask 9 b 0 ∷ []))) closed ∙ after_yes l 9 z)

  pub the_read_of_all_changes_the_cache_only_by_pops : (n : ℕ) × ((read_all_call tables area t routes r mode out).answer.state ≡ with_cache t (popped_times n tables t.cache))
  unfolding read_all_call pops_call answer popped_times
  the_read_of_all_changes_the_cache_only_by_pops =
      let P : ReadAllResult → Type 0 = λ d. (n : ℕ) × (d.answer.state ≡ with_cache t (popped_times n tables t.cache)) in
      pick_both P (eqb (asked_of_read tables area t routes r) 0) _ _
      (pick_both P r.all_ranges_fully_read _ _ (0, refl) (pick_both P (eqb ranges_read_lem.value.so_far.number 0) _ _ (popped (refusal (length area) tables t) ranges_read_lem.value.so_far.pops) (0, refl)))
      (0, refl)
    where
      popped : (k m : ℕ) → (n : ℕ) × (on_zero k (with_cache t (popped_times m tables t.cache)) t ≡ with_cache t (popped_times n tables t.cache))
      popped zero m = (m, refl)
      popped (suc k) m = (0, refl)

-- ---- free bytes
module _ (tables area tables' area' : List ℕ) (t : AnchorsCacheTransaction) (g : Agree tables area tables' area' t) (routes : List ℕ) where
  -- pops leave two that agree
  popped_agree : (n : ℕ) → Agree tables area tables' area' (pops_call (length area') n tables' t).state
  unfolding pops_call answer
  popped_agree n = go (refusal (length area') tables' t)
    where
      go : (k : ℕ) → Agree tables area tables' area' (on_zero k (with_cache t (popped_times n tables' t.cache)) t)
      go zero = rw (← times_same tables area tables' area' g.tall n t.cache g.now) (record { tall = g.tall; broad = g.broad; now = (free_bytes_in_views tables area tables' area' t g).pops n; then = g.then })
      go (suc k) = g

  range_same : (x : Fixed) (n : ℕ) (mode : ReadNextExternalsMode) (range : ExternalsRangeReaderState) (room : ℕ) → window_read tables area t routes x n mode range room ≡ window_read tables' area' t routes x n mode range room
  unfolding window_read
  range_same x n mode range room =
      let u = (pops_call (length area') n tables' t).state in
      let q : (pops_call (length area) n tables t).state ≡ u = rw g.broad (ap (λ (d : Done). d.state) ((free_bytes tables area tables' area' t g (length area')).pops n)) in
      let a = popped_agree n in
      rw (
        q,
        one-range.asked_same tables area tables' area' u a x.shard routes x.limits x.processed x.params.externals_expire_timeout mode range,
        one-range.steps_same tables area tables' area' u a x.shard routes x.limits x.processed x.params.externals_expire_timeout mode range room,
      )

  asked_same : (r : ExternalsReader) → asked_of_read tables area t routes r ≡ asked_of_read tables' area' t routes r
  unfolding asked_of_read
  asked_same r = rw (g.broad, (free_bytes tables area tables' area' t g (length area')).check)

  all_same : (r : ExternalsReader) (mode : GetNextMessageGroupMode) (room : ℕ) → all_ranges_read tables area t routes r mode room ≡ all_ranges_read tables' area' t routes r mode room
  unfolding all_ranges_read view
  all_same r mode room =
      let x = fixed_of r mode (imported_in tables' t.cache) room in
      ap (λ (v : Cache). let y = fixed_of r mode (imported_of v) room in ranges_read (window_read tables area t routes y) y (at_entry r.reader_state)) g.now
      ∙ two_ways_to_read_a_range_that_agree_read_all_alike (window_read tables area t routes x) (window_read tables' area' t routes x) x (range_same x) (at_entry r.reader_state)

  -- two tables and two areas that agree on what is cached or restorable by a rollback give the same number, answer,
  -- reader, transaction and output bytes
  pub no_read_of_all_depends_on_free_bytes : (r : ExternalsReader) (mode : GetNextMessageGroupMode) (out : List ℕ) → read_all_call tables area t routes r mode out ≡ read_all_call tables' area' t routes r mode out
  unfolding read_all_call
  no_read_of_all_depends_on_free_bytes r mode out =
      rw (asked_same r, all_same r mode (length out), g.broad, (free_bytes tables area tables' area' t g (length area')).pops (all_ranges_read tables' area' t routes r mode (length out)).value.so_far.pops)

-- ---- question 5 of the ranges
-- one range's read that does not ask it
abbrev pub unasked_range : List ℕ → Fixed → Cache → OneRange
unasked_range routes x v pops mode range room =
    let s = range_steps routes x (pop_times pops v) mode range room in
    told_by (first_no (limited_number x.limits range.by_partitions ∷ s.value.walk.number ∷ [])) closed_transaction range s

held_at : (n : ℕ) (l : List ExternalsRangeReaderState) (j : ℕ) → j < n → (get_or l j no_range ≡ no_range) ⊎ ((j < length (take n l)) × (get_or (take n l) j no_range ≡ get_or l j no_range))
held_at zero l j h = absurd (omega arith)
held_at (suc n) [] j h = inl refl
held_at (suc n) (r ∷ l) zero h = inr (omega arith, refl)
held_at (suc n) (r ∷ l) (suc j) h = go (held_at n l j (omega arith))
  where
    go : (get_or l j no_range ≡ no_range) ⊎ ((j < length (take n l)) × (get_or (take n l) j no_range ≡ get_or l j no_range)) → (get_or l j no_range ≡ no_range) ⊎ ((suc j < suc (length (take n l))) × (get_or (take n l) j no_range ≡ get_or l j no_range))
    go (inl e) = inl e
    go (inr p) = inr (omega (arith, p.0), p.1)

-- the ranges that are read are those handed in, which it was asked of at entry, and the new one, whose counts are 0
pub no_range_is_refused_by_question_5_in_a_read_of_all : (h : HandedAll) (v : Cache) → state_number h.reader.reader_state ≡ 0
    → book_all_read h v ≡ ranges_read (unasked_range h.routes (book_fixed h v) v) (book_fixed h v) (at_entry h.reader.reader_state)
unfolding book_all_read book_range next_range partitions_number every
no_range_is_refused_by_question_5_in_a_read_of_all h v z =
    let state = h.reader.reader_state in
    let x = book_fixed h v in
    let Q : ExternalsRangeReaderState → Type 0 = λ r. partitions_number r.by_partitions ≡ 0 in
    the_read_of_all_looks_only_at_the_ranges_it_reads (book_range h.routes x v) (unasked_range h.routes x v) x Q
    (λ pops mode range room q.
    let s = range_steps h.routes x (pop_times pops v) mode range room in
    ap (λ (n : ℕ). told_by n closed_transaction range s) (first_yes (partitions_number range.by_partitions) (limited_number x.limits range.by_partitions ∷ s.value.walk.number ∷ []) q))
    (λ r. rw (next_fits x.by_partitions))
    refl
    (at_entry state)
    (λ j a. held state.ranges (sound_parts state z).1 j (held_at state.len state.ranges j a))
  where
    held : (l : List ExternalsRangeReaderState) → sound_ranges_from 0 (take h.reader.reader_state.len l) ≡ true → (j : ℕ)
        → (get_or l j no_range ≡ no_range) ⊎ ((j < length (take h.reader.reader_state.len l)) × (get_or (take h.reader.reader_state.len l) j no_range ≡ get_or l j no_range))
        → partitions_number (get_or l j no_range).by_partitions ≡ 0
    held l e j (inl q) = ap (λ (r : ExternalsRangeReaderState). partitions_number r.by_partitions) q
    held l e j (inr q) = ap (λ (r : ExternalsRangeReaderState). partitions_number r.by_partitions) (sym q.1) ∙ sound_counts 0 (take h.reader.reader_state.len l) e j q.0

-- ---- the last imported entry
last_fresh : (ct : ℕ) (l : List Info) → last_of (drop_stale ct l) ≡ last_of l
unfolding last_of drop_stale
last_fresh ct [] = refl
last_fresh ct (x ∷ []) = refl
last_fresh ct (x ∷ y ∷ l) = pick_both (λ (m : List Info). last_of m ≡ last_of (y ∷ l)) (ltb x.time ct) _ _ (last_fresh ct (y ∷ l)) refl

last_popped : (v : Cache) → last_of (pop_front v).history ≡ last_of v.history
unfolding pop_front
last_popped v = go v.anchors
  where
    go : (l : List Anchor) → last_of (pop_from l v).history ≡ last_of v.history
    go [] = refl
    go (a ∷ l) = last_fresh a.time v.history

-- so it may be looked up before the ranges are read
pub the_last_imported_entry_stays : (n : ℕ) (v : Cache) → last_of (pop_times n v).history ≡ last_of v.history
unfolding pop_times
the_last_imported_entry_stays zero v = refl
the_last_imported_entry_stays (suc n) v = the_last_imported_entry_stays n (pop_front v) ∙ last_popped v
