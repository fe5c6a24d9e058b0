-- The read of all ranges is a call of the book.
use Rattle.std.specs.Prelude.{Option}
use Prim.Native.Nat.{ℕ, zero, suc, ◌<◌, ◌≤◌}
use mathlib.Core.Path.{◌≡◌, refl, ap, ◌∙◌}
use mathlib.Core.Bool.{Bool, true, false}
use mathlib.Core.List.{List, [], ◌∷◌}
use lib.Dec.{leb, eqb}
use lib.ListN.{length}
use lib.Seq.{sets}
use native.Mathlib.Omega.{arith}
use borrow.Author.Tests.{le-leb, lt-leb, ne_eqb}
use mathlib.Core.Option.{Option as Maybe, none, some}
use Rattle.ext_types.specs.declared.ExternalKey.{ExternalKey}
use Rattle.rows.specs.Rows.{pick}
use Rattle.shard_ident.specs.Shard.{shard_number}
use Rattle.router.specs.Router.{routes_number}
use Rattle.messages_buffer.specs.Fullness.{limits_number, partitions_number, limited_number, first_no}
use Rattle.anchors_cache.specs.declared.AnchorsCache.{AnchorsCache}
use Rattle.anchors_cache.specs.declared.AnchorsCacheTransaction.{AnchorsCacheTransaction}
use Rattle.anchors_cache.specs.Answers.{Done}
use Rattle.cache_rules.specs.Rules.{Cache, ask, area_bytes, Info, last_of}
use Rattle.anchors_cache.specs.Tables.{view}
use Rattle.anchors_cache.specs.Windows.{popped_times}
use Rattle.anchors_cache.specs.Calls.{places_in, valid_cache, refusal, on_zero, answer, with_cache, pops_call, info_found}
use Rattle.anchors_cache.proofs.Asked.{parts}
use Rattle.cache_laws.specs.Book.{pop_times, Reading}
use Rattle.cache_laws.proofs.Views.{view_popped_times}
use Rattle.cache_laws.proofs.Kept.{whole, times_parts, holds_view}
use Rattle.range_laws.proofs.Entered.{accepted}
use Rattle.range_rules.specs.declared.ExternalsRangeReaderState.{ExternalsRangeReaderState}
use Rattle.range_rules.specs.declared.ReadNextExternalsMode.{ReadNextExternalsMode}
use Rattle.range_rules.specs.Rules.{Outcome, key_at}
use Rattle.range_reader.specs.Calls.{asked_number, range_read}
use Rattle.messages_buffer.proofs.Laws.{first_zero, first_alone}
use Rattle.reader_rules.specs.declared.Fixed.{Fixed}
use Rattle.reader_rules.specs.Turns.{RangesRead}
use Rattle.reader_rules.specs.State.{settings_number, settled_number}
use Rattle.reader_rules.specs.Rules.{ranges_read, fixed_of, at_entry, imported_value}
use Rattle.externals_reader.specs.Calls.{asked_of_read, window_read, imported_in, all_ranges_read, reader_after, ReadAllResult, unchanged, all_result, read_all_call, end_of}
use Rattle.reader_laws.specs.AllRanges.{HandedAll, imported_of, book_fixed, range_steps, book_range, book_all_read, book_asked, book_all_number, book_all_pops, read_all_on_window}
use Rattle.reader_rules.proofs.Turns.{two_ways_to_read_a_range_that_agree_read_all_alike}

-- ---- what the questions say
first_more : (a b c : ℕ) → first_no (first_no (a ∷ b ∷ []) ∷ c ∷ []) ≡ first_no (a ∷ b ∷ c ∷ [])
unfolding first_no
first_more zero zero c = refl
first_more zero (suc b) c = refl
first_more (suc a) b c = refl

-- ---- the last imported entry
abbrev counted_end : Maybe Info → Maybe ExternalKey
counted_end none = none
counted_end (some i) = some (key_at i.id i.all)

pub the_last_imported_entry_is_the_history's_last : (tables area : List ℕ) (c : AnchorsCache) → imported_in tables c ≡ imported_of (view tables area c)
unfolding view
the_last_imported_entry_is_the_history's_last tables area c = refl

-- in the paper's values: its id and message count
pub the_block's_own_range_is_moved_to_the_last_entry's_id_and_message_count : (v : Cache) → imported_value (imported_of v) ≡ counted_end (last_of v.history)
the_block's_own_range_is_moved_to_the_last_entry's_id_and_message_count v = go (last_of v.history)
  where
    go : (o : Maybe Info) → imported_value (end_of (info_found o)) ≡ counted_end o
    go none = refl
    go (some i) = refl

module _ (tables area : List ℕ) (t : AnchorsCacheTransaction) (active : t.active ≡ true) (big : area_bytes ≤ length area)
    (now : valid_cache (places_in (length area)) tables t.cache ≡ true) (then : valid_cache (places_in (length area)) tables t.undo ≡ true) where
  abbrev places : ℕ
  places = places_in (length area)

  -- ---- one range
  -- n pops leave a window that question 5 lets pass
  abbrev popped : ℕ → AnchorsCacheTransaction
  popped n = with_cache t (popped_times n tables t.cache)

  popped_state : (n : ℕ) → (pops_call (length area) n tables t).state ≡ popped n
  unfolding pops_call answer
  popped_state n = rw (accepted tables area t big now then)

  popped_accepted : (n : ℕ) → refusal (length area) tables (popped n) ≡ 0
  popped_accepted n =
      accepted tables area (popped n) big (whole places tables (popped_times n tables t.cache) (times_parts places tables n t.cache (parts places tables t.cache now))) then

  module _ (routes : List ℕ) (x : Fixed) (shard-yes : shard_number x.shard ≡ 0) (routes-yes : routes_number routes ≡ 0) (limits-yes : limits_number x.limits ≡ 0) where
    -- of its questions those of the range are left
    asked_of_range : (n : ℕ) (range : ExternalsRangeReaderState) → asked_number tables area (popped n) x.shard routes x.limits range ≡ first_no (partitions_number range.by_partitions ∷ limited_number x.limits range.by_partitions ∷ [])
    unfolding asked_number first_no
    asked_of_range n range =
        rw (le-leb area_bytes (length area) big, shard-yes, routes-yes, limits-yes, popped_accepted n)
        (ap (λ (b : Bool). first_no (partitions_number range.by_partitions ∷ ask 9 b 0 ∷ limited_number x.limits range.by_partitions ∷ [])) active ∙ go (partitions_number range.by_partitions))
      where
        go : (k : ℕ) → first_no (k ∷ 0 ∷ limited_number x.limits range.by_partitions ∷ []) ≡ first_no (k ∷ limited_number x.limits range.by_partitions ∷ [])
        go zero = refl
        go (suc k) = refl

    steps_of_range : (n : ℕ) (mode : ReadNextExternalsMode) (range : ExternalsRangeReaderState) (room : ℕ)
        → range_read tables area (popped n) x.shard routes x.limits x.processed x.params.externals_expire_timeout mode range room ≡ range_steps routes x (pop_times n (view tables area t.cache)) mode range room
    unfolding range_read range_steps
    steps_of_range n mode range room = ap (λ (v : Cache). range_steps routes x v mode range room) (view_popped_times n tables area t.cache)

    -- on the window and on the book's cache one range is read alike, after any number of pops
    pub a_range_is_read_as_in_the_book : (n : ℕ) (mode : ReadNextExternalsMode) (range : ExternalsRangeReaderState) (room : ℕ)
        → window_read tables area t routes x n mode range room ≡ book_range routes x (view tables area t.cache) n mode range room
    unfolding window_read book_range
    a_range_is_read_as_in_the_book n mode range room =
        let s = range_steps routes x (pop_times n (view tables area t.cache)) mode range room in
        rw (popped_state n, asked_of_range n range, steps_of_range n mode range room, first_more (partitions_number range.by_partitions) (limited_number x.limits range.by_partitions) s.value.walk.number)

  module _ (h : HandedAll) where
    abbrev v : Cache
    v = view tables area t.cache

    abbrev w : Cache
    w = view tables area t.undo

    -- ---- the questions
    pub asked_same : asked_of_read tables area t h.routes h.reader ≡ book_asked h area v w
    unfolding asked_of_read book_asked
    asked_same =
        rw (accepted tables area t big now then, holds_view places tables area t.cache (parts places tables t.cache now), holds_view places tables area t.undo (parts places tables t.undo then))
        (ap
        (λ (x : Bool). first_no (ask 1 (leb area_bytes (length area)) 0 ∷ shard_number h.reader.for_shard_id ∷ routes_number h.routes ∷ settled_number h.reader ∷ 0 ∷ ask 9 x 0 ∷ []))
        active)

    -- ---- all ranges
    pub all_same : book_asked h area v w ≡ 0 → all_ranges_read tables area t h.routes h.reader h.mode (length h.out) ≡ book_all_read h v
    unfolding all_ranges_read book_all_read book_asked settled_number settings_number
    all_same z =
        let p2 = first_zero _ _ (first_zero _ _ z).1 in
        let p3 = first_zero _ _ p2.1 in
        let p4 = first_zero _ _ p3.1 in
        let limits = (first_zero _ _ (first_zero _ _ p4.0).0).0 in
        let x = book_fixed h v in
        ap
        (λ (i : Option ExternalKey). let y = fixed_of h.reader h.mode i (length h.out) in ranges_read (window_read tables area t h.routes y) y (at_entry h.reader.reader_state))
        (the_last_imported_entry_is_the_history's_last tables area t.cache)
        ∙ two_ways_to_read_a_range_that_agree_read_all_alike (window_read tables area t h.routes x) (book_range h.routes x v) x (a_range_is_read_as_in_the_book h.routes x p2.0 p3.0 limits)
        (at_entry h.reader.reader_state)

    -- number, counts, reader, transaction and output bytes: the contract's answer with the book's questions and the
    -- book's read
    pub the_whole_answer_is_the_book's : read_all_call tables area t h.routes h.reader h.mode h.out
        ≡ pick (eqb (book_asked h area v w) 0)
        (pick h.reader.all_ranges_fully_read (unchanged 0 h.reader t h.out) (all_result tables area t h.reader (book_all_read h v) h.out))
        (unchanged (book_asked h area v w) h.reader t h.out)
    unfolding read_all_call
    the_whole_answer_is_the_book's = go (book_asked h area v w) refl
      where
        go : (k : ℕ) → book_asked h area v w ≡ k → read_all_call tables area t h.routes h.reader h.mode h.out
            ≡ pick (eqb (book_asked h area v w) 0)
            (pick h.reader.all_ranges_fully_read (unchanged 0 h.reader t h.out) (all_result tables area t h.reader (book_all_read h v) h.out))
            (unchanged (book_asked h area v w) h.reader t h.out)
        go zero e = rw (asked_same, e, all_same e)
        go (suc k) e = rw (asked_same, e, ne_eqb (suc k) 0 (λ (q : suc k ≡ 0). omega arith))

    abbrev Done_of : ReadAllResult → Done
    Done_of d = record { number = d.answer.number; state = d.answer.state }

    -- a call that answers 0 leaves the popped window, any other the window it was handed
    by_ranges : (s : Outcome RangesRead) → Done_of (all_result tables area t h.reader s h.out) ≡ answer s.value.so_far.number t (popped s.value.so_far.pops)
    unfolding answer
    by_ranges s = go s.value.so_far.number
      where
        go : (k : ℕ) → Done_of (pick (eqb k 0)
            (record {
              answer = record { number = 0; free = s.value.so_far.free; used = s.value.so_far.used; counts = s.value.so_far.counts; reader = reader_after h.reader s.value; state = (pops_call (length area) s.value.so_far.pops tables t).state };
              out = sets h.out 0 s.entries;
            }) (unchanged k h.reader t h.out)) ≡ record { number = k; state = on_zero k (popped s.value.so_far.pops) t }
        go zero = rw (popped_state s.value.so_far.pops)
        go (suc k) = rw (ne_eqb (suc k) 0 (λ (e : suc k ≡ 0). omega arith))

    -- and nothing is done where the mark is set
    by_mark : (mark : Bool) (s : Outcome RangesRead)
        → Done_of (pick mark (unchanged 0 h.reader t h.out) (all_result tables area t h.reader s h.out)) ≡ answer (pick mark 0 s.value.so_far.number) t (popped (pick mark 0 s.value.so_far.pops))
    unfolding answer popped_times
    by_mark true s = refl
    by_mark false s = by_ranges s

    by_questions : (k : ℕ) (mark : Bool) (s : Outcome RangesRead)
        → Done_of (pick (eqb k 0) (pick mark (unchanged 0 h.reader t h.out) (all_result tables area t h.reader s h.out)) (unchanged k h.reader t h.out))
        ≡ answer (first_no (k ∷ pick mark 0 s.value.so_far.number ∷ [])) t (popped (pick mark 0 s.value.so_far.pops))
    unfolding answer first_no
    by_questions zero mark s = rw (first_alone (pick mark 0 s.value.so_far.number)) (by_mark mark s)
    by_questions (suc k) mark s = rw (ne_eqb (suc k) 0 (λ (q : suc k ≡ 0). omega arith))

    pub agrees : read_all_on_window h tables area t ≡ answer (book_all_number h area v w) t (popped (book_all_pops h v))
    unfolding read_all_on_window book_all_number book_all_pops
    agrees = ap Done_of the_whole_answer_is_the_book's ∙ by_questions (book_asked h area v w) h.reader.all_ranges_fully_read (book_all_read h v)

module _ (h : HandedAll) (tables area : List ℕ) (t : AnchorsCacheTransaction) where
  pub refused : (v w : Cache) → length area < area_bytes → (read_all_on_window h tables area t ≡ record { number = 1; state = t }) × (book_all_number h area v w ≡ 1)
  unfolding read_all_on_window book_all_number book_asked read_all_call asked_of_read first_no
  refused v w few = (rw (lt-leb area_bytes (length area) few), rw (lt-leb area_bytes (length area) few))

-- whatever it is handed, a read of all ranges may stand in the list of `the-book`
unfoldable pub all_ranges : HandedAll → Reading
all_ranges h =
    record {
      number = book_all_number h;
      pops = λ area present. book_all_pops h present;
      on_window = read_all_on_window h;
      agrees = λ tables area t active big now then. agrees tables area t active big now then h;
      refused = refused h;
    }
