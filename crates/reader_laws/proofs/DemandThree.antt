-- Demand 3, whole: one claim about every list of calls between an open and a close, and what it says of an abandoned
-- attempt, of a committed one and of the undo log.
use Prim.Native.Nat.{ℕ, ◌≤◌}
use mathlib.Core.Path.{◌≡◌, refl, sym, ap, ◌∙◌}
use mathlib.Core.Bool.{true, false}
use mathlib.Core.List.{List, [], ◌∷◌, map}
use lib.ListN.{length}
use Rattle.anchors_cache.specs.declared.AnchorsCacheTransaction.{AnchorsCacheTransaction}
use Rattle.anchors_cache.specs.Answers.{Done}
use Rattle.anchors_cache.specs.declared.AnchorInfo.{AnchorInfo}
use Rattle.anchors_cache.specs.declared.MempoolAnchor.{MempoolAnchor}
use Rattle.anchors_cache.specs.Tables.{info_row, view}
use Rattle.anchors_cache.specs.Windows.{history_added, added_tables, added_area}
use Rattle.anchors_cache.specs.Calls.{on_zero, answer, row_for, info_with, add_call, add_info_call, open_call, close_call}
use Rattle.cache_laws.specs.Book.{Book, Area, same, short, lent, begin, finish, enter, applied, reading, entered, book_numbers, performed, numbers, committed_in, since_rollback}
use Rattle.cache_laws.specs.Entries.{popping, popping_many, trimming, committing, rolling_back, closing, opening, clearing, adding, adding_info, asking}
use Rattle.cache_laws.proofs.Claim.{Stands, opened_stands, an_add_in_the_list_writes_nothing, an_entry_in_the_list_writes_nothing, Follows, Simulates, lent_follows, short_follows, pop_simulates, pops_simulates, trim_simulates, reading_simulates, commit_simulates, rollback_simulates, add_simulates, info_simulates, open_simulates, clear_simulates, close_refuses, ask_follows, on_self, the_book}
use Rattle.cache_laws.proofs.Corollaries as corollary
use Rattle.range_laws.specs.OneRange.{Handed, book_steps, book_read_number, read_on_window}
use Rattle.range_laws.proofs.Entered.{one_range}
use Rattle.reader_laws.specs.AllRanges.{HandedAll, book_all_number, book_all_pops, read_all_on_window}
use Rattle.reader_laws.specs.Steps.{Step, pop, pop_fronts, trim_above, reads_one, reads_all, commit, rollback, adds, adds_info, opens, clears, closes, asks, call, handed_bytes, add_leaves, info_leaves, leaves, NothingWritten}
use Rattle.reader_laws.specs.Answers.{Answered, number_alone, pop_reply, trim_reply, question_reply, range_reply, all_reply, reply_of, answers, book_answer, book_answers}
use Rattle.reader_laws.proofs.Entered.{all_ranges}
use Rattle.reader_laws.proofs.EveryAnswer.{answers_of_the_book, lent_answers_of_the_book, a_pop_answers_of_its_cache, a_trim_answers_of_its_cache, a_question_answers_of_its_cache, a_read_of_one_range_answers_of_its_cache, a_read_of_all_ranges_answers_of_its_cache}
use Rattle.cache_rules.specs.Rules.{area_bytes}

-- ---- each call follows the book
one_simulates : (h : Handed) → Simulates (reading (book_read_number h) (λ area present. (book_steps h present).value.pops) (read_on_window h))
unfolding one_range
one_simulates h = reading_simulates (one_range h)

all_simulates : (h : HandedAll) → Simulates (reading (book_all_number h) (λ area present. book_all_pops h present) (read_all_on_window h))
unfolding all_ranges
all_simulates h = reading_simulates (all_ranges h)

module _ (tables area : List ℕ) (big : area_bytes ≤ length area) where
  each : (k : Step area) → Follows tables area (call k)
  each (pop a) = lent_follows popping pop_simulates a tables area big
  each (pop_fronts a n) = lent_follows (popping_many n) (pops_simulates n) a tables area big
  each (trim_above a ct) = lent_follows (trimming ct) (trim_simulates ct) a tables area big
  each (reads_one a h) = lent_follows _ (one_simulates h) a tables area big
  each (reads_all a h) = lent_follows _ (all_simulates h) a tables area big
  each (commit a) = lent_follows committing commit_simulates a tables area big
  each (rollback a) = lent_follows rolling_back rollback_simulates a tables area big
  each (adds a m ours messages) = lent_follows (adding m ours messages) (add_simulates m ours messages) a tables area big
  each (adds_info a i author) = lent_follows adding_info info_simulates a tables area big
  each (opens a) = lent_follows opening open_simulates a tables area big
  each (clears a) = lent_follows clearing clear_simulates a tables area big
  each (closes bytes p) = short_follows closing close_refuses bytes p tables area
  each (asks p q) = ask_follows q tables area big p

  -- ---- each answer is the book's
  -- done or refused, a number alone
  alone : (k : Step area) (b : Book) → number_alone ≡ on_zero ((call k).number area b) number_alone number_alone
  alone k b = sym (on_self ((call k).number area b) number_alone)

  answer_is_the_book's : (k : Step area) (t : AnchorsCacheTransaction) (b : Book) → Stands tables area t b → (reply_of k).on_window tables area t ≡ book_answer area k b
  unfolding book_answer
  answer_is_the_book's (pop a) t b s = lent_answers_of_the_book tables area big popping pop_reply a_pop_answers_of_its_cache pop_simulates a t b s
  answer_is_the_book's (trim_above a ct) t b s = lent_answers_of_the_book tables area big (trimming ct) (trim_reply ct) (a_trim_answers_of_its_cache ct) (trim_simulates ct) a t b s
  answer_is_the_book's (reads_one a h) t b s = lent_answers_of_the_book tables area big _ (range_reply h) (a_read_of_one_range_answers_of_its_cache h) (one_simulates h) a t b s
  answer_is_the_book's (reads_all a h) t b s = lent_answers_of_the_book tables area big _ (all_reply h) (a_read_of_all_ranges_answers_of_its_cache h) (all_simulates h) a t b s
  answer_is_the_book's (asks p q) t b s = answers_of_the_book tables area (asking q) (question_reply q) (a_question_answers_of_its_cache q) (ask_follows q tables area big p) t b s
  answer_is_the_book's (pop_fronts a n) t b s = alone (pop_fronts a n) b
  answer_is_the_book's (commit a) t b s = alone (commit a) b
  answer_is_the_book's (rollback a) t b s = alone (rollback a) b
  answer_is_the_book's (adds a m ours messages) t b s = alone (adds a m ours messages) b
  answer_is_the_book's (adds_info a i author) t b s = alone (adds_info a i author) b
  answer_is_the_book's (opens a) t b s = alone (opens a) b
  answer_is_the_book's (clears a) t b s = alone (clears a) b
  answer_is_the_book's (closes bytes p) t b s = alone (closes bytes p) b

  answers_are_the_book's : (ks : List (Step area)) (t : AnchorsCacheTransaction) (b : Book) → Stands tables area t b → answers tables area ks t ≡ book_answers area ks b
  unfolding answers book_answers
  answers_are_the_book's [] t b s = refl
  answers_are_the_book's (k ∷ ks) t b s =
      let next = ((call k).on_window tables area t).state in
      ap (λ (x : Answered). x ∷ answers tables area ks next) (answer_is_the_book's k t b s)
      ∙ ap (λ (l : List Answered). book_answer area k b ∷ l) (answers_are_the_book's ks next (enter area (call k) b) (each k t b s).1)

  -- ---- no call writes the lent bytes
  add_leaves_lem : (a : Area) (m : MempoolAnchor) (ours : ℕ) (messages : List ℕ) (t : AnchorsCacheTransaction) (b : Book) → Stands tables area t b
      → add_leaves m ours messages tables (lent area a) t ≡ record { tables = tables; area = lent area a }
  unfolding add_call answer
  add_leaves_lem same m ours messages t b s =
      rw (an_add_in_the_list_writes_nothing tables area big t b s m.id ours (length messages) (added_tables (row_for m ours (length messages)) t.cache tables) tables, an_add_in_the_list_writes_nothing tables area big t b s m.id ours (length messages) (added_area (row_for m ours (length messages)) messages tables t.cache area) area)
  add_leaves_lem (short bytes p) m ours messages t b s = rw (ap (λ (d : Done). d.number) ((add_simulates m ours messages).refuses tables bytes p t b).0)

  info_leaves_lem : (a : Area) (i : AnchorInfo) (author : List ℕ) (t : AnchorsCacheTransaction) (b : Book) → Stands tables area t b
      → info_leaves i author tables (lent area a) t ≡ record { tables = tables; area = lent area a }
  unfolding add_info_call answer
  info_leaves_lem same i author t b s = rw (an_entry_in_the_list_writes_nothing tables area big t b s (history_added (info_row (info_with i author)) t.cache tables) tables)
  info_leaves_lem (short bytes p) i author t b s = rw (ap (λ (d : Done). d.number) (info_simulates.refuses tables bytes p t b).0)

  leaves_lent : (k : Step area) (t : AnchorsCacheTransaction) (b : Book) → Stands tables area t b → leaves tables area k t ≡ handed_bytes tables area k
  leaves_lent (adds a m ours messages) t b s = add_leaves_lem a m ours messages t b s
  leaves_lent (adds_info a i author) t b s = info_leaves_lem a i author t b s
  leaves_lent (pop a) t b s = refl
  leaves_lent (pop_fronts a n) t b s = refl
  leaves_lent (trim_above a ct) t b s = refl
  leaves_lent (reads_one a h) t b s = refl
  leaves_lent (reads_all a h) t b s = refl
  leaves_lent (commit a) t b s = refl
  leaves_lent (rollback a) t b s = refl
  leaves_lent (opens a) t b s = refl
  leaves_lent (clears a) t b s = refl
  leaves_lent (closes bytes p) t b s = refl
  leaves_lent (asks p q) t b s = refl

  nothing_written : (ks : List (Step area)) (t : AnchorsCacheTransaction) (b : Book) → Stands tables area t b → NothingWritten tables area ks t
  unfolding NothingWritten
  nothing_written [] t b s = tt
  nothing_written (k ∷ ks) t b s = (leaves_lent k t b s, nothing_written ks ((call k).on_window tables area t).state (enter area (call k) b) (each k t b s).1)

-- ---- the claim
-- a run over one table and one message area, from a transaction on: an open, the calls, a close with the area of the
-- run
module _ (tables area : List ℕ) (t : AnchorsCacheTransaction) where
  abbrev pub opened : AnchorsCacheTransaction
  opened = (open_call (length area) tables t).state

  abbrev pub closed : List (Step area) → Done
  closed steps = close_call (length area) tables (performed tables area (map call steps) opened)

  abbrev pub start : Book
  start = begin (view tables area t.cache)

  -- "A call's number is what the questions give"; and the cache that the closed window stands for is the one that the
  -- book ends with
  pub record RunsAsTheBook (steps : List (Step area)) : Type 0 where
    pub every_number_is_the_book's : numbers tables area (map call steps) opened ≡ book_numbers area (map call steps) start
    pub every_answer_is_the_book's : answers tables area steps opened ≡ book_answers area steps start
    pub the_close_answers_0 : (closed steps).number ≡ 0
    pub the_cache_is_the_book's : view tables area (closed steps).state.cache ≡ finish (entered area (map call steps) start)
    pub no_call_writes_tables_or_area : NothingWritten tables area steps opened

  module _ (opens-with-0 : (open_call (length area) tables t).number ≡ 0) (steps : List (Step area)) where
    pub demand_three : RunsAsTheBook steps
    demand_three =
        let p = the_book call tables area (each tables area) t steps opens-with-0 in
        let o = opened_stands tables area t opens-with-0 in
        record {
          every_number_is_the_book's = p.0;
          every_answer_is_the_book's = answers_are_the_book's tables area o.0 steps opened start o.1;
          the_close_answers_0 = p.1;
          the_cache_is_the_book's = p.2;
          no_call_writes_tables_or_area = nothing_written tables area o.0 steps opened start o.1;
        }

    -- with no commit answering 0 the cache is as at opening
    pub an_abandoned_attempt_leaves_the_cache : committed_in area (map call steps) start ≡ false → view tables area (closed steps).state.cache ≡ view tables area t.cache
    an_abandoned_attempt_leaves_the_cache e = corollary.an_abandoned_attempt_leaves_the_cache call tables area (each tables area) t steps opens-with-0 e

    -- with one, anywhere, it is what the pops and trims after the last rollback answering 0 give on the opening cache
    pub a_committed_attempt_keeps_the_steps_since_the_last_rollback : committed_in area (map call steps) start ≡ true → view tables area (closed steps).state.cache ≡ applied (since_rollback area (map call steps) start []) (view tables area t.cache)
    a_committed_attempt_keeps_the_steps_since_the_last_rollback e = corollary.a_committed_attempt_keeps_the_changes_since_the_last_rollback call tables area (each tables area) t steps opens-with-0 e

    -- whatever went from the cache, what a rollback restores still stands for all of the opened one
    pub the_log_stands_for_the_opened_cache : view tables area (performed tables area (map call steps) opened).undo ≡ view tables area t.cache
    the_log_stands_for_the_opened_cache = corollary.the_log_stands_for_the_opened_cache call tables area (each tables area) t steps opens-with-0
