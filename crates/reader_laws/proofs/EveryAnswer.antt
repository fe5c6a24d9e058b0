-- What each call answers where its number is 0 is a function of the cache that its window stands for, and in a list of
-- calls of the book's present cache.
use Prim.Native.Nat.{ℕ, zero, suc, ◌≤◌}
use mathlib.Core.Path.{◌≡◌, refl, sym, ap, subst, ◌∙◌}
use mathlib.Core.Bool.{true, false}
use mathlib.Core.List.{List, [], ◌∷◌}
use native.Mathlib.Omega.{arith}
use lib.ListN.{length}
use borrow.Author.Tests.{ne_eqb}
use Rattle.rows.proofs.Laws.{pick_yes, pick_no}
use Rattle.messages_buffer.specs.Fullness.{first_no}
use Rattle.anchors_cache.specs.declared.AnchorsCacheTransaction.{AnchorsCacheTransaction}
use Rattle.anchors_cache.specs.Answers.{Done}
use Rattle.cache_rules.specs.Rules.{Cache, area_bytes}
use Rattle.anchors_cache.specs.Tables.{view}
use Rattle.anchors_cache.specs.Calls.{on_zero, pop_call, trim_call, last_info_call, info_at_ct_call, last_id_call, get_call, pending_call, pending_in_range_call}
use Rattle.cache_laws.specs.Book.{Book, Area, same, short, lend, Call, reading}
use Rattle.cache_laws.specs.Entries.{popping, trimming, Question, last_info, info_at, last_id, get_at, is_pending, is_pending_up_to, asking}
use Rattle.cache_laws.proofs.Values.{a_pop_answers_the_front_anchor, get_answers_the_anchor_at_its_index, a_trim_answers_the_last_entry_that_is_left, the_last_imported_entry_is_the_last_of_the_history, the_entry_at_ct_is_the_rule's, the_last_id_and_time_are_those_of_the_last_entry, pending_is_that_of_the_cache, pending_in_range_is_the_rule's}
use Rattle.cache_laws.proofs.Claim.{Stands, Follows, Simulates}
use Rattle.range_rules.specs.Walks.{RangeRead}
use Rattle.range_rules.specs.Rules.{Outcome}
use Rattle.range_reader.specs.Calls.{asked_number, range_read, read_answer, read_call}
use Rattle.range_laws.specs.OneRange.{Handed, book_steps, book_read_number, read_on_window}
use Rattle.externals_reader.specs.Calls.{asked_of_read, all_ranges_read, ReadAllResult, unchanged, all_result}
use Rattle.reader_rules.specs.Turns.{RangesRead}
use Rattle.reader_laws.specs.AllRanges.{HandedAll, book_all_read, book_all_number, book_all_pops, read_all_on_window}
use Rattle.reader_laws.specs.Answers.{Answered, anchor, entry, id_with_time, flag, Reply, pop_reply, trim_reply, question_reply, range_answered, range_reply, all_answered, nothing_told, all_reply, lend_reply}
use Rattle.reader_laws.proofs.Entered.{asked_same, all_same}
use Rattle.reader_laws.proofs.AllPassed.{answered_yes}
use Rattle.reader_laws.proofs.AllKept.{answered}

-- for every argument, a transaction open or none: of the cache where the number is 0, else by the number alone
abbrev pub OfItsCache : Call → Reply → Type 0
OfItsCache k y = (tables area : List ℕ) (t : AnchorsCacheTransaction)
    → let n = (k.on_window tables area t).number in y.on_window tables area t ≡ on_zero n (y.of_cache (view tables area t.cache)) (y.refused n)

of_either : {A : Type 0} (f : A → Answered) (n : ℕ) (a x y : A) → a ≡ on_zero n x y → f a ≡ on_zero n (f x) (f y)
of_either f zero a x y e = ap f e
of_either f (suc n) a x y e = ap f e

-- ---- the cache's calls
pub a_pop_answers_of_its_cache : OfItsCache popping pop_reply
a_pop_answers_of_its_cache tables area t = of_either anchor (pop_call (length area) tables t).number _ _ _ (a_pop_answers_the_front_anchor tables area t (length area))

pub a_trim_answers_of_its_cache : (ct : ℕ) → OfItsCache (trimming ct) (trim_reply ct)
a_trim_answers_of_its_cache ct tables area t = of_either entry (trim_call (length area) ct tables t).number _ _ _ (a_trim_answers_the_last_entry_that_is_left tables area t (length area) ct)

pub a_question_answers_of_its_cache : (q : Question) → OfItsCache (asking q) (question_reply q)
a_question_answers_of_its_cache last_info tables area t = of_either entry (last_info_call tables t).number _ _ _ (the_last_imported_entry_is_the_last_of_the_history tables area t)
a_question_answers_of_its_cache (info_at ct) tables area t = of_either entry (info_at_ct_call ct tables t).number _ _ _ (the_entry_at_ct_is_the_rule's tables area t ct)
a_question_answers_of_its_cache last_id tables area t = of_either id_with_time (last_id_call tables t).number _ _ _ (the_last_id_and_time_are_those_of_the_last_entry tables area t)
a_question_answers_of_its_cache (get_at i) tables area t = of_either anchor (get_call i tables t).number _ _ _ (get_answers_the_anchor_at_its_index tables area t i)
a_question_answers_of_its_cache is_pending tables area t = of_either flag (pending_call tables t).number _ _ _ (pending_is_that_of_the_cache tables area t)
a_question_answers_of_its_cache (is_pending_up_to up_to) tables area t = of_either flag (pending_in_range_call up_to tables t).number _ _ _ (pending_in_range_is_the_rule's tables area t up_to)

-- ---- the reads
pub a_read_of_one_range_answers_of_its_cache : (h : Handed) → OfItsCache (reading (book_read_number h) (λ area present. (book_steps h present).value.pops) (read_on_window h)) (range_reply h)
unfolding read_on_window book_steps read_call range_read
a_read_of_one_range_answers_of_its_cache h tables area t = go (first_no (asked_number tables area t h.shard h.routes h.limits h.range ∷ s.value.walk.number ∷ []))
  where
    s : Outcome RangeRead
    s = book_steps h (view tables area t.cache)

    go : (n : ℕ) → let r = read_answer n tables t h.range s h.out in
        range_answered r ≡ on_zero r.answer.number ((range_reply h).of_cache (view tables area t.cache)) ((range_reply h).refused r.answer.number)
    go zero = refl
    go (suc n) = rw (ne_eqb (suc n) 0 (λ (e : suc n ≡ 0). omega arith))

pub a_read_of_all_ranges_answers_of_its_cache : (h : HandedAll) → OfItsCache (reading (book_all_number h) (λ area present. book_all_pops h present) (read_all_on_window h)) (all_reply h)
unfolding read_all_on_window
a_read_of_all_ranges_answers_of_its_cache h tables area t = answered tables area t h.routes h.reader h.mode h.out P idle refused done
  where
    v : Cache
    v = view tables area t.cache

    P : ReadAllResult → Type 0
    P d = all_answered d ≡ on_zero d.answer.number ((all_reply h).of_cache v) (nothing_told h)

    asked : ℕ
    asked = asked_of_read tables area t h.routes h.reader

    refused : (asked ≡ 0 → ⊥) → P (unchanged asked h.reader t h.out)
    refused e = go asked e
      where
        go : (n : ℕ) → (n ≡ 0 → ⊥) → P (unchanged n h.reader t h.out)
        go zero e = absurd (e refl)
        go (suc n) e = refl

    idle : asked ≡ 0 → h.reader.all_ranges_fully_read ≡ true → P (unchanged 0 h.reader t h.out)
    idle z read = sym (pick_yes _ _ _ read)

    -- what the ranges' turns came to on the window they came to on the cache
    done : asked ≡ 0 → h.reader.all_ranges_fully_read ≡ false → P (all_result tables area t h.reader (all_ranges_read tables area t h.routes h.reader h.mode (length h.out)) h.out)
    done z unread =
        let a = answered_yes tables area t h z in
        let e = all_same tables area t a.open_now a.big a.cache_ok a.undo_ok h (sym (asked_same tables area t a.open_now a.big a.cache_ok a.undo_ok h) ∙ z) in
        subst (λ (s : Outcome RangesRead). P (all_result tables area t h.reader s h.out)) (sym e) (go (book_all_read h v).value.so_far.number refl)
      where
        go : (n : ℕ) → (book_all_read h v).value.so_far.number ≡ n → P (all_result tables area t h.reader (book_all_read h v) h.out)
        go zero e = rw e (sym (pick_no _ _ _ unread))
        go (suc n) e = rw (e, ne_eqb (suc n) 0 (λ (q : suc n ≡ 0). omega arith))

-- ---- in a list
module _ (tables area : List ℕ) where
  -- a call that follows the book answers of the book's present cache
  pub answers_of_the_book : (k : Call) (y : Reply) → OfItsCache k y → Follows tables area k
      → (t : AnchorsCacheTransaction) (b : Book) → Stands tables area t b → let n = k.number area b in y.on_window tables area t ≡ on_zero n (y.of_cache b.present) (y.refused n)
  answers_of_the_book k y tells follows t b stands =
      tells tables area t
      ∙ (ap (λ (n : ℕ). on_zero n (y.of_cache (view tables area t.cache)) (y.refused n)) (follows t b stands).0
      ∙ ap (λ (v : Cache). on_zero (k.number area b) (y.of_cache v) (y.refused (k.number area b))) stands.present)

  -- lent an area that question 1 refuses, it answers as one refused by 1
  pub lent_answers_of_the_book : area_bytes ≤ length area → (k : Call) (y : Reply) → OfItsCache k y → Simulates k → (a : Area)
      → (t : AnchorsCacheTransaction) (b : Book) → Stands tables area t b → let n = (lend a k).number area b in (lend_reply a y).on_window tables area t ≡ on_zero n (y.of_cache b.present) (y.refused n)
  lent_answers_of_the_book big k y tells m same t b stands = answers_of_the_book k y tells (m.follows tables area big) t b stands
  lent_answers_of_the_book big k y tells m (short bytes p) t b stands =
      let q = m.refuses tables bytes p t b in
      tells tables bytes t
      ∙ (ap (λ (d : Done). on_zero d.number (y.of_cache (view tables bytes t.cache)) (y.refused d.number)) q.0
      ∙ sym (ap (λ (n : ℕ). on_zero n (y.of_cache b.present) (y.refused n)) q.1))
