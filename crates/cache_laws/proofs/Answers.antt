-- What the cache's calls show where they are refused, and the rows of the tables by their numbers.
use Rattle.std.specs.Prelude.{None}
use Prim.Native.Nat.{ℕ, zero, suc, ◌-◌, ◌≤◌}
use mathlib.Core.Path.{◌≡◌, refl}
use mathlib.Core.Bool.{Bool, true, false}
use mathlib.Core.List.{List}
use mathlib.Core.Option.{Option}
use lib.ListN.{length, replicate}
use borrow.Author.Tests.{le-leb}
use Rattle.rows.specs.Rows.{pick}
use Rattle.cache_rules.specs.Rules.{Info, Row, author_bytes, max_anchors, max_history}
use Rattle.anchors_cache.specs.declared.AnchorsCache.{AnchorsCache}
use Rattle.anchors_cache.specs.declared.AnchorsCacheTransaction.{AnchorsCacheTransaction}
use Rattle.anchors_cache.specs.Tables.{tables_bytes, anchor_at, info_at}
use Rattle.anchors_cache.specs.Windows.{no_cache, any_places}
use Rattle.anchors_cache.specs.Calls.{places_in, row_at, info_row_at, with_cache, info_answer, id_answer, get_answer, flag_answer, pop_answer, trim_answer, row_for, answer, refusal_at, closed_transaction, close_call}

-- ---- refused: none, false, and an author of zeros
module _ (n : ℕ) where
  pub a_refused_question_shows_nothing : (i base : ℕ) (l : List Row) (o : Option Info) (b : Bool)
      → (get_answer (suc n) i base l ≡ record { number = suc n; anchor = None; author = replicate author_bytes 0 }) × (info_answer (suc n) o ≡ record { number = suc n; info = None; author = replicate author_bytes 0 })
      × (id_answer (suc n) o ≡ record { number = suc n; last = None }) × (flag_answer (suc n) b ≡ record { number = suc n; flag = false })
  unfolding get_answer info_answer id_answer flag_answer
  a_refused_question_shows_nothing i base l o b = (refl, refl, refl, refl)

  pub a_refused_pop_or_trim_shows_nothing_and_leaves_the_state : (tables : List ℕ) (t : AnchorsCacheTransaction) (c : AnchorsCache)
      → (pop_answer (suc n) tables t ≡ record { number = suc n; front = None; author = replicate author_bytes 0; state = t }) × (trim_answer (suc n) tables t c ≡ record { number = suc n; last = None; author = replicate author_bytes 0; state = t })
  unfolding pop_answer trim_answer
  a_refused_pop_or_trim_shows_nothing_and_leaves_the_state tables t c = (refl, refl)

pub a_transaction_with_its_own_cache_stays : (t : AnchorsCacheTransaction) → with_cache t t.cache ≡ t
a_transaction_with_its_own_cache_stays t = refl

pub a_new_or_cleared_cache_begins_at_the_start_of_tables_and_area : (no_cache.first ≡ 0) × (no_cache.history_first ≡ 0) × (no_cache.base ≡ 0)
a_new_or_cleared_cache_begins_at_the_start_of_tables_and_area = (refl, refl, refl)

pub a_new_transaction_is_not_open_and_has_no_mark : (closed_transaction.active ≡ false) × (closed_transaction.committed ≡ false)
a_new_transaction_is_not_open_and_has_no_mark = (refl, refl)

-- they mean nothing while no transaction is open, and are left as they are
pub a_close_leaves_the_window_to_restore_and_the_mark : (n : ℕ) (tables : List ℕ) (t : AnchorsCacheTransaction)
    → ((close_call n tables t).state.undo ≡ t.undo) × ((close_call n tables t).state.committed ≡ t.committed)
unfolding close_call answer
a_close_leaves_the_window_to_restore_and_the_mark n tables t = go (refusal_at true n tables t)
  where
    c : AnchorsCache
    c = pick t.committed t.cache t.undo

    closed : AnchorsCacheTransaction
    closed = record { cache = c; undo = t.undo; active = false; committed = t.committed }

    go : (k : ℕ) → ((answer k t closed).state.undo ≡ t.undo) × ((answer k t closed).state.committed ≡ t.committed)
    go zero = (refl, refl)
    go (suc k) = (refl, refl)

-- ---- rows of the tables
pub past_the_tables_every_number_is_0 : (place : ℕ) (tables : List ℕ)
    → (row_at max_anchors place tables ≡ record { id = 0; chain_time = record { 0 = 0 }; ours = 0; count = 0; place = place }) × (info_row_at max_history tables ≡ record { id = 0; ct = record { 0 = 0 }; all_exts_count = 0; our_exts_count = 0 })
unfolding row_at info_row_at
past_the_tables_every_number_is_0 place tables = (refl, refl)

pub the_last_row_of_each_table_is_read : (place : ℕ) (tables : List ℕ) → tables_bytes ≤ length tables
    → ((row_at (max_anchors - 1) place tables).id ≡ (anchor_at (max_anchors - 1) tables).id) × ((info_row_at (max_history - 1) tables).id ≡ (info_at (max_history - 1) tables).id)
unfolding row_at info_row_at
the_last_row_of_each_table_is_read place tables h = rw (le-leb tables_bytes (length tables) h) (refl, refl)

-- 2 ^ 64 bytes
pub a_call_that_is_lent_no_area_asks_as_of_the_longest_one : any_places ≡ places_in 18446744073709551616
a_call_that_is_lent_no_area_asks_as_of_the_longest_one = refl

-- 66 bytes are two messages
pub an_added_anchor's_row_is_its_own : (author : List ℕ) → row_for (record { id = 7; chain_time = record { 0 = 1000 }; author = author }) 2 66 ≡ record { id = 7; time = 1000; author = author; ours = 2; count = 2 }
an_added_anchor's_row_is_its_own author = refl
