-- Document 01's cache, where it is easily misread: each law is a sentence of the paper about one call or question.
use Prim.Native.Nat.{ℕ, ◌+◌, ◌≤◌, ◌<◌}
use mathlib.Core.Path.{◌≡◌, refl, ap, ◌∙◌}
use mathlib.Core.Bool.{Bool, true, false}
use mathlib.Core.List.{List, [], ◌∷◌, ◌++◌}
use mathlib.Core.Option.{some}
use native.Mathlib.Omega.{arith}
use lib.ListN.{length, length-append}
use borrow.Author.Tests.{lt-ltb, le-ltb, lt-leb, le-leb}
use lib.Dec.{ltb}
use Rattle.rows.specs.Rows.{pick}
use Rattle.rows.proofs.Laws.{pick_yes, pick_no}
use Rattle.cache_rules.specs.Rules.{keep_front, Info, Anchor, Cache, Row, nonempty, max_anchors, max_messages, max_history, from_anchor, add_anchor, add_info, drop_stale, pop_front, trim_back, trim_history, trim_to, above_last, room, anchor_time, trim, row_of, with_row}

-- ---- add
module _ (a : Anchor) (v : Cache) where
  pub an_add_appends_to_history_always : length (add_anchor a v).history ≡ length v.history + 1
  unfolding add_anchor
  an_add_appends_to_history_always = length-append v.history _

  pub an_anchor_without_ours_goes_to_history_alone : a.ours ≡ 0 → ((add_anchor a v).anchors ≡ v.anchors) × ((add_anchor a v).pending ≡ v.pending)
  unfolding add_anchor
  an_anchor_without_ours_goes_to_history_alone e = rw e (refl, refl)

  pub an_anchor_with_ours_is_cached_last_and_pending : 0 < a.ours → ((add_anchor a v).anchors ≡ v.anchors ++ (a ∷ [])) × ((add_anchor a v).pending ≡ true)
  unfolding add_anchor
  an_anchor_with_ours_is_cached_last_and_pending h = rw (lt-ltb 0 a.ours h) (refl, refl)

  -- `add` is `add_imported_anchor_info` of the anchor's entry, then the cache
  pub an_add's_history_is_that_of_its_entry_added : (add_anchor a v).history ≡ (add_info (from_anchor a) v).history
  unfolding add_anchor add_info
  an_add's_history_is_that_of_its_entry_added = refl

  pub an_add_without_ours_is_its_entry_added : a.ours ≡ 0 → add_anchor a v ≡ add_info (from_anchor a) v
  unfolding add_anchor add_info
  an_add_without_ours_is_its_entry_added e = rw e

-- ---- add_imported_anchor_info
module _ (i : Info) (v : Cache) where
  pub an_entry_leaves_anchors_and_pending : ((add_info i v).anchors ≡ v.anchors) × ((add_info i v).pending ≡ v.pending)
  unfolding add_info
  an_entry_leaves_anchors_and_pending = (refl, refl)

pub a_row_with_its_messages_is_the_anchor : (a : Anchor) → with_row (row_of a) a.messages ≡ a
a_row_with_its_messages_is_the_anchor a = refl

-- ---- pop
pub the_last_history_entry_stays_however_old : (ct : ℕ) (x : Info) → drop_stale ct (x ∷ []) ≡ x ∷ []
unfolding drop_stale
the_last_history_entry_stays_however_old ct x = refl

module _ (ct : ℕ) (x y : Info) (l : List Info) where
  pub an_entry_below_the_popped_chain_time_goes : x.time < ct → drop_stale ct (x ∷ y ∷ l) ≡ drop_stale ct (y ∷ l)
  unfolding drop_stale
  an_entry_below_the_popped_chain_time_goes h = pick_yes _ _ _ (lt-ltb x.time ct h)

  pub an_entry_at_the_popped_chain_time_stays : ct ≤ x.time → drop_stale ct (x ∷ y ∷ l) ≡ x ∷ y ∷ l
  unfolding drop_stale
  an_entry_at_the_popped_chain_time_stays h = pick_no _ _ _ (le-ltb x.time ct h)

module _ (h : List Info) (p : Bool) where
  pub a_pop_of_an_empty_cache_changes_nothing : pop_front (record { anchors = []; history = h; pending = p }) ≡ record { anchors = []; history = h; pending = p }
  unfolding pop_front
  a_pop_of_an_empty_cache_changes_nothing = refl

  pub after_a_pop_pending_says_whether_the_cache_is_nonempty : (a : Anchor) (l : List Anchor) → (pop_front (record { anchors = a ∷ l; history = h; pending = p })).pending ≡ nonempty l
  unfolding pop_front
  after_a_pop_pending_says_whether_the_cache_is_nonempty a l = refl

  pub history_goes_by_the_popped_anchor's_chain_time : (a : Anchor) (l : List Anchor) → (pop_front (record { anchors = a ∷ l; history = h; pending = p })).history ≡ drop_stale a.time h
  unfolding pop_front
  history_goes_by_the_popped_anchor's_chain_time a l = refl

  pub a_pop_takes_the_front : (a : Anchor) (l : List Anchor) → (pop_front (record { anchors = a ∷ l; history = h; pending = p })).anchors ≡ l
  unfolding pop_front
  a_pop_takes_the_front a l = refl

-- ---- trim
module _ {A : Type 0} (time : A → ℕ) (ct : ℕ) where
  keep_snoc : (y x : A) (l : List A) → keep_front time ct y (l ++ (x ∷ [])) ≡ y ∷ (l ++ (x ∷ []))
  keep_snoc y x [] = refl
  keep_snoc y x (z ∷ l) = refl

  keep_pick : (b : Bool) (y x : A) (l : List A) → keep_front time ct y (pick b (trim_back time ct l) (l ++ (x ∷ []))) ≡ pick b (trim_back time ct (y ∷ l)) (y ∷ (l ++ (x ∷ [])))
  unfolding trim_back
  keep_pick true y x l = refl
  keep_pick false y x l = keep_snoc y x l

  -- the last element decides
  pub trim_snoc : (l : List A) (x : A) → trim_back time ct (l ++ (x ∷ [])) ≡ pick (ltb ct (time x)) (trim_back time ct l) (l ++ (x ∷ []))
  unfolding trim_back
  trim_snoc [] x = refl
  trim_snoc (y ∷ l) x = ap (keep_front time ct y) (trim_snoc l x) ∙ keep_pick (ltb ct (time x)) y x l

module _ {A : Type 0} (time : A → ℕ) (ct : ℕ) (l : List A) (x : A) where
  pub what_is_at_ct_stays : time x ≤ ct → trim_back time ct (l ++ (x ∷ [])) ≡ l ++ (x ∷ [])
  what_is_at_ct_stays h = trim_snoc time ct l x ∙ pick_no _ _ _ (le-ltb ct (time x) h)

  pub what_is_above_ct_goes : ct < time x → trim_back time ct (l ++ (x ∷ [])) ≡ trim_back time ct l
  what_is_above_ct_goes h = trim_snoc time ct l x ∙ pick_yes _ _ _ (lt-ltb ct (time x) h)

-- a cached anchor goes by its own chain time
module _ (ct : ℕ) (l : List Anchor) (a : Anchor) (h : List Info) (p : Bool) where
  abbrev ending : Cache
  ending = record { anchors = l ++ (a ∷ []); history = h; pending = p }

  pub a_trim_leaves_an_anchor_at_ct : a.time ≤ ct → (trim ct ending).anchors ≡ l ++ (a ∷ [])
  unfolding trim
  a_trim_leaves_an_anchor_at_ct e = what_is_at_ct_stays anchor_time ct l a e

  pub a_trim_takes_an_anchor_above_ct : ct < a.time → (trim ct ending).anchors ≡ (trim ct (record { anchors = l; history = h; pending = p })).anchors
  unfolding trim
  a_trim_takes_an_anchor_above_ct e = what_is_above_ct_goes anchor_time ct l a e

pub a_trim_never_takes_the_first_history_entry : (ct : ℕ) (x : Info) (l : List Info) → nonempty (trim_history ct (x ∷ l)) ≡ true
unfolding trim_history
a_trim_never_takes_the_first_history_entry ct x l = refl

pub pending_changes_only_if_a_cached_anchor_went : (ct : ℕ) (v : Cache) → (trim_to ct v.anchors v).pending ≡ v.pending
pending_changes_only_if_a_cached_anchor_went ct v = pick_no _ _ _ (le-ltb (length v.anchors) (length v.anchors) (omega arith))

-- ---- question 7
pub an_equal_id_is_not_above : (a : Row) → above_last a.id (some a) ≡ false
an_equal_id_is_not_above a = le-ltb a.id a.id (omega arith)

-- ---- question 8
module _ (anchors messages history ours count : ℕ) where
  pub a_full_history_takes_no_anchor : max_history ≤ history → room anchors messages history ours count ≡ false
  unfolding room
  a_full_history_takes_no_anchor h = rw (le-ltb history max_history h)

  pub without_ours_only_history_is_asked : history < max_history → ours ≡ 0 → room anchors messages history ours count ≡ true
  unfolding room
  without_ours_only_history_is_asked h e = rw (lt-ltb history max_history h, e)

  module _ (h : history < max_history) (o : 0 < ours) where
    pub a_full_cache_takes_no_anchor_with_ours : max_anchors ≤ anchors → room anchors messages history ours count ≡ false
    unfolding room
    a_full_cache_takes_no_anchor_with_ours a = rw (lt-ltb history max_history h, lt-ltb 0 ours o, le-ltb anchors max_anchors a)

    pub no_message_past_the_cap_is_taken : anchors < max_anchors → max_messages < messages + count → room anchors messages history ours count ≡ false
    unfolding room
    no_message_past_the_cap_is_taken a m = rw (lt-ltb history max_history h, lt-ltb 0 ours o, lt-ltb anchors max_anchors a, lt-leb (messages + count) max_messages m)

    pub what_fits_is_taken : anchors < max_anchors → messages + count ≤ max_messages → room anchors messages history ours count ≡ true
    unfolding room
    what_fits_is_taken a m = rw (lt-ltb history max_history h, lt-ltb 0 ours o, lt-ltb anchors max_anchors a, le-leb (messages + count) max_messages m)
