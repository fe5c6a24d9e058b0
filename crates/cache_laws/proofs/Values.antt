-- What the calls that answer an enum or a flag say of the cache that the window stands for: a refused one nothing.
use Prim.Native.Nat.{ℕ, zero, suc, ◌+◌, ◌*◌}
use mathlib.Core.Path.{◌≡◌, refl, ap, ◌∙◌}
use mathlib.Core.List.{List, [], ◌∷◌, map}
use mathlib.Core.Option.{Option, none, some}
use native.Mathlib.Omega.{arith}
use lib.ListN.{take, drop}
use lib.Seq.{drop-drop}
use mathlib.Core.Bool.{false}
use Rattle.ext_types.specs.declared.ExternalKey.{ExternalKey}
use Rattle.anchors_cache.proofs.Laws.{rows_of_messages}
use Rattle.anchors_cache.specs.declared.AnchorsCacheTransaction.{AnchorsCacheTransaction}
use Rattle.cache_rules.specs.Rules.{Info, Cache, Row, front_of, last_of, info_at_ct, total, trim, row_of, pending_up_to}
use Rattle.anchors_cache.specs.Tables.{with_messages, anchors_of, history_of, view}
use Rattle.anchors_cache.specs.Windows.{trimmed_cache}
use Rattle.anchors_cache.specs.Calls.{on_zero, refusal, refusal_seen, anchor_found, anchor_author, info_found, info_author, id_found, shown_info, shown_anchor, pop_call, pop_answer, trim_call, trim_answer, info_answer, last_info_call, info_at_ct_call, id_answer, last_id_call, get_call, get_answer, flag_answer, pending_call, pending_in_range_call}
use Rattle.anchors_cache.specs.Values.{anchor_value, info_value, id_value, id_and_time}
use Rattle.cache_laws.proofs.Views.{view_trimmed}

-- the paper's value is read back from the enum
module _ (area : List ℕ) where
  found_says : (base : ℕ) (l : List Row) → anchor_value area (anchor_found base l) (anchor_author l) ≡ front_of (with_messages (drop (33 * base) area) l)
  unfolding with_messages
  found_says base [] = refl
  found_says base (a ∷ l) = refl

  -- the messages of the anchor at an index stand behind those before it
  index_says : (i base : ℕ) (l : List Row) → anchor_value area (anchor_found (base + total (take i l)) (drop i l)) (anchor_author (drop i l)) ≡ front_of (drop i (with_messages (drop (33 * base) area) l))
  unfolding with_messages total
  index_says zero base l = let e : base + 0 ≡ base = omega arith in rw e (found_says base l)
  index_says (suc i) base [] = refl
  index_says (suc i) base (a ∷ l) =
      let e : base + (a.count + total (take i l)) ≡ base + a.count + total (take i l) = omega arith in
      let d : 33 * base + 33 * a.count ≡ 33 * (base + a.count) = omega arith in
      let f : drop (33 * a.count) (drop (33 * base) area) ≡ drop (33 * (base + a.count)) area = drop-drop (33 * a.count) (33 * base) area ∙ ap (λ (k : ℕ). drop k area) d in
      rw (e, f) (index_says i (base + a.count) l)

info_says : (o : Option Info) → info_value (info_found o) (info_author o) ≡ o
info_says none = refl
info_says (some i) = refl

id_says : (o : Option Info) → id_value (id_found o) ≡ id_and_time o
id_says none = refl
id_says (some i) = refl

infos_say : (n : ℕ) (o : Option Info) → let a = info_answer n o in info_value a.info a.author ≡ on_zero a.number o none
unfolding info_answer shown_info
infos_say zero o = info_says o
infos_say (suc n) o = refl

module _ (tables area : List ℕ) (t : AnchorsCacheTransaction) where
  abbrev present : Cache
  present = view tables area t.cache

  pub a_pop_answers_the_front_anchor : (n : ℕ) → let p = pop_call n tables t in anchor_value area p.front p.author ≡ on_zero p.number (front_of present.anchors) none
  unfolding pop_call pop_answer view
  a_pop_answers_the_front_anchor n = go (refusal n tables t)
    where
      go : (k : ℕ) → let p = pop_answer k tables t in anchor_value area p.front p.author ≡ on_zero p.number (front_of (with_messages (drop (33 * t.cache.base) area) (anchors_of tables t.cache))) none
      go zero = found_says area t.cache.base (anchors_of tables t.cache)
      go (suc k) = refl

  pub get_answers_the_anchor_at_its_index : (i : ℕ) → let a = get_call i tables t in anchor_value area a.anchor a.author ≡ on_zero a.number (front_of (drop i present.anchors)) none
  unfolding get_call get_answer shown_anchor view
  get_answers_the_anchor_at_its_index i = go (refusal_seen tables t)
    where
      go : (k : ℕ) → let a = get_answer k i t.cache.base (anchors_of tables t.cache) in anchor_value area a.anchor a.author ≡ on_zero a.number (front_of (drop i (with_messages (drop (33 * t.cache.base) area) (anchors_of tables t.cache)))) none
      go zero = index_says area i t.cache.base (anchors_of tables t.cache)
      go (suc k) = refl

  pub a_trim_answers_the_last_entry_that_is_left : (n ct : ℕ) → let p = trim_call n ct tables t in info_value p.last p.author ≡ on_zero p.number (last_of (trim ct present).history) none
  unfolding trim_call trim_answer view
  a_trim_answers_the_last_entry_that_is_left n ct = go (refusal n tables t)
    where
      left : history_of tables (trimmed_cache ct tables t.cache) ≡ (trim ct present).history
      left = ap (λ (v : Cache). v.history) (view_trimmed tables area ct t.cache)

      go : (k : ℕ) → let p = trim_answer k tables t (trimmed_cache ct tables t.cache) in info_value p.last p.author ≡ on_zero p.number (last_of (trim ct present).history) none
      go zero = info_says (last_of (history_of tables (trimmed_cache ct tables t.cache))) ∙ ap last_of left
      go (suc k) = refl

  pub the_last_imported_entry_is_the_last_of_the_history : let a = last_info_call tables t in info_value a.info a.author ≡ on_zero a.number (last_of present.history) none
  unfolding last_info_call view
  the_last_imported_entry_is_the_last_of_the_history = infos_say (refusal_seen tables t) (last_of (history_of tables t.cache))

  pub the_entry_at_ct_is_the_rule's : (ct : ℕ) → let a = info_at_ct_call ct tables t in info_value a.info a.author ≡ on_zero a.number (info_at_ct ct present.history) none
  unfolding info_at_ct_call view
  the_entry_at_ct_is_the_rule's ct = infos_say (refusal_seen tables t) (info_at_ct ct (history_of tables t.cache))

  pub the_last_id_and_time_are_those_of_the_last_entry : let a = last_id_call tables t in id_value a.last ≡ on_zero a.number (id_and_time (last_of present.history)) none
  unfolding last_id_call id_answer view
  the_last_id_and_time_are_those_of_the_last_entry = go (refusal_seen tables t)
    where
      go : (k : ℕ) → let a = id_answer k (last_of (history_of tables t.cache)) in id_value a.last ≡ on_zero a.number (id_and_time (last_of (history_of tables t.cache))) none
      go zero = id_says (last_of (history_of tables t.cache))
      go (suc k) = refl

  -- of the present cache, not of what a rollback would restore
  pub pending_is_that_of_the_cache : let a = pending_call tables t in a.flag ≡ on_zero a.number present.pending false
  unfolding pending_call flag_answer view
  pending_is_that_of_the_cache = refl

  pub pending_in_range_is_the_rule's : (up_to : ExternalKey) → let a = pending_in_range_call up_to tables t in a.flag ≡ on_zero a.number (pending_up_to up_to.anchor_id (map row_of present.anchors)) false
  unfolding pending_in_range_call flag_answer view
  pending_in_range_is_the_rule's up_to = rw (rows_of_messages (drop (33 * t.cache.base) area) (anchors_of tables t.cache))
