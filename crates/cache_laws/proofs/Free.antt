-- Free bytes: the bytes of no anchor or entry that is cached or restorable by a rollback decide nothing.
use Prim.Native.Nat.{ℕ, zero, suc, ◌+◌, ◌*◌, ◌/◌}
use mathlib.Core.Path.{◌≡◌, refl, sym, ap, ◌∙◌}
use mathlib.Core.Bool.{Bool, true, false, ◌&&◌}
use mathlib.Core.List.{List, [], ◌∷◌, map}
use lib.ListN.{length, drop}
use Rattle.rows.specs.Rows.{pick, part, rows}
use Rattle.ext_types.specs.declared.ExternalKey.{ExternalKey}
use Rattle.anchors_cache.specs.declared.AnchorsCache.{AnchorsCache}
use Rattle.anchors_cache.specs.declared.AnchorsCacheTransaction.{AnchorsCacheTransaction}
use Rattle.anchors_cache.specs.declared.MempoolAnchor.{MempoolAnchor}
use Rattle.cache_rules.specs.Rules.{Anchor, Info, Cache, Row, row_of, with_row, pop_front, trim, trim_history, add_anchor, add_info}
use Rattle.anchors_cache.specs.Tables.{history_bytes, info_row, with_messages, anchors_of, history_of, view}
use Rattle.anchors_cache.specs.Windows.{used_by, popped_by, popped_cache, popped_times, trimmed_cache, in_history, history_added, added_cache, added_tables, added_area, any_places}
use Rattle.anchors_cache.specs.Calls.{valid_cache, valid, refusal, refusal_at, refusal_seen, row_for, add_number, add_call, add_info_number, add_info_call, pop_answer, pop_call, pops_call, trim_answer, trim_call, clear_call, open_call, commit_call, rollback_call, close_call, last_info_call, info_at_ct_call, last_id_call, get_call, pending_call, pending_in_range_call}
use Rattle.anchors_cache.proofs.Laws.{kept_history, rows_of_messages}
use Rattle.anchors_cache.proofs.Asked.{add_asks, info_yes}
use Rattle.cache_laws.specs.Book.{pop_times}
use Rattle.cache_laws.proofs.Views.{anchors_of_lem, infos_of, messages_part, view_popped, view_popped_times, view_trimmed, view_added, Fits, view_info_added}
use Rattle.cache_laws.proofs.Kept.{Wide, info_asks}

-- ---- which bytes are not free
-- Two tables and two areas have the bytes of a window in common: its history's rows, its anchors' rows, and the
-- messages of these, 33 bytes each from 33 times the base on. All other bytes are free.
pub record SameBytes (tables area tables' area' : List ℕ) (c : AnchorsCache) : Type 0 where
  pub history_rows : part (52 * c.history_first) (52 * c.history_len) tables ≡ part (52 * c.history_first) (52 * c.history_len) tables'
  pub anchor_rows : part (history_bytes + 50 * c.first) (50 * c.len) tables ≡ part (history_bytes + 50 * c.first) (50 * c.len) tables'
  pub message_bytes : part (33 * c.base) (33 * used_by tables c) area ≡ part (33 * c.base) (33 * used_by tables c) area'

module _ (tables area tables' area' : List ℕ) (c : AnchorsCache) where
  pub bytes_of_no_cached_message_are_free : SameBytes tables area tables' area' c → view tables area c ≡ view tables' area' c
  unfolding view
  bytes_of_no_cached_message_are_free e =
      let l = anchors_of tables c in
      let rows : l ≡ anchors_of tables' c = anchors_of_lem c.first c.len tables tables' e.anchor_rows in
      let history : history_of tables c ≡ history_of tables' c = infos_of c.history_first c.history_len tables tables' e.history_rows in
      let messages : with_messages (drop (33 * c.base) area) l ≡ with_messages (drop (33 * c.base) area') l =
      messages_part (33 * c.base) area l ∙ (ap (λ (b : List ℕ). with_messages b l) e.message_bytes ∙ sym (messages_part (33 * c.base) area' l)) in
      ap (λ (m : List Anchor). record { anchors = m; history = history_of tables c; pending = c.pending }) (messages ∙ ap (with_messages (drop (33 * c.base) area')) rows)
      ∙ ap (λ (m : List Info). record { anchors = with_messages (drop (33 * c.base) area') (anchors_of tables' c); history = m; pending = c.pending }) history

-- two tables of one length and two areas of one length that agree on what is cached or restorable by a rollback
pub record Agree (tables area tables' area' : List ℕ) (t : AnchorsCacheTransaction) : Type 0 where
  pub tall : length tables ≡ length tables'
  pub broad : length area ≡ length area'
  pub now : view tables area t.cache ≡ view tables' area' t.cache
  pub then : t.active ≡ true → view tables area t.undo ≡ view tables' area' t.undo

-- where both have the bytes of what is cached and restorable, they agree, whatever the free bytes are
pub only_free_bytes_differ : (tables area tables' area' : List ℕ) (t : AnchorsCacheTransaction) → length tables ≡ length tables' → length area ≡ length area' → SameBytes tables area tables' area' t.cache
    → (t.active ≡ true → SameBytes tables area tables' area' t.undo) → Agree tables area tables' area' t
only_free_bytes_differ tables area tables' area' t tall broad now then =
    record {
      tall = tall;
      broad = broad;
      now = bytes_of_no_cached_message_are_free tables area tables' area' t.cache now;
      then = λ a. bytes_of_no_cached_message_are_free tables area tables' area' t.undo (then a);
    }

module _ (tables area tables' area' : List ℕ) (tall : length tables ≡ length tables') (c : AnchorsCache) (e : view tables area c ≡ view tables' area' c) where
  rows_same : anchors_of tables c ≡ anchors_of tables' c
  unfolding view
  rows_same =
      sym (rows_of_messages (drop (33 * c.base) area) (anchors_of tables c))
      ∙ (ap (λ (v : Cache). map row_of v.anchors) e ∙ rows_of_messages (drop (33 * c.base) area') (anchors_of tables' c))

  history_same : history_of tables c ≡ history_of tables' c
  unfolding view
  history_same = ap (λ (v : Cache). v.history) e

  valid_same : (places : ℕ) → valid_cache places tables c ≡ valid_cache places tables' c
  unfolding valid_cache
  valid_same places = rw (tall, rows_same)

  popped_same : popped_cache tables c ≡ popped_cache tables' c
  unfolding popped_cache
  popped_same = rw (rows_same) (go (anchors_of tables' c))
    where
      go : (l : List Row) → popped_by l tables c ≡ popped_by l tables' c
      go [] = refl
      go (a ∷ l) = rw history_same

  trimmed_same : (ct : ℕ) → trimmed_cache ct tables c ≡ trimmed_cache ct tables' c
  unfolding trimmed_cache
  trimmed_same ct = rw (rows_same, history_same)

  trimmed_history : (ct : ℕ) → history_of tables (trimmed_cache ct tables c) ≡ history_of tables' (trimmed_cache ct tables' c)
  unfolding trimmed_cache
  trimmed_history ct =
      kept_history ct c.history_first c.history_len tables
      ∙ (ap (trim_history ct) history_same ∙ sym (kept_history ct c.history_first c.history_len tables'))

  -- the popped window stands for the same cache
  popped_view : view tables area (popped_cache tables c) ≡ view tables' area' (popped_cache tables c)
  popped_view = view_popped tables area c ∙ (ap pop_front e ∙ (sym (view_popped tables' area' c) ∙ ap (view tables' area') (sym popped_same)))

module _ (tables area tables' area' : List ℕ) (tall : length tables ≡ length tables') where
  pub times_same : (n : ℕ) (c : AnchorsCache) → view tables area c ≡ view tables' area' c → popped_times n tables c ≡ popped_times n tables' c
  unfolding popped_times
  times_same zero c e = refl
  times_same (suc n) c e =
      times_same n (popped_cache tables c) (popped_view tables area tables' area' tall c e) ∙ ap (popped_times n tables') (popped_same tables area tables' area' tall c e)

  times_view : (n : ℕ) (c : AnchorsCache) → view tables area c ≡ view tables' area' c → view tables area (popped_times n tables c) ≡ view tables' area' (popped_times n tables c)
  times_view n c e =
      view_popped_times n tables area c ∙ (ap (pop_times n) e ∙ (sym (view_popped_times n tables' area' c) ∙ ap (view tables' area') (sym (times_same n c e))))

-- every call answers the same
pub record Same (n : ℕ) (tables tables' : List ℕ) (t : AnchorsCacheTransaction) : Type 0 where
  pub check : refusal n tables t ≡ refusal n tables' t
  pub pop : pop_call n tables t ≡ pop_call n tables' t
  pub pops : (count : ℕ) → pops_call n count tables t ≡ pops_call n count tables' t
  pub trim : (ct : ℕ) → trim_call n ct tables t ≡ trim_call n ct tables' t
  pub clear : clear_call n tables t ≡ clear_call n tables' t
  pub opens : open_call n tables t ≡ open_call n tables' t
  pub commit : commit_call n tables t ≡ commit_call n tables' t
  pub rollback : rollback_call n tables t ≡ rollback_call n tables' t
  pub close : close_call n tables t ≡ close_call n tables' t
  pub last_info : last_info_call tables t ≡ last_info_call tables' t
  pub info_at_ct : (ct : ℕ) → info_at_ct_call ct tables t ≡ info_at_ct_call ct tables' t
  pub last_id : last_id_call tables t ≡ last_id_call tables' t
  pub get : (index : ℕ) → get_call index tables t ≡ get_call index tables' t
  pub pending : pending_call tables t ≡ pending_call tables' t
  pub pending_in_range : (up_to : ExternalKey) → pending_in_range_call up_to tables t ≡ pending_in_range_call up_to tables' t
  pub add_number_lem : (id ours k : ℕ) → add_number n tables t id ours k ≡ add_number n tables' t id ours k
  pub add : (number : ℕ) (a : Row) (k : ℕ) → add_call number a n k tables t ≡ add_call number a n k tables' t
  pub add_info_number_lem : add_info_number n tables t ≡ add_info_number n tables' t
  pub add_info_lem : add_info_call n tables t ≡ add_info_call n tables' t

-- and leaves windows that stand for the same caches
pub record SameViews (tables area tables' area' : List ℕ) (t : AnchorsCacheTransaction) : Type 0 where
  pub pops : (count : ℕ) → view tables area (popped_times count tables t.cache) ≡ view tables' area' (popped_times count tables t.cache)
  pub trim : (ct : ℕ) → view tables area (trimmed_cache ct tables t.cache) ≡ view tables' area' (trimmed_cache ct tables t.cache)
  pub add : (m : MempoolAnchor) (ours : ℕ) (messages : List ℕ) → Wide m ours → add_number (length area) tables t m.id ours (length messages) ≡ 0
      → let a = row_for m ours (length messages) in
      let k = length messages in
      view (added_tables a t.cache tables) (added_area a messages tables t.cache area) (added_cache a (length area) k tables t.cache)
      ≡ view (added_tables a t.cache tables') (added_area a messages tables' t.cache area') (added_cache a (length area') k tables' t.cache)
  pub add_info_lem : (i : Info) → Fits i → add_info_number (length area) tables t ≡ 0
      → view (history_added (info_row i) t.cache tables) area (in_history t.cache) ≡ view (history_added (info_row i) t.cache tables') area' (in_history t.cache)

module _ (tables area tables' area' : List ℕ) (t : AnchorsCacheTransaction) (g : Agree tables area tables' area' t) where
  abbrev c : AnchorsCache
  c = t.cache

  valid_both : (places : ℕ) → valid places tables t ≡ valid places tables' t
  unfolding valid
  valid_both places = rw (valid_same tables area tables' area' g.tall c g.now) (ap (λ (x : Bool). valid_cache places tables' c && x) (go t.active refl))
    where
      go : (b : Bool) → t.active ≡ b → pick b (valid_cache places tables t.undo) true ≡ pick b (valid_cache places tables' t.undo) true
      go true h = valid_same tables area tables' area' g.tall t.undo (g.then h) places
      go false h = refl

  check_same : (n : ℕ) → refusal n tables t ≡ refusal n tables' t
  unfolding refusal
  check_same n = rw (valid_both (n / 33))

  at_same : (must : Bool) (n : ℕ) → refusal_at must n tables t ≡ refusal_at must n tables' t
  unfolding refusal_at
  at_same must n = rw (valid_both (n / 33))

  seen_same : refusal_seen tables t ≡ refusal_seen tables' t
  unfolding refusal_seen
  seen_same = rw (valid_both any_places)

  info_number_same : (n : ℕ) → add_info_number n tables t ≡ add_info_number n tables' t
  unfolding add_info_number
  info_number_same n = rw (valid_both (n / 33))

  pub free_bytes : (n : ℕ) → Same n tables tables' t
  unfolding pop_call pop_answer pops_call trim_call trim_answer clear_call open_call commit_call rollback_call close_call last_info_call info_at_ct_call last_id_call get_call pending_call pending_in_range_call add_number add_call add_info_call added_cache
  free_bytes n =
      let r = rows_same tables area tables' area' g.tall c g.now in
      let h = history_same tables area tables' area' g.tall c g.now in
      record {
        check = check_same n;
        pop = rw (check_same n, r, popped_same tables area tables' area' g.tall c g.now);
        pops = λ count. rw (check_same n, times_same tables area tables' area' g.tall count c g.now);
        trim = λ ct. rw (check_same n, trimmed_history tables area tables' area' g.tall c g.now ct, trimmed_same tables area tables' area' g.tall c g.now ct);
        clear = rw (at_same false n);
        opens = rw (at_same false n);
        commit = rw (at_same true n);
        rollback = rw (at_same true n);
        close = rw (at_same true n);
        last_info = rw (seen_same, h);
        info_at_ct = λ ct. rw (seen_same, h);
        last_id = rw (seen_same, h);
        get = λ index. rw (seen_same, r);
        pending = rw seen_same;
        pending_in_range = λ up_to. rw (seen_same, r);
        add_number_lem = λ id ours k. rw (valid_both (n / 33), r);
        add = λ number a k. rw r;
        add_info_number_lem = info_number_same n;
        add_info_lem = rw (info_number_same n);
      }

  pub free_bytes_in_views : SameViews tables area tables' area' t
  free_bytes_in_views =
      record {
        pops = λ count. times_view tables area tables' area' g.tall count c g.now;
        trim = λ ct. view_trimmed tables area ct c ∙ (ap (trim ct) g.now ∙ (sym (view_trimmed tables' area' ct c) ∙ ap (view tables' area') (sym (trimmed_same tables area tables' area' g.tall c g.now ct))));
        add = λ m ours messages w e.
            let k = length messages in
            let a = row_for m ours k in
            let f = sym ((free_bytes (length area)).add_number_lem m.id ours k) ∙ e in
            let f' : add_number (length area') tables' t m.id ours k ≡ 0 = rw (← g.broad) f in
            let q = add_asks area tables t m.id ours messages e in
            let q' = add_asks area' tables' t m.id ours messages f' in
            view_added tables area c q.0 a messages w.author refl q.1 w.id w.time w.ours_fit
            ∙ (ap (add_anchor (with_row a (rows 33 a.count messages))) g.now
            ∙ sym (view_added tables' area' c q'.0 a messages w.author refl q'.1 w.id w.time w.ours_fit));
        add_info_lem = λ i fits e.
            let f' : add_info_number (length area') tables' t ≡ 0 = rw (← g.broad) (sym (info_number_same (length area)) ∙ e) in
            view_info_added tables area c (info_asks area tables t e) i fits (info_yes (length area) tables t e).0
            ∙ (ap (add_info i) g.now ∙ sym (view_info_added tables' area' c (info_asks area' tables' t f') i fits (info_yes (length area') tables' t f').0));
      }
