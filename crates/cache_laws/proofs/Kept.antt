-- Question 5 is kept by every call that answers 0.
use Rattle.std.proofs.lemmas.Bool.{and_parts}
use Prim.Native.Nat.{ℕ, zero, suc, ◌+◌, ◌-◌, ◌*◌, ◌/◌, ◌^◌, ◌≤◌, ◌<◌}
use mathlib.Core.Path.{◌≡◌, refl, sym, ap, subst, ◌∙◌}
use mathlib.Core.Bool.{Bool, true, false, ◌&&◌}
use mathlib.Core.List.{List, [], ◌∷◌, ◌++◌}
use mathlib.Core.Logic.{⊎_elim}
use native.Mathlib.Nat.{eq-zero-or-pos, mul-div-le}
use native.Mathlib.Omega.{arith}
use lib.Dec.{ltb, leb}
use lib.ListN.{length, take, drop}
use borrow.Author.Tests.{lt-ltb, le-leb, leb-true, ltb-true, ltb-false}
use Rattle.rows.specs.Rows.{pick, rows, stays}
use Rattle.rows.proofs.Laws.{appended_length}
use Rattle.anchors_cache.specs.declared.AnchorsCache.{AnchorsCache}
use Rattle.anchors_cache.specs.declared.AnchorsCacheTransaction.{AnchorsCacheTransaction}
use Rattle.anchors_cache.specs.declared.MempoolAnchor.{MempoolAnchor}
use Rattle.cache_rules.specs.Rules.{Info, Row, sound_row, sound_from, sound_cache, total, same_bool, last_of, above_last, ask, max_anchors, max_anchor_messages, max_messages, max_history, author_bytes, area_bytes}
use Rattle.anchors_cache.specs.Tables.{anchor_row, info_row, anchors, anchor_at, anchors_of, history_of, view, history_bytes, anchor_bytes, tables_bytes}
use Rattle.anchors_cache.specs.Windows.{kept_len, popped_cache, popped_times, trimmed_cache, no_cache, in_history, history_added, in_cache, anchor_added, info_for, used_by, added_cache, added_tables, Sound, Room}
use Rattle.anchors_cache.specs.Calls.{places_in, valid_cache, valid, refusal, refusal_at, answer, on_zero, with_cache, row_for, add_number, add_info_number, pop_answer, pop_call, pops_call, trim_answer, trim_call, clear_call, open_call, commit_call, rollback_call, close_call}
use Rattle.anchors_cache.proofs.Laws.{anchors_cons, anchors_take, anchors_length, infos_length, total_more, popped_empty, fresh_le, kept_le, history_kept_le, length_anchor, rows_of_messages}
use Rattle.anchors_cache.proofs.Asked.{Parts, parts, valid_parts, at_asked, refusal_zero, refusal_parts, add_refusal, add_yes, add_asks, info_refusal, info_yes, size_of, same_pending}
use Rattle.cache_laws.specs.Book.{holds}
use Rattle.cache_laws.proofs.Views.{one_more_lem, nonempty_anchors, total_snoc, Fits, entry_fits, info_sound, anchors_same, anchors_now}

pub whole : (places : ℕ) (tables : List ℕ) (c : AnchorsCache) → Parts places tables c → valid_cache places tables c ≡ true
unfolding valid_cache
whole places tables c p =
    rw (le-leb _ _ p.tall, le-leb _ _ p.anchors_within, le-leb _ _ p.history_within, p.sound, le-leb _ _ p.few, le-leb _ _ p.in_area) p.pend

-- ---- parts of a sound list are sound
row_lower : (low low' : ℕ) (a : Row) → low' ≤ low → sound_row low a ≡ true → sound_row low' a ≡ true
unfolding sound_row
row_lower low low' a p e =
    let q = and_parts _ _ e in
    let r = leb-true low a.id q.0 in
    rw (le-leb low' a.id (omega arith)) q.1

abbrev rest : Row → Bool
rest a = ltb 0 a.ours && (leb a.ours a.count && leb a.count max_anchor_messages)

row_raise : (low high : ℕ) (a : Row) → high ≤ a.id → sound_row low a ≡ true → sound_row high a ≡ true
unfolding sound_row
row_raise low high a p e = rw (le-leb high a.id p) (and_parts (leb low a.id) (rest a) e).1

-- what is above the last id of a sound list is not below its first
last_low : (low : ℕ) (b : Row) (l : List Row) (a : Row) → sound_from low (b ∷ l) ≡ true → above_last a.id (last_of (b ∷ l)) ≡ true → low ≤ a.id
unfolding sound_from last_of sound_row
last_low low b [] a e g =
    let h = leb-true low b.id (and_parts (leb low b.id) (rest b) (and_parts (sound_row low b) true e).0).0 in
    let k = ltb-true b.id a.id g in
    omega arith
last_low low b (d ∷ l) a e g =
    let q = and_parts (sound_row low b) (sound_from (b.id + 1) (d ∷ l)) e in
    let h = leb-true low b.id (and_parts (leb low b.id) (rest b) q.0).0 in
    let k = last_low (b.id + 1) d l a q.1 g in
    omega arith

sound_lower : (low low' : ℕ) (l : List Row) → low' ≤ low → sound_from low l ≡ true → sound_from low' l ≡ true
unfolding sound_from
sound_lower low low' [] p e = refl
sound_lower low low' (a ∷ l) p e =
    let q = and_parts (sound_row low a) (sound_from (a.id + 1) l) e in
    rw (row_lower low low' a p q.0) q.1

sound_tail : (a : Row) (l : List Row) → sound_from 0 (a ∷ l) ≡ true → sound_from 0 l ≡ true
unfolding sound_from
sound_tail a l e = sound_lower (a.id + 1) 0 l (omega arith) (and_parts (sound_row 0 a) (sound_from (a.id + 1) l) e).1

sound_take : (k low : ℕ) (l : List Row) → sound_from low l ≡ true → sound_from low (take k l) ≡ true
unfolding sound_from
sound_take zero low l e = refl
sound_take (suc k) low [] e = refl
sound_take (suc k) low (a ∷ l) e =
    let q = and_parts (sound_row low a) (sound_from (a.id + 1) l) e in
    rw q.0 (sound_take k (a.id + 1) l q.1)

total_take : (k : ℕ) (l : List Row) → total (take k l) ≤ total l
unfolding total
total_take zero l = omega arith
total_take (suc k) [] = omega arith
total_take (suc k) (a ∷ l) = omega (arith, total_take k l)

same_refl : (a : Bool) → same_bool a a ≡ true
same_refl true = refl
same_refl false = refl

-- ---- pop
module _ (places : ℕ) (tables : List ℕ) where
  popped_some : (c : AnchorsCache) → Parts places tables c → 0 < c.len → Parts places tables (popped_cache tables c)
  unfolding popped_cache
  popped_some c p h =
      let w = anchors_cons c.first c.len tables h in
      let a = anchor_at c.first tables in
      let l = anchors (c.first + 1) (c.len - 1) tables in
      let s = rw w at p.sound in
      let t = total_more c.first c.len tables h in
      let f = fresh_le a.time c.history_first c.history_len tables in
      rw w (record {
        tall = p.tall;
        anchors_within = omega (arith, p.anchors_within);
        history_within = omega (arith, p.history_within);
        sound = sound_tail a l s;
        few = omega (arith, p.few);
        in_area = omega (arith, p.in_area);
        pend = rw (one_more_lem c.len) (same_refl (ltb 1 c.len));
      })

  pub popped_parts : (c : AnchorsCache) → Parts places tables c → Parts places tables (popped_cache tables c)
  popped_parts c p = ⊎_elim (λ (e : c.len ≡ 0). subst (Parts places tables) (sym (popped_empty tables c (omega arith))) p) (popped_some c p) (eq-zero-or-pos c.len)

  pub times_parts : (n : ℕ) (c : AnchorsCache) → Parts places tables c → Parts places tables (popped_times n tables c)
  unfolding popped_times
  times_parts zero c p = p
  times_parts (suc n) c p = times_parts n (popped_cache tables c) (popped_parts c p)

  -- ---- trim
  pick_pend : (b : Bool) (k n : ℕ) (old : Bool) → ltb k n ≡ b → k ≤ n → old ≡ ltb 0 n → pick b (ltb 0 k) old ≡ ltb 0 k
  pick_pend true k n old e p o = refl
  pick_pend false k n old e p o =
      let q = ltb-false k n e in
      let s : n ≡ k = omega arith in
      o ∙ ap (ltb 0) s

  pub trimmed_parts : (ct : ℕ) (c : AnchorsCache) → Parts places tables c → Parts places tables (trimmed_cache ct tables c)
  unfolding trimmed_cache
  trimmed_parts ct c p =
      let k = kept_len ct tables c in
      let q = kept_le ct c.first c.len tables in
      let r = history_kept_le ct c.history_first c.history_len tables in
      let w : anchors c.first k tables ≡ take k (anchors_of tables c) = sym (anchors_take c.first k c.len tables q) in
      let t = total_take k (anchors_of tables c) in
      record {
        tall = p.tall;
        anchors_within = omega (arith, p.anchors_within);
        history_within = omega (arith, p.history_within);
        sound = rw w (sound_take k 0 _ p.sound);
        few = rw w (omega (arith, p.few));
        in_area = rw w (omega (arith, p.in_area));
        pend = rw (pick_pend (ltb k c.len) k c.len c.pending refl q (same_pending _ _ p.pend)) (same_refl (ltb 0 k));
      }

  -- ---- clear
  pub cleared_parts : tables_bytes ≤ length tables → Parts places tables no_cache
  unfolding sound_from total anchors rows
  cleared_parts tall = record { tall = tall; anchors_within = omega arith; history_within = omega arith; sound = refl; few = omega arith; in_area = omega arith; pend = refl }

-- ---- add
-- messages that end inside the area end at one of its places
within : (n k : ℕ) → 33 * k ≤ n → k ≤ n / 33
within n k p = omega arith

-- a row whose id is above the last one's ends a sound list
sound_snoc : (low : ℕ) (l : List Row) (a : Row) → sound_from low l ≡ true → sound_row low a ≡ true → above_last a.id (last_of l) ≡ true → sound_from low (l ++ (a ∷ [])) ≡ true
unfolding sound_from last_of
sound_snoc low [] a e f g = rw f
sound_snoc low (b ∷ []) a e f g =
    let q = and_parts (sound_row low b) true e in
    let h = ltb-true b.id a.id g in
    rw (q.0, row_raise low (b.id + 1) a (omega arith) f)
sound_snoc low (b ∷ d ∷ l) a e f g =
    let q = and_parts (sound_row low b) (sound_from (b.id + 1) (d ∷ l)) e in
    let h = last_low (b.id + 1) d l a q.1 g in
    rw q.0 (sound_snoc (b.id + 1) (d ∷ l) a q.1 (row_raise low (b.id + 1) a h f) g)

-- the window with one history entry more
info_parts : (tables area : List ℕ) (c : AnchorsCache) (s : Sound tables area c) (i : Info) (fits : Fits i) (few : c.history_len < max_history)
    → Parts (places_in (length area)) tables c → Parts (places_in (length area)) (history_added (info_row i) c tables) (in_history c)
unfolding in_history
info_parts tables area c s i fits few p =
    let sound = info_sound tables area c s i fits few in
    let same = anchors_same tables area c s i fits few in
    record {
      tall = sound.tall;
      anchors_within = p.anchors_within;
      history_within = sound.history_within;
      sound = rw same p.sound;
      few = rw same p.few;
      in_area = rw same p.in_area;
      pend = p.pend;
    }

module _ (tables area : List ℕ) (c : AnchorsCache) (s : Sound tables area c) (a : Row) (messages : List ℕ) (full : length a.author ≡ author_bytes) (counted : a.count ≡ length messages / 33) (r : Room tables c a.ours messages)
    (id-fits : a.id < 256 ^ 4) (time-fits : a.time < 256 ^ 8) (ours-fits : a.ours < 256 ^ 4)
    (p : Parts (places_in (length area)) tables c) (above : above_last a.id (last_of (anchors_of tables c)) ≡ true) (ours : a.ours ≤ a.count) where
  abbrev t1 : List ℕ
  t1 = history_added (info_row (info_for a)) c tables

  abbrev d : AnchorsCache
  d = in_history c

  abbrev places : ℕ
  places = places_in (length area)

  -- the first half of the add, as Views has it
  entry : Fits (info_for a)
  entry = entry_fits tables area c s a messages full counted r id-fits time-fits ours-fits

  half_sound : Sound t1 area d
  half_sound = info_sound tables area c s (info_for a) entry r.entries

  half_same : anchors_of t1 d ≡ anchors_of tables c
  half_same = anchors_same tables area c s (info_for a) entry r.entries

  -- an anchor with no message of ours is in the history alone
  half_parts : Parts places t1 d
  half_parts = info_parts tables area c s (info_for a) entry r.entries p

  module _ (o : 0 < a.ours) where
    abbrev used : ℕ
    used = used_by t1 d

    abbrev t2 : List ℕ
    t2 = anchor_added (anchor_row a) d t1

    abbrev e : AnchorsCache
    e = in_cache (length area) (length messages) used d

    grown : anchors_of t2 e ≡ anchors_of tables c ++ (a ∷ [])
    grown = anchors_now tables area c s a messages full counted r id-fits time-fits ours-fits o

    few_anchors : d.len < max_anchors
    unfolding in_history
    few_anchors = r.anchors o

    tall_whole : tables_bytes ≤ length t2
    tall_whole =
        let t = half_sound.tall in
        let q = half_parts.anchors_within in
        let f = few_anchors in
        let w = length_anchor a full in
        let l = appended_length t1 history_bytes (50 * d.first) (50 * d.len) anchor_bytes (anchor_row a) (omega arith) (omega arith) (omega arith) in
        omega arith

    anchors_placed : (b : Bool) → stays (50 * d.first) (50 * d.len) 50 anchor_bytes ≡ b → pick b d.first 0 + (d.len + 1) ≤ max_anchors
    anchors_placed true h = let g : 50 * d.first + 50 * d.len + 50 ≤ anchor_bytes = leb-true _ _ h in omega arith
    anchors_placed false h = let f = few_anchors in omega arith

    many : total (anchors_of tables c ++ (a ∷ [])) ≡ used + a.count
    many = total_snoc (anchors_of tables c) a ∙ ap (λ (n : ℕ). n + a.count) (ap total (sym half_same))

    fits : 33 * used + length messages ≤ area_bytes
    fits = rw (ap total half_same) (r.bytes o)

    base_placed : (b : Bool) → stays (33 * d.base) (33 * used) (length messages) (length area) ≡ b → pick b d.base 0 + (used + a.count) ≤ places
    base_placed true h =
        let g : 33 * d.base + 33 * used + length messages ≤ length area = leb-true _ _ h in
        let w = r.whole in
        let q = within (length area) (d.base + (used + a.count)) (omega arith) in
        q
    base_placed false h =
        let g = s.broad in
        let f = fits in
        let w = r.whole in
        within (length area) (0 + (used + a.count)) (omega arith)

    row_ok : sound_row 0 a ≡ true
    unfolding sound_row
    row_ok =
        let w = r.whole in
        let f = r.few in
        rw (le-leb 0 a.id (omega arith), lt-ltb 0 a.ours o, le-leb a.ours a.count ours) (le-leb a.count max_anchor_messages (omega arith))

    whole_parts : Parts places t2 e
    unfolding in_cache
    whole_parts =
        let g = grown in
        let f = fits in
        let w = r.whole in
        let m = many in
        record {
          tall = tall_whole;
          anchors_within = anchors_placed (stays (50 * d.first) (50 * d.len) 50 anchor_bytes) refl;
          history_within = half_parts.history_within;
          sound = rw g (sound_snoc 0 (anchors_of tables c) a p.sound row_ok above);
          few = rw (g, m) (omega arith);
          in_area = rw (g, m) (base_placed (stays (33 * d.base) (33 * used) (length messages) (length area)) refl);
          pend = lt-ltb 0 (d.len + 1) (omega arith);
        }

  -- the added window over the added tables
  pub added_parts : Parts places (added_tables a c tables) (added_cache a (length area) (length messages) tables c)
  unfolding added_tables added_cache
  added_parts = go (ltb 0 a.ours) refl
    where
      go : (b : Bool) → ltb 0 a.ours ≡ b
          → Parts places (pick b (anchor_added (anchor_row a) d t1) t1) (pick b (in_cache (length area) (length messages) (used_by tables c) d) d)
      go true h = rw (← ap total half_same) (whole_parts (ltb-true 0 a.ours h))
      go false h = half_parts

-- ---- transactions
module _ (places : ℕ) (tables : List ℕ) (t : AnchorsCacheTransaction) where
  pub undo_parts : valid places tables t ≡ true → t.active ≡ true → Parts places tables t.undo
  unfolding valid
  undo_parts e f =
      let q = and_parts (valid_cache places tables t.cache) (pick t.active (valid_cache places tables t.undo) true) e in
      parts places tables t.undo (sym (ap (λ (b : Bool). pick b (valid_cache places tables t.undo) true) f) ∙ q.1)

  pub valid_of : Parts places tables t.cache → (t.active ≡ true → Parts places tables t.undo) → valid places tables t ≡ true
  unfolding valid
  valid_of p q = rw (whole places tables t.cache p) (go t.active refl)
    where
      go : (b : Bool) → t.active ≡ b → pick b (valid_cache places tables t.undo) true ≡ true
      go true h = whole places tables t.undo (q h)
      go false h = refl

pub by_number : {A : Type 0} (P : A → Type 0) (k : ℕ) (a b : A) → (k ≡ 0 → P a) → P b → P (on_zero k a b)
by_number P zero a b p q = p refl
by_number P (suc k) a b p q = q

-- a call that wants an open transaction and answers 0 found one
pub at_active : (n : ℕ) (tables : List ℕ) (t : AnchorsCacheTransaction) → refusal n tables t ≡ 0 → refusal_at true n tables t ≡ 0 → t.active ≡ true
at_active n tables t e h = go t.active (sym (at_asked n tables t true e) ∙ h)
  where
    go : (b : Bool) → ask 9 (same_bool true b) 0 ≡ 0 → b ≡ true
    go true q = refl
    go false q = absurd (omega arith)

pub record Kept (n : ℕ) (tables : List ℕ) (t : AnchorsCacheTransaction) : Type 0 where
  pub pop : valid (places_in n) tables (pop_call n tables t).state ≡ true
  pub pops : (count : ℕ) → valid (places_in n) tables (pops_call n count tables t).state ≡ true
  pub trim : (ct : ℕ) → valid (places_in n) tables (trim_call n ct tables t).state ≡ true
  pub clear : valid (places_in n) tables (clear_call n tables t).state ≡ true
  pub opens : valid (places_in n) tables (open_call n tables t).state ≡ true
  pub commit : valid (places_in n) tables (commit_call n tables t).state ≡ true
  pub rollback : valid (places_in n) tables (rollback_call n tables t).state ≡ true
  pub close : valid (places_in n) tables (close_call n tables t).state ≡ true

pub question_5_is_kept : (n : ℕ) (tables : List ℕ) (t : AnchorsCacheTransaction) → refusal n tables t ≡ 0 → Kept n tables t
unfolding pop_call pop_answer pops_call trim_call trim_answer clear_call open_call commit_call rollback_call close_call answer
question_5_is_kept n tables t e =
    let v = (refusal_zero n tables t e).1 in
    let p = valid_parts (places_in n) tables t v in
    let u = undo_parts (places_in n) tables t v in
    let P : AnchorsCacheTransaction → Type 0 = λ s. valid (places_in n) tables s ≡ true in
    record {
      pop = rw e (valid_of (places_in n) tables _ (popped_parts (places_in n) tables t.cache p) u);
      pops = λ count. rw e (valid_of (places_in n) tables _ (times_parts (places_in n) tables count t.cache p) u);
      trim = λ ct. rw e (valid_of (places_in n) tables _ (trimmed_parts (places_in n) tables ct t.cache p) u);
      clear = by_number P (refusal_at false n tables t) _ t (λ h. valid_of (places_in n) tables _ (cleared_parts (places_in n) tables p.tall) u) v;
      opens = by_number P (refusal_at false n tables t) _ t (λ h. valid_of (places_in n) tables _ p (λ f. p)) v;
      commit = by_number P (refusal_at true n tables t) _ t (λ h. valid_of (places_in n) tables _ p u) v;
      rollback = by_number P (refusal_at true n tables t) _ t (λ h. valid_of (places_in n) tables _ (u (at_active n tables t e h)) u) v;
      close =
          by_number P (refusal_at true n tables t) _ t
          (λ h.
          valid_of (places_in n) tables _ (chosen t.committed p (u (at_active n tables t e h)))
          (λ f. absurd (let z : ◌≡◌ {A = ℕ} 0 1 = cc in omega arith)))
          v;
    }
  where
    chosen : (b : Bool) → Parts (places_in n) tables t.cache → Parts (places_in n) tables t.undo → Parts (places_in n) tables (pick b t.cache t.undo)
    chosen true p q = p
    chosen false p q = q

-- an added anchor's fields have the widths of its struct
pub record Wide (m : MempoolAnchor) (ours : ℕ) : Type 0 where
  pub author : length m.author ≡ author_bytes
  pub id : m.id < 256 ^ 4
  pub time : m.chain_time.0 < 256 ^ 8
  pub ours_fit : ours < 256 ^ 4

pub add_keeps_question_5 : (tables area : List ℕ) (t : AnchorsCacheTransaction) (m : MempoolAnchor) (ours : ℕ) (messages : List ℕ) → Wide m ours
    → add_number (length area) tables t m.id ours (length messages) ≡ 0
    → let a = row_for m ours (length messages) in
    valid (places_in (length area)) (added_tables a t.cache tables) (with_cache t (added_cache a (length area) (length messages) tables t.cache)) ≡ true
add_keeps_question_5 tables area t m ours messages w e =
    let n = length area in
    let k = length messages in
    let q = add_asks area tables t m.id ours messages e in
    let y = add_yes n tables t m.id ours k e in
    let p = refusal_parts n tables t (add_refusal n tables t m.id ours k e) in
    let z = size_of ours k y.0 in
    let c = added_parts tables area t.cache q.0 (row_for m ours k) messages w.author refl q.1 w.id w.time w.ours_fit p y.1 z.2 in
    let s = y.3 in
    valid_of (places_in n) (added_tables (row_for m ours k) t.cache tables) _ c (λ f. absurd (let g : ◌≡◌ {A = ℕ} 0 1 = cc in omega arith))

-- what a number 0 says of an entry to the history alone
pub info_asks : (area tables : List ℕ) (t : AnchorsCacheTransaction) → add_info_number (length area) tables t ≡ 0 → Sound tables area t.cache
info_asks area tables t e =
    let z = info_refusal (length area) tables t e in
    let p = refusal_parts (length area) tables t z in
    let i = p.in_area in
    record { tall = p.tall; broad = (refusal_zero (length area) tables t z).0; anchors_within = p.anchors_within; history_within = p.history_within; in_area = omega (arith, mul-div-le (length area) 33) }

pub an_entry_keeps_question_5 : (tables area : List ℕ) (t : AnchorsCacheTransaction) (i : Info) → Fits i → add_info_number (length area) tables t ≡ 0
    → valid (places_in (length area)) (history_added (info_row i) t.cache tables) (with_cache t (in_history t.cache)) ≡ true
an_entry_keeps_question_5 tables area t i fits e =
    let n = length area in
    let y = info_yes n tables t e in
    let p = refusal_parts n tables t (info_refusal n tables t e) in
    let c = info_parts tables area t.cache (info_asks area tables t e) i fits y.0 p in
    let s = y.1 in
    valid_of (places_in n) (history_added (info_row i) t.cache tables) _ c (λ f. absurd (let g : ◌≡◌ {A = ℕ} 0 1 = cc in omega arith))

-- ---- question 5 of the cache that a window stands for
pub holds_view : (places : ℕ) (tables area : List ℕ) (c : AnchorsCache) → Parts places tables c → holds (view tables area c) ≡ true
unfolding holds sound_cache view
holds_view places tables area c p =
    let i = p.anchors_within in
    let h = p.history_within in
    let l = anchors_length c.first c.len tables in
    let g = infos_length c.history_first c.history_len tables in
    rw (
      rows_of_messages (drop (33 * c.base) area) (anchors_of tables c),
      le-leb (length (anchors_of tables c)) max_anchors (omega arith),
      le-leb (length (history_of tables c)) max_history (omega arith),
      p.sound,
      le-leb (total (anchors_of tables c)) max_messages p.few,
      nonempty_anchors c.first c.len tables,
    )
    p.pend
