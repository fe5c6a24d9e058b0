-- What a call does to the window and the lent bytes is what document 01's rule does to the cache that they stand for.
use Prim.Native.Nat.{ℕ, zero, suc, ◌+◌, ◌-◌, ◌*◌, ◌/◌, ◌^◌, ◌≤◌, ◌<◌}
use mathlib.Core.Path.{◌≡◌, refl, sym, ap, ◌∙◌}
use mathlib.Core.Bool.{Bool, true, false}
use mathlib.Core.List.{List, [], ◌∷◌, ◌++◌}
use mathlib.Core.Logic.{⊎_elim}
use native.Mathlib.Nat.{eq-zero-or-pos}
use native.Mathlib.Omega.{arith}
use lib.Dec.{ltb}
use lib.ListN.{length, take, drop, length-drop}
use lib.Seq.{drop-drop, take_all, take-append-le, drop-append-le, take_at, drop_at}
use borrow.Author.Tests.{lt-ltb, ltb-true}
use Rattle.std.proofs.lemmas.List.{map-append}
use Rattle.rows.specs.Rows.{pick, part, le, rows, stays}
use Rattle.rows.proofs.Laws.{part_length, word_le, drop_take, rows_part, rows_within, rows_length, rows_appended, appended_part, appended_before, appended_after, appended_length}
use Rattle.anchors_cache.specs.declared.AnchorsCache.{AnchorsCache}
use Rattle.cache_rules.specs.Rules.{Info, Anchor, Cache, Row, with_row, drop_stale, nonempty, pop_front, anchor_time, keep_front, trim_back, trim, from_anchor, add_anchor, add_info, empty_cache, total, max_anchors, max_history, author_bytes, area_bytes}
use Rattle.anchors_cache.specs.Tables.{anchor_row, info_row, anchor_of, info_of, anchors, infos, anchor_at, with_messages, view, anchors_of, history_of, history_bytes, anchor_bytes}
use Rattle.anchors_cache.specs.Windows.{row_time, popped_cache, popped_times, trimmed_cache, no_cache, in_history, history_added, in_cache, anchor_added, messages_added, info_for, used_by, added_cache, added_tables, added_area, Sound, Room}
use Rattle.cache_rules.proofs.Lists.{stale_le}
use Rattle.anchors_cache.proofs.Adding.{grown_within}
use Rattle.anchors_cache.proofs.Laws.{anchors_cons, anchors_length, infos_length, infos_end, fresh_le, kept_window, kept_history, length_info, length_anchor, length_messages}
use Rattle.cache_laws.specs.Book.{pop_times}

-- ---- the messages of a window
nonempty_messages : (bytes : List ℕ) (l : List Row) → nonempty (with_messages bytes l) ≡ nonempty l
unfolding with_messages
nonempty_messages bytes [] = refl
nonempty_messages bytes (a ∷ l) = refl

pub nonempty_length : {A : Type 0} (l : List A) → nonempty l ≡ ltb 0 (length l)
nonempty_length [] = refl
nonempty_length (x ∷ l) = sym (lt-ltb 0 (suc (length l)) (omega arith))

pub nonempty_anchors : (first k : ℕ) (l : List ℕ) → nonempty (anchors first k l) ≡ ltb 0 k
nonempty_anchors first k l = nonempty_length (anchors first k l) ∙ ap (ltb 0) (anchors_length first k l)

-- ---- pop
-- what stays of the history is its end
stale_suffix : (ct : ℕ) (l : List Info) → drop (length l - length (drop_stale ct l)) l ≡ drop_stale ct l
unfolding drop_stale
stale_suffix ct [] = refl
stale_suffix ct (x ∷ []) = refl
stale_suffix ct (x ∷ y ∷ l) =
    elim (ltb x.time ct) as (λ b. drop (length (x ∷ y ∷ l) - length (pick b (drop_stale ct (y ∷ l)) (x ∷ y ∷ l))) (x ∷ y ∷ l) ≡ pick b (drop_stale ct (y ∷ l)) (x ∷ y ∷ l)) [
      | true ↦
          let p = stale_le ct (y ∷ l) in
          let e : length (x ∷ y ∷ l) - length (drop_stale ct (y ∷ l)) ≡ suc (length (y ∷ l) - length (drop_stale ct (y ∷ l))) = omega arith in
          rw e (stale_suffix ct (y ∷ l))
      | false ↦
          let e : length (x ∷ y ∷ l) - length (x ∷ y ∷ l) ≡ 0 = omega arith in
          rw e
    ]

fresh_window : (ct first len : ℕ) (l : List ℕ) → let k = length (drop_stale ct (infos first len l)) in infos (first + (len - k)) k l ≡ drop_stale ct (infos first len l)
fresh_window ct first len l = sym (infos_end first len _ l (fresh_le ct first len l)) ∙ (rw (infos_length first len l) at (stale_suffix ct (infos first len l)))

pub one_more_lem : (n : ℕ) → ltb 0 (n - 1) ≡ ltb 1 n
one_more_lem zero = refl
one_more_lem (suc zero) = refl
one_more_lem (suc (suc n)) = lt-ltb 0 (suc (suc n) - 1) (omega arith) ∙ sym (lt-ltb 1 (suc (suc n)) (omega arith))

module _ (tables area : List ℕ) (c : AnchorsCache) where
  view_popped_some : 0 < c.len → view tables area (popped_cache tables c) ≡ pop_front (view tables area c)
  unfolding view pop_front popped_cache with_messages
  view_popped_some p =
      let a = anchor_at c.first tables in
      let w = anchors_cons c.first c.len tables p in
      let f = fresh_window a.time c.history_first c.history_len tables in
      let e : 33 * (c.base + a.count) ≡ 33 * c.base + 33 * a.count = omega arith in
      let l = anchors (c.first + 1) (c.len - 1) tables in
      let g : nonempty (with_messages (drop (33 * c.base + 33 * a.count) area) l) ≡ ltb 1 c.len = nonempty_messages _ l ∙ nonempty_anchors (c.first + 1) (c.len - 1) tables ∙ one_more_lem c.len in
      rw (w, f, e, drop-drop (33 * a.count) (33 * c.base) area, g)

  view_popped_none : c.len ≡ 0 → view tables area (popped_cache tables c) ≡ pop_front (view tables area c)
  unfolding view pop_front popped_cache with_messages anchors rows
  view_popped_none e = rw e

  pub view_popped : view tables area (popped_cache tables c) ≡ pop_front (view tables area c)
  view_popped = ⊎_elim view_popped_none view_popped_some (eq-zero-or-pos c.len)

pub view_popped_times : (n : ℕ) (tables area : List ℕ) (c : AnchorsCache) → view tables area (popped_times n tables c) ≡ pop_times n (view tables area c)
unfolding popped_times pop_times
view_popped_times zero tables area c = refl
view_popped_times (suc n) tables area c = view_popped_times n tables area (popped_cache tables c) ∙ ap (pop_times n) (view_popped tables area c)

-- ---- trim
trim_messages : (ct : ℕ) (bytes : List ℕ) (l : List Row) → trim_back anchor_time ct (with_messages bytes l) ≡ with_messages bytes (trim_back row_time ct l)
unfolding with_messages trim_back
trim_messages ct bytes [] = refl
trim_messages ct bytes (a ∷ l) = ap (keep_front anchor_time ct (with_row a (rows 33 a.count bytes))) (trim_messages ct (drop (33 * a.count) bytes) l) ∙ go (trim_back row_time ct l)
  where
    one : (t : Bool) → pick {A = List Anchor} t [] (with_row a (rows 33 a.count bytes) ∷ []) ≡ with_messages bytes (pick t [] (a ∷ []))
    one true = refl
    one false = refl

    go : (m : List Row) → keep_front anchor_time ct (with_row a (rows 33 a.count bytes)) (with_messages (drop (33 * a.count) bytes) m) ≡ with_messages bytes (keep_front row_time ct a m)
    go [] = one (ltb ct a.time)
    go (y ∷ m) = refl

pub view_trimmed : (tables area : List ℕ) (ct : ℕ) (c : AnchorsCache) → view tables area (trimmed_cache ct tables c) ≡ trim ct (view tables area c)
unfolding view trim trimmed_cache
view_trimmed tables area ct c =
    let w = anchors_of tables c in
    let k = trim_back row_time ct w in
    let b = drop (33 * c.base) area in
    rw (
      trim_messages ct b w,
      length_messages b k,
      length_messages b w,
      nonempty_length (with_messages b k),
      length_messages b k,
      anchors_length c.first c.len tables,
      kept_window ct c.first c.len tables,
      kept_history ct c.history_first c.history_len tables,
    )

-- ---- clear
pub view_cleared : (tables area : List ℕ) → view tables area no_cache ≡ empty_cache
unfolding view anchors infos rows with_messages
view_cleared tables area = refl

-- ---- add: the history
-- rows that another table's append leaves
pub anchors_of_lem : (first n : ℕ) (l m : List ℕ) → part (history_bytes + 50 * first) (50 * n) l ≡ part (history_bytes + 50 * first) (50 * n) m → anchors first n l ≡ anchors first n m
unfolding anchors
anchors_of_lem first n l m e = rw (rows_part 50 n (history_bytes + 50 * first) l, rows_part 50 n (history_bytes + 50 * first) m, e)

pub infos_of : (first n : ℕ) (l m : List ℕ) → part (52 * first) (52 * n) l ≡ part (52 * first) (52 * n) m → infos first n l ≡ infos first n m
unfolding infos
infos_of first n l m e = rw (rows_part 52 n (52 * first) l, rows_part 52 n (52 * first) m, e)

module _ (tables area : List ℕ) (c : AnchorsCache) (s : Sound tables area c) (row : List ℕ) (wide : length row ≡ 52) (few : c.history_len < max_history) where
  pub anchors_kept : anchors c.first c.len (history_added row c tables) ≡ anchors c.first c.len tables
  anchors_kept =
      let t = s.tall in
      let q = s.history_within in
      anchors_of_lem c.first c.len (history_added row c tables) tables
      (appended_after tables 0 (52 * c.history_first) (52 * c.history_len) history_bytes row (omega arith) (omega arith) (omega arith) (history_bytes + 50 * c.first) (50 * c.len) (omega arith))

  pub history_grown : history_of (history_added row c tables) (in_history c) ≡ history_of tables c ++ (info_of row ∷ [])
  unfolding infos in_history
  history_grown =
      let t = s.tall in
      let q = s.history_within in
      let z : (n : ℕ) → 0 + n ≡ n = λ n. omega arith in
      let r = rows_appended 52 0 c.history_first c.history_len history_bytes tables row wide (omega arith) (omega arith) (omega arith) in
      let r' = simp z at r in
      rw r' (map-append info_of (rows 52 c.history_len (drop (52 * c.history_first) tables)) (row ∷ []))

  pub sound_history : Sound (history_added row c tables) area (in_history c)
  unfolding in_history
  sound_history =
      let t = s.tall in
      let q = s.history_within in
      let l = appended_length tables 0 (52 * c.history_first) (52 * c.history_len) history_bytes row (omega arith) (omega arith) (omega arith) in
      record {
        tall = omega arith;
        broad = s.broad;
        anchors_within = s.anchors_within;
        history_within = grown_within c.history_first c.history_len s.history_within (omega arith);
        in_area = rw anchors_kept s.in_area;
      }

-- ---- add: the cache and its messages
rows_front : (w n : ℕ) (p q : List ℕ) → w * n ≤ length p → rows w n (p ++ q) ≡ rows w n p
rows_front w n p q h =
    sym (rows_within w n (w * n) (p ++ q) (omega arith)) ∙ (ap (rows w n) (take-append-le (w * n) p q h) ∙ rows_within w n (w * n) p (omega arith))

messages_within : (m : ℕ) (bytes : List ℕ) (l : List Row) → 33 * total l ≤ m → with_messages (take m bytes) l ≡ with_messages bytes l
unfolding with_messages total
messages_within m bytes [] p = refl
messages_within m bytes (a ∷ l) p =
    let q : 33 * a.count ≤ m = omega arith in
    rw (rows_within 33 a.count m bytes q, drop_take (33 * a.count) m bytes, messages_within (m - 33 * a.count) (drop (33 * a.count) bytes) l (omega arith))

messages_append : (p q : List ℕ) (l : List Row) (a : Row) → length p ≡ 33 * total l → with_messages (p ++ q) (l ++ (a ∷ [])) ≡ with_messages p l ++ (with_row a (rows 33 a.count q) ∷ [])
unfolding with_messages total
messages_append [] q [] a e = refl
messages_append (x ∷ p) q [] a e = absurd (omega arith)
messages_append p q (b ∷ l) a e =
    let h : 33 * b.count ≤ length p = omega arith in
    let k : length (drop (33 * b.count) p) ≡ 33 * total l = simp length-drop (omega arith) in
    rw (rows_front 33 b.count p q h, drop-append-le (33 * b.count) p q h, messages_append (drop (33 * b.count) p) q l a k)

-- the messages at a place are those of their part
pub messages_part : (at : ℕ) (area : List ℕ) (l : List Row) → with_messages (drop at area) l ≡ with_messages (part at (33 * total l) area) l
messages_part at area l = sym (messages_within (33 * total l) (drop at area) l (omega arith))

pick_33 : (b : Bool) (n : ℕ) → 33 * pick b n 0 ≡ 0 + pick b (33 * n) 0
pick_33 true n = omega arith
pick_33 false n = refl

pub total_snoc : (l : List Row) (a : Row) → total (l ++ (a ∷ [])) ≡ total l + a.count
unfolding total
total_snoc [] a = omega arith
total_snoc (b ∷ l) a = omega (arith, total_snoc l a)

module _ (tables area : List ℕ) (c : AnchorsCache) (s : Sound tables area c) (row messages : List ℕ) (wide : length row ≡ 50) (few : c.len < max_anchors) (fit : 33 * used_by tables c + length messages ≤ area_bytes) where
  pub history_kept : infos c.history_first c.history_len (anchor_added row c tables) ≡ infos c.history_first c.history_len tables
  history_kept =
      let t = s.tall in
      let p = s.anchors_within in
      let q = s.history_within in
      infos_of c.history_first c.history_len (anchor_added row c tables) tables
      (appended_before tables history_bytes (50 * c.first) (50 * c.len) anchor_bytes row (omega arith) (omega arith) (omega arith) (52 * c.history_first) (52 * c.history_len) (omega arith))

  pub anchors_grown : anchors_of (anchor_added row c tables) (in_cache (length area) (length messages) (used_by tables c) c) ≡ anchors_of tables c ++ (anchor_of row ∷ [])
  unfolding anchors in_cache
  anchors_grown =
      let t = s.tall in
      let p = s.anchors_within in
      let r = rows_appended 50 history_bytes c.first c.len anchor_bytes tables row wide (omega arith) (omega arith) (omega arith) in
      rw r (map-append anchor_of (rows 50 c.len (drop (history_bytes + 50 * c.first) tables)) (row ∷ []))

  pub messages_grown : 33 * (anchor_of row).count ≡ length messages
      → with_messages (drop (33 * (in_cache (length area) (length messages) (used_by tables c) c).base) (messages_added messages (used_by tables c) c area)) (anchors_of tables c ++ (anchor_of row ∷ []))
      ≡ with_messages (drop (33 * c.base) area) (anchors_of tables c) ++ (with_row (anchor_of row) (rows 33 (anchor_of row).count messages) ∷ [])
  unfolding in_cache
  messages_grown e =
      let l = anchors_of tables c in
      let a = anchor_of row in
      let n = length area in
      let b = stays (33 * c.base) (33 * total l) (length messages) n in
      let w = s.broad in
      let i = s.in_area in
      let z : 0 + 33 * c.base ≡ 33 * c.base = omega arith in
      let k : 33 * total (l ++ (a ∷ [])) ≡ 33 * total l + length messages = omega (arith, total_snoc l a) in
      let q = appended_part area 0 (33 * c.base) (33 * total l) n messages (omega arith) (omega arith) (omega arith) in
      let y : 33 * pick b c.base 0 ≡ 0 + pick b (33 * c.base) 0 = pick_33 b c.base in
      let g : part (33 * pick b c.base 0) (33 * total (l ++ (a ∷ []))) (messages_added messages (used_by tables c) c area) ≡ part (33 * c.base) (33 * total l) area ++ messages = rw (k, y) (q ∙ rw z) in
      let j : length (part (33 * c.base) (33 * total l) area) ≡ 33 * total l = part_length area (33 * c.base) (33 * total l) (omega arith) in
      messages_part (33 * pick b c.base 0) (messages_added messages (used_by tables c) c area) (l ++ (a ∷ []))
      ∙ (ap (λ (x : List ℕ). with_messages x (l ++ (a ∷ []))) g
      ∙ (messages_append (part (33 * c.base) (33 * total l) area) messages l a j
      ∙ rw (messages_part (33 * c.base) area l)))

-- ---- what a written row says
-- an entry's fields have the widths of its struct
pub record Fits (i : Info) : Type 0 where
  pub author : length i.author ≡ author_bytes
  pub id : i.id < 256 ^ 4
  pub time : i.time < 256 ^ 8
  pub all : i.all < 256 ^ 4
  pub ours : i.ours < 256 ^ 4

info_read : (i : Info) → Fits i → info_of (info_row i) ≡ i
unfolding info_row le
info_read i f =
    let n = f.author in
    rw (word_le 4 i.id f.id, word_le 8 i.time f.time, word_le 4 i.all f.all, word_le 4 i.ours f.ours, take_all author_bytes i.author (omega arith))

module _ (a : Row) (full : length a.author ≡ author_bytes) (id-fits : a.id < 256 ^ 4) (time-fits : a.time < 256 ^ 8) (ours-fits : a.ours < 256 ^ 4) (count_fits : a.count < 256 ^ 2) where
  pub anchor_read_lem : anchor_of (anchor_row a) ≡ a
  unfolding anchor_row le
  anchor_read_lem =
      let rest = le 4 a.ours ++ le 2 a.count in
      rw (
        sym (drop-drop 4 author_bytes (a.author ++ rest)),
        drop_at a.author rest author_bytes full,
        take_at a.author rest author_bytes full,
        word_le 4 a.id id-fits,
        word_le 8 a.time time-fits,
        word_le 4 a.ours ours-fits,
        word_le 2 a.count count_fits,
      )

-- ---- the law of an entry to the history alone
module _ (tables area : List ℕ) (c : AnchorsCache) (s : Sound tables area c) (i : Info) (fits : Fits i) (few : c.history_len < max_history) where
  abbrev grown : List ℕ
  grown = history_added (info_row i) c tables

  wide : length (info_row i) ≡ 52
  wide = length_info i fits.author

  pub info_sound : Sound grown area (in_history c)
  info_sound = sound_history tables area c s (info_row i) wide few

  pub anchors_same : anchors_of grown (in_history c) ≡ anchors_of tables c
  unfolding in_history
  anchors_same = anchors_kept tables area c s (info_row i) wide few

  pub view_info_added : view grown area (in_history c) ≡ add_info i (view tables area c)
  unfolding view in_history add_info
  view_info_added = rw (anchors_same, history_grown tables area c s (info_row i) wide few, info_read i fits)

-- ---- the law of an add
module _ (tables area : List ℕ) (c : AnchorsCache) (s : Sound tables area c) (a : Row) (messages : List ℕ) (full : length a.author ≡ author_bytes) (counted : a.count ≡ length messages / 33) (r : Room tables c a.ours messages)
    (id-fits : a.id < 256 ^ 4) (time-fits : a.time < 256 ^ 8) (ours-fits : a.ours < 256 ^ 4) where
  abbrev t1 : List ℕ
  t1 = history_added (info_row (info_for a)) c tables

  abbrev d : AnchorsCache
  d = in_history c

  many : a.count < 256 ^ 2
  many = omega (arith, counted, r.whole, r.few)

  read_back : anchor_of (anchor_row a) ≡ a
  read_back = anchor_read_lem a full id-fits time-fits ours-fits many

  -- the first half of an add is its entry's
  pub entry_fits : Fits (info_for a)
  entry_fits = let m = many in record { author = full; id = id-fits; time = time-fits; all = omega arith; ours = ours-fits }

  first_half : Sound t1 area d
  first_half = info_sound tables area c s (info_for a) entry_fits r.entries

  anchors_half : anchors_of t1 d ≡ anchors_of tables c
  anchors_half = anchors_same tables area c s (info_for a) entry_fits r.entries

  view_half : view t1 area d ≡ add_info (info_for a) (view tables area c)
  view_half = view_info_added tables area c s (info_for a) entry_fits r.entries

  module _ (o : 0 < a.ours) where
    used_same : used_by t1 d ≡ used_by tables c
    used_same = ap total anchors_half

    few_anchors : d.len < max_anchors
    unfolding in_history
    few_anchors = r.anchors o

    fit : 33 * used_by t1 d + length messages ≤ area_bytes
    fit = rw used_same (r.bytes o)

    abbrev t2 : List ℕ
    t2 = anchor_added (anchor_row a) d t1

    pub anchors_now : anchors_of t2 (in_cache (length area) (length messages) (used_by t1 d) d) ≡ anchors_of tables c ++ (a ∷ [])
    anchors_now = anchors_grown t1 area d first_half (anchor_row a) messages (length_anchor a full) few_anchors fit ∙ rw (anchors_half, read_back)

    view_whole : view t2 (messages_added messages (used_by t1 d) d area) (in_cache (length area) (length messages) (used_by t1 d) d)
        ≡ record { anchors = (view t1 area d).anchors ++ (with_row a (rows 33 a.count messages) ∷ []); history = (view t1 area d).history; pending = true }
    unfolding view in_cache
    view_whole =
        let v = length_anchor a full in
        let q : 33 * (anchor_of (anchor_row a)).count ≡ length messages = ap (λ (x : Row). 33 * x.count) read_back ∙ (ap (λ (x : ℕ). 33 * x) counted ∙ r.whole) in
        let g = anchors_grown t1 area d first_half (anchor_row a) messages v few_anchors fit in
        let k = history_kept t1 area d first_half (anchor_row a) messages v few_anchors fit in
        let m = messages_grown t1 area d first_half (anchor_row a) messages v few_anchors fit q in
        rw (g, k, m)
        (ap (λ (x : Row). record { anchors = with_messages (drop (33 * d.base) area) (anchors_of t1 d) ++ (with_row x (rows 33 x.count messages) ∷ []); history = history_of t1 d; pending = true }) read_back)

  abbrev new : Anchor
  new = with_row a (rows 33 a.count messages)

  abbrev View_added : Type 0
  View_added = view (added_tables a c tables) (added_area a messages tables c area) (added_cache a (length area) (length messages) tables c) ≡ add_anchor new (view tables area c)

  entry_same : from_anchor new ≡ info_for a
  entry_same = rw (rows_length 33 a.count messages)

  view_none : ltb 0 a.ours ≡ false → View_added
  unfolding add_anchor add_info added_tables added_area added_cache
  view_none h = rw (h, entry_same) view_half

  view_some : ltb 0 a.ours ≡ true → View_added
  unfolding add_anchor add_info added_tables added_area added_cache in_history
  view_some h =
      let o = ltb-true 0 a.ours h in
      rw (h, entry_same, ← used_same o) (view_whole o ∙ ap (λ (v : Cache). record { anchors = v.anchors ++ (new ∷ []); history = v.history; pending = true }) view_half)

  pub view_added : View_added
  view_added = go (ltb 0 a.ours) refl
    where
      go : (b : Bool) → ltb 0 a.ours ≡ b → View_added
      go true h = view_some h
      go false h = view_none h
