-- The questions of the cache's calls, and what each call answers, for every argument. n is the length of the message
-- area.
use Rattle.std.specs.Prelude.{ℕ, zero, suc, ◌+◌, ◌/◌, Bool, true, false, not, ◌&&◌, List, [], ◌∷◌, ltb, leb, eqb, length, take, drop}
use Rattle.std.specs.Prelude.{Option, Some, None}
use Rattle.std.proofs.Math.Option.{Option as Maybe, none, some}
use Rattle.rows.specs.Rows.{pick}
use Rattle.ext_types.specs.declared.ChainTime.{ChainTime}
use Rattle.ext_types.specs.declared.ExternalKey.{ExternalKey}
use Rattle.anchors_cache.specs.declared.AnchorsCache.{AnchorsCache}
use Rattle.anchors_cache.specs.declared.AnchorsCacheTransaction.{AnchorsCacheTransaction}
use Rattle.anchors_cache.specs.declared.MempoolAnchor.{MempoolAnchor}
use Rattle.anchors_cache.specs.declared.CachedAnchor.{CachedAnchor}
use Rattle.anchors_cache.specs.declared.AnchorInfo.{AnchorInfo}
use Rattle.anchors_cache.specs.Answers.{Done, Popped, Trimmed, AnchorAnswer, InfoAnswer, IdAnswer, FlagAnswer, no_author}
use Rattle.cache_rules.specs.Rules.{Info, Row, last_of, info_at_ct, sound_row, sound_from, total, same_bool, pending_up_to, right_size, above_last, room, ask, max_anchors, max_anchor_messages, max_history, max_messages, area_bytes}
use Rattle.anchors_cache.specs.Tables.{tables_bytes, anchors_of, history_of, anchor_at, info_at}
use Rattle.anchors_cache.specs.Windows.{popped_cache, popped_times, trimmed_cache, no_cache, in_history, added_cache, used_by, any_places}

-- ---- questions 1, 5 and 9
-- one anchor as question 5 wants it, on the struct that the code holds
abbrev pub sound_anchor : ℕ → CachedAnchor → Bool
sound_anchor low a = leb low a.id && (ltb 0 a.ours && (leb a.ours a.count && leb a.count max_anchor_messages))

-- the messages of sound anchors, counted on from sum
unfoldable pub sound_total : ℕ → ℕ → List Row → Option ℕ
sound_total low sum [] = Some sum
sound_total low sum (a ∷ l) = pick (sound_row low a) (sound_total (a.id + 1) (sum + a.count) l) None

-- how many messages an area of n bytes holds
abbrev pub places_in : ℕ → ℕ
places_in n = n / 33

-- question 5 of a window: every named place is inside its table or the message area, and the cache is sound
unfoldable pub valid_cache : ℕ → List ℕ → AnchorsCache → Bool
valid_cache places tables c =
    leb tables_bytes (length tables)
    && (leb (c.first + c.len) max_anchors
    && (leb (c.history_first + c.history_len) max_history
    && (sound_from 0 (anchors_of tables c)
    && (leb (total (anchors_of tables c)) max_messages
    && (leb (c.base + total (anchors_of tables c)) places
    && same_bool c.pending (ltb 0 c.len))))))

-- a window is its five numbers and its flag
unfoldable pub same_window : AnchorsCache → AnchorsCache → Bool
same_window a b =
    eqb a.first b.first
    && (eqb a.len b.len
    && (eqb a.history_first b.history_first
    && (eqb a.history_len b.history_len && (eqb a.base b.base && same_bool a.pending b.pending))))

-- also of what an open transaction's rollback restores
unfoldable pub valid : ℕ → List ℕ → AnchorsCacheTransaction → Bool
valid places tables t = valid_cache places tables t.cache && pick t.active (valid_cache places tables t.undo) true

-- questions 1 and 5
unfoldable pub refusal : ℕ → List ℕ → AnchorsCacheTransaction → ℕ
refusal n tables t = ask 1 (leb area_bytes n) (ask 5 (valid (places_in n) tables t) 0)

-- and 9: a transaction is open, or none is
unfoldable pub refusal_at : Bool → ℕ → List ℕ → AnchorsCacheTransaction → ℕ
refusal_at must n tables t = ask 1 (leb area_bytes n) (ask 5 (valid (places_in n) tables t) (ask 9 (same_bool must t.active) 0))

-- ---- a refused call answers its number and changes nothing
abbrev pub on_zero : {A : Type 0} → ℕ → A → A → A
on_zero zero a b = a
on_zero (suc k) a b = b

unfoldable pub answer : ℕ → AnchorsCacheTransaction → AnchorsCacheTransaction → Done
answer number t s = record { number = number; state = on_zero number s t }

abbrev pub with_cache : AnchorsCacheTransaction → AnchorsCache → AnchorsCacheTransaction
with_cache t c = record { cache = c; undo = t.undo; active = t.active; committed = t.committed }

-- ---- values of the answers
abbrev pub time_of : ℕ → ChainTime
time_of t = record { 0 = t }

-- an anchor whose first message stands at a place
abbrev pub cached_anchor : ℕ → Row → CachedAnchor
cached_anchor place a = record { id = a.id; chain_time = time_of a.time; ours = a.ours; count = a.count; place = place }

-- one row of the anchors' table; past the table every number is 0
abbrev pub no_row : Row
no_row = record { id = 0; time = 0; author = []; ours = 0; count = 0 }

unfoldable pub row_at : ℕ → ℕ → List ℕ → CachedAnchor
row_at i place tables = pick (ltb i max_anchors && leb tables_bytes (length tables)) (cached_anchor place (anchor_at i tables)) (cached_anchor place no_row)

-- the first of a list of anchors, or none
abbrev pub anchor_found : ℕ → List Row → Option CachedAnchor
anchor_found place [] = None
anchor_found place (a ∷ l) = Some (cached_anchor place a)

abbrev pub anchor_author : List Row → List ℕ
anchor_author [] = no_author
anchor_author (a ∷ l) = a.author

abbrev pub anchor_info_of : Info → AnchorInfo
anchor_info_of i = record { id = i.id; ct = time_of i.time; all_exts_count = i.all; our_exts_count = i.ours }

-- an entry with its author, which stands beside it
abbrev pub info_with : AnchorInfo → List ℕ → Info
info_with e author = record { id = e.id; time = e.ct.0; all = e.all_exts_count; ours = e.our_exts_count; author = author }

abbrev pub no_info : Info
no_info = record { id = 0; time = 0; all = 0; ours = 0; author = [] }

-- one row of the history
unfoldable pub info_row_at : ℕ → List ℕ → AnchorInfo
info_row_at i tables = pick (ltb i max_history && leb tables_bytes (length tables)) (anchor_info_of (info_at i tables)) (anchor_info_of no_info)

abbrev pub info_found : Maybe Info → Option AnchorInfo
info_found none = None
info_found (some i) = Some (anchor_info_of i)

abbrev pub info_author : Maybe Info → List ℕ
info_author none = no_author
info_author (some i) = i.author

abbrev pub id_found : Maybe Info → Option (ℕ × ChainTime)
id_found none = None
id_found (some i) = Some (i.id, time_of i.time)

-- the anchor at an index, and the last entry of a history, as the calls answer them where nothing is refused
unfoldable pub shown_anchor : ℕ → ℕ → List Row → AnchorAnswer
shown_anchor i base l = record { number = 0; anchor = anchor_found (base + total (take i l)) (drop i l); author = anchor_author (drop i l) }

unfoldable pub shown_info : Maybe Info → InfoAnswer
shown_info o = record { number = 0; info = info_found o; author = info_author o }

-- an entry of the history by its row; past the table there is none
abbrev pub entry_at : ℕ → List ℕ → Maybe Info
entry_at i tables = pick (ltb i max_history && leb tables_bytes (length tables)) (some (info_at i tables)) none

-- ---- add
abbrev pub row_for : MempoolAnchor → ℕ → ℕ → Row
row_for a ours k = record { id = a.id; time = a.chain_time.0; author = a.author; ours = ours; count = k / 33 }

-- k: the bytes of the messages
unfoldable pub add_number : ℕ → List ℕ → AnchorsCacheTransaction → ℕ → ℕ → ℕ → ℕ
add_number n tables t id ours k =
    ask 1 (leb area_bytes n)
    (ask 5 (valid (places_in n) tables t)
    (ask 6 (right_size ours k)
    (ask 7 (above_last id (last_of (anchors_of tables t.cache)))
    (ask 8 (room t.cache.len (used_by tables t.cache) t.cache.history_len ours (k / 33))
    (ask 9 (not t.active) 0)))))

unfoldable pub add_call : ℕ → Row → ℕ → ℕ → List ℕ → AnchorsCacheTransaction → Done
add_call number a n k tables t = answer number t (with_cache t (added_cache a n k tables t.cache))

-- ---- an entry to the history alone: questions 1, 5, 8 of the history, and 9
unfoldable pub add_info_number : ℕ → List ℕ → AnchorsCacheTransaction → ℕ
add_info_number n tables t =
    ask 1 (leb area_bytes n) (ask 5 (valid (places_in n) tables t) (ask 8 (ltb t.cache.history_len max_history) (ask 9 (not t.active) 0)))

unfoldable pub add_info_call : ℕ → List ℕ → AnchorsCacheTransaction → Done
add_info_call n tables t = answer (add_info_number n tables t) t (with_cache t (in_history t.cache))

-- ---- pop and trim, with a transaction or without
unfoldable pub pop_answer : ℕ → List ℕ → AnchorsCacheTransaction → Popped
pop_answer number tables t =
    on_zero number
    (record {
      number = 0;
      front = anchor_found t.cache.base (anchors_of tables t.cache);
      author = anchor_author (anchors_of tables t.cache);
      state = with_cache t (popped_cache tables t.cache);
    })
    (record { number = number; front = None; author = no_author; state = t })

unfoldable pub pop_call : ℕ → List ℕ → AnchorsCacheTransaction → Popped
pop_call n tables t = pop_answer (refusal n tables t) tables t

-- n pops at once
unfoldable pub pops_call : ℕ → ℕ → List ℕ → AnchorsCacheTransaction → Done
pops_call n count tables t = answer (refusal n tables t) t (with_cache t (popped_times count tables t.cache))

-- the answer is the last imported entry that is left
unfoldable pub trim_answer : ℕ → List ℕ → AnchorsCacheTransaction → AnchorsCache → Trimmed
trim_answer number tables t c =
    on_zero number
    (record {
      number = 0;
      last = info_found (last_of (history_of tables c));
      author = info_author (last_of (history_of tables c));
      state = with_cache t c;
    })
    (record { number = number; last = None; author = no_author; state = t })

unfoldable pub trim_call : ℕ → ℕ → List ℕ → AnchorsCacheTransaction → Trimmed
trim_call n ct tables t = trim_answer (refusal n tables t) tables t (trimmed_cache ct tables t.cache)

-- ---- the transaction
abbrev pub closed_transaction : AnchorsCacheTransaction
closed_transaction = record { cache = no_cache; undo = no_cache; active = false; committed = false }

unfoldable pub clear_call : ℕ → List ℕ → AnchorsCacheTransaction → Done
clear_call n tables t = answer (refusal_at false n tables t) t (with_cache t no_cache)

unfoldable pub open_call : ℕ → List ℕ → AnchorsCacheTransaction → Done
open_call n tables t = answer (refusal_at false n tables t) t (record { cache = t.cache; undo = t.cache; active = true; committed = false })

unfoldable pub commit_call : ℕ → List ℕ → AnchorsCacheTransaction → Done
commit_call n tables t = answer (refusal_at true n tables t) t (record { cache = t.cache; undo = t.undo; active = t.active; committed = true })

unfoldable pub rollback_call : ℕ → List ℕ → AnchorsCacheTransaction → Done
rollback_call n tables t = answer (refusal_at true n tables t) t (with_cache t t.undo)

-- unless the mark was ever set, closing restores the opening cache
unfoldable pub close_call : ℕ → List ℕ → AnchorsCacheTransaction → Done
close_call n tables t = answer (refusal_at true n tables t) t (record { cache = pick t.committed t.cache t.undo; undo = t.undo; active = false; committed = t.committed })

-- ---- what is asked of the cache: question 5 alone
unfoldable pub refusal_seen : List ℕ → AnchorsCacheTransaction → ℕ
refusal_seen tables t = ask 5 (valid any_places tables t) 0

unfoldable pub info_answer : ℕ → Maybe Info → InfoAnswer
info_answer number o = on_zero number (shown_info o) (record { number = number; info = None; author = no_author })

unfoldable pub last_info_call : List ℕ → AnchorsCacheTransaction → InfoAnswer
last_info_call tables t = info_answer (refusal_seen tables t) (last_of (history_of tables t.cache))

unfoldable pub info_at_ct_call : ℕ → List ℕ → AnchorsCacheTransaction → InfoAnswer
info_at_ct_call ct tables t = info_answer (refusal_seen tables t) (info_at_ct ct (history_of tables t.cache))

unfoldable pub id_answer : ℕ → Maybe Info → IdAnswer
id_answer number o = on_zero number (record { number = 0; last = id_found o }) (record { number = number; last = None })

unfoldable pub last_id_call : List ℕ → AnchorsCacheTransaction → IdAnswer
last_id_call tables t = id_answer (refusal_seen tables t) (last_of (history_of tables t.cache))

unfoldable pub get_answer : ℕ → ℕ → ℕ → List Row → AnchorAnswer
get_answer number i base l = on_zero number (shown_anchor i base l) (record { number = number; anchor = None; author = no_author })

unfoldable pub get_call : ℕ → List ℕ → AnchorsCacheTransaction → AnchorAnswer
get_call index tables t = get_answer (refusal_seen tables t) index t.cache.base (anchors_of tables t.cache)

unfoldable pub flag_answer : ℕ → Bool → FlagAnswer
flag_answer number b = record { number = number; flag = on_zero number b false }

unfoldable pub pending_call : List ℕ → AnchorsCacheTransaction → FlagAnswer
pending_call tables t = flag_answer (refusal_seen tables t) t.cache.pending

unfoldable pub pending_in_range_call : ExternalKey → List ℕ → AnchorsCacheTransaction → FlagAnswer
pending_in_range_call up_to tables t = flag_answer (refusal_seen tables t) (pending_up_to up_to.anchor_id (anchors_of tables t.cache))
