-- What a pop, a trim and an add do to the window, the tables and the message area.
use Rattle.std.specs.Prelude.{◌^◌, ℕ, zero, suc, ◌+◌, ◌-◌, ◌*◌, ◌/◌, ◌≤◌, ◌<◌, ◌≡◌, true, false, List, [], ◌∷◌, ltb, length}
use Rattle.rows.specs.Rows.{pick, stays, appended}
use Rattle.anchors_cache.specs.declared.AnchorsCache.{AnchorsCache}
use Rattle.cache_rules.specs.Rules.{Info, Row, drop_stale, trim_back, trim_history, total, max_anchors, max_anchor_messages, max_history, area_bytes}
use Rattle.anchors_cache.specs.Tables.{history_bytes, anchor_bytes, tables_bytes, anchor_row, info_row, anchors_of, history_of}

-- as many messages as any area can hold: what a call asks that is lent none
abbrev pub any_places : ℕ
any_places = 2 ^ 64 / 33

abbrev pub row_time : Row → ℕ
row_time a = a.time

-- the tables are whole, and a cache's two windows lie in them
abbrev pub Inside : List ℕ → AnchorsCache → Type 0
Inside tables c = (tables_bytes ≤ length tables) × (c.first + c.len ≤ max_anchors) × (c.history_first + c.history_len ≤ max_history)

-- ---- pop: both windows begin later
abbrev pub fresh_len : ℕ → List ℕ → AnchorsCache → ℕ
fresh_len ct tables c = length (drop_stale ct (history_of tables c))

abbrev pub popped_by : List Row → List ℕ → AnchorsCache → AnchorsCache
popped_by [] tables c = c
popped_by (a ∷ l) tables c =
    record {
      first = c.first + 1;
      len = c.len - 1;
      history_first = c.history_first + (c.history_len - fresh_len a.time tables c);
      history_len = fresh_len a.time tables c;
      base = c.base + a.count;
      pending = ltb 1 c.len;
    }

unfoldable pub popped_cache : List ℕ → AnchorsCache → AnchorsCache
popped_cache tables c = popped_by (anchors_of tables c) tables c

-- n pops
unfoldable pub popped_times : ℕ → List ℕ → AnchorsCache → AnchorsCache
popped_times zero tables c = c
popped_times (suc n) tables c = popped_times n tables (popped_cache tables c)

-- ---- trim: both windows end earlier
abbrev pub kept_len : ℕ → List ℕ → AnchorsCache → ℕ
kept_len ct tables c = length (trim_back row_time ct (anchors_of tables c))

unfoldable pub trimmed_cache : ℕ → List ℕ → AnchorsCache → AnchorsCache
trimmed_cache ct tables c =
    record {
      first = c.first;
      len = kept_len ct tables c;
      history_first = c.history_first;
      history_len = length (trim_history ct (history_of tables c));
      base = c.base;
      pending = pick (ltb (kept_len ct tables c) c.len) (ltb 0 (kept_len ct tables c)) c.pending;
    }

-- ---- clear
abbrev pub no_cache : AnchorsCache
no_cache = record { first = 0; len = 0; history_first = 0; history_len = 0; base = 0; pending = false }

-- ---- add: the new rows stand behind the windows, which move down to their tables' start where no room is behind them
unfoldable pub in_history : AnchorsCache → AnchorsCache
in_history c =
    record {
      first = c.first;
      len = c.len;
      history_first = pick (stays (52 * c.history_first) (52 * c.history_len) 52 history_bytes) c.history_first 0;
      history_len = c.history_len + 1;
      base = c.base;
      pending = c.pending;
    }

abbrev pub history_added : List ℕ → AnchorsCache → List ℕ → List ℕ
history_added row c tables = appended 0 (52 * c.history_first) (52 * c.history_len) history_bytes row tables

-- n: the length of the message area; k: the bytes of the new messages; used: the messages of the cached anchors
unfoldable pub in_cache : ℕ → ℕ → ℕ → AnchorsCache → AnchorsCache
in_cache n k used c =
    record {
      first = pick (stays (50 * c.first) (50 * c.len) 50 anchor_bytes) c.first 0;
      len = c.len + 1;
      history_first = c.history_first;
      history_len = c.history_len;
      base = pick (stays (33 * c.base) (33 * used) k n) c.base 0;
      pending = true;
    }

abbrev pub anchor_added : List ℕ → AnchorsCache → List ℕ → List ℕ
anchor_added row c tables = appended history_bytes (50 * c.first) (50 * c.len) anchor_bytes row tables

abbrev pub messages_added : List ℕ → ℕ → AnchorsCache → List ℕ → List ℕ
messages_added messages used c area = appended 0 (33 * c.base) (33 * used) (length area) messages area

-- the whole of an add: a row with k bytes of messages, and its history entry
abbrev pub info_for : Row → Info
info_for a = record { id = a.id; time = a.time; all = a.count; ours = a.ours; author = a.author }

abbrev pub used_by : List ℕ → AnchorsCache → ℕ
used_by tables c = total (anchors_of tables c)

unfoldable pub added_cache : Row → ℕ → ℕ → List ℕ → AnchorsCache → AnchorsCache
added_cache a n k tables c = pick (ltb 0 a.ours) (in_cache n k (used_by tables c) (in_history c)) (in_history c)

unfoldable pub added_tables : Row → AnchorsCache → List ℕ → List ℕ
added_tables a c tables = pick (ltb 0 a.ours) (anchor_added (anchor_row a) (in_history c) (history_added (info_row (info_for a)) c tables)) (history_added (info_row (info_for a)) c tables)

unfoldable pub added_area : Row → List ℕ → List ℕ → AnchorsCache → List ℕ → List ℕ
added_area a messages tables c area = pick (ltb 0 a.ours) (messages_added messages (used_by tables c) c area) area

-- what question 5 says of a window, as far as an add leans on it
pub record Sound (tables area : List ℕ) (c : AnchorsCache) : Type 0 where
  pub tall : tables_bytes ≤ length tables
  pub broad : area_bytes ≤ length area
  pub anchors_within : c.first + c.len ≤ max_anchors
  pub history_within : c.history_first + c.history_len ≤ max_history
  pub in_area : 33 * (c.base + used_by tables c) ≤ length area

-- and as far as pops lean on it
pub record Lies (tables : List ℕ) (c : AnchorsCache) : Type 0 where
  pub tall : tables_bytes ≤ length tables
  pub anchors_within : c.first + c.len ≤ max_anchors
  pub history_within : c.history_first + c.history_len ≤ max_history
  pub in_memory : c.base + used_by tables c ≤ any_places

-- what questions 6 and 8 say of an add
pub record Room (tables : List ℕ) (c : AnchorsCache) (ours : ℕ) (messages : List ℕ) : Type 0 where
  pub whole : 33 * (length messages / 33) ≡ length messages
  pub few : length messages ≤ 33 * max_anchor_messages
  pub entries : c.history_len < max_history
  pub anchors : 0 < ours → c.len < max_anchors
  pub bytes : 0 < ours → 33 * used_by tables c + length messages ≤ area_bytes
