-- The lent tables: 256 rows of 52 bytes of history, then 32 rows of 50 bytes of cached anchors. The messages stand in
-- the lent message area, 33 bytes each.
use Rattle.std.specs.Prelude.{ℕ, ◌+◌, ◌*◌, List, [], ◌∷◌, ◌++◌, map, drop}
use Rattle.rows.specs.Rows.{part, le, word, rows}
use Rattle.anchors_cache.specs.declared.AnchorsCache.{AnchorsCache}
use Rattle.cache_rules.specs.Rules.{Info, Anchor, Cache, Row, with_row, max_anchors, max_history, author_bytes}

-- where the rows of the anchors begin, and where they end
abbrev pub history_bytes : ℕ
history_bytes = 52 * max_history

abbrev pub anchor_bytes : ℕ
anchor_bytes = 50 * max_anchors

abbrev pub tables_bytes : ℕ
tables_bytes = history_bytes + anchor_bytes

-- a row of the anchors, and of the history
unfoldable pub anchor_row : Row → List ℕ
anchor_row a = le 4 a.id ++ (le 8 a.time ++ (a.author ++ (le 4 a.ours ++ le 2 a.count)))

unfoldable pub info_row : Info → List ℕ
info_row i = le 4 i.id ++ (le 8 i.time ++ (le 4 i.all ++ (le 4 i.ours ++ i.author)))

-- what a row says
abbrev pub anchor_of : List ℕ → Row
anchor_of row = record { id = word (part 0 4 row); time = word (part 4 8 row); author = part 12 author_bytes row; ours = word (part 44 4 row); count = word (part 48 2 row) }

abbrev pub info_of : List ℕ → Info
info_of row = record { id = word (part 0 4 row); time = word (part 4 8 row); all = word (part 12 4 row); ours = word (part 16 4 row); author = part 20 author_bytes row }

-- one anchor, or entry, of the tables
abbrev pub anchor_at : ℕ → List ℕ → Row
anchor_at i tables = anchor_of (part (history_bytes + 50 * i) 50 tables)

abbrev pub info_at : ℕ → List ℕ → Info
info_at i tables = info_of (part (52 * i) 52 tables)

-- n of them from one on
unfoldable pub anchors : ℕ → ℕ → List ℕ → List Row
anchors first n tables = map anchor_of (rows 50 n (drop (history_bytes + 50 * first) tables))

unfoldable pub infos : ℕ → ℕ → List ℕ → List Info
infos first n tables = map info_of (rows 52 n (drop (52 * first) tables))

-- the anchors of a window, and its history
abbrev pub anchors_of : List ℕ → AnchorsCache → List Row
anchors_of tables c = anchors c.first c.len tables

abbrev pub history_of : List ℕ → AnchorsCache → List Info
history_of tables c = infos c.history_first c.history_len tables

-- anchors with their messages, which stand one after another
unfoldable pub with_messages : List ℕ → List Row → List Anchor
with_messages bytes [] = []
with_messages bytes (a ∷ l) = with_row a (rows 33 a.count bytes) ∷ with_messages (drop (33 * a.count) bytes) l

-- the cache that a window stands for, over the tables and the message area
unfoldable pub view : List ℕ → List ℕ → AnchorsCache → Cache
view tables area c = record { anchors = with_messages (drop (33 * c.base) area) (anchors_of tables c); history = history_of tables c; pending = c.pending }
