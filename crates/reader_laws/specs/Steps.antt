-- The calls that may stand between an open and a close, with what each is handed beside cache and transaction, and what
-- each is in document 01's book.
use Rattle.std.specs.Prelude.{ℕ, ◌<◌, ◌≤◌, ◌≡◌, List, [], ◌∷◌, length}
use Rattle.anchors_cache.specs.declared.MempoolAnchor.{MempoolAnchor}
use Rattle.anchors_cache.specs.declared.AnchorsCacheTransaction.{AnchorsCacheTransaction}
use Rattle.anchors_cache.specs.declared.AnchorInfo.{AnchorInfo}
use Rattle.anchors_cache.specs.Tables.{info_row}
use Rattle.anchors_cache.specs.Windows.{history_added, added_tables, added_area}
use Rattle.anchors_cache.specs.Calls.{on_zero, info_with, add_info_number, row_for, add_number}
use Rattle.cache_laws.specs.Book.{Area, short, lent, lend, Call, reading}
use Rattle.cache_laws.specs.Entries.{popping, popping_many, trimming, committing, rolling_back, closing, opening, clearing, adding, adding_info, Question, longest_slice, asking}
use Rattle.range_laws.specs.OneRange.{Handed, book_steps, book_read_number, read_on_window}
use Rattle.reader_laws.specs.AllRanges.{HandedAll, book_all_number, book_all_pops, read_all_on_window}
use Rattle.cache_rules.specs.Rules.{area_bytes}

-- Each with the message area of the run or one that question 1 refuses; a close in the list is a refused one. A
-- question is lent no area and stands in a list over one that can be lent.
pub data Step (area : List ℕ) : Type 0 where
  pop : Area → Step area
  pop_fronts : Area → ℕ → Step area
  trim_above : Area → ℕ → Step area
  reads_one : Area → Handed → Step area
  reads_all : Area → HandedAll → Step area
  commit : Area → Step area
  rollback : Area → Step area
  adds : Area → MempoolAnchor → ℕ → List ℕ → Step area
  adds_info : Area → AnchorInfo → List ℕ → Step area
  opens : Area → Step area
  clears : Area → Step area
  closes : (bytes : List ℕ) → length bytes < area_bytes → Step area
  asks : length area ≤ longest_slice → Question → Step area

abbrev pub call : {area : List ℕ} → Step area → Call
call (pop a) = lend a popping
call (pop_fronts a n) = lend a (popping_many n)
call (trim_above a ct) = lend a (trimming ct)
call (reads_one a h) = lend a (reading (book_read_number h) (λ area present. (book_steps h present).value.pops) (read_on_window h))
call (reads_all a h) = lend a (reading (book_all_number h) (λ area present. book_all_pops h present) (read_all_on_window h))
call (commit a) = lend a committing
call (rollback a) = lend a rolling_back
call (adds a m ours messages) = lend a (adding m ours messages)
call (adds_info a i author) = lend a adding_info
call (opens a) = lend a opening
call (clears a) = lend a clearing
call (closes bytes p) = lend (short bytes p) closing
call (asks p q) = asking q

-- ---- the lent bytes
-- the tables, and the area that the call is lent (a question: that of the run)
pub record LentBytes : Type 0 where
  pub tables : List ℕ
  pub area : List ℕ

abbrev area_of : (area : List ℕ) → Step area → List ℕ
area_of area (pop a) = lent area a
area_of area (pop_fronts a n) = lent area a
area_of area (trim_above a ct) = lent area a
area_of area (reads_one a h) = lent area a
area_of area (reads_all a h) = lent area a
area_of area (commit a) = lent area a
area_of area (rollback a) = lent area a
area_of area (adds a m ours messages) = lent area a
area_of area (adds_info a i author) = lent area a
area_of area (opens a) = lent area a
area_of area (clears a) = lent area a
area_of area (closes bytes p) = bytes
area_of area (asks p q) = area

abbrev pub handed_bytes : (tables area : List ℕ) → Step area → LentBytes
handed_bytes tables area k = record { tables = tables; area = area_of area k }

-- an add, as its contract says: it writes where its number is 0
abbrev pub add_leaves : MempoolAnchor → ℕ → List ℕ → List ℕ → List ℕ → AnchorsCacheTransaction → LentBytes
add_leaves m ours messages tables area t =
    let k = length messages in
    let number = add_number (length area) tables t m.id ours k in
    record {
      tables = on_zero number (added_tables (row_for m ours k) t.cache tables) tables;
      area = on_zero number (added_area (row_for m ours k) messages tables t.cache area) area;
    }

-- and of an entry to the history alone
abbrev pub info_leaves : AnchorInfo → List ℕ → List ℕ → List ℕ → AnchorsCacheTransaction → LentBytes
info_leaves i author tables area t = record { tables = on_zero (add_info_number (length area) tables t) (history_added (info_row (info_with i author)) t.cache tables) tables; area = area }

-- what a call leaves of them; no other call is lent bytes to write
abbrev pub leaves : (tables area : List ℕ) → Step area → AnchorsCacheTransaction → LentBytes
leaves tables area (adds a m ours messages) t = add_leaves m ours messages tables (lent area a) t
leaves tables area (adds_info a i author) t = info_leaves i author tables (lent area a) t
leaves tables area (pop a) t = handed_bytes tables area (pop a)
leaves tables area (pop_fronts a n) t = handed_bytes tables area (pop_fronts a n)
leaves tables area (trim_above a ct) t = handed_bytes tables area (trim_above a ct)
leaves tables area (reads_one a h) t = handed_bytes tables area (reads_one a h)
leaves tables area (reads_all a h) t = handed_bytes tables area (reads_all a h)
leaves tables area (commit a) t = handed_bytes tables area (commit a)
leaves tables area (rollback a) t = handed_bytes tables area (rollback a)
leaves tables area (opens a) t = handed_bytes tables area (opens a)
leaves tables area (clears a) t = handed_bytes tables area (clears a)
leaves tables area (closes bytes p) t = handed_bytes tables area (closes bytes p)
leaves tables area (asks p q) t = handed_bytes tables area (asks p q)

-- every call of the list leaves the bytes that it is lent
unfoldable pub NothingWritten : (tables area : List ℕ) → List (Step area) → AnchorsCacheTransaction → Type 0
NothingWritten tables area [] t = Unit {0}
NothingWritten tables area (k ∷ ks) t = (leaves tables area k t ≡ handed_bytes tables area k) × NothingWritten tables area ks ((call k).on_window tables area t).state
