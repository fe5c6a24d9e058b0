-- The read of all ranges as the book counts it: its number from the questions on what it is handed and on the book's
-- two caches, its pops by the rules on the present one.
use Rattle.ext_types.specs.declared.ExternalKey.{ExternalKey}
use Rattle.std.specs.Prelude.{ℕ, true, List, [], ◌∷◌, length, Option}
use Rattle.rows.specs.Rows.{pick}
use Rattle.messages_buffer.specs.Fullness.{partitions_number, limited_number, first_no}
use Rattle.anchors_cache.specs.declared.AnchorsCacheTransaction.{AnchorsCacheTransaction}
use Rattle.anchors_cache.specs.Answers.{Done}
use Rattle.cache_rules.specs.Rules.{Cache, last_of}
use Rattle.anchors_cache.specs.Calls.{info_found, closed_transaction}
use Rattle.cache_laws.specs.Book.{asked_of_caches, pop_times}
use Rattle.range_rules.specs.Walks.{RangeRead}
use Rattle.range_rules.specs.declared.ExternalsRangeReaderState.{ExternalsRangeReaderState}
use Rattle.range_rules.specs.declared.ReadNextExternalsMode.{ReadNextExternalsMode}
use Rattle.range_rules.specs.Rules.{six_steps, Outcome, context_of}
use Rattle.reader_rules.specs.declared.ExternalsReader.{ExternalsReader}
use Rattle.reader_rules.specs.declared.GetNextMessageGroupMode.{GetNextMessageGroupMode}
use Rattle.reader_rules.specs.declared.Fixed.{Fixed}
use Rattle.reader_rules.specs.Turns.{RangesRead}
use Rattle.reader_rules.specs.State.{all_questions}
use Rattle.reader_rules.specs.Rules.{OneRange, ranges_read, fixed_of, at_entry}
use Rattle.externals_reader.specs.Calls.{end_of, told_by, read_all_call}

-- what a read of all ranges is handed beside cache, transaction, tables and area
pub record HandedAll : Type 0 where
  pub routes : List ℕ
  pub reader : ExternalsReader
  pub mode : GetNextMessageGroupMode
  pub out : List ℕ

-- Document 01: "the last imported entry's id and message count", where history is nonempty
abbrev pub imported_of : Cache → Option ExternalKey
imported_of v = end_of (info_found (last_of v.history))

abbrev pub book_fixed : HandedAll → Cache → Fixed
book_fixed h v = fixed_of h.reader h.mode (imported_of v) (length h.out)

-- one range's six steps on a cache
unfoldable pub range_steps : List ℕ → Fixed → Cache → ReadNextExternalsMode → ExternalsRangeReaderState → ℕ → Outcome RangeRead
range_steps routes x v mode range room = six_steps (context_of x.shard x.limits x.processed x.params.externals_expire_timeout mode range room) routes range v.anchors

-- One range's read on the book's cache after so many pops: questions 5 and 10 of the range, then 11 to 14 as the steps
-- meet them.
-- No transaction is part of the answer: any may stand in `told_by`.
unfoldable pub book_range : List ℕ → Fixed → Cache → OneRange
book_range routes x v pops mode range room =
    let s = range_steps routes x (pop_times pops v) mode range room in
    told_by (first_no (partitions_number range.by_partitions ∷ limited_number x.limits range.by_partitions ∷ s.value.walk.number ∷ [])) closed_transaction range s

-- Document 01, "All ranges", on the book's present cache
unfoldable pub book_all_read : HandedAll → Cache → Outcome RangesRead
book_all_read h v = ranges_read (book_range h.routes (book_fixed h v) v) (book_fixed h v) (at_entry h.reader.reader_state)

-- questions 1, 2, 3, 4, 5 and 9
unfoldable pub book_asked : HandedAll → List ℕ → Cache → Cache → ℕ
book_asked h area present opening = all_questions (length area) h.routes h.reader (asked_of_caches present opening 0) true

-- Document 01: "Nothing is done once "all ranges read" is set." Else the number that the ranges give.
unfoldable pub book_all_number : HandedAll → List ℕ → Cache → Cache → ℕ
book_all_number h area present opening =
    first_no (book_asked h area present opening ∷ pick h.reader.all_ranges_fully_read 0 (book_all_read h present).value.so_far.number ∷ [])

-- the pops of every range that was read
unfoldable pub book_all_pops : HandedAll → Cache → ℕ
book_all_pops h v = pick h.reader.all_ranges_fully_read 0 (book_all_read h v).value.so_far.pops

-- number and transaction of the call, as its contract says
unfoldable pub read_all_on_window : HandedAll → List ℕ → List ℕ → AnchorsCacheTransaction → Done
read_all_on_window h tables area t =
    let a = (read_all_call tables area t h.routes h.reader h.mode h.out).answer in
    record { number = a.number; state = a.state }
