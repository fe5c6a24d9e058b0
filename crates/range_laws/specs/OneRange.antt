-- One range's read as the book counts it: its number from the questions on what it is handed and on the book's two
-- caches, its pops by the six steps on the present one.
use Rattle.std.specs.Prelude.{ℕ, true, List, [], ◌∷◌, length}
use Rattle.ext_types.specs.declared.Seconds.{Seconds}
use Rattle.shard_ident.specs.declared.ShardIdent.{ShardIdent}
use Rattle.messages_buffer.specs.Fullness.{first_no}
use Rattle.anchors_cache.specs.declared.AnchorsCacheTransaction.{AnchorsCacheTransaction}
use Rattle.anchors_cache.specs.Answers.{Done}
use Rattle.cache_rules.specs.Rules.{Cache}
use Rattle.cache_laws.specs.Book.{asked_of_caches}
use Rattle.range_rules.specs.Walks.{RangeRead}
use Rattle.range_rules.specs.declared.ExternalsRangeReaderState.{ExternalsRangeReaderState}
use Rattle.range_rules.specs.declared.ProcessedTo.{ProcessedTo}
use Rattle.range_rules.specs.declared.ReadNextExternalsMode.{ReadNextExternalsMode}
use Rattle.range_rules.specs.Rules.{six_steps, range_questions, Outcome, context_of}
use Rattle.range_reader.specs.Calls.{read_call}

-- what a read is handed beside cache, transaction, tables and area
pub record Handed : Type 0 where
  pub shard : ShardIdent
  pub routes : List ℕ
  pub limits : List ℕ
  pub processed : List ProcessedTo
  pub timeout : Seconds
  pub mode : ReadNextExternalsMode
  pub range : ExternalsRangeReaderState
  pub out : List ℕ

-- the six steps on the book's present cache
unfoldable pub book_steps : Handed → Cache → Outcome RangeRead
book_steps h v = six_steps (context_of h.shard h.limits h.processed h.timeout h.mode h.range (length h.out)) h.routes h.range v.anchors

-- questions 1, 2, 3, 4, 5, 9, 10, then 11 to 14 as the steps meet them
unfoldable pub book_read_number : Handed → List ℕ → Cache → Cache → ℕ
book_read_number h area present opening =
    first_no
    (range_questions (length area) h.shard h.routes h.limits (asked_of_caches present opening 0) h.range true
    ∷ (book_steps h present).value.walk.number
    ∷ [])

-- number and transaction of the call, as its contract says
unfoldable pub read_on_window : Handed → List ℕ → List ℕ → AnchorsCacheTransaction → Done
read_on_window h tables area t =
    let a = (read_call tables area t h.shard h.routes h.limits h.processed h.timeout h.mode h.range h.out).answer in
    record { number = a.number; state = a.state }
