-- What a range's turn comes to, and the answer of a read of all.
use Rattle.std.specs.Prelude.{ℕ, zero, suc, List, [], ◌∷◌, eqb, length, get_or, Option, None, Some}
use Rattle.rows.specs.Rows.{pick}
use Rattle.messages_buffer.specs.Fullness.{first_no}
use Rattle.anchors_cache.specs.declared.AnchorsCacheTransaction.{AnchorsCacheTransaction}
use Rattle.anchors_cache.specs.Calls.{pops_call}
use Rattle.range_rules.specs.declared.ExternalsRangeReaderState.{ExternalsRangeReaderState}
use Rattle.reader_rules.specs.declared.ExternalsReader.{ExternalsReader}
use Rattle.reader_rules.specs.declared.Fixed.{Fixed}
use Rattle.reader_rules.specs.Turns.{SoFar, RangesRead}
use Rattle.externals_reader.specs.Answers.{ReadAllAnswer}
use Rattle.reader_rules.specs.State.{ranges_number, settings_number, no_range}
use Rattle.reader_rules.specs.Rules.{settled, Told, added, numbered}
use Rattle.externals_reader.specs.Calls.{reader_after}

-- ---- questions 4 and 5, of the reader's pieces
abbrev pub pieces_number : List ℕ → ℕ → List ExternalsRangeReaderState → ℕ → ℕ
pieces_number limits most ranges len = first_no (settings_number limits most ∷ ranges_number ranges len ∷ [])

-- the last of the first len ranges, if there is one
abbrev pub last_range : ℕ → List ExternalsRangeReaderState → Option ExternalsRangeReaderState
last_range zero ranges = None
last_range (suc k) ranges = Some (get_or ranges k no_range)

-- ---- the read
-- a range after its turn, and what the read has come to with it
pub record TurnDone : Type 0 where
  pub so_far : SoFar
  pub range : ExternalsRangeReaderState

-- what a range's read makes of what the turns before came to, and of the range: a refused one stays
unfoldable pub turn_done : Fixed → SoFar → ExternalsRangeReaderState → Told → TurnDone
turn_done x s range a = pick (eqb a.number 0) (record { so_far = added s a; range = settled x a.range }) (record { so_far = numbered a.number s; range = range })

-- the answer of a read that was not refused
abbrev pub read_answered : List ℕ → List ℕ → AnchorsCacheTransaction → ExternalsReader → RangesRead → ReadAllAnswer
read_answered tables area t reader r =
    record {
      number = 0;
      free = r.so_far.free;
      used = r.so_far.used;
      counts = r.so_far.counts;
      reader = reader_after reader r;
      state = (pops_call (length area) r.so_far.pops tables t).state;
    }
