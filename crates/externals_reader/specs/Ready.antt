-- What the inner functions of a read of all need.
use Rattle.std.specs.Prelude.{ℕ, ◌+◌, ◌*◌, ◌<◌, ◌≤◌, ◌^◌, ◌≡◌, Bool, List, length, get_or, set, Result, Ok, Err}
use Rattle.rows.specs.Rows.{pick}
use Rattle.anchors_cache.specs.declared.AnchorsCacheTransaction.{AnchorsCacheTransaction}
use Rattle.range_rules.specs.declared.ReadCounts.{ReadCounts}
use Rattle.range_rules.specs.declared.ExternalsRangeReaderState.{ExternalsRangeReaderState}
use Rattle.range_rules.specs.Bounds.{AtMost}
use Rattle.refusals.specs.declared.Refusal.{Refusal}
use Rattle.refusals.specs.Refusals.{number_of}
use Rattle.range_reader.specs.declared.ReadExternals.{ReadExternals}
use Rattle.range_reader.specs.Ready.{Tells}
use Rattle.range_reader.specs.Calls.{ReadAnswer, read_answer_of, read_call}
use Rattle.reader_rules.specs.declared.Fixed.{Fixed}
use Rattle.reader_rules.specs.Turns.{SoFar, RangesRead}
use Rattle.externals_reader.specs.declared.SoFar.{SoFar as CodeSoFar}
use Rattle.externals_reader.specs.declared.RangesRead.{RangesRead as CodeRanges}
use Rattle.externals_reader.specs.declared.TurnDone.{TurnDone as CodeTurn}
use Rattle.externals_reader.specs.Locals.{TurnDone}
use Rattle.reader_rules.specs.State.{no_range, open_ranges_limit_of, max_ranges}
use Rattle.reader_rules.specs.Rules.{mode_for, OneRange, turn, read_of}
use Rattle.cache_rules.specs.Rules.{max_anchors, max_messages}

-- ---- the code holds what turns have come to only where no question refused them: the rules' are those with number 0
abbrev pub so_far_told : CodeSoFar → SoFar
so_far_told s = record { number = 0; pops = s.pops; used = s.used; all_read = s.all_read; stopped = s.stopped; free = s.free; last = s.last; counts = s.counts }

abbrev pub ranges_told : CodeRanges → RangesRead
ranges_told r = read_of (so_far_told r.so_far) r.ranges r.len

abbrev pub done_told : CodeTurn → TurnDone
done_told q = record { so_far = so_far_told q.so_far; range = q.range }

-- a range's read that was not refused
abbrev pub answer_told : ReadExternals → ReadAnswer
answer_told a = read_answer_of a.range a.state (Ok a)

-- what a result says of the rules' value: all of it, or the number of the question that was answered "no"
abbrev pub ranges_tell : Result CodeRanges Refusal → RangesRead → Type 0
ranges_tell (Ok r) v = ranges_told r ≡ v
ranges_tell (Err e) v = number_of e ≡ v.so_far.number

-- the turns of all
abbrev pub turns_tell : List ExternalsRangeReaderState → ℕ → Result CodeSoFar Refusal → RangesRead → Type 0
turns_tell ranges len (Ok s) v = read_of (so_far_told s) ranges len ≡ v
turns_tell ranges len (Err e) v = number_of e ≡ v.so_far.number

-- and the turn of range i among the others
abbrev pub turn_tells : List ExternalsRangeReaderState → ℕ → ℕ → Result CodeTurn Refusal → RangesRead → Type 0
turn_tells ranges i len (Ok q) v = read_of (so_far_told q.so_far) (set ranges i q.range) len ≡ v
turn_tells ranges i len (Err e) v = number_of e ≡ v.so_far.number

-- ---- what the functions ask
-- no sum of two counts leaves 32 bits
pub record Addable (a b : ReadCounts) : Type 0 where
  pub read : (i : ℕ) → get_or a.read i 0 + get_or b.read i 0 < 2 ^ 32
  pub expired : (i : ℕ) → get_or a.expired i 0 + get_or b.expired i 0 < 2 ^ 32
  pub buffered : (i : ℕ) → get_or a.buffered i 0 + get_or b.buffered i 0 < 2 ^ 32

-- after k turns: at most 1,024 messages and 32 pops for each
pub record After (k room : ℕ) (r : RangesRead) : Type 0 where
  pub few : AtMost (max_messages * k) r.so_far.counts
  pub pops : r.so_far.pops ≤ max_anchors * k
  pub used : r.so_far.used ≤ room

-- a range's turn
pub record TurnRoom (x : Fixed) (s : SoFar) (out : List ℕ) : Type 0 where
  pub few : AtMost (max_messages * max_ranges) s.counts
  pub pops : s.pops ≤ max_anchors * max_ranges
  pub used : s.used ≤ x.room
  pub room : length out ≡ x.room
  pub small : x.room < 2 ^ 64

pub record Start (x : Fixed) (r : RangesRead) (out : List ℕ) : Type 0 where
  pub after : After 0 x.room r
  pub unused : r.so_far.used ≡ 0
  pub slots : r.len ≤ max_ranges
  pub limit : open_ranges_limit_of x.params ≤ max_ranges
  pub room : length out ≡ x.room
  pub small : x.room < 2 ^ 64

-- what is added to what the turns before came to
pub record TurnReady (s : SoFar) (a : ReadAnswer) : Type 0 where
  pub counts : Addable s.counts a.counts
  pub pops : s.pops + a.pops < 2 ^ 64
  pub used : s.used + a.used < 2 ^ 64

-- one range's read, which writes its entries where the run writes
pub record RangeWrote (write : Bool) (tables area : List ℕ) (t : AnchorsCacheTransaction) (routes : List ℕ) (x : Fixed) (range : ExternalsRangeReaderState) (before after : List ℕ) (a : ReadAnswer) : Type 0 where
  pub answer : a ≡ (read_call tables area t x.shard routes x.limits x.processed x.params.externals_expire_timeout (mode_for x range.seqno) range before).answer
  pub out : after ≡ pick write (read_call tables area t x.shard routes x.limits x.processed x.params.externals_expire_timeout (mode_for x range.seqno) range before).out before

-- a range's turn, wherever the range stands among the others
pub record TurnWrote (write : Bool) (one : OneRange) (x : Fixed) (s : SoFar) (range : ExternalsRangeReaderState) (before after : List ℕ) (q : Result CodeTurn Refusal) : Type 0 where
  pub at : (ranges : List ExternalsRangeReaderState) (i len : ℕ) → get_or ranges i no_range ≡ range → Tells write s.used before after (turn_tells ranges i len q) (turn one x i (read_of s ranges len))
