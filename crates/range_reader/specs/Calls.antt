-- What the public call answers, for every argument.
use Rattle.std.specs.Prelude.{ℕ, Bool, List, [], ◌∷◌, eqb, length, Option, None, Result, Ok, Err}
use Rattle.std.proofs.lemmas.List.Edits.{sets}
use Rattle.rows.specs.Rows.{pick}
use Rattle.range_rules.specs.Rules.{range_after, six_steps, range_questions, context_of, no_counts, Outcome}
use Rattle.ext_types.specs.declared.Seconds.{Seconds}
use Rattle.shard_ident.specs.declared.ShardIdent.{ShardIdent}
use Rattle.messages_buffer.specs.Fullness.{FillState, range_free, first_no}
use Rattle.anchors_cache.specs.declared.AnchorsCacheTransaction.{AnchorsCacheTransaction}
use Rattle.anchors_cache.specs.Tables.{view}
use Rattle.anchors_cache.specs.Windows.{popped_times}
use Rattle.anchors_cache.specs.Calls.{refusal, with_cache}
use Rattle.range_rules.specs.Walks.{RangeRead}
use Rattle.refusals.specs.declared.Refusal.{Refusal}
use Rattle.refusals.specs.Refusals.{number_of}
use Rattle.ext_types.specs.declared.ChainTime.{ChainTime}
use Rattle.range_rules.specs.declared.ReadCounts.{ReadCounts}
use Rattle.range_reader.specs.declared.ReadExternals.{ReadExternals}
use Rattle.range_rules.specs.declared.ExternalsRangeReaderState.{ExternalsRangeReaderState}
use Rattle.range_rules.specs.declared.ProcessedTo.{ProcessedTo}
use Rattle.range_rules.specs.declared.ReadNextExternalsMode.{ReadNextExternalsMode}

-- questions 1 to 5, 9 and 10
unfoldable pub asked_number : List ℕ → List ℕ → AnchorsCacheTransaction → ShardIdent → List ℕ → List ℕ → ExternalsRangeReaderState → ℕ
asked_number tables area t shard routes limits range = range_questions (length area) shard routes limits (refusal (length area) tables t) range t.active

unfoldable pub asked_state : List ℕ → List ℕ → AnchorsCacheTransaction → ShardIdent → List ℕ → List ℕ → ExternalsRangeReaderState → FillState
asked_state tables area t shard routes limits range =
    record {
      number = asked_number tables area t shard routes limits range;
      free = pick (eqb (asked_number tables area t shard routes limits range) 0) (range_free limits range.by_partitions) 0;
    }

-- what a read answers, in document 01's terms
pub record ReadAnswer : Type 0 where
  pub number : ℕ
  pub last_chain_time : Option ChainTime
  pub free : ℕ
  pub pops : ℕ
  pub used : ℕ
  pub counts : ReadCounts
  pub range : ExternalsRangeReaderState
  pub state : AnchorsCacheTransaction

-- a refusal gives only the number
abbrev pub refused_answer : ℕ → ExternalsRangeReaderState → AnchorsCacheTransaction → ReadAnswer
refused_answer number range t = record { number = number; last_chain_time = None; free = 0; pops = 0; used = 0; counts = no_counts; range = range; state = t }

abbrev pub done_answer : ExternalsRangeReaderState → RangeRead → AnchorsCacheTransaction → ReadAnswer
done_answer range r t =
    record {
      number = 0;
      last_chain_time = r.last;
      free = r.walk.buffers.free;
      pops = r.pops;
      used = r.walk.buffers.used;
      counts = r.walk.counts;
      range = range_after range r;
      state = t;
    }

-- the answer that a call's result stands for; the range and t are those that the call was handed
abbrev pub read_answer_of : ExternalsRangeReaderState → AnchorsCacheTransaction → Result ReadExternals Refusal → ReadAnswer
read_answer_of range t (Ok a) =
    record {
      number = 0;
      last_chain_time = a.last_chain_time;
      free = a.free;
      pops = a.pops;
      used = a.used;
      counts = a.counts;
      range = a.range;
      state = a.state;
    }
read_answer_of range t (Err r) = refused_answer (number_of r) range t

-- the six steps over the cached anchors
unfoldable pub range_read : List ℕ → List ℕ → AnchorsCacheTransaction → ShardIdent → List ℕ → List ℕ → List ProcessedTo → Seconds → ReadNextExternalsMode → ExternalsRangeReaderState → ℕ → Outcome RangeRead
range_read tables area t shard routes limits processed timeout mode range room =
    six_steps (context_of shard limits processed timeout mode range room) routes range (view tables area t.cache).anchors

-- the answer, and the lent output's bytes
pub record ReadResult : Type 0 where
  pub answer : ReadAnswer
  pub out : List ℕ

-- the pops that the six steps made, and their entries from byte 0 on
abbrev pub done_result : List ℕ → AnchorsCacheTransaction → ExternalsRangeReaderState → Outcome RangeRead → List ℕ → ReadResult
done_result tables t range s out = record { answer = done_answer range s.value (with_cache t (popped_times s.value.pops tables t.cache)); out = sets out 0 s.entries }

abbrev pub read_answer : ℕ → List ℕ → AnchorsCacheTransaction → ExternalsRangeReaderState → Outcome RangeRead → List ℕ → ReadResult
read_answer number tables t range s out = pick (eqb number 0) (done_result tables t range s out) (record { answer = refused_answer number range t; out = out })

unfoldable pub read_call : List ℕ → List ℕ → AnchorsCacheTransaction → ShardIdent → List ℕ → List ℕ → List ProcessedTo → Seconds → ReadNextExternalsMode → ExternalsRangeReaderState → List ℕ → ReadResult
read_call tables area t shard routes limits processed timeout mode range out =
    read_answer
    (first_no (asked_number tables area t shard routes limits range ∷ (range_read tables area t shard routes limits processed timeout mode range (length out)).value.walk.number ∷ []))
    tables
    t
    range
    (range_read tables area t shard routes limits processed timeout mode range (length out))
    out

-- what the read would answer; nothing is written
abbrev pub check_call : List ℕ → List ℕ → AnchorsCacheTransaction → ShardIdent → List ℕ → List ℕ → List ProcessedTo → Seconds → ReadNextExternalsMode → ExternalsRangeReaderState → List ℕ → ReadResult
check_call tables area t shard routes limits processed timeout mode range out = record { answer = (read_call tables area t shard routes limits processed timeout mode range out).answer; out = out }

-- either of them
abbrev pub read_or_check_call : Bool → List ℕ → List ℕ → AnchorsCacheTransaction → ShardIdent → List ℕ → List ℕ → List ProcessedTo → Seconds → ReadNextExternalsMode → ExternalsRangeReaderState → List ℕ → ReadResult
read_or_check_call write tables area t shard routes limits processed timeout mode range out =
    pick write (read_call tables area t shard routes limits processed timeout mode range out) (check_call tables area t shard routes limits processed timeout mode range out)
