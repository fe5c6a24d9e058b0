-- A session as document 01 tells it ("Session program"): what text a record gives in which state, and what state and
-- lent bytes it leaves.
use Rattle.std.specs.Prelude.{ℕ, Bool, true, false, List, [], ◌∷◌, ◌++◌, leb, eqb, length, take, drop, get_or, replicate, None}
use Rattle.rows.specs.Rows.{pick, num_at, whole_rows}
use Rattle.shard_ident.specs.declared.ShardIdent.{ShardIdent}
use Rattle.shard_ident.specs.Shard.{shard_number}
use Rattle.messages_buffer.specs.Fullness.{no_partition}
use Rattle.range_rules.specs.Rules.{no_key, entry_len}
use Rattle.reader_rules.specs.declared.ExternalsReaderState.{ExternalsReaderState}
use Rattle.reader_rules.specs.declared.ExternalsReader.{ExternalsReader}
use Rattle.reader_rules.specs.declared.GetNextMessageGroupMode.{GetNextMessageGroupMode}
use Rattle.reader_rules.specs.declared.GetNextMessageGroupMode.TheVariants.{Continue, Refill}
use Rattle.externals_reader.specs.Answers.{ReaderDone}
use Rattle.externals_reader.specs.Answers.{ReadAllAnswer}
use Rattle.reader_rules.specs.Rules.{range_from}
use Rattle.externals_reader.specs.Calls.{handed_in, new_call, ReadAllResult, read_all_call}
use Rattle.records.specs.Records.{shard_of, limits_in, params_of, limits_of}
use Rattle.text.specs.Shown.{line}
use Rattle.lines.specs.Lines.{free_line, entry_lines, range_lines}
use Rattle.session_rules.specs.declared.Session.{Session}
use Rattle.session_rules.specs.Said.{with_transaction, record_counted, Said, bad_said, after_or_bad, malformed_said, printed, is_read, do_name, plain_said, plain_tables, plain_area, plain_routes, is_taken}

-- ---- 0001 and 0003
abbrev pub with_shard : ExternalsReader → ShardIdent → ExternalsReader
with_shard r shard =
    record {
      for_shard_id = shard;
      block_seqno = r.block_seqno;
      next_chain_time = r.next_chain_time;
      msgs_exec_params = r.msgs_exec_params;
      buffer_limits_by_partitions = r.buffer_limits_by_partitions;
      reader_state = r.reader_state;
      all_ranges_fully_read = r.all_ranges_fully_read;
    }

-- question 2
unfoldable pub shard_done : ExternalsReader → List ℕ → ReaderDone
shard_done r p = record { number = shard_number (shard_of p); reader = with_shard r (shard_of p) }

-- no range and no partition
abbrev pub no_state : ExternalsReaderState
no_state =
    record {
      ranges = replicate 16 (range_from 0 no_key (record { 0 = 0 }) (replicate 8 no_partition));
      len = 0;
      by_partitions = replicate 8 (record { processed_to = no_key; curr_processed_offset = 0; present = false });
      last_read_to_anchor_chain_time = None;
    }

-- `new` makes the reader once, without ranges
unfoldable pub settings_done : ExternalsReader → List ℕ → ReaderDone
settings_done r p = new_call (handed_in r.for_shard_id (num_at 4 12 p) (record { 0 = num_at 8 0 p }) (params_of p) (limits_in p) no_state)

-- a reader without settings, as before the first record
unfoldable pub no_reader : ExternalsReader
no_reader = handed_in (shard_of []) 0 (record { 0 = 0 }) (params_of []) (limits_of []) no_state

-- the shard and the settings say nothing, or are refused
abbrev pub done_said : Session → ReaderDone → Said
done_said s d = after_or_bad s s d.number

abbrev pub done_reader : ExternalsReader → ReaderDone → ExternalsReader
done_reader r d = pick (eqb d.number 0) d.reader r

-- ---- the reads of all ranges
abbrev pub mode_of : ℕ → GetNextMessageGroupMode
mode_of d = pick (eqb d 4) Refill Continue

-- after a read answering 0: `free` where a range was read, `add` for each output entry, `range` for each range
unfoldable pub read_text : ReadAllAnswer → List ℕ → List ℕ
read_text a out =
    line (do_name 3) (a.number ∷ [])
    ++ pick (eqb a.number 0)
    (free_line a.free
    ++ (entry_lines (whole_rows entry_len (take a.used out)) ++ range_lines (take a.reader.reader_state.len a.reader.reader_state.ranges)))
    []

unfoldable pub read_said : Session → ReadAllResult → Said
read_said s a = record { session = with_transaction s a.answer.state; text = read_text a.answer a.out }

-- what a read leaves: the session, the reader and every byte that it may write
pub record ReadLeft : Type 0 where
  pub session : Session
  pub reader : ExternalsReader
  pub entries : List ℕ
  pub text : List ℕ

abbrev pub read_left : Session → ReadAllResult → List ℕ → ReadLeft
read_left s a text =
    let o = printed (read_said s a) text in
    record { session = o.session; reader = a.answer.reader; entries = a.out; text = o.bytes }

-- ---- a record that is taken: kind 2, payload
pub record Lent : Type 0 where
  pub tables : List ℕ
  pub area : List ℕ
  pub routes : List ℕ
  pub entries : List ℕ

-- those that reach the reader
unfoldable pub reaches_reader : ℕ → ℕ → Bool
reaches_reader kind d = pick (eqb kind 1) true (pick (eqb kind 3) true (pick (eqb kind 5) (is_read d) false))

-- each read is lent the output, and the routes that are listed; where fewer are lent than listed it is refused
abbrev pub session_read : Lent → Session → ExternalsReader → List ℕ → ReadAllResult
session_read l s r p = read_all_call l.tables l.area s.transaction (take s.routes_len l.routes) r (mode_of (get_or p 0 0)) l.entries

abbrev pub has_routes : Lent → Session → Bool
has_routes l s = leb s.routes_len (length l.routes)

unfoldable pub reader_said : Lent → Session → ExternalsReader → ℕ → List ℕ → Said
reader_said l s r kind p =
    pick (eqb kind 1) (done_said s (shard_done r p))
    (pick (eqb kind 3) (done_said s (settings_done r p)) (pick (has_routes l s) (read_said s (session_read l s r p)) (bad_said s 3)))

unfoldable pub reader_reader : Lent → Session → ExternalsReader → ℕ → List ℕ → ExternalsReader
reader_reader l s r kind p =
    pick (eqb kind 1) (done_reader r (shard_done r p))
    (pick (eqb kind 3) (done_reader r (settings_done r p)) (pick (has_routes l s) (session_read l s r p).answer.reader r))

unfoldable pub reader_entries : Lent → Session → ExternalsReader → ℕ → List ℕ → List ℕ
reader_entries l s r kind p =
    pick (eqb kind 1) l.entries (pick (eqb kind 3) l.entries (pick (has_routes l s) (session_read l s r p).out l.entries))

-- ---- one record
pub record StepOutcome : Type 0 where
  pub said : Said
  pub reader : ExternalsReader
  pub lent : Lent

unfoldable pub reader_outcome : Lent → Session → ExternalsReader → ℕ → List ℕ → StepOutcome
reader_outcome l s r kind p =
    record {
      said = reader_said l s r kind p;
      reader = reader_reader l s r kind p;
      lent = record { tables = l.tables; area = l.area; routes = l.routes; entries = reader_entries l s r kind p };
    }

unfoldable pub plain_outcome : Lent → Session → ExternalsReader → ℕ → List ℕ → StepOutcome
plain_outcome l s r kind p =
    record {
      said = plain_said l.tables l.area l.routes s kind p;
      reader = r;
      lent =
          record {
            tables = plain_tables l.tables l.area l.routes s kind p;
            area = plain_area l.tables l.area l.routes s kind p;
            routes = plain_routes l.tables l.area l.routes s kind p;
            entries = l.entries;
          };
    }

unfoldable pub taken_outcome : Lent → Session → ExternalsReader → ℕ → List ℕ → StepOutcome
taken_outcome l s r kind p = pick (reaches_reader kind (get_or p 0 0)) (reader_outcome l s r kind p) (plain_outcome l s r kind p)

unfoldable pub step_of : Lent → Session → ExternalsReader → List ℕ → StepOutcome
step_of l s r rec =
    pick (is_taken s rec) (taken_outcome l (record_counted s) r (num_at 2 0 rec) (drop 2 rec)) (record { said = malformed_said s; reader = r; lent = l })

-- ---- the whole that a step is handed and leaves: the session, its reader and every lent byte
pub record Whole : Type 0 where
  pub session : Session
  pub reader : ExternalsReader
  pub lent : Lent
  pub text : List ℕ

abbrev pub whole : Session → ExternalsReader → List ℕ → List ℕ → List ℕ → List ℕ → List ℕ → Whole
whole s r tables area routes entries text =
    record { session = s; reader = r; lent = record { tables = tables; area = area; routes = routes; entries = entries }; text = text }

-- an outcome, with its text on the lent bytes
abbrev pub leaves : StepOutcome → List ℕ → Whole
leaves o text =
    let p = printed o.said text in
    record { session = p.session; reader = o.reader; lent = o.lent; text = p.bytes }

-- one record; a taken one; a taken one that reaches the reader
abbrev pub whole_after : List ℕ → Whole → Whole
whole_after rec w = leaves (step_of w.lent w.session w.reader rec) w.text

abbrev pub taken_whole : ℕ → List ℕ → Whole → Whole
taken_whole kind p w = leaves (taken_outcome w.lent w.session w.reader kind p) w.text

abbrev pub reader_whole : ℕ → List ℕ → Whole → Whole
reader_whole kind p w = leaves (reader_outcome w.lent w.session w.reader kind p) w.text
