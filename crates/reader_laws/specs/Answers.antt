-- What each call of a list answers beside its number, in document 01's values: on the window what its contract says, in
-- the book a function of the present cache.
use Rattle.std.specs.Prelude.{ℕ, Bool, false, List, [], ◌∷◌, map, length, drop, None}
use Rattle.std.proofs.Math.Option.{Option, none}
use Rattle.std.proofs.lemmas.List.Edits.{sets}
use Rattle.rows.specs.Rows.{pick}
use Rattle.anchors_cache.specs.declared.AnchorsCacheTransaction.{AnchorsCacheTransaction}
use Rattle.cache_rules.specs.Rules.{Info, Anchor, Cache, row_of, trim, last_of, front_of, info_at_ct, pending_up_to}
use Rattle.anchors_cache.specs.Values.{IdAndTime, anchor_value, info_value, id_value, id_and_time}
use Rattle.anchors_cache.specs.Calls.{on_zero, pop_call, trim_call, last_info_call, info_at_ct_call, last_id_call, get_call, pending_call, pending_in_range_call}
use Rattle.cache_laws.specs.Book.{Book, Area, lent, enter}
use Rattle.cache_laws.specs.Entries.{Question, last_info, info_at, last_id, get_at, is_pending, is_pending_up_to}
use Rattle.range_rules.specs.declared.ReadCounts.{ReadCounts}
use Rattle.range_rules.specs.Walks.{RangeRead}
use Rattle.range_rules.specs.declared.ExternalsRangeReaderState.{ExternalsRangeReaderState}
use Rattle.range_rules.specs.Rules.{range_after, no_counts}
use Rattle.range_reader.specs.Calls.{ReadResult, read_call}
use Rattle.range_laws.specs.OneRange.{Handed, book_steps}
use Rattle.reader_rules.specs.declared.ExternalsReader.{ExternalsReader}
use Rattle.reader_rules.specs.Turns.{RangesRead}
use Rattle.reader_rules.specs.State.{with_state, with_mark}
use Rattle.reader_rules.specs.Rules.{Told, time_saved, free_value}
use Rattle.externals_reader.specs.Calls.{told, ReadAllResult, read_all_call}
use Rattle.reader_laws.specs.AllRanges.{HandedAll, book_all_read}
use Rattle.reader_laws.specs.Steps.{Step, pop, pop_fronts, trim_above, reads_one, reads_all, commit, rollback, adds, adds_info, opens, clears, closes, asks, call}

-- what a read of all ranges answers beside number and transaction
pub record AllTold : Type 0 where
  pub free : Option ℕ
  pub used : ℕ
  pub counts : ReadCounts
  pub reader : ExternalsReader

-- a read also leaves the bytes of the output that it was lent
pub data Answered : Type 0 where
  number_alone : Answered
  anchor : Option Anchor → Answered
  entry : Option Info → Answered
  id_with_time : Option IdAndTime → Answered
  flag : Bool → Answered
  range_told : Told → List ℕ → Answered
  all_told : AllTold → List ℕ → Answered

-- One row for each call: what it answers on the window, as its contract says; where its number is 0, of the book's
-- present cache; and where it is refused, by its number.
pub record Reply : Type 0 where
  pub on_window : List ℕ → List ℕ → AnchorsCacheTransaction → Answered
  pub of_cache : Cache → Answered
  pub refused : ℕ → Answered

abbrev no_reply : Reply
no_reply = record { on_window = λ tables area t. number_alone; of_cache = λ v. number_alone; refused = λ n. number_alone }

-- refused, a call of the cache answers none or "no"
abbrev pub pop_reply : Reply
pop_reply =
    record {
      on_window = λ tables area t. let p = pop_call (length area) tables t in anchor (anchor_value area p.front p.author);
      of_cache = λ v. anchor (front_of v.anchors);
      refused = λ n. anchor none;
    }

abbrev pub trim_reply : ℕ → Reply
trim_reply ct =
    record {
      on_window = λ tables area t. let p = trim_call (length area) ct tables t in entry (info_value p.last p.author);
      of_cache = λ v. entry (last_of (trim ct v).history);
      refused = λ n. entry none;
    }

abbrev pub question_reply : Question → Reply
question_reply last_info =
    record {
      on_window = λ tables area t. let a = last_info_call tables t in entry (info_value a.info a.author);
      of_cache = λ v. entry (last_of v.history);
      refused = λ n. entry none;
    }
question_reply (info_at ct) =
    record {
      on_window = λ tables area t. let a = info_at_ct_call ct tables t in entry (info_value a.info a.author);
      of_cache = λ v. entry (info_at_ct ct v.history);
      refused = λ n. entry none;
    }
question_reply last_id =
    record {
      on_window = λ tables area t. id_with_time (id_value (last_id_call tables t).last);
      of_cache = λ v. id_with_time (id_and_time (last_of v.history));
      refused = λ n. id_with_time none;
    }
question_reply (get_at i) =
    record {
      on_window = λ tables area t. let a = get_call i tables t in anchor (anchor_value area a.anchor a.author);
      of_cache = λ v. anchor (front_of (drop i v.anchors));
      refused = λ n. anchor none;
    }
question_reply is_pending =
    record { on_window = λ tables area t. flag (pending_call tables t).flag; of_cache = λ v. flag v.pending; refused = λ n. flag false }
question_reply (is_pending_up_to up_to) =
    record {
      on_window = λ tables area t. flag (pending_in_range_call up_to tables t).flag;
      of_cache = λ v. flag (pending_up_to up_to.anchor_id (map row_of v.anchors));
      refused = λ n. flag false;
    }

abbrev pub range_answered : ReadResult → Answered
range_answered r = range_told (told r.answer) r.out

-- What the six steps came to, and the range as they leave it. This and `reader_left` are written out in the rules'
-- words, beside the contracts' `doneAnswer` and `readerAfter`: a contract that forgot a part would differ.
abbrev done_told : ExternalsRangeReaderState → RangeRead → Told
done_told range r =
    record {
      number = 0;
      free = r.walk.buffers.free;
      pops = r.pops;
      used = r.walk.buffers.used;
      last = r.last;
      counts = r.walk.counts;
      range = range_after range r;
    }

-- "A refusal gives only the number"
abbrev refused_told : ExternalsRangeReaderState → ℕ → Told
refused_told range n = record { number = n; free = 0; pops = 0; used = 0; last = None; counts = no_counts; range = range }

abbrev pub range_reply : Handed → Reply
range_reply h =
    record {
      on_window = λ tables area t. range_answered (read_call tables area t h.shard h.routes h.limits h.processed h.timeout h.mode h.range h.out);
      of_cache = λ v. let s = book_steps h v in range_told (done_told h.range s.value) (sets h.out 0 s.entries);
      refused = λ n. range_told (refused_told h.range n) h.out;
    }

abbrev pub all_answered : ReadAllResult → Answered
all_answered r = all_told (record { free = free_value r.answer.free; used = r.answer.used; counts = r.answer.counts; reader = r.answer.reader }) r.out

abbrev pub nothing_told : HandedAll → Answered
nothing_told h = all_told (record { free = none; used = 0; counts = no_counts; reader = h.reader }) h.out

-- The reader as the ranges' turns leave it. "The saved last chain time changes only if the last range read saw one."
abbrev reader_left : ExternalsReader → RangesRead → ExternalsReader
reader_left r q =
    let s = r.reader_state in
    let time = time_saved q.so_far.last s.last_read_to_anchor_chain_time in
    with_mark (with_state r (record { ranges = q.ranges; len = q.len; by_partitions = s.by_partitions; last_read_to_anchor_chain_time = time })) q.so_far.all_read

-- "Nothing is done once "all ranges read" is set."
abbrev pub all_reply : HandedAll → Reply
all_reply h =
    record {
      on_window = λ tables area t. all_answered (read_all_call tables area t h.routes h.reader h.mode h.out);
      of_cache =
          λ v.
          let s = book_all_read h v in
          let q = s.value in
          pick h.reader.all_ranges_fully_read (nothing_told h)
          (all_told (record { free = free_value q.so_far.free; used = q.so_far.used; counts = q.so_far.counts; reader = reader_left h.reader q }) (sets h.out 0 s.entries));
      refused = λ n. nothing_told h;
    }

-- a call that is lent its own area
abbrev pub lend_reply : Area → Reply → Reply
lend_reply a y = record { on_window = λ tables area t. y.on_window tables (lent area a) t; of_cache = y.of_cache; refused = y.refused }

abbrev pub reply_of : {area : List ℕ} → Step area → Reply
reply_of (pop a) = lend_reply a pop_reply
reply_of (trim_above a ct) = lend_reply a (trim_reply ct)
reply_of (reads_one a h) = lend_reply a (range_reply h)
reply_of (reads_all a h) = lend_reply a (all_reply h)
reply_of (asks p q) = question_reply q
reply_of (pop_fronts a n) = no_reply
reply_of (commit a) = no_reply
reply_of (rollback a) = no_reply
reply_of (adds a m ours messages) = no_reply
reply_of (adds_info a i author) = no_reply
reply_of (opens a) = no_reply
reply_of (clears a) = no_reply
reply_of (closes bytes p) = no_reply

-- ---- lists of calls
unfoldable pub answers : (tables area : List ℕ) → List (Step area) → AnchorsCacheTransaction → List Answered
answers tables area [] t = []
answers tables area (k ∷ ks) t = (reply_of k).on_window tables area t ∷ answers tables area ks ((call k).on_window tables area t).state

unfoldable pub book_answer : (area : List ℕ) → Step area → Book → Answered
book_answer area k b = let n = (call k).number area b in on_zero n ((reply_of k).of_cache b.present) ((reply_of k).refused n)

unfoldable pub book_answers : (area : List ℕ) → List (Step area) → Book → List Answered
book_answers area [] b = []
book_answers area (k ∷ ks) b = book_answer area k b ∷ book_answers area ks (enter area (call k) b)
