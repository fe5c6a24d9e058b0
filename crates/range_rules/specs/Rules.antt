-- Document 01, "One range's read": the six steps, on lists of anchors and of messages.
use Rattle.std.specs.Prelude.{ℕ, ◌+◌, Bool, true, false, not, ◌||◌, List, [], ◌∷◌, ◌++◌, ltb, leb, eqb, length, get_or, drop, set, replicate, Option, None, Some}
use Rattle.std.proofs.Math.Option.{Option as Maybe, none, some}
use Rattle.rows.specs.Rows.{pick, le}
use Rattle.ext_types.specs.declared.ChainTime.{ChainTime}
use Rattle.ext_types.specs.declared.ExternalKey.{ExternalKey}
use Rattle.ext_types.specs.Keys.{key_above, key_equal}
use Rattle.ext_types.specs.declared.Seconds.{Seconds}
use Rattle.ext_types.specs.Time.{expired_at, millis_of}
use Rattle.shard_ident.specs.declared.ShardIdent.{ShardIdent}
use Rattle.shard_ident.specs.Shard.{is_ours, shard_number}
use Rattle.router.specs.Router.{partition_of, routes_number}
use Rattle.messages_buffer.specs.declared.ExternalsPartitionRangeReaderState.{ExternalsPartitionRangeReaderState}
use Rattle.messages_buffer.specs.Fullness.{range_free, no_partition, one_more, limits_number, partitions_number, limited_number, first_no}
use Rattle.cache_rules.specs.Rules.{Anchor, ask, area_bytes}
use Rattle.range_rules.specs.declared.Context.{Context}
use Rattle.range_rules.specs.declared.Place.{Place}
use Rattle.range_rules.specs.declared.Buffers.{Buffers}
use Rattle.range_rules.specs.Walks.{Walk, RangeRead, Verdict, Keep, Buffer, Refuse}
use Rattle.range_rules.specs.declared.ProcessedTo.{ProcessedTo}
use Rattle.range_rules.specs.declared.ReadCounts.{ReadCounts}
use Rattle.range_rules.specs.declared.ExternalsRangeReaderState.{ExternalsRangeReaderState}
use Rattle.range_rules.specs.declared.ReadNextExternalsMode.{ReadNextExternalsMode}
use Rattle.range_rules.specs.declared.ReadNextExternalsMode.TheVariants.{ToTheEnd, ToPreviuosReadTo}

-- a state, and the bytes of the entries that go to the lent output
pub record Outcome (A : Type 0) : Type 0 where
  pub value : A
  pub entries : List ℕ

abbrev pub silent : {A : Type 0} → A → Outcome A
silent a = record { value = a; entries = [] }

-- what came before, and then t
abbrev pub followed : {A : Type 0} → Outcome A → Outcome A → Outcome A
followed s t = record { value = t.value; entries = s.entries ++ t.entries }

-- ---- the last chain time: milliseconds where a read saw one, else none
abbrev pub time_value : Option ChainTime → Maybe ℕ
time_value None = none
time_value (Some time) = some time.0

-- ---- places
-- Step 3: "The saved end is reached when the id is above its id, or equal with equal offset."
abbrev pub end_reached : ExternalKey → ExternalKey → Bool
end_reached key end = ltb end.anchor_id key.anchor_id || key_equal key end

-- raise "to" if passed
abbrev pub raised : ExternalKey → ExternalKey → ExternalKey
raised key to = pick (key_above key to) key to

-- position set, "to" raised, saved end judged again
abbrev pub moved_to : ExternalKey → ExternalKey → Place → Place
moved_to end key p = record { key = key; reached = end_reached key end; position = key; to = raised key p.to }

abbrev pub with_place : Place → Walk → Walk
with_place p w = record { number = w.number; place = p; buffers = w.buffers; counts = w.counts }

abbrev pub key_at : ℕ → ℕ → ExternalKey
key_at id offset = record { anchor_id = id; msgs_offset = offset }

-- offset plus 1
abbrev pub next_key : ExternalKey → ExternalKey
next_key key = key_at key.anchor_id (key.msgs_offset + 1)

unfoldable pub advanced : Context → Walk → Walk
advanced x w = with_place (moved_to x.saved_end (next_key w.place.key) w.place) w

-- ---- step 5
-- in `ToPreviuosReadTo` with the saved end reached
abbrev pub ends : ReadNextExternalsMode → Bool → Bool
ends ToTheEnd reached = false
ends ToPreviuosReadTo reached = reached

-- Document 02, ticket 7: "Full now means 0 free."
abbrev pub full : Buffers → Bool
full b = eqb b.free 0

-- a question was answered "no", a buffer is full, or the saved end is reached
unfoldable pub stopped : Context → Walk → Bool
stopped x w = not (eqb w.number 0) || (full w.buffers || ends x.mode w.place.reached)

abbrev pub no_key : ExternalKey
no_key = key_at 0 0

abbrev pub no_processed : ProcessedTo
no_processed = record { key = no_key; present = false }

-- questions 12, 13 and 14, and "buffered if the key exceeds its partition's processed position"
unfoldable pub judge : ProcessedTo → ExternalsPartitionRangeReaderState → ExternalKey → Bool → Verdict
judge processed partition key room =
    pick processed.present
    (pick (key_above key processed.key) (pick partition.present (pick room Buffer (Refuse 14)) (Refuse 13)) Keep)
    (Refuse 12)

-- one more in partition p
abbrev pub more : List ℕ → ℕ → List ℕ
more counts p = set counts p (get_or counts p 0 + 1)

unfoldable pub refused_with : ℕ → Walk → Walk
refused_with n w = record { number = n; place = w.place; buffers = w.buffers; counts = w.counts }

-- counted as read
unfoldable pub read_one : ℕ → Walk → Walk
read_one p w = record { number = w.number; place = w.place; buffers = w.buffers; counts = record { read = more w.counts.read p; expired = w.counts.expired; buffered = w.counts.buffered } }

abbrev pub one_put : ℕ → List ExternalsPartitionRangeReaderState → List ExternalsPartitionRangeReaderState
one_put p partitions = set partitions p (one_more (get_or partitions p no_partition))

-- an output entry's bytes
abbrev pub entry_len : ℕ
entry_len = 26

unfoldable pub buffered : List ℕ → ℕ → Buffers → Buffers
buffered limits p b = record { free = range_free limits (one_put p b.by_partitions); used = b.used + entry_len; by_partitions = one_put p b.by_partitions }

unfoldable pub buffer_one : Context → ℕ → Walk → Walk
buffer_one x p w =
    record {
      number = w.number;
      place = w.place;
      buffers = buffered x.limits p w.buffers;
      counts = record { read = w.counts.read; expired = w.counts.expired; buffered = more w.counts.buffered p };
    }

-- an output entry: "seqno 4, partition 2, anchor id 4, offset 8, chain time 8 bytes, little-endian"
unfoldable pub entry_bytes : ℕ → ℕ → ExternalKey → ChainTime → List ℕ
entry_bytes seqno p key time = le 4 seqno ++ (le 2 p ++ (le 4 key.anchor_id ++ (le 8 key.msgs_offset ++ le 8 time.0)))

abbrev pub verdict_on : Context → ℕ → Walk → Verdict
verdict_on x p w = judge (get_or x.processed p no_processed) (get_or w.buffers.by_partitions p no_partition) w.place.key (leb (w.buffers.used + entry_len) x.room)

abbrev pub after : Verdict → Context → ChainTime → ℕ → Walk → Outcome Walk
after Keep x time p w = silent (read_one p w)
after Buffer x time p w = record { value = read_one p (buffer_one x p w); entries = entry_bytes x.seqno p w.place.key time }
after (Refuse n) x time p w = silent (refused_with n w)

-- a message of ours, of partition p
unfoldable pub our_read : Context → ChainTime → ℕ → Walk → Outcome Walk
our_read x time p w = after (verdict_on x p w) x time p w

-- offset plus 1, position set, "to" raised, saved end judged again; and what becomes of it, if ours
unfoldable pub message_read : Context → List ℕ → ChainTime → List ℕ → Walk → Outcome Walk
message_read x routes time m w = pick (is_ours x.shard m) (our_read x time (partition_of routes m) (advanced x w)) (silent (advanced x w))

-- each message, unless a buffer is full or the saved end is reached
unfoldable pub messages_read : Context → List ℕ → ChainTime → List (List ℕ) → Outcome Walk → Outcome Walk
messages_read x routes time [] s = s
messages_read x routes time (m ∷ l) s = pick (stopped x s.value) s (messages_read x routes time l (followed s (message_read x routes time m s.value)))

-- ---- step 1: "None: fully read, end."
abbrev pub fully_read_of : RangeRead → RangeRead
fully_read_of r = record { walk = r.walk; pops = r.pops; fully_read = true; ended = true; last = r.last }

-- ---- step 2: pop
abbrev pub popped : RangeRead → RangeRead
popped r = record { walk = r.walk; pops = r.pops + 1; fully_read = r.fully_read; ended = r.ended; last = r.last }

-- ---- step 3: "The offset is the position's on equal id, else 0."
abbrev pub offset_in : ExternalKey → ℕ → ℕ
offset_in position id = pick (eqb position.anchor_id id) position.msgs_offset 0

abbrev pub look_key : Context → ℕ → ExternalKey
look_key x id = key_at id (offset_in x.position id)

unfoldable pub looked : Context → ℕ → Walk → Walk
looked x id w = with_place (record { key = look_key x id; reached = end_reached (look_key x id) x.saved_end; position = w.place.position; to = w.place.to }) w

-- ---- step 4
unfoldable pub expired_one : ShardIdent → List ℕ → List ℕ → List ℕ → List ℕ
expired_one shard routes m counts = pick (is_ours shard m) (more counts (partition_of routes m)) counts

-- count ours per partition
unfoldable pub expired_over : ShardIdent → List ℕ → List (List ℕ) → List ℕ → List ℕ
expired_over shard routes [] counts = counts
expired_over shard routes (m ∷ l) counts = expired_over shard routes l (expired_one shard routes m counts)

-- pop, set the position to (id, offset), raise "to" if passed
unfoldable pub expired : Context → ChainTime → List ℕ → Walk → RangeRead → RangeRead
expired x time counts w r =
    record {
      walk = record {
        number = w.number;
        place = moved_to x.saved_end w.place.key w.place;
        buffers = w.buffers;
        counts = record { read = w.counts.read; expired = counts; buffered = w.counts.buffered };
      };
      pops = r.pops + 1;
      fully_read = r.fully_read;
      ended = false;
      last = Some time;
    }

-- ---- step 6
abbrev pub leave : Walk → ChainTime → ℕ → Bool → Bool → RangeRead
leave w time pops fully ended = record { walk = w; pops = pops; fully_read = fully; ended = ended; last = Some time }

abbrev pub after_pop : Bool → ℕ → ℕ
after_pop true pops = pops + 1
after_pop false pops = pops

abbrev pub is_whole : Walk → ℕ → Bool
is_whole w count = eqb w.place.key.msgs_offset count

-- offset equal to the message count: pop; then the saved end reached: fully read, end; then a buffer full: end; where
-- nothing was popped, question 11
unfoldable pub finished : Context → ChainTime → ℕ → Walk → RangeRead → RangeRead
finished x time count w r =
    pick (not (eqb w.number 0)) (leave w time (after_pop (is_whole w count) r.pops) r.fully_read true)
    (pick (ends x.mode w.place.reached) (leave w time (after_pop (is_whole w count) r.pops) true true)
    (pick (full w.buffers) (leave w time (after_pop (is_whole w count) r.pops) r.fully_read true)
    (pick (is_whole w count) (leave w time (after_pop (is_whole w count) r.pops) r.fully_read false)
    (leave (refused_with 11 w) time (after_pop (is_whole w count) r.pops) r.fully_read true))))

-- ---- one look at the front anchor
-- the messages from the offset on; past the end none
abbrev pub unread : Walk → List (List ℕ) → List (List ℕ)
unread w l = drop w.place.key.msgs_offset l

abbrev pub walked : Context → ChainTime → ℕ → Outcome Walk → RangeRead → Outcome RangeRead
walked x time count s r = record { value = finished x time count s.value r; entries = s.entries }

abbrev pub looked_read : Context → List ℕ → ChainTime → List (List ℕ) → Walk → RangeRead → Outcome RangeRead
looked_read x routes time l w r =
    pick (expired_at x.chain_time time x.limit)
    (silent (expired x time (expired_over x.shard routes (unread w l) w.counts.expired) w r))
    (walked x time (length l) (messages_read x routes time (unread w l) (silent w)) r)

-- step 2 where the id is below the entry position's, else steps 3 to 6
unfoldable pub anchor_read : Context → List ℕ → ℕ → ChainTime → List (List ℕ) → RangeRead → Outcome RangeRead
anchor_read x routes id time l r = pick (ltb id x.position.anchor_id) (silent (popped r)) (looked_read x routes time l (looked x id r.walk) r)

abbrev pub next_read : Context → List ℕ → Anchor → Outcome RangeRead → Outcome RangeRead
next_read x routes a s = followed s (anchor_read x routes a.id (record { 0 = a.time }) a.messages s.value)

-- look at the front anchor again and again; an anchor that doesn't end the read was popped
unfoldable pub anchors_read : Context → List ℕ → List Anchor → Outcome RangeRead → Outcome RangeRead
anchors_read x routes [] s = record { value = fully_read_of s.value; entries = s.entries }
anchors_read x routes (a ∷ l) s = pick (next_read x routes a s).value.ended (next_read x routes a s) (anchors_read x routes l (next_read x routes a s))

-- ---- the read of one range
-- Document 01: "Fix the position and saved end at entry."
abbrev pub context_of : ShardIdent → List ℕ → List ProcessedTo → Seconds → ReadNextExternalsMode → ExternalsRangeReaderState → ℕ → Context
context_of shard limits processed timeout mode range room =
    record {
      shard = shard;
      seqno = range.seqno;
      chain_time = range.chain_time;
      limit = millis_of timeout;
      mode = mode;
      position = range.current_position;
      saved_end = range.to;
      limits = limits;
      processed = processed;
      room = room;
    }

abbrev pub no_counts : ReadCounts
no_counts = record { read = replicate 8 0; expired = replicate 8 0; buffered = replicate 8 0 }

abbrev pub entry_of : ExternalsRangeReaderState → ℕ → RangeRead
entry_of range free =
    record {
      walk = record {
        number = 0;
        place = record { key = range.current_position; reached = false; position = range.current_position; to = range.to };
        buffers = record { free = free; used = 0; by_partitions = range.by_partitions };
        counts = no_counts;
      };
      pops = 0;
      fully_read = range.fully_read;
      ended = false;
      last = None;
    }

-- the six steps, from the range as it is at entry, over the cached anchors
abbrev pub six_steps : Context → List ℕ → ExternalsRangeReaderState → List Anchor → Outcome RangeRead
six_steps x routes range anchors = anchors_read x routes anchors (silent (entry_of range (range_free x.limits range.by_partitions)))

-- the range that a read leaves
abbrev pub range_after : ExternalsRangeReaderState → RangeRead → ExternalsRangeReaderState
range_after range r =
    record {
      seqno = range.seqno;
      from = range.from;
      to = r.walk.place.to;
      current_position = r.walk.place.position;
      chain_time = range.chain_time;
      fully_read = r.fully_read;
      by_partitions = r.walk.buffers.by_partitions;
    }

-- the questions 1, 2, 3, 4, 5 (of the cache, whose number is `five`, and of the range), 9 and 10; n is the length of
-- the message area
abbrev pub range_questions : ℕ → ShardIdent → List ℕ → List ℕ → ℕ → ExternalsRangeReaderState → Bool → ℕ
range_questions n shard routes limits five range active =
    first_no
    (ask 1 (leb area_bytes n) 0
    ∷ shard_number shard
    ∷ routes_number routes
    ∷ limits_number limits
    ∷ five
    ∷ partitions_number range.by_partitions
    ∷ ask 9 active 0
    ∷ limited_number limits range.by_partitions
    ∷ [])
