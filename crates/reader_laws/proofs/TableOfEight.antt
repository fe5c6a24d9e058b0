-- Document 01, "Table to be proved": its eight cases as one table, over the definitions that the contracts use.
use Prim.Native.Nat.{ℕ, ◌-◌, ◌/◌, ◌^◌, ◌≤◌, ◌<◌}
use mathlib.Core.Path.{◌≡◌, refl, sym, ap, ◌∙◌}
use mathlib.Core.Bool.{Bool, true, false}
use mathlib.Core.List.{List, [], ◌∷◌, map}
use native.Mathlib.Omega.{arith}
use native.Mathlib.Nat.{div-eq_of_lt-le}
use lib.Dec.{eqb}
use lib.IntN.{pos}
use lib.ListN.{length, get_or, replicate}
use borrow.Author.Tests.{le-leb}
use Rattle.rows.specs.Rows.{part, le, rows}
use Rattle.ext_types.specs.declared.ExternalKey.{ExternalKey}
use Rattle.ext_types.specs.Keys.{key_above, key_equal}
use Rattle.ext_types.specs.Time.{millis_of, expired_at}
use Rattle.shard_ident.specs.declared.ShardIdent.{ShardIdent}
use Rattle.shard_ident.specs.Shard.{lowest_set, is_shard, same_workchain, same_above_tag, same_bits, big_endian, is_ours}
use Rattle.shard_ident.proofs.Laws.{above_tag_shift, be_eight}
use Rattle.router.specs.Router.{routes_number, sound_routes, none_twice, partitions_exist, partition_of, first_partition}
use Rattle.messages_buffer.specs.declared.ExternalsPartitionRangeReaderState.{ExternalsPartitionRangeReaderState}
use Rattle.messages_buffer.specs.Fullness.{no_partition, no_limit, free_in, smallest, every, buffers, all_limited, range_free, limits_number, partitions_number, limited_number, first_no}
use Rattle.anchors_cache.specs.declared.AnchorsCacheTransaction.{AnchorsCacheTransaction}
use Rattle.cache_rules.specs.Rules.{Info, Anchor, Cache, drop_stale, pop_front, sound_cache, sound_from, sound_row, total, area_bytes}
use Rattle.anchors_cache.specs.Tables.{view}
use Rattle.anchors_cache.specs.Windows.{popped_cache}
use Rattle.anchors_cache.specs.Calls.{places_in, refusal, answer, open_call, close_call}
use Rattle.anchors_cache.proofs.Asked.{valid_parts, refusal_zero}
use Rattle.cache_laws.specs.Book.{Book, begin, finish, holds, book_refusal, pop_times, same, enter, entered, book_numbers, performed, numbers}
use Rattle.cache_laws.proofs.Views.{view_popped}
use Rattle.cache_laws.proofs.Kept.{popped_parts, holds_view}
use Rattle.cache_laws.proofs.Claim.{open_asked}
use Rattle.range_rules.specs.declared.ReadNextExternalsMode.TheVariants.{ToTheEnd}
use Rattle.range_rules.specs.Walks.{Keep, Buffer}
use Rattle.range_rules.specs.Rules.{key_at, no_key, judge, advanced, stopped, refused_with, read_one, buffered, buffer_one, entry_bytes, our_read, message_read, messages_read, looked, expired, finished, anchor_read, anchors_read}
use Rattle.range_laws.specs.OneRange.{Handed, book_steps, book_read_number}
use Rattle.reader_laws.specs.Steps.{Step, pop, commit, rollback, call}
use Rattle.reader_laws.proofs.DemandThree.{demand_three}

-- ---- one range at chain time `time`, with one partition: its limit, its processed position and the range's own
abbrev shard_0 : ShardIdent
shard_0 = record { workchain = pos 0; prefix = 9223372036854775808 }

abbrev one_partition : ExternalsPartitionRangeReaderState
one_partition = record { count = 0; skip_offset = 0; processed_offset = 0; present = true }

abbrev handed : ℕ → ExternalKey → ExternalKey → ℕ → Handed
handed limit processed position time =
    record {
      shard = shard_0;
      routes = [];
      limits = limit ∷ replicate 7 no_limit;
      processed = record { key = processed; present = true } ∷ replicate 7 (record { key = no_key; present = false });
      timeout = record { 0 = 60 };
      mode = ToTheEnd;
      range = record {
        seqno = 5;
        from = no_key;
        to = no_key;
        current_position = position;
        chain_time = record { 0 = time };
        fully_read = false;
        by_partitions = one_partition ∷ replicate 7 no_partition;
      };
      out = replicate 52 0;
    }

-- a cache of one anchor, at 1000, one message or more of ours
abbrev one_anchor : ℕ → List (List ℕ) → Cache
one_anchor id messages = record { anchors = record { id = id; time = 1000; author = []; ours = 1; messages = messages } ∷ []; history = []; pending = true }

-- a message of ours
abbrev ours : List ℕ
ours = replicate 33 0

abbrev prefix_4 : ShardIdent
prefix_4 = record { workchain = pos 0; prefix = 4611686018427387904 }

pub record Table : Type 0 where
  -- age 60,000, timeout 60: kept
  pub age_60000 : (range anchor : ℕ) → range - anchor ≡ 60000 → expired_at (record { 0 = range }) (record { 0 = anchor }) (millis_of (record { 0 = 60 })) ≡ false
  -- age 60,001, timeout 60: expired
  pub age_60001 : (range anchor : ℕ) → range - anchor ≡ 60001 → expired_at (record { 0 = range }) (record { 0 = anchor }) (millis_of (record { 0 = 60 })) ≡ true
  -- one history entry at 5, pop of anchor at 9: entry stays
  pub entry_at_5 : (entry : Info) (front : Anchor) (behind : List Anchor) (pending : Bool) → entry.time ≡ 5 → front.time ≡ 9
      → (pop_front (record { anchors = front ∷ behind; history = entry ∷ []; pending = pending })).history ≡ entry ∷ []
  -- processed (2,1): (2,1) not buffered, (2,2) buffered
  pub processed_2_1 :
      ((partition : ExternalsPartitionRangeReaderState) (room : Bool) → judge (record { key = key_at 2 1; present = true }) partition (key_at 2 1) room ≡ Keep)
      × ((partition : ExternalsPartitionRangeReaderState) → partition.present ≡ true → judge (record { key = key_at 2 1; present = true }) partition (key_at 2 2) true ≡ Buffer)
      × ((book_steps (handed 2 (key_at 2 1) no_key 1000) (one_anchor 2 (ours ∷ ours ∷ []))).entries ≡ entry_bytes 5 0 (key_at 2 2) (record { 0 = 1000 }))
  -- limit 0, front expired: popped, nothing buffered
  pub limit_0 : (messages : List (List ℕ)) → let s = book_steps (handed 0 no_key no_key 61001) (one_anchor 1 messages) in (s.value.pops ≡ 1) × (s.entries ≡ []) × (s.value.walk.counts.buffered ≡ replicate 8 0)
  -- prefix 4000000000000000, first byte 7F / 80: ours / not
  pub first_byte : (message : List ℕ) → 33 ≤ length message → ((i : ℕ) → get_or message i 0 < 256) → get_or message 0 0 ≡ 0
      → (get_or message 1 0 ≡ 127 → is_ours prefix_4 message ≡ true) × (get_or message 1 0 ≡ 128 → is_ours prefix_4 message ≡ false)
  -- position (2,4), 3 messages, unexpired, none full, `ToTheEnd`: 11
  pub position_2_4 : (area m n o : List ℕ) → area_bytes ≤ length area
      → book_read_number (handed 2 no_key (key_at 2 4) 1000) area (one_anchor 2 (m ∷ n ∷ o ∷ [])) (one_anchor 2 (m ∷ n ∷ o ∷ [])) ≡ 11
  -- pop, commit, rollback, close: opening cache
  pub opening_cache : (tables area : List ℕ) (t : AnchorsCacheTransaction) → (open_call (length area) tables t).number ≡ 0
      → let u = (open_call (length area) tables t).state in
      let steps : List (Step area) = pop same ∷ commit same ∷ rollback same ∷ [] in
      let d = close_call (length area) tables (performed tables area (map call steps) u) in
      (numbers tables area (map call steps) u ≡ 0 ∷ 0 ∷ 0 ∷ []) × (d.number ≡ 0) × (view tables area d.state.cache ≡ view tables area t.cache)

old : (range anchor : ℕ) → range - anchor ≡ 60001 → expired_at (record { 0 = range }) (record { 0 = anchor }) (millis_of (record { 0 = 60 })) ≡ true
old range anchor e = rw e

young : (range anchor : ℕ) → range - anchor ≡ 60000 → expired_at (record { 0 = range }) (record { 0 = anchor }) (millis_of (record { 0 = 60 })) ≡ false
young range anchor e = rw e

stays : (entry : Info) (front : Anchor) (behind : List Anchor) (pending : Bool) → (pop_front (record { anchors = front ∷ behind; history = entry ∷ []; pending = pending })).history ≡ entry ∷ []
unfolding pop_front drop_stale
stays entry front behind pending = refl

kept : (partition : ExternalsPartitionRangeReaderState) (room : Bool) → judge (record { key = key_at 2 1; present = true }) partition (key_at 2 1) room ≡ Keep
unfolding judge key_above
kept partition room = refl

buffers_it : (partition : ExternalsPartitionRangeReaderState) → partition.present ≡ true → judge (record { key = key_at 2 1; present = true }) partition (key_at 2 2) true ≡ Buffer
unfolding judge key_above
buffers_it partition e = rw e

second_only : (book_steps (handed 2 (key_at 2 1) no_key 1000) (one_anchor 2 (ours ∷ ours ∷ []))).entries ≡ entry_bytes 5 0 (key_at 2 2) (record { 0 = 1000 })
unfolding book_steps range_free smallest buffers free_in anchors_read anchor_read looked messages_read message_read stopped advanced key_above key_equal is_ours same_workchain same_above_tag same_bits lowest_set big_endian partition_of first_partition our_read judge read_one buffer_one buffered entry_bytes finished le rows
second_only = refl

expired_front : (messages : List (List ℕ)) → let s = book_steps (handed 0 no_key no_key 61001) (one_anchor 1 messages) in (s.value.pops ≡ 1) × (s.entries ≡ []) × (s.value.walk.counts.buffered ≡ replicate 8 0)
unfolding book_steps anchors_read anchor_read looked expired
expired_front messages = (refl, refl, refl)

module _ (message : List ℕ) (long : 33 ≤ length message) (bytes : (i : ℕ) → get_or message i 0 < 256) (workchain-0 : get_or message 0 0 ≡ 0) where
  abbrev account : ℕ
  account = big_endian (part 1 8 message)

  by_account : (q : ℕ) → account / 2 ^ 63 ≡ q → account < 2 ^ 64 → is_ours prefix_4 message ≡ eqb 0 q
  unfolding is_ours same_workchain lowest_set
  by_account q e b = rw (le-leb 33 (length message) long, workchain-0, above_tag_shift 4611686018427387904 account (omega arith) (omega arith) b, e)

  first_7_f : get_or message 1 0 ≡ 127 → is_ours prefix_4 message ≡ true
  first_7_f e =
      let v = be_eight message long in
      let b2 = bytes 2 in
      let b3 = bytes 3 in
      let b4 = bytes 4 in
      let b5 = bytes 5 in
      let b6 = bytes 6 in
      let b7 = bytes 7 in
      let b8 = bytes 8 in
      by_account 0 (div-eq_of_lt-le (2 ^ 63) (omega arith) (omega arith)) (omega arith)

  first_80 : get_or message 1 0 ≡ 128 → is_ours prefix_4 message ≡ false
  first_80 e =
      let v = be_eight message long in
      let b2 = bytes 2 in
      let b3 = bytes 3 in
      let b4 = bytes 4 in
      let b5 = bytes 5 in
      let b6 = bytes 6 in
      let b7 = bytes 7 in
      let b8 = bytes 8 in
      by_account 1 (div-eq_of_lt-le (2 ^ 63) (omega arith) (omega arith)) (omega arith)

eleven : (area m n o : List ℕ) → area_bytes ≤ length area → book_read_number (handed 2 no_key (key_at 2 4) 1000) area (one_anchor 2 (m ∷ n ∷ o ∷ [])) (one_anchor 2 (m ∷ n ∷ o ∷ [])) ≡ 11
unfolding book_read_number book_steps first_no is_shard lowest_set routes_number sound_routes none_twice partitions_exist limits_number partitions_number limited_number all_limited every buffers range_free smallest free_in holds sound_cache sound_from sound_row total anchors_read anchor_read looked messages_read finished refused_with rows
eleven area m n o big = rw (le-leb area_bytes (length area) big)

module _ (tables area : List ℕ) (t : AnchorsCacheTransaction) (zero-open : (open_call (length area) tables t).number ≡ 0) where
  abbrev v : Cache
  v = view tables area t.cache

  abbrev steps : List (Step area)
  steps = pop same ∷ commit same ∷ rollback same ∷ []

  asked : refusal (length area) tables t ≡ 0
  unfolding open_call answer
  asked = open_asked (length area) tables t zero-open

  accepts : (b : Book) → holds b.present ≡ true → holds b.opening ≡ true → book_refusal (length area) b 0 ≡ 0
  unfolding book_refusal
  accepts b p q = rw (le-leb area_bytes (length area) (refusal_zero (length area) tables t asked).0, p, q)

  in_book : (book_numbers area (map call steps) (begin v) ≡ 0 ∷ 0 ∷ 0 ∷ []) × (finish (entered area (map call steps) (begin v)) ≡ v)
  unfolding book_numbers entered enter pop_times
  in_book =
      let places = places_in (length area) in
      let c = valid_parts places tables t (refusal_zero (length area) tables t asked).1 in
      let p : holds v ≡ true = holds_view places tables area t.cache c in
      let q : holds (pop_front v) ≡ true = ap holds (sym (view_popped tables area t.cache)) ∙ holds_view places tables area (popped_cache tables t.cache) (popped_parts places tables t.cache c) in
      let e : book_refusal (length area) (begin v) 0 ≡ 0 = accepts (begin v) p p in
      let f : book_refusal (length area) (record { opening = v; present = pop_front v; mark = false }) 0 ≡ 0 = accepts (record { opening = v; present = pop_front v; mark = false }) q p in
      let g : book_refusal (length area) (record { opening = v; present = pop_front v; mark = true }) 0 ≡ 0 = accepts (record { opening = v; present = pop_front v; mark = true }) q p in
      (rw (e, f, g), rw (e, f, g))

  back_to_opening : let u = (open_call (length area) tables t).state in
      let d = close_call (length area) tables (performed tables area (map call steps) u) in
      (numbers tables area (map call steps) u ≡ 0 ∷ 0 ∷ 0 ∷ []) × (d.number ≡ 0) × (view tables area d.state.cache ≡ view tables area t.cache)
  back_to_opening =
      let d = demand_three tables area t zero-open steps in
      (d.every_number_is_the_book's ∙ in_book.0, d.the_close_answers_0, d.the_cache_is_the_book's ∙ in_book.1)

pub table_of_eight : Table
table_of_eight =
    record {
      age_60000 = young;
      age_60001 = old;
      entry_at_5 = λ entry front behind pending e f. stays entry front behind pending;
      processed_2_1 = (kept, buffers_it, second_only);
      limit_0 = expired_front;
      first_byte = λ message long bytes workchain. (first_7_f message long bytes workchain, first_80 message long bytes workchain);
      position_2_4 = eleven;
      opening_cache = back_to_opening;
    }
