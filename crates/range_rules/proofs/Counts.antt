-- Counts stay within a bound, and the used part of the output follows the entries.
use Rattle.std.proofs.lemmas.Bool.{or_parts}
use Prim.Native.Nat.{ℕ, suc, zero, ◌+◌, ◌≤◌, ◌<◌}
use mathlib.Core.Path.{◌≡◌, refl, ap}
use mathlib.Core.Bool.{Bool, true, false, not}
use mathlib.Core.List.{List, [], ◌∷◌}
use native.Mathlib.Omega.{arith}
use lib.Dec.{eqb}
use lib.ListN.{length, get_or, set, length-append, replicate}
use Rattle.rows.specs.Rows.{pick}
use Rattle.rows.proofs.Laws.{pick_both, length_le}
use Rattle.ext_types.specs.Keys.{key_above}
use Rattle.ext_types.specs.declared.ChainTime.{ChainTime}
use Rattle.ext_types.specs.declared.ExternalKey.{ExternalKey}
use Rattle.messages_buffer.specs.declared.ExternalsPartitionRangeReaderState.{ExternalsPartitionRangeReaderState}
use Rattle.messages_buffer.specs.Fullness.{range_free, no_partition}
use Rattle.messages_buffer.proofs.Free.{room_left}
use Rattle.shard_ident.specs.Shard.{is_ours}
use Rattle.shard_ident.specs.declared.ShardIdent.{ShardIdent}
use Rattle.router.specs.Router.{partition_of}
use Rattle.range_rules.specs.declared.Context.{Context}
use Rattle.range_rules.specs.declared.Buffers.{Buffers}
use Rattle.range_rules.specs.Walks.{Walk, Verdict, Keep, Buffer, Refuse}
use Rattle.range_rules.specs.declared.ProcessedTo.{ProcessedTo}
use Rattle.range_rules.specs.Rules.{Outcome, silent, advanced, full, stopped, judge, more, refused_with, read_one, buffered, buffer_one, entry_bytes, after, verdict_on, our_read, message_read, expired_one, entry_len}
use Rattle.range_rules.specs.Bounds.{Within}

-- ---- lists of counts
pub zeros : (n i k : ℕ) → get_or (replicate n 0) i 0 ≤ k
zeros zero i k = omega arith
zeros (suc n) zero k = omega arith
zeros (suc n) (suc i) k = zeros n i k

set_le : (l : List ℕ) (p v m i : ℕ) → v ≤ m → ((j : ℕ) → get_or l j 0 ≤ m) → get_or (set l p v) i 0 ≤ m
set_le [] p v m i a h = h i
set_le (x ∷ l) zero v m zero a h = a
set_le (x ∷ l) zero v m (suc i) a h = h (suc i)
set_le (x ∷ l) (suc p) v m zero a h = h 0
set_le (x ∷ l) (suc p) v m (suc i) a h = set_le l p v m i a (λ j. h (suc j))

pub weaker : (l : List ℕ) (k m : ℕ) → k ≤ m → ((j : ℕ) → get_or l j 0 ≤ k) → (j : ℕ) → get_or l j 0 ≤ m
weaker l k m a h j = omega (arith, h j)

pub more_le : (l : List ℕ) (p k : ℕ) → ((j : ℕ) → get_or l j 0 ≤ k) → (j : ℕ) → get_or (more l p) j 0 ≤ k + 1
more_le l p k h j = set_le l p (get_or l p 0 + 1) (k + 1) j (omega (arith, h p)) (weaker l k (k + 1) (omega arith) h)

pub expired_one_le : (shard : ShardIdent) (routes m counts : List ℕ) (k : ℕ) → ((i : ℕ) → get_or counts i 0 ≤ k) → (i : ℕ) → get_or (expired_one shard routes m counts) i 0 ≤ k + 1
unfolding expired_one
expired_one_le shard routes m counts k h i =
    let P : List ℕ → Type 0 = λ l. get_or l i 0 ≤ k + 1 in
    pick_both P (is_ours shard m) (more counts (partition_of routes m)) counts (more_le counts (partition_of routes m) k h i) (weaker counts k (k + 1) (omega arith) h i)

-- ---- a walk's counts
module _ (x : Context) (k : ℕ) (w : Walk) (h : Within x k w) where
  pub within_up : (m : ℕ) → k ≤ m → Within x m w
  within_up m a = record {
    read = weaker w.counts.read k m a h.read;
    expired = weaker w.counts.expired k m a h.expired;
    buffered = weaker w.counts.buffered k m a h.buffered;
    free = h.free;
  }

  pub within_advanced : Within x k (advanced x w)
  unfolding advanced
  within_advanced = record { read = h.read; expired = h.expired; buffered = h.buffered; free = h.free }

  pub within_refused : (n : ℕ) → Within x k (refused_with n w)
  unfolding refused_with
  within_refused n = record { read = h.read; expired = h.expired; buffered = h.buffered; free = h.free }

  pub after_within : (v : Verdict) (time : ChainTime) (p : ℕ) → Within x (k + 1) (after v x time p w).value
  unfolding read_one buffer_one buffered refused_with
  after_within Keep time p = record {
    read = more_le w.counts.read p k h.read;
    expired = weaker w.counts.expired k (k + 1) (omega arith) h.expired;
    buffered = weaker w.counts.buffered k (k + 1) (omega arith) h.buffered;
    free = h.free;
  }
  after_within Buffer time p = record {
    read = more_le w.counts.read p k h.read;
    expired = weaker w.counts.expired k (k + 1) (omega arith) h.expired;
    buffered = more_le w.counts.buffered p k h.buffered;
    free = refl;
  }
  after_within (Refuse n) time p = record {
    read = weaker w.counts.read k (k + 1) (omega arith) h.read;
    expired = weaker w.counts.expired k (k + 1) (omega arith) h.expired;
    buffered = weaker w.counts.buffered k (k + 1) (omega arith) h.buffered;
    free = h.free;
  }

-- ---- entries
pub length_entry : (seqno p : ℕ) (key : ExternalKey) (time : ChainTime) → length (entry_bytes seqno p key time) ≡ entry_len
unfolding entry_bytes
length_entry seqno p key time = simp (length-append, length_le)

-- ---- a message
after_used : (v : Verdict) (x : Context) (time : ChainTime) (p : ℕ) (w : Walk) → (after v x time p w).value.buffers.used ≡ w.buffers.used + length (after v x time p w).entries
unfolding read_one buffer_one buffered refused_with
after_used Keep x time p w = omega arith
after_used Buffer x time p w = omega (arith, length_entry x.seqno p w.place.key time)
after_used (Refuse n) x time p w = omega arith

pub after_place : (v : Verdict) (x : Context) (time : ChainTime) (p : ℕ) (w : Walk) → (after v x time p w).value.place ≡ w.place
unfolding read_one buffer_one refused_with
after_place Keep x time p w = refl
after_place Buffer x time p w = refl
after_place (Refuse n) x time p w = refl

pub record Stepped (x : Context) (k : ℕ) (w : Walk) (t : Outcome Walk) : Type 0 where
  pub within : Within x (k + 1) t.value
  pub used : t.value.buffers.used ≡ w.buffers.used + length t.entries
  pub offset : t.value.place.key.msgs_offset ≡ w.place.key.msgs_offset + 1

pub message_stepped : (x : Context) (routes : List ℕ) (time : ChainTime) (m : List ℕ) (k : ℕ) (w : Walk) → Within x k w → Stepped x k w (message_read x routes time m w)
unfolding message_read our_read advanced
message_stepped x routes time m k w h =
    let a = advanced x w in
    let p = partition_of routes m in
    let ha = within_advanced x k w h in
    pick_both (Stepped x k w) (is_ours x.shard m) (our_read x time p a) (silent a)
    (record {
      within = after_within x k a ha (verdict_on x p a) time p;
      used = after_used (verdict_on x p a) x time p a;
      offset = ap (λ q. q.key.msgs_offset) (after_place (verdict_on x p a) x time p a);
    })
    (record { within = within_up x k a ha (k + 1) (omega arith); used = omega arith; offset = refl })

-- what is buffered has a place in the output and its partition in the range
pub judge_buffer : (q : ProcessedTo) (partition : ExternalsPartitionRangeReaderState) (key : ExternalKey) (room : Bool) → judge q partition key room ≡ Buffer → (room ≡ true) × (partition.present ≡ true)
unfolding judge
judge_buffer q partition key room = go q.present (key_above key q.key) partition.present room
  where
    go : (a b c d : Bool) → pick a (pick b (pick c (pick d Buffer (Refuse 14)) (Refuse 13)) Keep) (Refuse 12) ≡ Buffer → (d ≡ true) × (c ≡ true)
    go true true true true e = (refl, refl)
    go true true true false e = (cc, cc)
    go true true false d e = (cc, cc)
    go true false c d e = (cc, cc)
    go false b c d e = (cc, cc)

-- a walk that is not stopped has no full buffer
pub stopped_full : (x : Context) (w : Walk) → stopped x w ≡ false → full w.buffers ≡ false
unfolding stopped
stopped_full x w e = (or_parts (full w.buffers) _ (or_parts (not (eqb w.number 0)) _ e).1).0

-- ---- one more in a buffer, where none is full
module _ (limits : List ℕ) (b : Buffers) (p : ℕ) (l : length limits ≡ 8) (m : length b.by_partitions ≡ 8) (h : p < 8) (e : eqb (range_free limits b.by_partitions) 0 ≡ false) (q : (get_or b.by_partitions p no_partition).present ≡ true) where
  pub room_in : (get_or b.by_partitions p no_partition).count + 1 ≤ get_or limits p 0
  room_in = room_left limits b.by_partitions e p (omega arith) (omega arith) q
