-- Where `cannot_refuse` holds at entry, none of questions 11 to 14 refuses the read.
use Rattle.std.proofs.lemmas.Bool.{and_parts}
use Prim.Native.Nat.{ℕ, suc, zero, ◌+◌, ◌-◌, ◌*◌, ◌≤◌}
use mathlib.Core.Path.{◌≡◌, refl, sym, ap, ◌∙◌}
use mathlib.Core.Bool.{Bool, true, false, not, ◌&&◌, ◌||◌}
use mathlib.Core.List.{List, [], ◌∷◌, map}
use mathlib.Core.Logic.{◌⊎◌, inl, inr}
use native.Mathlib.Omega.{arith}
use lib.Dec.{eqb, ltb, leb}
use lib.ListN.{length, get_or, length-drop}
use borrow.Author.Tests.{eq-eqb, leb-true, le-leb}
use Rattle.rows.specs.Rows.{pick, same_bytes}
use Rattle.rows.proofs.Laws.{never, pick_both}
use Rattle.range_rules.proofs.Walks.{walk_all}
use Rattle.ext_types.specs.declared.ChainTime.{ChainTime}
use Rattle.ext_types.specs.declared.ExternalKey.{ExternalKey}
use Rattle.ext_types.specs.Keys.{key_above}
use Rattle.ext_types.specs.Time.{expired_at}
use Rattle.shard_ident.specs.Shard.{is_ours}
use Rattle.router.specs.Router.{route_rows, route_partition_of, address_of, first_partition, partition_of}
use Rattle.messages_buffer.specs.declared.ExternalsPartitionRangeReaderState.{ExternalsPartitionRangeReaderState}
use Rattle.messages_buffer.specs.Fullness.{every, no_partition}
use Rattle.cache_rules.specs.Rules.{Anchor, row_of, total}
use Rattle.range_rules.specs.declared.Context.{Context}
use Rattle.range_rules.specs.Walks.{Walk, RangeRead, Verdict, Keep, Buffer, Refuse}
use Rattle.range_rules.specs.declared.ProcessedTo.{ProcessedTo}
use Rattle.range_rules.specs.Rules.{Outcome, silent, followed, advanced, ends, full, stopped, no_processed, judge, refused_with, read_one, one_put, buffered, buffer_one, after, verdict_on, our_read, message_read, messages_read, popped, offset_in, looked, expired_over, expired, leave, after_pop, is_whole, finished, unread, anchor_read, next_read, anchors_read, entry_len}
use Rattle.range_rules.specs.Refusals.{is_open, route_open, all_open, starts_within, all_fit, cannot_refuse}

-- ---- a message's partition is open
module _ (processed : List ProcessedTo) (partitions : List ExternalsPartitionRangeReaderState) where
  first_open : (m : List ℕ) (l : List (List ℕ)) → is_open processed partitions 0 ≡ true → every (route_open processed partitions) l ≡ true → is_open processed partitions (first_partition m l) ≡ true
  unfolding first_partition every
  first_open m [] z e = z
  first_open m (r ∷ l) z e =
      let t = and_parts (route_open processed partitions r) (every (route_open processed partitions) l) e in
      let P : ℕ → Type 0 = λ p. is_open processed partitions p ≡ true in
      pick_both P (same_bytes (address_of r) m) (route_partition_of r) (first_partition m l) t.0 (first_open m l z t.1)

  partition_open : (routes m : List ℕ) → all_open processed partitions routes ≡ true → is_open processed partitions (partition_of routes m) ≡ true
  unfolding partition_of all_open
  partition_open routes m e =
      let t = and_parts (is_open processed partitions 0) (every (route_open processed partitions) (route_rows routes)) e in
      first_open m (route_rows routes) t.0 t.1

put_present : (p q : ℕ) (l : List ExternalsPartitionRangeReaderState) → (get_or (one_put p l) q no_partition).present ≡ (get_or l q no_partition).present
put_present p q [] = refl
put_present zero zero (a ∷ l) = refl
put_present zero (suc q) (a ∷ l) = refl
put_present (suc p) zero (a ∷ l) = refl
put_present (suc p) (suc q) (a ∷ l) = put_present p q l

-- ---- n more messages cannot be refused
record Free (x : Context) (routes : List ℕ) (n : ℕ) (w : Walk) : Type 0 where
  number : w.number ≡ 0
  open_to : (m : List ℕ) → is_open x.processed w.buffers.by_partitions (partition_of routes m) ≡ true
  room : w.buffers.used + entry_len * n ≤ x.room

judge_open : (q : ProcessedTo) (partition : ExternalsPartitionRangeReaderState) (key : ExternalKey) (room : Bool) → (q.present && partition.present) ≡ true → room ≡ true
    → (judge q partition key room ≡ Keep) ⊎ (judge q partition key room ≡ Buffer)
unfolding judge
judge_open q partition key room = go q.present (key_above key q.key) partition.present room
  where
    go : (a b c d : Bool) → (a && c) ≡ true → d ≡ true
        → (pick a (pick b (pick c (pick d Buffer (Refuse 14)) (Refuse 13)) Keep) (Refuse 12) ≡ Keep) ⊎ (pick a (pick b (pick c (pick d Buffer (Refuse 14)) (Refuse 13)) Keep) (Refuse 12) ≡ Buffer)
    go true true true true e f = inr refl
    go true true true false e f = never (sym f)
    go true true false d e f = never (sym e)
    go true false c d e f = inl refl
    go false b c d e f = never (sym e)

module _ (x : Context) (routes : List ℕ) where
  free_less : (n k : ℕ) (w : Walk) → k ≤ n → Free x routes n w → Free x routes k w
  free_less n k w i h = record { number = h.number; open_to = h.open_to; room = omega (arith, h.room) }

  after_free : (v : Verdict) (time : ChainTime) (p n : ℕ) (w : Walk) → (v ≡ Keep) ⊎ (v ≡ Buffer) → Free x routes (suc n) w → Free x routes n (after v x time p w).value
  unfolding read_one buffer_one buffered
  after_free Keep time p n w e h = record { number = h.number; open_to = h.open_to; room = omega (arith, h.room) }
  after_free Buffer time p n w e h = record {
    number = h.number;
    open_to = λ m. ap (λ (b : Bool). (get_or x.processed (partition_of routes m) no_processed).present && b) (put_present p (partition_of routes m) w.buffers.by_partitions) ∙ h.open_to m;
    room = omega (arith, h.room);
  }
  after_free (Refuse k) time p n w (inl e) h = absurd (let z : ◌≡◌ {A = ℕ} 0 1 = cc in omega arith)
  after_free (Refuse k) time p n w (inr e) h = absurd (let z : ◌≡◌ {A = ℕ} 0 1 = cc in omega arith)

  advanced_free : (n : ℕ) (w : Walk) → Free x routes n w → Free x routes n (advanced x w)
  unfolding advanced
  advanced_free n w h = record { number = h.number; open_to = h.open_to; room = h.room }

  message_free : (time : ChainTime) (m : List ℕ) (n : ℕ) (w : Walk) → Free x routes (suc n) w → Free x routes n (message_read x routes time m w).value
  unfolding message_read our_read
  message_free time m n w h =
      let a = advanced x w in
      let p = partition_of routes m in
      let g = advanced_free (suc n) w h in
      let P : Outcome Walk → Type 0 = λ s. Free x routes n s.value in
      let r : a.buffers.used + entry_len ≤ x.room = omega (arith, g.room) in
      let v = judge_open (get_or x.processed p no_processed) (get_or a.buffers.by_partitions p no_partition) a.place.key (leb (a.buffers.used + entry_len) x.room) (g.open_to m) (le-leb _ _ r) in
      pick_both P (is_ours x.shard m) (our_read x time p a) (silent a) (after_free (verdict_on x p a) time p n a v g) (free_less (suc n) n a (omega arith) g)

  messages_free : (time : ChainTime) (l : List (List ℕ)) (n : ℕ) (s : Outcome Walk) → Free x routes (length l + n) s.value → Free x routes n (messages_read x routes time l s).value
  unfolding messages_read
  messages_free time [] n s h = free_less (0 + n) n s.value (omega arith) h
  messages_free time (m ∷ l) n s h =
      let t = followed s (message_read x routes time m s.value) in
      let P : Outcome Walk → Type 0 = λ q. Free x routes n q.value in
      pick_both P (stopped x s.value) s (messages_read x routes time l t)
      (free_less (suc (length l) + n) n s.value (omega arith) h)
      (messages_free time l n t (message_free time m (length l + n) s.value (free_less (suc (length l) + n) (suc (length l + n)) s.value (omega arith) h)))

  -- step 6 after a walk that was stopped or came to the anchor's end
  finished_free : (time : ChainTime) (count n : ℕ) (w : Walk) (r : RangeRead) → (stopped x w ≡ false → w.place.key.msgs_offset ≡ count) → Free x routes n w → Free x routes n (finished x time count w r).walk
  unfolding finished stopped
  finished_free time count n w r e h = go (eqb w.number 0) (ends x.mode w.place.reached) (full w.buffers) (is_whole w count) refl e
    where
      pops : ℕ
      pops = after_pop (is_whole w count) r.pops

      go : (a b c d : Bool) → is_whole w count ≡ d → ((not a || (c || b)) ≡ false → w.place.key.msgs_offset ≡ count)
          → Free x routes n (pick (not a) (leave w time pops r.fully_read true) (pick b (leave w time pops true true) (pick c (leave w time pops r.fully_read true) (pick d (leave w time pops r.fully_read false) (leave (refused_with 11 w) time pops r.fully_read true))))).walk
      go false b c d f i = h
      go true true c d f i = h
      go true false true d f i = h
      go true false false true f i = h
      go true false false false f i = never (sym (eq-eqb w.place.key.msgs_offset count (i refl)) ∙ f)

  module _ (id : ℕ) (time : ChainTime) (l : List (List ℕ)) (n : ℕ) (r : RangeRead) where
    looked_free : (k : ℕ) → Free x routes k r.walk → Free x routes k (looked x id r.walk)
    unfolding looked
    looked_free k h = record { number = h.number; open_to = h.open_to; room = h.room }

    looked_offset : (looked x id r.walk).place.key.msgs_offset ≡ offset_in x.position id
    unfolding looked
    looked_offset = refl

    expired_free : (counts : List ℕ) (k : ℕ) (w : Walk) → Free x routes k w → Free x routes k (expired x time counts w r).walk
    unfolding expired
    expired_free counts k w h = record { number = h.number; open_to = h.open_to; room = h.room }

    walked_free : offset_in x.position id ≤ length l → Free x routes (length l + n) r.walk
        → Free x routes n (finished x time (length l) (messages_read x routes time (unread (looked x id r.walk) l) (silent (looked x id r.walk))).value r).walk
    walked_free i h =
        let w = looked x id r.walk in
        let o = looked_offset in
        let d : length (unread w l) ≡ length l - w.place.key.msgs_offset = length-drop w.place.key.msgs_offset l in
        let g = free_less (length l + n) (length (unread w l) + n) w (omega arith) (looked_free (length l + n) h) in
        finished_free time (length l) n (messages_read x routes time (unread w l) (silent w)).value r
        (λ e. walk_all x routes time (unread w l) (silent w) e ∙ omega arith)
        (messages_free time (unread w l) n (silent w) g)

    anchor_free : offset_in x.position id ≤ length l → Free x routes (length l + n) r.walk → Free x routes n (anchor_read x routes id time l r).value.walk
    unfolding anchor_read
    anchor_free i h =
        let w = looked x id r.walk in
        let P : Outcome RangeRead → Type 0 = λ s. Free x routes n s.value.walk in
        pick_both P (ltb id x.position.anchor_id) (silent (popped r)) _ (free_less (length l + n) n r.walk (omega arith) h)
        (pick_both P (expired_at x.chain_time time x.limit) _ _
        (expired_free (expired_over x.shard routes (unread w l) w.counts.expired) n w (free_less (length l + n) n w (omega arith) (looked_free (length l + n) h)))
        (walked_free i h))

  anchors_free : (l : List Anchor) (s : Outcome RangeRead) → every (starts_within x.position) (map row_of l) ≡ true → Free x routes (total (map row_of l)) s.value.walk
      → (anchors_read x routes l s).value.walk.number ≡ 0
  unfolding anchors_read every total
  anchors_free [] s e h = h.number
  anchors_free (a ∷ l) s e h =
      let f = and_parts (starts_within x.position (row_of a)) (every (starts_within x.position) (map row_of l)) e in
      let i = leb-true (offset_in x.position a.id) (length a.messages) f.0 in
      let g = anchor_free a.id (record { 0 = a.time }) a.messages (total (map row_of l)) s.value i h in
      let t = next_read x routes a s in
      let P : Outcome RangeRead → Type 0 = λ q. q.value.walk.number ≡ 0 in
      pick_both P t.value.ended t (anchors_read x routes l t) g.number (anchors_free l t f.1 g)

module _ (x : Context) (routes : List ℕ) (l : List Anchor) (r : RangeRead) where
  pub no_refusal : r.walk.number ≡ 0 → r.walk.buffers.used ≡ 0 → cannot_refuse x r.walk.buffers.by_partitions routes (map row_of l) ≡ true → (anchors_read x routes l (silent r)).value.walk.number ≡ 0
  unfolding cannot_refuse all_fit
  no_refusal n u e =
      let t = and_parts (all_open x.processed r.walk.buffers.by_partitions routes) (all_fit x.position x.room (map row_of l)) e in
      let f = and_parts (every (starts_within x.position) (map row_of l)) (leb (entry_len * total (map row_of l)) x.room) t.1 in
      let i = leb-true (entry_len * total (map row_of l)) x.room f.1 in
      anchors_free x routes l (silent r) f.0
      (record { number = n; open_to = λ m. partition_open x.processed r.walk.buffers.by_partitions routes m t.0; room = omega arith })
