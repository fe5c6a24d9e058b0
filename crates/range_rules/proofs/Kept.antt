-- What a message put in a buffer and a refusal keep, the six steps keep: counts within the cap, and numbers 11 to 14.
use Prim.Native.Nat.{ℕ, suc, zero, ◌+◌, ◌≤◌, ◌<◌}
use mathlib.Core.Path.{◌≡◌, refl, sym, ap, ◌∙◌}
use mathlib.Core.Bool.{Bool, true, false, not}
use mathlib.Core.List.{List, [], ◌∷◌}
use mathlib.Core.Logic.{◌⊎◌, inl, inr}
use native.Mathlib.Omega.{arith}
use lib.Dec.{eqb, ltb, leb}
use lib.ListN.{length, get_or, length-set}
use Rattle.rows.specs.Rows.{pick}
use Rattle.rows.proofs.Laws.{never, pick_both}
use Rattle.ext_types.specs.declared.ChainTime.{ChainTime}
use Rattle.ext_types.specs.declared.ExternalKey.{ExternalKey}
use Rattle.ext_types.specs.Keys.{key_above}
use Rattle.ext_types.specs.Time.{expired_at}
use Rattle.shard_ident.specs.Shard.{is_ours}
use Rattle.router.specs.Router.{partition_of}
use Rattle.messages_buffer.specs.declared.ExternalsPartitionRangeReaderState.{ExternalsPartitionRangeReaderState}
use Rattle.messages_buffer.specs.Fullness.{no_partition, one_more, range_free, all_limited, limits_number, partitions_number}
use Rattle.messages_buffer.proofs.Laws.{counts_kept, limit_within, limited_kept}
use Rattle.cache_rules.specs.Rules.{Anchor}
use Rattle.range_rules.specs.declared.Context.{Context}
use Rattle.range_rules.specs.declared.Buffers.{Buffers}
use Rattle.range_rules.specs.Walks.{Walk, RangeRead, Verdict, Keep, Buffer, Refuse}
use Rattle.range_rules.specs.declared.ProcessedTo.{ProcessedTo}
use Rattle.range_rules.specs.declared.ExternalsRangeReaderState.{ExternalsRangeReaderState}
use Rattle.range_rules.specs.Rules.{Outcome, silent, followed, advanced, ends, full, stopped, no_processed, judge, refused_with, read_one, entry_len, buffered, buffer_one, after, verdict_on, our_read, message_read, messages_read, looked, expired, is_whole, finished, unread, anchor_read, next_read, anchors_read, six_steps}
use Rattle.range_rules.proofs.Counts.{stopped_full, room_in}

judged : (Q : Verdict → Type 0) (processed : ProcessedTo) (partition : ExternalsPartitionRangeReaderState) (key : ExternalKey) (room : Bool)
    → Q Keep → (partition.present ≡ true → Q Buffer) → ((k : ℕ) → 11 ≤ k → k ≤ 14 → Q (Refuse k)) → Q (judge processed partition key room)
unfolding judge
judged Q processed partition key room keep buffer refuse = go processed.present (key_above key processed.key) partition.present room buffer
  where
    go : (a b c d : Bool) → (c ≡ true → Q Buffer) → Q (pick a (pick b (pick c (pick d Buffer (Refuse 14)) (Refuse 13)) Keep) (Refuse 12))
    go true true true true h = h refl
    go true true true false h = refuse 14 (omega arith) (omega arith)
    go true true false d h = refuse 13 (omega arith) (omega arith)
    go true false c d h = keep
    go false b c d h = refuse 12 (omega arith) (omega arith)

-- ---- the steps
module _ (x : Context) (routes : List ℕ) (P : ℕ → Buffers → Type 0)
    (put : (p n : ℕ) (b : Buffers) → full b ≡ false → (get_or b.by_partitions p no_partition).present ≡ true → P n b → P n (buffered x.limits p b))
    (refuse : (k n : ℕ) (b : Buffers) → 11 ≤ k → k ≤ 14 → P n b → P k b) where
  abbrev Holds : Walk → Type 0
  Holds w = P w.number w.buffers

  after_kept : (time : ChainTime) (p : ℕ) (w : Walk) → full w.buffers ≡ false → Holds w → Holds (after (verdict_on x p w) x time p w).value
  unfolding read_one buffer_one refused_with
  after_kept time p w e h =
      judged (λ v. Holds (after v x time p w).value) (get_or x.processed p no_processed) (get_or w.buffers.by_partitions p no_partition) w.place.key (leb (w.buffers.used + entry_len) x.room)
      h (λ c. put p w.number w.buffers e c h) (λ k a b. refuse k w.number w.buffers a b h)

  message_kept : (time : ChainTime) (m : List ℕ) (w : Walk) → full w.buffers ≡ false → Holds w → Holds (message_read x routes time m w).value
  unfolding message_read our_read advanced
  message_kept time m w e h =
      let Q : Outcome Walk → Type 0 = λ s. Holds s.value in
      pick_both Q (is_ours x.shard m) _ _ (after_kept time (partition_of routes m) (advanced x w) e h) h

  messages_kept : (time : ChainTime) (l : List (List ℕ)) (s : Outcome Walk) → Holds s.value → Holds (messages_read x routes time l s).value
  unfolding messages_read
  messages_kept time [] s h = h
  messages_kept time (m ∷ l) s h = go (stopped x s.value) refl (messages_kept time l next)
    where
      next : Outcome Walk
      next = followed s (message_read x routes time m s.value)

      go : (b : Bool) → stopped x s.value ≡ b → (Holds next.value → Holds (messages_read x routes time l next).value) → Holds (pick b s (messages_read x routes time l next)).value
      go true e later = h
      go false e later = later (message_kept time m s.value (stopped_full x s.value e) h)

  finished_kept : (time : ChainTime) (count : ℕ) (w : Walk) (r : RangeRead) → Holds w → Holds (finished x time count w r).walk
  unfolding finished refused_with
  finished_kept time count w r h =
      let Q : RangeRead → Type 0 = λ q. Holds q.walk in
      pick_both Q (not (eqb w.number 0)) _ _ h
      (pick_both Q (ends x.mode w.place.reached) _ _ h
      (pick_both Q (full w.buffers) _ _ h (pick_both Q (is_whole w count) _ _ h (refuse 11 w.number w.buffers (omega arith) (omega arith) h))))

  anchor_kept : (id : ℕ) (time : ChainTime) (l : List (List ℕ)) (r : RangeRead) → Holds r.walk → Holds (anchor_read x routes id time l r).value.walk
  unfolding anchor_read looked expired
  anchor_kept id time l r h =
      let Q : Outcome RangeRead → Type 0 = λ s. Holds s.value.walk in
      let w = looked x id r.walk in
      pick_both Q (ltb id x.position.anchor_id) _ _ h
      (pick_both Q (expired_at x.chain_time time x.limit) _ _ h
      (finished_kept time (length l) (messages_read x routes time (unread w l) (silent w)).value r (messages_kept time (unread w l) (silent w) h)))

  anchors_kept : (l : List Anchor) (s : Outcome RangeRead) → Holds s.value.walk → Holds (anchors_read x routes l s).value.walk
  unfolding anchors_read
  anchors_kept [] s h = h
  anchors_kept (a ∷ l) s h =
      let Q : Outcome RangeRead → Type 0 = λ q. Holds q.value.walk in
      let t = next_read x routes a s in
      let g = anchor_kept a.id (record { 0 = a.time }) a.messages s.value h in
      pick_both Q t.value.ended t (anchors_read x routes l t) g (anchors_kept l t g)

-- ---- question 5
present_inside : (l : List ExternalsPartitionRangeReaderState) (p : ℕ) → (get_or l p no_partition).present ≡ true → p < length l
present_inside [] p e = never (sym e)
present_inside (a ∷ l) zero e = omega arith
present_inside (a ∷ l) (suc p) e = let h = present_inside l p e in omega arith

-- eight records within the cap, each with a limit
record Sound (limits : List ℕ) (b : Buffers) : Type 0 where
  free : b.free ≡ range_free limits b.by_partitions
  counts : partitions_number b.by_partitions ≡ 0
  limited : all_limited limits b.by_partitions ≡ true
  eight : length b.by_partitions ≡ 8

module _ (x : Context) (eight : length x.limits ≡ 8) (fit : limits_number x.limits ≡ 0) where
  -- a buffer that is not full takes one message more within its limit, and so within the cap
  put_sound : (p : ℕ) (b : Buffers) → full b ≡ false → (get_or b.by_partitions p no_partition).present ≡ true → Sound x.limits b → Sound x.limits (buffered x.limits p b)
  unfolding buffered
  put_sound p b e q h =
      let ps = b.by_partitions in
      let i = present_inside ps p q in
      let same : length x.limits ≡ length ps = eight ∙ sym h.eight in
      let few : p < 8 = omega (arith, i, h.eight) in
      let j : p < length x.limits = omega (arith, few, eight) in
      let room = room_in x.limits b p eight h.eight few (ap (λ (n : ℕ). eqb n 0) (sym h.free) ∙ e) q in
      let cap = limit_within x.limits ps same h.limited p j fit q in
      record {
        free = refl;
        counts = counts_kept ps h.counts p i (one_more (get_or ps p no_partition)) (omega (arith, room, cap));
        limited = limited_kept x.limits ps same h.limited p j (one_more (get_or ps p no_partition)) refl;
        eight = length-set ps p (one_more (get_or ps p no_partition)) ∙ h.eight;
      }

  -- where questions 4, 5 and 10 are answered "yes" at entry
  pub the_six_steps_keep_every_count_within_the_cap : (routes : List ℕ) (range : ExternalsRangeReaderState) (anchors : List Anchor) → length range.by_partitions ≡ 8 → partitions_number range.by_partitions ≡ 0
      → all_limited x.limits range.by_partitions ≡ true
      → (partitions_number (six_steps x routes range anchors).value.walk.buffers.by_partitions ≡ 0) × (length (six_steps x routes range anchors).value.walk.buffers.by_partitions ≡ 8)
  the_six_steps_keep_every_count_within_the_cap routes range anchors n c l =
      let s = anchors_kept x routes (λ k b. Sound x.limits b) (λ p k b. put_sound p b) (λ j k b low high h. h) anchors _ (record { free = refl; counts = c; limited = l; eight = n }) in
      (s.counts, s.eight)

-- ---- questions 11 to 14
pub the_six_steps_refuse_by_11_to_14_alone : (x : Context) (routes : List ℕ) (range : ExternalsRangeReaderState) (anchors : List Anchor)
    → ((six_steps x routes range anchors).value.walk.number ≡ 0) ⊎ ((11 ≤ (six_steps x routes range anchors).value.walk.number) × ((six_steps x routes range anchors).value.walk.number ≤ 14))
the_six_steps_refuse_by_11_to_14_alone x routes range anchors =
    anchors_kept x routes (λ n b. (n ≡ 0) ⊎ ((11 ≤ n) × (n ≤ 14))) (λ p n b e q h. h) (λ k n b a c h. inr (a, c)) anchors _ (inl refl)
