-- The output's first free place: 26 bytes for each message that was buffered, and never past the lent bytes.
use Prim.Native.Nat.{ℕ, suc, zero, ◌+◌, ◌*◌, ◌≤◌, ◌<◌}
use mathlib.Core.Path.{◌≡◌, refl, sym, ◌∙◌}
use mathlib.Core.Bool.{Bool, true, false, not}
use mathlib.Core.List.{List, [], ◌∷◌}
use native.Mathlib.Omega.{arith}
use lib.Dec.{eqb, ltb, leb}
use lib.ListN.{length, get_or, length-set}
use lib.Seq.{sets}
use borrow.Author.Tests.{leb-true, eqb-true}
use Rattle.rows.specs.Rows.{pick}
use Rattle.ext_types.specs.declared.ChainTime.{ChainTime}
use Rattle.ext_types.specs.declared.Seconds.{Seconds}
use Rattle.ext_types.specs.Time.{expired_at}
use Rattle.shard_ident.specs.declared.ShardIdent.{ShardIdent}
use Rattle.shard_ident.specs.Shard.{is_ours}
use Rattle.router.specs.Router.{partition_of, routes_number}
use Rattle.router.proofs.Laws.{a_partition_is_at_most_7}
use Rattle.messages_buffer.specs.Fullness.{no_partition, range_free, first_no}
use Rattle.anchors_cache.specs.declared.AnchorsCacheTransaction.{AnchorsCacheTransaction}
use Rattle.cache_rules.specs.Rules.{Anchor}
use Rattle.anchors_cache.specs.Tables.{view}
use Rattle.range_rules.specs.declared.Context.{Context}
use Rattle.range_rules.specs.Walks.{Walk, RangeRead, Verdict, Keep, Buffer, Refuse}
use Rattle.range_rules.specs.declared.ProcessedTo.{ProcessedTo}
use Rattle.range_rules.specs.declared.ReadNextExternalsMode.{ReadNextExternalsMode}
use Rattle.range_rules.specs.declared.ExternalsRangeReaderState.{ExternalsRangeReaderState}
use Rattle.range_rules.specs.Rules.{Outcome, silent, followed, advanced, ends, full, stopped, no_processed, more, refused_with, read_one, buffered, buffer_one, after, verdict_on, our_read, message_read, messages_read, popped, looked, expired_over, expired, is_whole, finished, unread, anchor_read, next_read, anchors_read, context_of, entry_of, entry_len}
use Rattle.range_reader.specs.Calls.{asked_number, refused_answer, done_result, range_read, read_call}
use Rattle.rows.proofs.Laws.{pick_both}
use Rattle.range_rules.proofs.Counts.{judge_buffer}
use Rattle.messages_buffer.proofs.Laws.{first_zero}
use Rattle.range_reader.proofs.Numbers.{passed}
use Rattle.range_reader.proofs.Kept.{steps_kept}

unfoldable pub sum_of : List ℕ → ℕ
sum_of [] = 0
sum_of (n ∷ l) = n + sum_of l

sum_more : (l : List ℕ) (p : ℕ) → p < length l → sum_of (more l p) ≡ sum_of l + 1
unfolding sum_of
sum_more [] p h = absurd (omega arith)
sum_more (n ∷ l) zero h = omega arith
sum_more (n ∷ l) (suc p) h = omega (arith, sum_more l p (omega arith))

-- the used part of the output is 26 bytes for each message buffered, and lies in the room
record Tallied (x : Context) (w : Walk) : Type 0 where
  eight : length w.counts.buffered ≡ 8
  used : w.buffers.used ≡ entry_len * sum_of w.counts.buffered
  roomy : w.buffers.used ≤ x.room

module _ (x : Context) (w : Walk) (h : Tallied x w) where
  advanced_tallied : Tallied x (advanced x w)
  unfolding advanced
  advanced_tallied = record { eight = h.eight; used = h.used; roomy = h.roomy }

  looked_tallied : (id : ℕ) → Tallied x (looked x id w)
  unfolding looked
  looked_tallied id = record { eight = h.eight; used = h.used; roomy = h.roomy }

  refused_tallied : (n : ℕ) → Tallied x (refused_with n w)
  unfolding refused_with
  refused_tallied n = record { eight = h.eight; used = h.used; roomy = h.roomy }

  expired_tallied : (time : ChainTime) (counts : List ℕ) (r : RangeRead) → Tallied x (expired x time counts w r).walk
  unfolding expired
  expired_tallied time counts r = record { eight = h.eight; used = h.used; roomy = h.roomy }

  finished_tallied : (time : ChainTime) (count : ℕ) (r : RangeRead) → Tallied x (finished x time count w r).walk
  unfolding finished
  finished_tallied time count r =
      let P : RangeRead → Type 0 = λ q. Tallied x q.walk in
      pick_both P (not (eqb w.number 0)) _ _ h (pick_both P (ends x.mode w.place.reached) _ _ h (pick_both P (full w.buffers) _ _ h (pick_both P (is_whole w count) _ _ h (refused_tallied 11))))

  after_tallied : (v : Verdict) (time : ChainTime) (p : ℕ) → p < 8 → (v ≡ Buffer → w.buffers.used + entry_len ≤ x.room) → Tallied x (after v x time p w).value
  unfolding read_one buffer_one buffered refused_with
  after_tallied Keep time p b r = record { eight = h.eight; used = h.used; roomy = h.roomy }
  after_tallied Buffer time p b r =
      let e = h.eight in
      record {
        eight = length-set w.counts.buffered p (get_or w.counts.buffered p 0 + 1) ∙ h.eight;
        used = omega (arith, h.used, sum_more w.counts.buffered p (omega arith));
        roomy = r refl;
      }
  after_tallied (Refuse n) time p b r = record { eight = h.eight; used = h.used; roomy = h.roomy }

module _ (x : Context) (routes : List ℕ) (sound : routes_number routes ≡ 0) where
  message_tallied : (time : ChainTime) (m : List ℕ) (w : Walk) → Tallied x w → Tallied x (message_read x routes time m w).value
  unfolding message_read our_read
  message_tallied time m w h =
      let a = advanced x w in
      let p = partition_of routes m in
      let P : Outcome Walk → Type 0 = λ s. Tallied x s.value in
      let g = a_partition_is_at_most_7 routes m sound in
      pick_both P (is_ours x.shard m) (our_read x time p a) (silent a)
      (after_tallied x a (advanced_tallied x w h) (verdict_on x p a) time p (omega arith) (λ e. leb-true _ _ (judge_buffer (get_or x.processed p no_processed) (get_or a.buffers.by_partitions p no_partition) a.place.key (leb (a.buffers.used + entry_len) x.room) e).0))
      (advanced_tallied x w h)

  messages_tallied : (time : ChainTime) (l : List (List ℕ)) (s : Outcome Walk) → Tallied x s.value → Tallied x (messages_read x routes time l s).value
  unfolding messages_read
  messages_tallied time [] s h = h
  messages_tallied time (m ∷ l) s h =
      let t = followed s (message_read x routes time m s.value) in
      let P : Outcome Walk → Type 0 = λ q. Tallied x q.value in
      pick_both P (stopped x s.value) s (messages_read x routes time l t) h (messages_tallied time l t (message_tallied time m s.value h))

  anchor_tallied : (id : ℕ) (time : ChainTime) (l : List (List ℕ)) (r : RangeRead) → Tallied x r.walk → Tallied x (anchor_read x routes id time l r).value.walk
  unfolding anchor_read
  anchor_tallied id time l r h =
      let w = looked x id r.walk in
      let g = looked_tallied x r.walk h id in
      let s = messages_read x routes time (unread w l) (silent w) in
      let P : Outcome RangeRead → Type 0 = λ q. Tallied x q.value.walk in
      pick_both P (ltb id x.position.anchor_id) (silent (popped r)) _ h
      (pick_both P (expired_at x.chain_time time x.limit) _ _ (expired_tallied x w g time (expired_over x.shard routes (unread w l) w.counts.expired) r)
      (finished_tallied x s.value (messages_tallied time (unread w l) (silent w) g) time (length l) r))

  anchors_tallied : (l : List Anchor) (s : Outcome RangeRead) → Tallied x s.value.walk → Tallied x (anchors_read x routes l s).value.walk
  unfolding anchors_read
  anchors_tallied [] s h = h
  anchors_tallied (a ∷ l) s h =
      let t = next_read x routes a s in
      let P : Outcome RangeRead → Type 0 = λ q. Tallied x q.value.walk in
      let n = anchor_tallied a.id (record { 0 = a.time }) a.messages s.value h in
      pick_both P t.value.ended t (anchors_read x routes l t) n (anchors_tallied l t n)

-- ---- the call
module _ (tables area : List ℕ) (t : AnchorsCacheTransaction) (shard : ShardIdent) (routes limits : List ℕ) (processed : List ProcessedTo) (timeout : Seconds) (mode : ReadNextExternalsMode) (range : ExternalsRangeReaderState) (out : List ℕ) where
  pub record EntriesWritten : Type 0 where
    pub entries : List ℕ
    pub stored : (read_call tables area t shard routes limits processed timeout mode range out).out ≡ sets out 0 entries
    pub long : length entries ≡ entry_len * sum_of (read_call tables area t shard routes limits processed timeout mode range out).answer.counts.buffered
    pub fits : length entries ≤ length out

  abbrev six_steps_lem : Outcome RangeRead
  six_steps_lem = range_read tables area t shard routes limits processed timeout mode range (length out)

  steps_tallied : routes_number routes ≡ 0 → Tallied (context_of shard limits processed timeout mode range (length out)) six_steps_lem.value.walk
  unfolding range_read sum_of
  steps_tallied sound =
      let x = context_of shard limits processed timeout mode range (length out) in
      let r = entry_of range (range_free limits range.by_partitions) in
      anchors_tallied x routes sound (view tables area t.cache).anchors (silent r) (record { eight = refl; used = refl; roomy = omega arith })

  pub steps_fit : routes_number routes ≡ 0 → six_steps_lem.value.walk.buffers.used ≤ length out
  steps_fit sound = (steps_tallied sound).roomy

  pub the_output_holds_26_bytes_for_each_message_buffered : EntriesWritten
  unfolding read_call sum_of
  the_output_holds_26_bytes_for_each_message_buffered = record { entries = go_entries b; stored = go_stored b; long = go_long b refl; fits = go_fits b refl }
    where
      n : ℕ
      n = first_no (asked_number tables area t shard routes limits range ∷ six_steps_lem.value.walk.number ∷ [])

      b : Bool
      b = eqb n 0

      go_entries : Bool → List ℕ
      go_entries true = six_steps_lem.entries
      go_entries false = []

      go_stored : (c : Bool) → (pick c (done_result tables t range six_steps_lem out) (record { answer = refused_answer n range t; out = out })).out ≡ sets out 0 (go_entries c)
      go_stored true = refl
      go_stored false = refl

      asked : eqb n 0 ≡ true → asked_number tables area t shard routes limits range ≡ 0
      asked e = (first_zero _ _ (eqb-true n 0 e)).0

      all : eqb n 0 ≡ true → six_steps_lem.value.walk.buffers.used ≡ length six_steps_lem.entries
      all e = (steps_kept tables area t shard routes limits processed timeout mode range (length out) (asked e)).used_part ∙ (omega arith)

      tallied : eqb n 0 ≡ true → Tallied (context_of shard limits processed timeout mode range (length out)) six_steps_lem.value.walk
      tallied e = steps_tallied (passed tables area t shard routes limits range (asked e)).routes_sound

      go_long : (c : Bool) → eqb n 0 ≡ c → length (go_entries c) ≡ entry_len * sum_of (pick c (done_result tables t range six_steps_lem out) (record { answer = refused_answer n range t; out = out })).answer.counts.buffered
      go_long true e = sym (all e) ∙ (tallied e).used
      go_long false e = refl

      go_fits : (c : Bool) → eqb n 0 ≡ c → length (go_entries c) ≤ length out
      go_fits true e = omega (arith, all e, (tallied e).roomy)
      go_fits false e = omega arith
