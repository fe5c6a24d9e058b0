-- A read keeps the number of partitions.
use Prim.Native.Nat.{ℕ}
use mathlib.Core.Path.{◌≡◌}
use mathlib.Core.Bool.{not}
use mathlib.Core.List.{List, [], ◌∷◌}
use lib.Dec.{eqb, ltb}
use lib.ListN.{length, length-set}
use Rattle.rows.proofs.Laws.{pick_both}
use Rattle.ext_types.specs.Time.{expired_at}
use Rattle.ext_types.specs.declared.ChainTime.{ChainTime}
use Rattle.shard_ident.specs.declared.ShardIdent.{ShardIdent}
use Rattle.shard_ident.specs.Shard.{is_ours}
use Rattle.router.specs.Router.{partition_of}
use Rattle.range_rules.specs.declared.Context.{Context}
use Rattle.range_rules.specs.Walks.{Walk, RangeRead, Verdict, Keep, Buffer, Refuse}
use Rattle.range_rules.specs.Rules.{Outcome, silent, followed, advanced, ends, full, stopped, refused_with, read_one, buffered, buffer_one, after, verdict_on, our_read, message_read, messages_read, popped, looked, expired_one, expired_over, expired, is_whole, finished, unread, walked, anchor_read}
use Rattle.range_reader.specs.Ready.{Eight}

module _ (w : Walk) (h : Eight w) where
  eight_advanced : (x : Context) → Eight (advanced x w)
  unfolding advanced
  eight_advanced x = record { partitions = h.partitions; read = h.read; expired = h.expired; buffered = h.buffered }

  pub eight_looked : (x : Context) (id : ℕ) → Eight (looked x id w)
  unfolding looked
  eight_looked x id = record { partitions = h.partitions; read = h.read; expired = h.expired; buffered = h.buffered }

  eight_refused : (n : ℕ) → Eight (refused_with n w)
  unfolding refused_with
  eight_refused n = record { partitions = h.partitions; read = h.read; expired = h.expired; buffered = h.buffered }

  eight_after : (x : Context) (time : ChainTime) (p : ℕ) (v : Verdict) → Eight (after v x time p w).value
  unfolding read_one buffer_one buffered
  eight_after x time p Keep = record { partitions = h.partitions; read = simp length-set h.read; expired = h.expired; buffered = h.buffered }
  eight_after x time p Buffer = record { partitions = simp length-set h.partitions; read = simp length-set h.read; expired = h.expired; buffered = simp length-set h.buffered }
  eight_after x time p (Refuse n) = eight_refused n

eight_message : (x : Context) (routes : List ℕ) (time : ChainTime) (m : List ℕ) (w : Walk) → Eight w → Eight (message_read x routes time m w).value
unfolding message_read our_read
eight_message x routes time m w h =
    let a = advanced x w in
    let p = partition_of routes m in
    let P : Outcome Walk → Type 0 = λ s. Eight s.value in
    pick_both P (is_ours x.shard m) (our_read x time p a) (silent a) (eight_after a (eight_advanced w h x) x time p (verdict_on x p a)) (eight_advanced w h x)

eight_messages : (x : Context) (routes : List ℕ) (time : ChainTime) (l : List (List ℕ)) (s : Outcome Walk) → Eight s.value → Eight (messages_read x routes time l s).value
unfolding messages_read
eight_messages x routes time [] s h = h
eight_messages x routes time (m ∷ l) s h =
    let t = followed s (message_read x routes time m s.value) in
    let P : Outcome Walk → Type 0 = λ q. Eight q.value in
    pick_both P (stopped x s.value) s (messages_read x routes time l t) h (eight_messages x routes time l t (eight_message x routes time m s.value h))

eight_over : (shard : ShardIdent) (routes : List ℕ) (l : List (List ℕ)) (counts : List ℕ) → length counts ≡ 8 → length (expired_over shard routes l counts) ≡ 8
unfolding expired_over expired_one
eight_over shard routes [] counts h = h
eight_over shard routes (m ∷ l) counts h =
    let P : List ℕ → Type 0 = λ c. length c ≡ 8 in
    eight_over shard routes l (expired_one shard routes m counts) (pick_both P (is_ours shard m) _ _ (simp length-set h) h)

module _ (x : Context) (time : ChainTime) (w : Walk) (r : RangeRead) (h : Eight w) where
  eight_expired : (counts : List ℕ) → length counts ≡ 8 → Eight (expired x time counts w r).walk
  unfolding expired
  eight_expired counts e = record { partitions = h.partitions; read = h.read; expired = e; buffered = h.buffered }

  eight_finished : (count : ℕ) → Eight (finished x time count w r).walk
  unfolding finished
  eight_finished count =
      let P : RangeRead → Type 0 = λ q. Eight q.walk in
      pick_both P (not (eqb w.number 0)) _ _ h (pick_both P (ends x.mode w.place.reached) _ _ h (pick_both P (full w.buffers) _ _ h (pick_both P (is_whole w count) _ _ h (eight_refused w h 11))))

pub eight_anchor : (x : Context) (routes : List ℕ) (id : ℕ) (time : ChainTime) (l : List (List ℕ)) (r : RangeRead) → Eight r.walk → Eight (anchor_read x routes id time l r).value.walk
unfolding anchor_read
eight_anchor x routes id time l r h =
    let w = looked x id r.walk in
    let g = eight_looked r.walk h x id in
    let s = messages_read x routes time (unread w l) (silent w) in
    let P : Outcome RangeRead → Type 0 = λ q. Eight q.value.walk in
    pick_both P (ltb id x.position.anchor_id) (silent (popped r)) _ h
    (pick_both P (expired_at x.chain_time time x.limit) _ (walked x time (length l) s r) (eight_expired x time w r g (expired_over x.shard routes (unread w l) w.counts.expired) (eight_over x.shard routes (unread w l) w.counts.expired g.expired))
    (eight_finished x time s.value r (eight_messages x routes time (unread w l) (silent w) g) (length l)))
