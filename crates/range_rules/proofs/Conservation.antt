-- Every message of ours that the read passes is counted once, as read or as expired, in its own partition.
use Prim.Native.Nat.{ℕ, suc, ◌+◌, ◌-◌, ◌≤◌, ◌<◌, zero}
use mathlib.Core.Path.{◌≡◌, refl, sym, ap, ◌∙◌}
use mathlib.Core.Bool.{Bool, true, false, not, ◌||◌}
use mathlib.Core.List.{List, [], ◌∷◌, ◌++◌}
use mathlib.Core.Logic.{◌⊎◌, inl, inr}
use native.Mathlib.Omega.{arith}
use lib.Dec.{eqb, ltb, leb}
use lib.ListN.{length, get_or, take, drop, length-set, length-take, length-drop, replicate}
use lib.Seq.{get_or-set_same, get_or-set_other, take_all}
use borrow.Author.Tests.{eqb-true, eqb-false, ne_eqb}
use Rattle.rows.specs.Rows.{pick}
use Rattle.rows.proofs.Laws.{pick_yes, pick_both, never}
use Rattle.ext_types.specs.declared.ChainTime.{ChainTime}
use Rattle.ext_types.specs.declared.ExternalKey.{ExternalKey}
use Rattle.ext_types.specs.Keys.{key_above}
use Rattle.ext_types.specs.Time.{expired_at}
use Rattle.shard_ident.specs.declared.ShardIdent.{ShardIdent}
use Rattle.shard_ident.specs.Shard.{is_ours}
use Rattle.router.specs.Router.{partition_of, routes_number}
use Rattle.router.proofs.Laws.{a_partition_is_at_most_7}
use Rattle.messages_buffer.specs.declared.ExternalsPartitionRangeReaderState.{ExternalsPartitionRangeReaderState}
use Rattle.messages_buffer.specs.Fullness.{no_partition, range_free}
use Rattle.cache_rules.specs.Rules.{Anchor}
use Rattle.range_rules.specs.declared.Context.{Context}
use Rattle.range_rules.specs.declared.Place.{Place}
use Rattle.range_rules.specs.Walks.{Walk, RangeRead, Verdict, Keep, Buffer, Refuse}
use Rattle.range_rules.specs.declared.ReadCounts.{ReadCounts}
use Rattle.range_rules.specs.declared.ProcessedTo.{ProcessedTo}
use Rattle.ext_types.proofs.Laws.{fact_above, above_transitive}
use Rattle.range_rules.specs.declared.ExternalsRangeReaderState.{ExternalsRangeReaderState}
use Rattle.range_rules.proofs.Counts.{zeros}
use Rattle.range_rules.specs.Rules.{range_after, six_steps, entry_of, key_at, raised, moved_to, look_key, Outcome, silent, followed, next_key, advanced, ends, full, stopped, judge, no_processed, more, refused_with, read_one, buffer_one, after, verdict_on, our_read, message_read, messages_read, popped, offset_in, looked, expired_one, expired_over, expired, is_whole, finished, unread, walked, anchor_read, next_read, anchors_read, entry_len}
use Rattle.range_rules.proofs.Walks.{message_place}
use Rattle.range_rules.proofs.Positions.{finished_place, looked_key}

-- ---- counting per partition
-- ours of partition p among some messages
unfoldable pub ours_in : ShardIdent → List ℕ → ℕ → List (List ℕ) → ℕ
ours_in shard routes p [] = 0
ours_in shard routes p (m ∷ l) = pick (is_ours shard m) (pick (eqb (partition_of routes m) p) 1 0) 0 + ours_in shard routes p l

more_at : (c : List ℕ) (q p : ℕ) → q < length c → get_or (more c q) p 0 ≡ get_or c p 0 + pick (eqb q p) 1 0
more_at c q p h = go (eqb q p) refl
  where
    go : (b : Bool) → eqb q p ≡ b → get_or (more c q) p 0 ≡ get_or c p 0 + pick b 1 0
    go true e = let f : q ≡ p = eqb-true q p e in rw (sym f) (get_or-set_same c q (get_or c q 0 + 1) 0 h)
    go false e = get_or-set_other c q p (get_or c q 0 + 1) 0 (λ f. eqb-false q p e (sym f)) ∙ (omega arith)

module _ (shard : ShardIdent) (routes : List ℕ) (sound : routes_number routes ≡ 0) where
  one_long : (m c : List ℕ) → length (expired_one shard routes m c) ≡ length c
  unfolding expired_one
  one_long m c =
      let P : List ℕ → Type 0 = λ l. length l ≡ length c in
      pick_both P (is_ours shard m) (more c (partition_of routes m)) c (length-set c (partition_of routes m) (get_or c (partition_of routes m) 0 + 1)) refl

  one_at : (m c : List ℕ) (p : ℕ) → length c ≡ 8 → get_or (expired_one shard routes m c) p 0 ≡ get_or c p 0 + pick (is_ours shard m) (pick (eqb (partition_of routes m) p) 1 0) 0
  unfolding expired_one
  one_at m c p h = go (is_ours shard m)
    where
      go : (b : Bool) → get_or (pick b (more c (partition_of routes m)) c) p 0 ≡ get_or c p 0 + pick b (pick (eqb (partition_of routes m) p) 1 0) 0
      go true = more_at c (partition_of routes m) p (omega (arith, a_partition_is_at_most_7 routes m sound))
      go false = omega arith

  over_long : (l : List (List ℕ)) (c : List ℕ) → length (expired_over shard routes l c) ≡ length c
  unfolding expired_over
  over_long [] c = refl
  over_long (m ∷ l) c = over_long l (expired_one shard routes m c) ∙ one_long m c

  over_at : (l : List (List ℕ)) (c : List ℕ) (p : ℕ) → length c ≡ 8 → get_or (expired_over shard routes l c) p 0 ≡ get_or c p 0 + ours_in shard routes p l
  unfolding expired_over ours_in
  over_at [] c p h = omega arith
  over_at (m ∷ l) c p h = over_at l (expired_one shard routes m c) p (one_long m c ∙ h) ∙ omega (arith, one_at m c p h)

-- ---- where k messages of an anchor, read from a key on, leave the position and "to"; where none was read, as before
abbrev pub read_to : ExternalKey → ℕ → ExternalKey → ExternalKey
read_to key zero p = p
read_to key (suc k) p = key_at key.anchor_id (key.msgs_offset + suc k)

abbrev pub raised_to : ExternalKey → ℕ → ExternalKey → ExternalKey
raised_to key zero to = to
raised_to key (suc k) to = raised (key_at key.anchor_id (key.msgs_offset + suc k)) to

read_next : (key : ExternalKey) (k : ℕ) → read_to (next_key key) k (next_key key) ≡ key_at key.anchor_id (key.msgs_offset + suc k)
read_next key zero = refl
read_next key (suc k) = ap (key_at key.anchor_id) (omega arith)

-- a lower key raised "to" in vain
raised_twice : (a b to : ExternalKey) → key_above b a ≡ true → raised b (raised a to) ≡ raised b to
raised_twice a b to h = go (key_above a to) refl
  where
    go : (c : Bool) → key_above a to ≡ c → raised b (pick c a to) ≡ raised b to
    go true e = pick_yes _ _ _ h ∙ sym (pick_yes _ _ _ (above_transitive b a to h e))
    go false e = refl

raised_next : (key to : ExternalKey) (k : ℕ) → raised_to (next_key key) k (raised (next_key key) to) ≡ raised (key_at key.anchor_id (key.msgs_offset + suc k)) to
raised_next key to zero = refl
raised_next key to (suc k) =
    let b = key_at key.anchor_id (key.msgs_offset + 1 + suc k) in
    raised_twice (next_key key) b to (fact_above b (next_key key) (inr (refl, omega arith))) ∙ ap (λ (n : ℕ). raised (key_at key.anchor_id n) to) (omega arith)

-- ---- the messages of an anchor
-- what is buffered of messages read from a key on: those of ours above their partition's processed position
abbrev pub buffered_one : Context → List ℕ → ExternalKey → List ℕ → List ℕ → List ℕ
buffered_one x routes key m c = pick (is_ours x.shard m) (pick (key_above key (get_or x.processed (partition_of routes m) no_processed).key) (more c (partition_of routes m)) c) c

unfoldable pub buffered_over : Context → List ℕ → ExternalKey → List (List ℕ) → List ℕ → List ℕ
buffered_over x routes key [] c = c
buffered_over x routes key (m ∷ l) c = buffered_over x routes (next_key key) l (buffered_one x routes (next_key key) m c)

-- v is w after the first k of the messages
pub record ReadFirst (x : Context) (routes : List ℕ) (l : List (List ℕ)) (w v : Walk) : Type 0 where
  pub k : ℕ
  pub few : k ≤ length l
  pub read : v.counts.read ≡ expired_over x.shard routes (take k l) w.counts.read
  pub expired : v.counts.expired ≡ w.counts.expired
  pub buffered : v.counts.buffered ≡ buffered_over x routes w.place.key (take k l) w.counts.buffered
  pub offset : v.place.key.msgs_offset ≡ w.place.key.msgs_offset + k
  pub position : v.place.position ≡ read_to w.place.key k w.place.position
  pub to : v.place.to ≡ raised_to w.place.key k w.place.to

-- what each verdict says of the key
Says : Verdict → Bool → Type 0
Says Keep above = above ≡ false
Says Buffer above = above ≡ true
Says (Refuse n) above = n ≡ 0 → ⊥

judge_says : (q : ProcessedTo) (partition : ExternalsPartitionRangeReaderState) (key : ExternalKey) (room : Bool) → Says (judge q partition key room) (key_above key q.key)
unfolding judge Says
judge_says q partition key room = go q.present (key_above key q.key) partition.present room
  where
    go : (a b c d : Bool) → Says (pick a (pick b (pick c (pick d Buffer (Refuse 14)) (Refuse 13)) Keep) (Refuse 12)) b
    go true true true true = refl
    go true true true false = λ e. omega arith
    go true true false d = λ e. omega arith
    go true false c d = refl
    go false b c d = λ e. omega arith

module _ (x : Context) (time : ChainTime) (p : ℕ) (w : Walk) where
  after_counts : (v : Verdict) (above : Bool) → Says v above → (after v x time p w).value.number ≡ 0
      → ((after v x time p w).value.counts.read ≡ more w.counts.read p) × (((after v x time p w).value.counts.expired ≡ w.counts.expired) × ((after v x time p w).value.counts.buffered ≡ pick above (more w.counts.buffered p) w.counts.buffered))
  unfolding read_one buffer_one refused_with Says
  after_counts Keep above h e = (refl, (refl, rw h))
  after_counts Buffer above h e = (refl, (refl, rw h))
  after_counts (Refuse n) above h e = absurd (h e)

module _ (x : Context) (routes : List ℕ) (time : ChainTime) where
  message_counts : (m : List ℕ) (w : Walk) → (message_read x routes time m w).value.number ≡ 0
      → ((message_read x routes time m w).value.counts.read ≡ expired_one x.shard routes m w.counts.read)
      × (((message_read x routes time m w).value.counts.expired ≡ w.counts.expired) × ((message_read x routes time m w).value.counts.buffered ≡ buffered_one x routes (next_key w.place.key) m w.counts.buffered))
  unfolding message_read our_read expired_one advanced
  message_counts m w = go (is_ours x.shard m)
    where
      go : (b : Bool) → (pick b (our_read x time (partition_of routes m) (advanced x w)) (silent (advanced x w))).value.number ≡ 0
          → ((pick b (our_read x time (partition_of routes m) (advanced x w)) (silent (advanced x w))).value.counts.read ≡ pick b (more w.counts.read (partition_of routes m)) w.counts.read)
          × (((pick b (our_read x time (partition_of routes m) (advanced x w)) (silent (advanced x w))).value.counts.expired ≡ w.counts.expired)
          × ((pick b (our_read x time (partition_of routes m) (advanced x w)) (silent (advanced x w))).value.counts.buffered
          ≡ pick b (pick (key_above (next_key w.place.key) (get_or x.processed (partition_of routes m) no_processed).key) (more w.counts.buffered (partition_of routes m)) w.counts.buffered) w.counts.buffered))
      go true e = after_counts x time (partition_of routes m) (advanced x w) (verdict_on x (partition_of routes m) (advanced x w)) (key_above (next_key w.place.key) (get_or x.processed (partition_of routes m) no_processed).key)
          (judge_says (get_or x.processed (partition_of routes m) no_processed) (get_or w.buffers.by_partitions (partition_of routes m) no_partition) (next_key w.place.key) (leb (w.buffers.used + entry_len) x.room)) e
      go false e = (refl, (refl, refl))

  message_moved : (m : List ℕ) (w : Walk) → (message_read x routes time m w).value.place ≡ moved_to x.saved_end (next_key w.place.key) w.place
  unfolding advanced
  message_moved m w = message_place x routes time m w

  -- a walk that was refused stands still
  stuck : (l : List (List ℕ)) (s : Outcome Walk) → (s.value.number ≡ 0 → ⊥) → messages_read x routes time l s ≡ s
  unfolding messages_read stopped
  stuck [] s h = refl
  stuck (m ∷ l) s h = pick_yes _ _ _ (ap (λ (b : Bool). not b || (full s.value.buffers || ends x.mode s.value.place.reached)) (ne_eqb s.value.number 0 h))

  was_zero : (l : List (List ℕ)) (s : Outcome Walk) → (messages_read x routes time l s).value.number ≡ 0 → s.value.number ≡ 0
  was_zero l s e = go (eqb s.value.number 0) refl
    where
      go : (b : Bool) → eqb s.value.number 0 ≡ b → s.value.number ≡ 0
      go true h = eqb-true s.value.number 0 h
      go false h = ap (λ (t : Outcome Walk). t.value.number) (sym (stuck l s (eqb-false s.value.number 0 h))) ∙ e

  nothing_read_lem : (l : List (List ℕ)) (w : Walk) → ReadFirst x routes l w w
  unfolding expired_over buffered_over
  nothing_read_lem l w = record { k = 0; few = omega arith; read = refl; expired = refl; buffered = refl; offset = omega arith; position = refl; to = refl }

  one_read : (m : List ℕ) (l : List (List ℕ)) (w u v : Walk) → (u.counts.read ≡ expired_one x.shard routes m w.counts.read)
      × ((u.counts.expired ≡ w.counts.expired) × (u.counts.buffered ≡ buffered_one x routes (next_key w.place.key) m w.counts.buffered)) → u.place ≡ moved_to x.saved_end (next_key w.place.key) w.place → ReadFirst x routes l u v → ReadFirst x routes (m ∷ l) w v
  unfolding expired_over buffered_over
  one_read m l w u v c f h =
      let e : u.place.key ≡ next_key w.place.key = ap (λ (p : Place). p.key) f in
      record {
        k = suc h.k;
        few = omega (arith, h.few);
        read = h.read ∙ ap (expired_over x.shard routes (take h.k l)) c.0;
        expired = h.expired ∙ c.1.0;
        buffered = h.buffered ∙ (ap (λ (n : ExternalKey). buffered_over x routes n (take h.k l) u.counts.buffered) e ∙ ap (buffered_over x routes (next_key w.place.key) (take h.k l)) c.1.1);
        offset = h.offset ∙ omega (arith, ap (λ (n : ExternalKey). n.msgs_offset) e);
        position = h.position ∙ (ap (λ (p : Place). read_to p.key h.k p.position) f ∙ read_next w.place.key h.k);
        to = h.to ∙ (ap (λ (p : Place). raised_to p.key h.k p.to) f ∙ raised_next w.place.key w.place.to h.k);
      }

  pub the_walk_reads_the_first_messages_in_order : (l : List (List ℕ)) (s : Outcome Walk) → (messages_read x routes time l s).value.number ≡ 0 → ReadFirst x routes l s.value (messages_read x routes time l s).value
  unfolding messages_read
  the_walk_reads_the_first_messages_in_order [] s = λ e. nothing_read_lem [] s.value
  the_walk_reads_the_first_messages_in_order (m ∷ l) s = go (stopped x s.value) (λ n. the_walk_reads_the_first_messages_in_order l (followed s (message_read x routes time m s.value)) n)
    where
      t : Outcome Walk
      t = followed s (message_read x routes time m s.value)

      go : (b : Bool) → ((messages_read x routes time l t).value.number ≡ 0 → ReadFirst x routes l t.value (messages_read x routes time l t).value)
          → (pick b s (messages_read x routes time l (followed s (message_read x routes time m s.value)))).value.number ≡ 0
          → ReadFirst x routes (m ∷ l) s.value (pick b s (messages_read x routes time l (followed s (message_read x routes time m s.value)))).value
      go true f e = nothing_read_lem (m ∷ l) s.value
      go false f e = one_read m l s.value t.value (messages_read x routes time l t).value (message_counts m s.value (was_zero l t e)) (message_moved m s.value) (f e)

-- ---- one anchor
-- ours passed, in partition p
abbrev pub passed_in : ReadCounts → ℕ → ℕ
passed_in c p = get_or c.read p 0 + get_or c.expired p 0

pub record Eight (c : ReadCounts) : Type 0 where
  pub read : length c.read ≡ 8
  pub expired : length c.expired ≡ 8

-- an anchor's messages from the entry position on
abbrev pub unread_in : Context → ℕ → List (List ℕ) → List (List ℕ)
unread_in x id l = pick (ltb id x.position.anchor_id) [] (drop (offset_in x.position id) l)

-- the buffered counts with messages of one anchor: nothing of an expired one, else those above the processed position
abbrev pub with_buffered : Bool → Context → List ℕ → ℕ → List (List ℕ) → List ℕ → List ℕ
with_buffered expired x routes id l c = pick expired c (buffered_over x routes (look_key x id) l c)

none_buffered : (expired : Bool) (x : Context) (routes : List ℕ) (id : ℕ) (c : List ℕ) → with_buffered expired x routes id [] c ≡ c
unfolding buffered_over
none_buffered true x routes id c = refl
none_buffered false x routes id c = refl

-- where passing k messages of an anchor leaves the position and "to": a skipped one as before, an expired one at its id
-- and offset, another behind the last message read
abbrev pub position_in : Bool → Bool → Context → ℕ → ℕ → ExternalKey → ExternalKey
position_in skipped expired x id k p = pick skipped p (pick expired (look_key x id) (read_to (look_key x id) k p))

abbrev pub to_in : Bool → Bool → Context → ℕ → ℕ → ExternalKey → ExternalKey
to_in skipped expired x id k to = pick skipped to (pick expired (raised (look_key x id) to) (raised_to (look_key x id) k to))

-- the first k of them were passed; all of them where the anchor was popped, and where it was not the read ended
pub record AnchorPassed (x : Context) (routes : List ℕ) (id : ℕ) (skipped expired : Bool) (l : List (List ℕ)) (r q : RangeRead) : Type 0 where
  pub k : ℕ
  pub few : k ≤ length l
  pub position : q.walk.place.position ≡ position_in skipped expired x id k r.walk.place.position
  pub to : q.walk.place.to ≡ to_in skipped expired x id k r.walk.place.to
  pub looked_at : q.pops ≡ r.pops → (skipped ≡ false) × (expired ≡ false)
  pub buffered : q.walk.counts.buffered ≡ with_buffered expired x routes id (take k l) r.walk.counts.buffered
  pub counts : (p : ℕ) → passed_in q.walk.counts p ≡ passed_in r.walk.counts p + ours_in x.shard routes p (take k l)
  pub expired_counts : (p : ℕ) → get_or q.walk.counts.expired p 0 ≡ get_or r.walk.counts.expired p 0 + pick expired (ours_in x.shard routes p (take k l)) 0
  pub eight : Eight q.walk.counts
  pub popped_or_ended : ((q.pops ≡ r.pops + 1) × (take k l ≡ l)) ⊎ ((q.pops ≡ r.pops) × (q.ended ≡ true))

refused_number : (n : ℕ) (w : Walk) → (refused_with n w).number ≡ n
unfolding refused_with
refused_number n w = refl

refused_counts : (n : ℕ) (w : Walk) → (refused_with n w).counts ≡ w.counts
unfolding refused_with
refused_counts n w = refl

module _ (x : Context) (time : ChainTime) (count : ℕ) (w : Walk) (r : RangeRead) where
  finished_counts : (finished x time count w r).walk.counts ≡ w.counts
  unfolding finished
  finished_counts =
      let P : RangeRead → Type 0 = λ q. q.walk.counts ≡ w.counts in
      pick_both P (not (eqb w.number 0)) _ _ refl
      (pick_both P (ends x.mode w.place.reached) _ _ refl (pick_both P (full w.buffers) _ _ refl (pick_both P (is_whole w count) _ _ refl (refused_counts 11 w))))

  finished_number : (finished x time count w r).walk.number ≡ 0 → w.number ≡ 0
  unfolding finished
  finished_number =
      let P : RangeRead → Type 0 = λ q. q.walk.number ≡ 0 → w.number ≡ 0 in
      pick_both P (not (eqb w.number 0)) _ _ (λ e. e)
      (pick_both P (ends x.mode w.place.reached) _ _ (λ e. e) (pick_both P (full w.buffers) _ _ (λ e. e) (pick_both P (is_whole w count) _ _ (λ e. e) (λ e. absurd (let z = refused_number 11 w in omega arith)))))

  -- a look that does not end the read was not refused
  finished_going : (finished x time count w r).ended ≡ false → (finished x time count w r).walk.number ≡ 0
  unfolding finished
  finished_going = go (eqb w.number 0) refl
    where
      P : RangeRead → Type 0
      P q = q.ended ≡ false → q.walk.number ≡ 0

      go : (b : Bool) → eqb w.number 0 ≡ b → (finished x time count w r).ended ≡ false → (finished x time count w r).walk.number ≡ 0
      go true h =
          pick_both P (not (eqb w.number 0)) _ _ (λ e. never e)
          (pick_both P (ends x.mode w.place.reached) _ _ (λ e. never e) (pick_both P (full w.buffers) _ _ (λ e. never e) (pick_both P (is_whole w count) _ _ (λ e. eqb-true w.number 0 h) (λ e. never e))))
      go false h = rw h (λ e. never e)

  -- an anchor read to its end is popped; else the read ends
  finished_pops : (finished x time count w r).walk.number ≡ 0
      → (((finished x time count w r).pops ≡ r.pops + 1) × (w.place.key.msgs_offset ≡ count)) ⊎ (((finished x time count w r).pops ≡ r.pops) × ((finished x time count w r).ended ≡ true))
  unfolding finished
  finished_pops = go (is_whole w count) refl
    where
      P : RangeRead → Type 0
      P q = ((q.pops ≡ r.pops + 1) × (w.place.key.msgs_offset ≡ count)) ⊎ ((q.pops ≡ r.pops) × (q.ended ≡ true))

      go : (b : Bool) → is_whole w count ≡ b → (finished x time count w r).walk.number ≡ 0 → P (finished x time count w r)
      go true h e =
          let z = eqb-true w.place.key.msgs_offset count h in
          rw h (pick_both P (not (eqb w.number 0)) _ _ (inl (refl, z)) (pick_both P (ends x.mode w.place.reached) _ _ (inl (refl, z)) (pick_both P (full w.buffers) _ _ (inl (refl, z)) (inl (refl, z)))))
      go false h e =
          rw h (pick_both P (not (eqb w.number 0)) _ _ (inr (refl, refl)) (pick_both P (ends x.mode w.place.reached) _ _ (inr (refl, refl)) (pick_both P (full w.buffers) _ _ (inr (refl, refl)) (inr (refl, refl)))))

looked_counts : (x : Context) (id : ℕ) (w : Walk) → (looked x id w).counts ≡ w.counts
unfolding looked
looked_counts x id w = refl

looked_number : (x : Context) (id : ℕ) (w : Walk) → (looked x id w).number ≡ w.number
unfolding looked
looked_number x id w = refl

looked_place : (x : Context) (id : ℕ) (w : Walk) → ((looked x id w).place.position ≡ w.place.position) × ((looked x id w).place.to ≡ w.place.to)
unfolding looked
looked_place x id w = (refl, refl)

looked_offset : (x : Context) (id : ℕ) (w : Walk) → (looked x id w).place.key.msgs_offset ≡ offset_in x.position id
unfolding looked
looked_offset x id w = refl

module _ (x : Context) (routes : List ℕ) (time : ChainTime) (sound : routes_number routes ≡ 0) where
  -- a look that does not end the read was not refused
  going_number : (id : ℕ) (l : List (List ℕ)) (r : RangeRead) → r.walk.number ≡ 0 → (anchor_read x routes id time l r).value.ended ≡ false → (anchor_read x routes id time l r).value.walk.number ≡ 0
  unfolding anchor_read expired
  going_number id l r n =
      let w = looked x id r.walk in
      let s = messages_read x routes time (unread w l) (silent w) in
      let P : Outcome RangeRead → Type 0 = λ q. q.value.ended ≡ false → q.value.walk.number ≡ 0 in
      pick_both P (ltb id x.position.anchor_id) (silent (popped r)) _ (λ e. n)
      (pick_both P (expired_at x.chain_time time x.limit) _ _ (λ e. looked_number x id r.walk ∙ n) (finished_going x time (length l) s.value r))

  module _ (id : ℕ) (l : List (List ℕ)) (r : RangeRead) (eight : Eight r.walk.counts) where
    expired_passed : AnchorPassed x routes id false true (drop (offset_in x.position id) l) r (expired x time (expired_over x.shard routes (unread (looked x id r.walk) l) (looked x id r.walk).counts.expired) (looked x id r.walk) r)
    unfolding expired
    expired_passed =
        let w = looked x id r.walk in
        let u = drop (offset_in x.position id) l in
        let o = looked_offset x id r.walk in
        let c = looked_counts x id r.walk in
        let a : take (length u) u ≡ u = take_all (length u) u (omega arith) in
        let g : expired_over x.shard routes (unread w l) w.counts.expired ≡ expired_over x.shard routes u r.walk.counts.expired = ap (λ (n : ℕ). expired_over x.shard routes (drop n l) w.counts.expired) o ∙ ap (λ (n : ReadCounts). expired_over x.shard routes u n.expired) c in
        record {
          k = length u;
          few = omega arith;
          position = looked_key x id r.walk;
          to = ap (λ (n : ExternalKey). raised n w.place.to) (looked_key x id r.walk) ∙ ap (raised (look_key x id)) (looked_place x id r.walk).1;
          looked_at = λ q. absurd (omega (arith, q));
          buffered = ap (λ (n : ReadCounts). n.buffered) c;
          expired_counts = λ p. rw (a, g) (over_at x.shard routes sound u r.walk.counts.expired p eight.expired);
          counts = λ p. rw (a, g) (omega (arith, over_at x.shard routes sound u r.walk.counts.expired p eight.expired, ap (λ (n : ReadCounts). get_or n.read p 0) c));
          eight = record { read = ap (λ (n : ReadCounts). length n.read) c ∙ eight.read; expired = ap length g ∙ (over_long x.shard routes sound u r.walk.counts.expired ∙ eight.expired) };
          popped_or_ended = inl (refl, a);
        }

    walked_passed : (finished x time (length l) (messages_read x routes time (unread (looked x id r.walk) l) (silent (looked x id r.walk))).value r).walk.number ≡ 0
        → AnchorPassed x routes id false false (drop (offset_in x.position id) l) r (finished x time (length l) (messages_read x routes time (unread (looked x id r.walk) l) (silent (looked x id r.walk))).value r)
    walked_passed e =
        let w = looked x id r.walk in
        let u = drop (offset_in x.position id) l in
        let o = looked_offset x id r.walk in
        let c = looked_counts x id r.walk in
        let v = (messages_read x routes time (unread w l) (silent w)).value in
        let f = finished_counts x time (length l) v r in
        let h = the_walk_reads_the_first_messages_in_order x routes time (unread w l) (silent w) (finished_number x time (length l) v r e) in
        let t : take h.k (unread w l) ≡ take h.k u = ap (λ (n : ℕ). take h.k (drop n l)) o in
        let g : v.counts.read ≡ expired_over x.shard routes (take h.k u) r.walk.counts.read = h.read ∙ (ap (λ (m : List (List ℕ)). expired_over x.shard routes m w.counts.read) t ∙ ap (λ (n : ReadCounts). expired_over x.shard routes (take h.k u) n.read) c) in
        let b : v.counts.expired ≡ r.walk.counts.expired = h.expired ∙ ap (λ (n : ReadCounts). n.expired) c in
        let n : length u ≡ length l - offset_in x.position id = length-drop (offset_in x.position id) l in
        let d = finished_place x time (length l) v r in
        let y : length (unread w l) ≡ length u = ap (λ (n : ℕ). length (drop n l)) o in
        record {
          k = h.k;
          few = omega (arith, h.few);
          position = ap (λ (n : Place). n.position) d ∙ (h.position ∙ (ap (λ (n : ExternalKey). read_to n h.k w.place.position) (looked_key x id r.walk) ∙ ap (read_to (look_key x id) h.k) (looked_place x id r.walk).0));
          to = ap (λ (n : Place). n.to) d ∙ (h.to ∙ (ap (λ (n : ExternalKey). raised_to n h.k w.place.to) (looked_key x id r.walk) ∙ ap (raised_to (look_key x id) h.k) (looked_place x id r.walk).1));
          looked_at = λ q. (refl, refl);
          buffered =
              ap (λ (d : ReadCounts). d.buffered) f
              ∙ (h.buffered
              ∙ (ap (λ (n : ExternalKey). buffered_over x routes n (take h.k (unread w l)) w.counts.buffered) (looked_key x id r.walk)
              ∙ (ap (λ (m : List (List ℕ)). buffered_over x routes (look_key x id) m w.counts.buffered) t ∙ ap (λ (n : ReadCounts). buffered_over x routes (look_key x id) (take h.k u) n.buffered) c)));
          expired_counts = λ p. ap (λ (d : ReadCounts). get_or d.expired p 0) f ∙ (ap (λ (d : List ℕ). get_or d p 0) b ∙ omega arith);
          counts = λ p. omega (arith, ap (λ (d : ReadCounts). get_or d.read p 0 + get_or d.expired p 0) f, ap (λ (d : List ℕ). get_or d p 0) g, ap (λ (d : List ℕ). get_or d p 0) b, over_at x.shard routes sound (take h.k u) r.walk.counts.read p eight.read);
          eight = record {
            read = ap (λ (d : ReadCounts). length d.read) f ∙ (ap length g ∙ (over_long x.shard routes sound (take h.k u) r.walk.counts.read ∙ eight.read));
            expired = ap (λ (d : ReadCounts). length d.expired) f ∙ (ap length b ∙ eight.expired);
          };
          popped_or_ended = ended (finished x time (length l) v r) u h.k (finished_pops x time (length l) v r e) (λ (q : v.place.key.msgs_offset ≡ length l). omega (arith, h.offset, o, n));
        }
      where
        ended : (q : RangeRead) (u : List (List ℕ)) (k : ℕ) {A : Type 0} → ((q.pops ≡ r.pops + 1) × A) ⊎ ((q.pops ≡ r.pops) × (q.ended ≡ true)) → (A → length u ≤ k) → ((q.pops ≡ r.pops + 1) × (take k u ≡ u)) ⊎ ((q.pops ≡ r.pops) × (q.ended ≡ true))
        ended q u k (inl h) f = inl (h.0, take_all k u (f h.1))
        ended q u k (inr h) f = inr h

    pub anchor_passed : (anchor_read x routes id time l r).value.walk.number ≡ 0 → AnchorPassed x routes id (ltb id x.position.anchor_id) (expired_at x.chain_time time x.limit) (unread_in x id l) r (anchor_read x routes id time l r).value
    unfolding anchor_read ours_in
    anchor_passed = go (ltb id x.position.anchor_id) (expired_at x.chain_time time x.limit)
      where
        w : Walk
        w = looked x id r.walk

        no_more : (b : Bool) (p : ℕ) → get_or r.walk.counts.expired p 0 ≡ get_or r.walk.counts.expired p 0 + pick b 0 0
        no_more true p = omega arith
        no_more false p = omega arith

        go : (a b : Bool) → (pick a (silent (popped r)) (pick b (silent (expired x time (expired_over x.shard routes (unread w l) w.counts.expired) w r)) (walked x time (length l) (messages_read x routes time (unread w l) (silent w)) r))).value.walk.number ≡ 0
            → AnchorPassed x routes id a b (pick a [] (drop (offset_in x.position id) l)) r (pick a (silent (popped r)) (pick b (silent (expired x time (expired_over x.shard routes (unread w l) w.counts.expired) w r)) (walked x time (length l) (messages_read x routes time (unread w l) (silent w)) r))).value
        go true b e = record { k = 0; few = omega arith; position = refl; to = refl; looked_at = λ q. absurd (omega (arith, q)); buffered = sym (none_buffered b x routes id r.walk.counts.buffered); counts = λ p. omega arith; expired_counts = λ p. no_more b p; eight = eight; popped_or_ended = inl (refl, refl) }
        go false true e = expired_passed
        go false false e = walked_passed e

  -- an anchor is read from the offset on, with what is above the processed position buffered, or nothing of it is read
  -- or buffered
  pub what_is_buffered_is_what_was_read_above_the_processed_position : (id : ℕ) (l : List (List ℕ)) (r : RangeRead) → (anchor_read x routes id time l r).value.walk.number ≡ 0
      → (ReadFirst x routes (unread (looked x id r.walk) l) (looked x id r.walk) (anchor_read x routes id time l r).value.walk)
      ⊎ (((anchor_read x routes id time l r).value.walk.counts.read ≡ r.walk.counts.read) × ((anchor_read x routes id time l r).value.walk.counts.buffered ≡ r.walk.counts.buffered))
  unfolding anchor_read expired
  what_is_buffered_is_what_was_read_above_the_processed_position id l r =
      let w = looked x id r.walk in
      let s = messages_read x routes time (unread w l) (silent w) in
      let c = looked_counts x id r.walk in
      let P : Outcome RangeRead → Type 0 = λ q. q.value.walk.number ≡ 0 → (ReadFirst x routes (unread w l) w q.value.walk) ⊎ ((q.value.walk.counts.read ≡ r.walk.counts.read) × (q.value.walk.counts.buffered ≡ r.walk.counts.buffered)) in
      pick_both P (ltb id x.position.anchor_id) (silent (popped r)) _ (λ e. inr (refl, refl))
      (pick_both P (expired_at x.chain_time time x.limit) _ _ (λ e. inr (ap (λ (n : ReadCounts). n.read) c, ap (λ (n : ReadCounts). n.buffered) c))
      (λ e. inl (same (unread w l) w s.value (finished x time (length l) s.value r).walk (finished_counts x time (length l) s.value r) (finished_place x time (length l) s.value r)
      (the_walk_reads_the_first_messages_in_order x routes time (unread w l) (silent w) (finished_number x time (length l) s.value r e)))))
    where
      same : (l : List (List ℕ)) (w v q : Walk) → q.counts ≡ v.counts → q.place ≡ v.place → ReadFirst x routes l w v → ReadFirst x routes l w q
      same l w v q c p h = record {
        k = h.k;
        few = h.few;
        read = ap (λ (n : ReadCounts). n.read) c ∙ h.read;
        expired = ap (λ (n : ReadCounts). n.expired) c ∙ h.expired;
        buffered = ap (λ (n : ReadCounts). n.buffered) c ∙ h.buffered;
        offset = ap (λ (n : Place). n.key.msgs_offset) p ∙ h.offset;
        position = ap (λ (n : Place). n.position) p ∙ h.position;
        to = ap (λ (n : Place). n.to) p ∙ h.to;
      }

-- ---- all anchors
-- the messages of some anchors from the entry position on, and those of the first of them
unfoldable pub unread_all : Context → List Anchor → List (List ℕ)
unread_all x [] = []
unread_all x (a ∷ l) = unread_in x a.id a.messages ++ unread_all x l

unfoldable pub front_unread : Context → List Anchor → List (List ℕ)
front_unread x [] = []
front_unread x (a ∷ l) = unread_in x a.id a.messages

ours_append : (shard : ShardIdent) (routes : List ℕ) (p : ℕ) (a b : List (List ℕ)) → ours_in shard routes p (a ++ b) ≡ ours_in shard routes p a + ours_in shard routes p b
unfolding ours_in
ours_append shard routes p [] b = omega arith
ours_append shard routes p (m ∷ a) b = omega (arith, ours_append shard routes p a b)

-- the buffered counts with all anchors of a list, and with the first k unread messages of its front
abbrev pub anchor_buffered : Context → List ℕ → Anchor → List (List ℕ) → List ℕ → List ℕ
anchor_buffered x routes a l c = with_buffered (expired_at x.chain_time (record { 0 = a.time }) x.limit) x routes a.id l c

unfoldable pub all_buffered : Context → List ℕ → List Anchor → List ℕ → List ℕ
all_buffered x routes [] c = c
all_buffered x routes (a ∷ l) c = all_buffered x routes l (anchor_buffered x routes a (unread_in x a.id a.messages) c)

unfoldable pub front_buffered : Context → List ℕ → ℕ → List Anchor → List ℕ → List ℕ
front_buffered x routes k [] c = c
front_buffered x routes k (a ∷ l) c = anchor_buffered x routes a (take k (unread_in x a.id a.messages)) c

front_none : (x : Context) (routes : List ℕ) (l : List Anchor) (c : List ℕ) → front_buffered x routes 0 l c ≡ c
unfolding front_buffered
front_none x routes [] c = refl
front_none x routes (a ∷ l) c = none_buffered (expired_at x.chain_time (record { 0 = a.time }) x.limit) x routes a.id c

-- where passing a list of anchors whole, and k messages of its front, leaves the position and "to"; the front at which
-- a read ends is neither skipped nor expired
abbrev anchor_position : Context → Anchor → ExternalKey → ExternalKey
anchor_position x a p = position_in (ltb a.id x.position.anchor_id) (expired_at x.chain_time (record { 0 = a.time }) x.limit) x a.id (length (unread_in x a.id a.messages)) p

abbrev anchor_to : Context → Anchor → ExternalKey → ExternalKey
anchor_to x a to = to_in (ltb a.id x.position.anchor_id) (expired_at x.chain_time (record { 0 = a.time }) x.limit) x a.id (length (unread_in x a.id a.messages)) to

unfoldable pub all_position : Context → List Anchor → ExternalKey → ExternalKey
all_position x [] p = p
all_position x (a ∷ l) p = all_position x l (anchor_position x a p)

unfoldable pub all_to : Context → List Anchor → ExternalKey → ExternalKey
all_to x [] to = to
all_to x (a ∷ l) to = all_to x l (anchor_to x a to)

unfoldable pub front_position : Context → ℕ → List Anchor → ExternalKey → ExternalKey
front_position x k [] p = p
front_position x k (a ∷ l) p = read_to (look_key x a.id) k p

unfoldable pub front_to : Context → ℕ → List Anchor → ExternalKey → ExternalKey
front_to x k [] to = to
front_to x k (a ∷ l) to = raised_to (look_key x a.id) k to

front_none_position : (x : Context) (l : List Anchor) (p : ExternalKey) → front_position x 0 l p ≡ p
unfolding front_position
front_none_position x [] p = refl
front_none_position x (a ∷ l) p = refl

front_none_to : (x : Context) (l : List Anchor) (to : ExternalKey) → front_to x 0 l to ≡ to
unfolding front_to
front_none_to x [] to = refl
front_none_to x (a ∷ l) to = refl

-- all of them, so as many as there are
all_taken : (k : ℕ) (l : List (List ℕ)) → k ≤ length l → take k l ≡ l → k ≡ length l
all_taken k l h e = let n = ap length e in let m : length (take k l) ≤ k = simp length-take (omega arith) in omega arith

-- ours in partition p of the expired ones among some anchors
abbrev expired_in : Context → List ℕ → ℕ → Anchor → ℕ
expired_in x routes p a = pick (expired_at x.chain_time (record { 0 = a.time }) x.limit) (ours_in x.shard routes p (unread_in x a.id a.messages)) 0

unfoldable pub expired_ours : Context → List ℕ → ℕ → List Anchor → ℕ
expired_ours x routes p [] = 0
expired_ours x routes p (a ∷ l) = expired_in x routes p a + expired_ours x routes p l

-- the first n anchors were popped, and k messages of the one behind them were passed
pub record Conserved (x : Context) (routes : List ℕ) (l : List Anchor) (r q : RangeRead) : Type 0 where
  pub n : ℕ
  pub k : ℕ
  pub pops : q.pops ≡ r.pops + n
  pub position : q.walk.place.position ≡ front_position x k (drop n l) (all_position x (take n l) r.walk.place.position)
  pub to : q.walk.place.to ≡ front_to x k (drop n l) (all_to x (take n l) r.walk.place.to)
  pub buffered : q.walk.counts.buffered ≡ front_buffered x routes k (drop n l) (all_buffered x routes (take n l) r.walk.counts.buffered)
  pub expired : (p : ℕ) → get_or q.walk.counts.expired p 0 ≡ get_or r.walk.counts.expired p 0 + expired_ours x routes p (take n l)
  pub counts : (p : ℕ) → passed_in q.walk.counts p ≡ passed_in r.walk.counts p + (ours_in x.shard routes p (unread_all x (take n l)) + ours_in x.shard routes p (take k (front_unread x (drop n l))))

module _ (x : Context) (routes : List ℕ) (sound : routes_number routes ≡ 0) where
  pub every_message_of_ours_passed_is_counted_as_read_or_expired : (l : List Anchor) (s : Outcome RangeRead) → s.value.walk.number ≡ 0 → Eight s.value.walk.counts → (anchors_read x routes l s).value.walk.number ≡ 0
      → Conserved x routes l s.value (anchors_read x routes l s).value
  unfolding anchors_read unread_all front_unread ours_in all_buffered front_buffered all_position all_to front_position front_to expired_ours
  every_message_of_ours_passed_is_counted_as_read_or_expired [] s z e = λ h. record { n = 0; k = 0; pops = omega arith; position = refl; to = refl; expired = λ p. omega arith; buffered = refl; counts = λ p. omega arith }
  every_message_of_ours_passed_is_counted_as_read_or_expired (a ∷ l) s z e = go (λ y f n. every_message_of_ours_passed_is_counted_as_read_or_expired l (next_read x routes a s) y f n) (next_read x routes a s).value.ended refl
    where
      t : Outcome RangeRead
      t = next_read x routes a s

      u : List (List ℕ)
      u = unread_in x a.id a.messages

      below : Bool
      below = ltb a.id x.position.anchor_id

      old : Bool
      old = expired_at x.chain_time (record { 0 = a.time }) x.limit

      ended_here : AnchorPassed x routes a.id below old u s.value t.value → Conserved x routes (a ∷ l) s.value t.value
      ended_here f = by f.popped_or_ended
        where
          by : ((t.value.pops ≡ s.value.pops + 1) × (take f.k u ≡ u)) ⊎ ((t.value.pops ≡ s.value.pops) × (t.value.ended ≡ true)) → Conserved x routes (a ∷ l) s.value t.value
          by (inl g) = record {
            n = 1;
            k = 0;
            pops = g.0;
            position = f.position ∙ (ap (λ (k : ℕ). position_in below old x a.id k s.value.walk.place.position) (all_taken f.k u f.few g.1) ∙ sym (front_none_position x l _));
            to = f.to ∙ (ap (λ (k : ℕ). to_in below old x a.id k s.value.walk.place.to) (all_taken f.k u f.few g.1) ∙ sym (front_none_to x l _));
            buffered = f.buffered ∙ (ap (λ (m : List (List ℕ)). anchor_buffered x routes a m s.value.walk.counts.buffered) g.1 ∙ sym (front_none x routes l (anchor_buffered x routes a u s.value.walk.counts.buffered)));
            expired = λ p. f.expired_counts p ∙ (rw g.1 (omega arith));
            counts = λ p. f.counts p ∙ (rw g.1 (omega (arith, ours_append x.shard routes p u [])));
          }
          by (inr g) =
              let b = f.looked_at g.0 in
              record {
                n = 0;
                k = f.k;
                pops = g.0 ∙ (omega arith);
                position = f.position ∙ rw (b.0, b.1);
                to = f.to ∙ rw (b.0, b.1);
                expired = λ p. f.expired_counts p ∙ rw b.1 (omega arith);
                buffered = f.buffered;
                counts = λ p. f.counts p ∙ (omega arith);
              }

      going_on : AnchorPassed x routes a.id below old u s.value t.value → t.value.ended ≡ false → Conserved x routes l t.value (anchors_read x routes l t).value → Conserved x routes (a ∷ l) s.value (anchors_read x routes l t).value
      going_on f d h = by f.popped_or_ended
        where
          by : ((t.value.pops ≡ s.value.pops + 1) × (take f.k u ≡ u)) ⊎ ((t.value.pops ≡ s.value.pops) × (t.value.ended ≡ true)) → Conserved x routes (a ∷ l) s.value (anchors_read x routes l t).value
          by (inl g) = record {
            n = suc h.n;
            k = h.k;
            pops = omega (arith, h.pops, g.0);
            position =
                h.position
                ∙ ap (λ (p : ExternalKey). front_position x h.k (drop h.n l) (all_position x (take h.n l) p))
                (f.position ∙ ap (λ (k : ℕ). position_in below old x a.id k s.value.walk.place.position) (all_taken f.k u f.few g.1));
            to =
                h.to
                ∙ ap (λ (p : ExternalKey). front_to x h.k (drop h.n l) (all_to x (take h.n l) p))
                (f.to ∙ ap (λ (k : ℕ). to_in below old x a.id k s.value.walk.place.to) (all_taken f.k u f.few g.1));
            buffered =
                h.buffered
                ∙ ap (λ (c : List ℕ). front_buffered x routes h.k (drop h.n l) (all_buffered x routes (take h.n l) c)) (f.buffered ∙ ap (λ (m : List (List ℕ)). anchor_buffered x routes a m s.value.walk.counts.buffered) g.1);
            expired = λ p. h.expired p ∙ omega (arith, rw g.1 at (f.expired_counts p));
            counts = λ p. h.counts p ∙ omega (arith, rw g.1 at (f.counts p), ours_append x.shard routes p u (unread_all x (take h.n l)));
          }
          by (inr g) = absurd (let y : ◌≡◌ {A = ℕ} 0 1 = cc in omega arith)

      go : (t.value.walk.number ≡ 0 → Eight t.value.walk.counts → (anchors_read x routes l t).value.walk.number ≡ 0 → Conserved x routes l t.value (anchors_read x routes l t).value)
          → (b : Bool) → t.value.ended ≡ b → (pick b t (anchors_read x routes l t)).value.walk.number ≡ 0 → Conserved x routes (a ∷ l) s.value (pick b t (anchors_read x routes l t)).value
      go i true d n = ended_here (anchor_passed x routes (record { 0 = a.time }) sound a.id a.messages s.value e n)
      go i false d n =
          let y = going_number x routes (record { 0 = a.time }) sound a.id a.messages s.value z d in
          let f = anchor_passed x routes (record { 0 = a.time }) sound a.id a.messages s.value e y in
          going_on f d (i y f.eight n)

-- ---- the read of one range
-- n anchors went and k messages of the next one were passed: the counts of the messages of ours, and where the range
-- stands
pub record ReadPassed (x : Context) (routes : List ℕ) (range : ExternalsRangeReaderState) (l : List Anchor) (q : RangeRead) : Type 0 where
  pub n : ℕ
  pub k : ℕ
  pub pops : q.pops ≡ n
  pub position : (range_after range q).current_position ≡ front_position x k (drop n l) (all_position x (take n l) range.current_position)
  pub to : (range_after range q).to ≡ front_to x k (drop n l) (all_to x (take n l) range.to)
  pub expired : (p : ℕ) → get_or q.walk.counts.expired p 0 ≡ expired_ours x routes p (take n l)
  pub passed : (p : ℕ) → passed_in q.walk.counts p ≡ ours_in x.shard routes p (unread_all x (take n l)) + ours_in x.shard routes p (take k (front_unread x (drop n l)))
  pub buffered : q.walk.counts.buffered ≡ front_buffered x routes k (drop n l) (all_buffered x routes (take n l) (replicate 8 0))

module _ (x : Context) (routes : List ℕ) (sound : routes_number routes ≡ 0) (range : ExternalsRangeReaderState) (l : List Anchor) where
  pub a_read_passes_the_messages_in_order_and_counts_each : (six_steps x routes range l).value.walk.number ≡ 0 → ReadPassed x routes range l (six_steps x routes range l).value
  a_read_passes_the_messages_in_order_and_counts_each e =
      let r = entry_of range (range_free x.limits range.by_partitions) in
      let h = every_message_of_ours_passed_is_counted_as_read_or_expired x routes sound l (silent r) refl (record { read = refl; expired = refl }) e in
      record {
        n = h.n;
        k = h.k;
        pops = h.pops ∙ omega arith;
        position = h.position;
        to = h.to;
        expired = λ p. h.expired p ∙ omega (arith, zeros 8 p 0);
        passed = λ p. h.counts p ∙ omega (arith, zeros 8 p 0);
        buffered = h.buffered;
      }

-- ---- the range that a read answers: what stays of it, and that its mark is the walk's
module _ (range : ExternalsRangeReaderState) (r : RangeRead) where
  pub a_read_keeps_seqno_from_and_chain_time : ((range_after range r).seqno ≡ range.seqno) × ((range_after range r).from ≡ range.from) × ((range_after range r).chain_time ≡ range.chain_time)
  a_read_keeps_seqno_from_and_chain_time = (refl, refl, refl)

  pub the_range_answered_is_fully_read_where_the_walk_ended_so : (range_after range r).fully_read ≡ r.fully_read
  the_range_answered_is_fully_read_where_the_walk_ended_so = refl
