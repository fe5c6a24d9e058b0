-- One look at an anchor, and the read over the cached anchors.
use Rattle.std.specs.Prelude.{None, Some, Result, Ok, Err}
use Rattle.refusals.specs.declared.Refusal.{Refusal}
use Rattle.refusals.proofs.Laws.{refused_is_not_done}
use Prim.Native.Nat.{ℕ, suc, zero, ◌+◌, ◌-◌, ◌*◌, ◌/◌, ◌^◌, ◌≤◌, ◌<◌}
use mathlib.Core.Path.{◌≡◌, refl, sym, ap, subst, ◌∙◌}
use mathlib.Core.Bool.{Bool, true, false, not}
use mathlib.Core.List.{List, [], ◌∷◌, ◌++◌}
use native.Mathlib.Omega.{arith}
use lib.Dec.{eqb, ltb}
use lib.ListN.{length, get_or, take, drop, length-append, length-drop, length-take, drop_of_length-le}
use lib.Seq.{sets, drop-drop}
use borrow.Author.Tests.{eqb-true, eq-eqb, ne_eqb, lt-ltb, le-ltb, ltb-false}
use Rattle.rows.specs.Rows.{pick, rows, whole_rows}
use Rattle.rows.proofs.Laws.{pick_yes, pick_no, rows_within, rows_drop, rows_length, pick_same, pick_both}
use Rattle.ext_types.specs.Time.{expired_at}
use Rattle.ext_types.specs.declared.ChainTime.{ChainTime}
use Rattle.shard_ident.specs.declared.ShardIdent.{ShardIdent}
use Rattle.anchors_cache.specs.declared.AnchorsCache.{AnchorsCache}
use Rattle.anchors_cache.specs.declared.CachedAnchor.{CachedAnchor}
use Rattle.cache_rules.specs.Rules.{total, max_anchors, max_messages}
use Rattle.anchors_cache.specs.Tables.{anchors, anchors_of, anchor_at, with_messages}
use Rattle.anchors_cache.specs.Calls.{anchor_found, cached_anchor}
use Rattle.anchors_cache.proofs.Laws.{anchors_cons, anchors_none, total_more}
use Rattle.range_rules.specs.declared.Context.{Context}
use Rattle.range_rules.specs.Walks.{Walk, RangeRead}
use Rattle.range_rules.specs.Rules.{Outcome, silent, followed, end_reached, ends, full, stopped, refused_with, message_read, messages_read, expired_one, expired_over, fully_read_of, popped, looked, expired, leave, after_pop, is_whole, finished, unread, walked, anchor_read, anchors_read}
use Rattle.range_rules.specs.Bounds.{Within, Few}
use Rattle.range_reader.specs.declared.Walk.{Walk as CodeWalk}
use Rattle.range_reader.specs.declared.RangeRead.{RangeRead as CodeRead}
use Rattle.range_reader.specs.Ready.{Wrote, Tells, Eight, walk_told, walk_tells, range_told, range_tells, RangeReady, first_unread, read_or_refused}
use Rattle.range_rules.proofs.Counts.{weaker, within_up, within_refused, message_stepped, expired_one_le}
use Rattle.range_rules.proofs.WalkEnd.{past_the_count_no_message_is_walked}
use Rattle.range_reader.proofs.Eight.{eight_anchor}
use Rattle.range_reader.proofs.MessageLaws.{wrote_nothing, wrote_long, wrote_more}

-- ---- step 6
-- a walk that a question refused ends the read
finish_refused : (x : Context) (time : ChainTime) (count : ℕ) (w : Walk) (r : RangeRead) → (w.number ≡ 0 → ⊥) → (finished x time count w r).walk.number ≡ w.number
unfolding finished
finish_refused x time count w r n = rw (pick_yes _ _ _ (ap not (ne_eqb w.number 0 n)))

-- a look that a question refuses ends the read
refused_leaves : (x : Context) (time : ChainTime) (count : ℕ) (w : Walk) (r : RangeRead) → ((finished x time count w r).walk.number ≡ 0 → ⊥) → (finished x time count w r).ended ≡ true
unfolding finished
refused_leaves x time count w r = go (eqb w.number 0) refl (ends x.mode w.place.reached) (full w.buffers) (is_whole w count)
  where
    go : (z : Bool) → eqb w.number 0 ≡ z → (e f g : Bool)
        → ((pick (not z) (leave w time (after_pop g r.pops) r.fully_read true) (pick e (leave w time (after_pop g r.pops) true true) (pick f (leave w time (after_pop g r.pops) r.fully_read true) (pick g (leave w time (after_pop g r.pops) r.fully_read false) (leave (refused_with 11 w) time (after_pop g r.pops) r.fully_read true))))).walk.number ≡ 0 → ⊥)
        → (pick (not z) (leave w time (after_pop g r.pops) r.fully_read true) (pick e (leave w time (after_pop g r.pops) true true) (pick f (leave w time (after_pop g r.pops) r.fully_read true) (pick g (leave w time (after_pop g r.pops) r.fully_read false) (leave (refused_with 11 w) time (after_pop g r.pops) r.fully_read true))))).ended ≡ true
    go false z e f g n = refl
    go true z true f g n = refl
    go true z false true g n = refl
    go true z false false true n = absurd (n (eqb-true w.number 0 z))
    go true z false false false n = refl

refused_ends : (x : Context) (routes : List ℕ) (id : ℕ) (time : ChainTime) (l : List (List ℕ)) (r : RangeRead) → r.walk.number ≡ 0 → ((anchor_read x routes id time l r).value.walk.number ≡ 0 → ⊥) → (anchor_read x routes id time l r).value.ended ≡ true
unfolding anchor_read expired looked
refused_ends x routes id time l r z = go (ltb id x.position.anchor_id) (expired_at x.chain_time time x.limit)
  where
    w : Walk
    w = looked x id r.walk

    go : (p e : Bool) → ((pick p (silent (popped r)) (pick e (silent (expired x time (expired_over x.shard routes (unread w l) w.counts.expired) w r)) (walked x time (length l) (messages_read x routes time (unread w l) (silent w)) r))).value.walk.number ≡ 0 → ⊥)
        → (pick p (silent (popped r)) (pick e (silent (expired x time (expired_over x.shard routes (unread w l) w.counts.expired) w r)) (walked x time (length l) (messages_read x routes time (unread w l) (silent w)) r))).value.ended ≡ true
    go true e n = absurd (n z)
    go false true n = absurd (n z)
    go false false n = refused_leaves x time (length l) (messages_read x routes time (unread w l) (silent w)).value r n

-- ---- the walk over an anchor's messages keeps the counts
pub record Kept (x : Context) (k used : ℕ) (s : Outcome Walk) : Type 0 where
  pub within : Within x k s.value
  pub used_part : s.value.buffers.used ≡ used + length s.entries

pub messages_kept : (x : Context) (routes : List ℕ) (time : ChainTime) (l : List (List ℕ)) (k used : ℕ) (s : Outcome Walk) → Kept x k used s → Kept x (k + length l) used (messages_read x routes time l s)
unfolding messages_read
messages_kept x routes time [] k used s h = record { within = within_up x k s.value h.within (k + 0) (omega arith); used_part = h.used_part }
messages_kept x routes time (m ∷ l) k used s h =
    let t = message_read x routes time m s.value in
    let g = message_stepped x routes time m k s.value h.within in
    let e : k + 1 + length l ≡ k + suc (length l) = omega arith in
    let n : Kept x (k + 1) used (followed s t) = record { within = g.within; used_part = simp length-append (omega (arith, g.used, h.used_part)) } in
    pick_both (Kept x (k + suc (length l)) used) (stopped x s.value) s (messages_read x routes time l (followed s t))
    (record { within = within_up x k s.value h.within (k + suc (length l)) (omega arith); used_part = h.used_part })
    (rw e at (messages_kept x routes time l (k + 1) used (followed s t) n))

pub expired_over_le : (shard : ShardIdent) (routes : List ℕ) (l : List (List ℕ)) (counts : List ℕ) (k : ℕ) → ((i : ℕ) → get_or counts i 0 ≤ k) → (i : ℕ) → get_or (expired_over shard routes l counts) i 0 ≤ k + length l
unfolding expired_over
expired_over_le shard routes [] counts k h i = weaker counts k (k + 0) (omega arith) h i
expired_over_le shard routes (m ∷ l) counts k h i =
    let e : k + 1 + length l ≡ k + suc (length l) = omega arith in
    rw e at (expired_over_le shard routes l (expired_one shard routes m counts) (k + 1) (expired_one_le shard routes m counts k h) i)

-- ---- one look at an anchor keeps them too
pub record RangeKept (x : Context) (k used pops : ℕ) (s : Outcome RangeRead) : Type 0 where
  pub within : Within x k s.value.walk
  pub used_part : s.value.walk.buffers.used ≡ used + length s.entries
  pub few_pops : s.value.pops ≤ pops

pop_le : (b : Bool) (pops : ℕ) → after_pop b pops ≤ pops + 1
pop_le true pops = omega arith
pop_le false pops = omega arith

left_kept : (x : Context) (k used : ℕ) (time : ChainTime) (s : Outcome Walk) (b fully ended : Bool) (pops : ℕ) → Kept x k used s → RangeKept x k used (pops + 1) (record { value = leave s.value time (after_pop b pops) fully ended; entries = s.entries })
left_kept x k used time s b fully ended pops h = record { within = h.within; used_part = h.used_part; few_pops = pop_le b pops }

refused_used : (n : ℕ) (w : Walk) → (refused_with n w).buffers.used ≡ w.buffers.used
unfolding refused_with
refused_used n w = refl

finished_kept : (x : Context) (k used : ℕ) (time : ChainTime) (count : ℕ) (s : Outcome Walk) (r : RangeRead) → Kept x k used s → RangeKept x k used (r.pops + 1) (walked x time count s r)
unfolding finished
finished_kept x k used time count s r h =
    let w = s.value in
    let b = is_whole w count in
    let P : RangeRead → Type 0 = λ q. RangeKept x k used (r.pops + 1) (record { value = q; entries = s.entries }) in
    let refused : Kept x k used (record { value = refused_with 11 w; entries = s.entries }) = record { within = within_refused x k w h.within 11; used_part = refused_used 11 w ∙ h.used_part } in
    pick_both P (not (eqb w.number 0)) _ _ (left_kept x k used time s b r.fully_read true r.pops h)
    (pick_both P (ends x.mode w.place.reached) _ _ (left_kept x k used time s b true true r.pops h)
    (pick_both P (full w.buffers) _ _ (left_kept x k used time s b r.fully_read true r.pops h)
    (pick_both P b _ _ (left_kept x k used time s b r.fully_read false r.pops h)
    (left_kept x k used time (record { value = refused_with 11 w; entries = s.entries }) b r.fully_read true r.pops refused))))

pub within_looked : (x : Context) (k id : ℕ) (w : Walk) → Within x k w → Within x k (looked x id w)
unfolding looked
within_looked x k id w h = record { read = h.read; expired = h.expired; buffered = h.buffered; free = h.free }

pub looked_used : (x : Context) (id : ℕ) (w : Walk) → (looked x id w).buffers.used ≡ w.buffers.used
unfolding looked
looked_used x id w = refl

-- the saved end was judged at the key that was looked at
pub looked_reached : (x : Context) (id : ℕ) (v w : Walk) → w ≡ looked x id v → w.place.reached ≡ end_reached w.place.key x.saved_end
unfolding looked
looked_reached x id v w e = rw e

module _ (x : Context) (routes : List ℕ) (id : ℕ) (time : ChainTime) (l : List (List ℕ)) (k : ℕ) (r : RangeRead) (h : Within x k r.walk) where
  expired_kept : RangeKept x (k + length l) r.walk.buffers.used (r.pops + 1) (silent (expired x time (expired_over x.shard routes (unread (looked x id r.walk) l) (looked x id r.walk).counts.expired) (looked x id r.walk) r))
  unfolding expired
  expired_kept =
      let w = looked x id r.walk in
      let u = unread w l in
      let g = within_up x k w (within_looked x k id r.walk h) (k + length l) (omega arith) in
      let n : length u ≤ length l = simp length-drop (omega arith) in
      record {
        within = record {
          read = g.read;
          expired = weaker (expired_over x.shard routes u w.counts.expired) (k + length u) (k + length l) (omega arith) (expired_over_le x.shard routes u w.counts.expired k (within_looked x k id r.walk h).expired);
          buffered = g.buffered;
          free = g.free;
        };
        used_part = looked_used x id r.walk ∙ (omega arith);
        few_pops = omega arith;
      }

  walked_kept : RangeKept x (k + length l) r.walk.buffers.used (r.pops + 1) (walked x time (length l) (messages_read x routes time (unread (looked x id r.walk) l) (silent (looked x id r.walk))) r)
  walked_kept =
      let w = looked x id r.walk in
      let u = unread w l in
      let n : length u ≤ length l = simp length-drop (omega arith) in
      let g = messages_kept x routes time u k r.walk.buffers.used (silent w) (record { within = within_looked x k id r.walk h; used_part = looked_used x id r.walk ∙ (omega arith) }) in
      let s = messages_read x routes time u (silent w) in
      finished_kept x (k + length l) r.walk.buffers.used time (length l) s r (record { within = within_up x (k + length u) s.value g.within (k + length l) (omega arith); used_part = g.used_part })

  pub anchor_kept : RangeKept x (k + length l) r.walk.buffers.used (r.pops + 1) (anchor_read x routes id time l r)
  unfolding anchor_read
  anchor_kept =
      let P = RangeKept x (k + length l) r.walk.buffers.used (r.pops + 1) in
      pick_both P (ltb id x.position.anchor_id) (silent (popped r)) _ (record { within = within_up x k r.walk h (k + length l) (omega arith); used_part = omega arith; few_pops = omega arith })
      (pick_both P (expired_at x.chain_time time x.limit) _ _ expired_kept walked_kept)

-- ---- one look at an anchor, put together from what its parts ensure
unread_first : (offset : ℕ) (l : List (List ℕ)) (count : ℕ) → length l ≡ count → drop (first_unread offset count) l ≡ drop offset l
unread_first offset l count e = go (ltb offset count) refl
  where
    go : (b : Bool) → ltb offset count ≡ b → drop (pick b offset count) l ≡ drop offset l
    go true h = refl
    go false h =
        let g = ltb-false offset count h in
        let a : length l ≤ count = omega arith in
        let b : length l ≤ offset = omega arith in
        drop_of_length-le l a ∙ sym (drop_of_length-le l b)

module _ (area : List ℕ) (place count offset f : ℕ) (fe : f ≡ first_unread offset count) (fl : f ≤ count) (placed : 33 * (place + count) ≤ length area) where
  rest_length : length (take (33 * (place + count) - 33 * (place + f)) (drop (33 * (place + f)) area)) ≡ 33 * (count - f)
  rest_length = simp (length-take, length-drop) (omega arith)

  pub rest_count : length (take (33 * (place + count) - 33 * (place + f)) (drop (33 * (place + f)) area)) / 33 ≡ count - f
  rest_count = rw rest_length (omega arith)

  pub rest_messages : whole_rows 33 (take (33 * (place + count) - 33 * (place + f)) (drop (33 * (place + f)) area)) ≡ drop offset (rows 33 count (drop (33 * place) area))
  rest_messages =
      let l = rows 33 count (drop (33 * place) area) in
      let e : 33 * (place + f) ≡ 33 * place + 33 * f = omega arith in
      ap (λ (k : ℕ). rows 33 k (take (33 * (place + count) - 33 * (place + f)) (drop (33 * (place + f)) area))) rest_count
      ∙ rows_within 33 (count - f) (33 * (place + count) - 33 * (place + f)) (drop (33 * (place + f)) area) (omega arith)
      ∙ (rw (e, sym (drop-drop (33 * f) (33 * place) area)) (sym (rows_drop 33 f count (drop (33 * place) area)))
      ∙ (ap (λ (i : ℕ). drop i l) fe ∙ unread_first offset l count (rows_length 33 count (drop (33 * place) area))))

module _ (x : Context) (routes area : List ℕ) (id : ℕ) (time : ChainTime) (place count : ℕ) (r : RangeRead) (write : Bool) (out : List ℕ) where
  -- what is said of the look at this anchor
  abbrev Looks : ℕ → List ℕ → Result CodeRead Refusal → Type 0
  Looks used o q = Tells write used out o (range_tells q) (anchor_read x routes id time (rows 33 count (drop (33 * place) area)) r)

  pub anchor_popped : (used : ℕ) (q : CodeRead) → id < x.position.anchor_id → range_told q ≡ popped r → Looks used out (Ok q)
  unfolding anchor_read
  anchor_popped used q i e = rw (lt-ltb id x.position.anchor_id i) (record { value = e; out = sym (pick_same write out) })

  module _ (w : Walk) (f : ℕ) (i : x.position.anchor_id ≤ id) (we : w ≡ looked x id r.walk) (fe : f ≡ first_unread w.place.key.msgs_offset count) (fl : f ≤ count) (placed : 33 * (place + count) ≤ length area) where
    abbrev rest : List ℕ
    rest = take (33 * (place + count) - 33 * (place + f)) (drop (33 * (place + f)) area)

    pub anchor_expired : (used : ℕ) (counts : List ℕ) (q : CodeRead) → expired_at x.chain_time time x.limit ≡ true → counts ≡ expired_over x.shard routes (whole_rows 33 rest) w.counts.expired
        → range_told q ≡ expired x time counts w r → Looks used out (Ok q)
    unfolding anchor_read
    anchor_expired used counts q e ce qe =
        let l = rows 33 count (drop (33 * place) area) in
        let c : counts ≡ expired_over x.shard routes (drop w.place.key.msgs_offset l) w.counts.expired = ce ∙ ap (λ (m : List (List ℕ)). expired_over x.shard routes m w.counts.expired) (rest_messages area place count w.place.key.msgs_offset f fe fl placed) in
        rw (le-ltb id x.position.anchor_id i, e, sym we)
        (record { value = qe ∙ ap (λ (n : List ℕ). expired x time n w r) c; out = sym (pick_same write out) })

    module _ (fresh : expired_at x.chain_time time x.limit ≡ false) where
      -- over the messages from the offset on
      look_tells : (o : List ℕ) (says : RangeRead → Type 0) → says (finished x time count (messages_read x routes time (unread w (rows 33 count (drop (33 * place) area))) (silent w)).value r)
          → o ≡ pick write (sets out w.buffers.used (messages_read x routes time (unread w (rows 33 count (drop (33 * place) area))) (silent w)).entries) out
          → Tells write r.walk.buffers.used out o says (anchor_read x routes id time (rows 33 count (drop (33 * place) area)) r)
      unfolding anchor_read
      look_tells o says p g =
          let l = rows 33 count (drop (33 * place) area) in
          let u : w.buffers.used ≡ r.walk.buffers.used = ap (λ (a : Walk). a.buffers.used) we ∙ looked_used x id r.walk in
          let n : length l ≡ count = rows_length 33 count (drop (33 * place) area) in
          rw (le-ltb id x.position.anchor_id i, fresh, sym we, n)
          (record { value = p; out = g ∙ ap (λ (k : ℕ). pick write (sets out k (messages_read x routes time (unread w l) (silent w)).entries) out) u })

      module _ (o : List ℕ) where
        walked_messages : (says : Walk → Type 0) → Tells write w.buffers.used out o says (messages_read x routes time (whole_rows 33 rest) (silent w))
            → Tells write w.buffers.used out o says (messages_read x routes time (unread w (rows 33 count (drop (33 * place) area))) (silent w))
        walked_messages says h = rw (rest_messages area place count w.place.key.msgs_offset f fe fl placed) at h

        pub anchor_walked : (v : CodeWalk) (q : Result CodeRead Refusal) → Tells write w.buffers.used out o (walk_tells (Ok v)) (messages_read x routes time (whole_rows 33 rest) (silent w))
            → range_tells q (finished x time count (walk_told v) r) → Looks r.walk.buffers.used o q
        anchor_walked v q h p =
            let g = walked_messages (walk_tells (Ok v)) h in
            look_tells o (range_tells q) (subst (λ (a : Walk). range_tells q (finished x time count a r)) g.value p) g.out

        -- a question refused a message
        pub anchor_refused : (e : Refusal) → Tells write w.buffers.used out o (walk_tells (Err e)) (messages_read x routes time (whole_rows 33 rest) (silent w)) → Looks r.walk.buffers.used o (Err e)
        anchor_refused e h =
            let g = walked_messages (walk_tells (Err e)) h in
            let s = messages_read x routes time (unread w (rows 33 count (drop (33 * place) area))) (silent w) in
            let n : (s.value.number ≡ 0 → ⊥) = λ z. refused_is_not_done e (g.value ∙ z) in
            look_tells o (range_tells (Err e)) (g.value ∙ sym (finish_refused x time count s.value r n)) g.out

      pub past_tells : (q : Result CodeRead Refusal) → count < w.place.key.msgs_offset → range_tells q (finished x time count w r) → Looks r.walk.buffers.used out q
      past_tells q past p =
          let l = rows 33 count (drop (33 * place) area) in
          let n : length l ≤ w.place.key.msgs_offset = omega (arith, rows_length 33 count (drop (33 * place) area)) in
          let e = past_the_count_no_message_is_walked x routes time l w.place.key.msgs_offset w n in
          look_tells out (range_tells q) (rw e p) (rw e (sym (pick_same write out)))

-- the same of the rules' own walk and read, whatever their number
module _ (x : Context) (routes area : List ℕ) (id : ℕ) (time : ChainTime) (place count : ℕ) (r : RangeRead) (write : Bool) (out : List ℕ) (w : Walk) (i : x.position.anchor_id ≤ id) (we : w ≡ looked x id r.walk) (fresh : expired_at x.chain_time time x.limit ≡ false) where
  -- over the messages from the offset on
  pub anchor_over : (o : List ℕ) (v : Walk) (q : RangeRead) → Wrote write w.buffers.used out o v (messages_read x routes time (unread w (rows 33 count (drop (33 * place) area))) (silent w))
      → q ≡ finished x time count v r → Wrote write r.walk.buffers.used out o q (anchor_read x routes id time (rows 33 count (drop (33 * place) area)) r)
  unfolding anchor_read
  anchor_over o v q g qe =
      let l = rows 33 count (drop (33 * place) area) in
      let u : w.buffers.used ≡ r.walk.buffers.used = ap (λ (a : Walk). a.buffers.used) we ∙ looked_used x id r.walk in
      let n : length l ≡ count = rows_length 33 count (drop (33 * place) area) in
      rw (le-ltb id x.position.anchor_id i, fresh, sym we, n)
      (record {
        value = qe ∙ ap (λ (a : Walk). finished x time count a r) g.value;
        out = g.out ∙ ap (λ (k : ℕ). pick write (sets out k (messages_read x routes time (unread w l) (silent w)).entries) out) u;
      })

  pub anchor_past : (q : RangeRead) → count < w.place.key.msgs_offset → q ≡ finished x time count w r
      → Wrote write r.walk.buffers.used out out q (anchor_read x routes id time (rows 33 count (drop (33 * place) area)) r)
  anchor_past q past =
      let l = rows 33 count (drop (33 * place) area) in
      let n : length l ≤ w.place.key.msgs_offset = omega (arith, rows_length 33 count (drop (33 * place) area)) in
      anchor_over out w q (rw (past_the_count_no_message_is_walked x routes time l w.place.key.msgs_offset w n) (wrote_nothing write w.buffers.used out w w refl))

-- ---- the anchors
-- the front anchor of a window
pub front_some : (place at left : ℕ) (tables : List ℕ) (a : CachedAnchor) → anchor_found place (anchors at left tables) ≡ Some a → (0 < left) × (a ≡ cached_anchor place (anchor_at at tables))
front_some place at zero tables a e = let g = rw (anchors_none at 0 tables (omega arith)) at e in absurd (let z : ◌≡◌ {A = ℕ} 0 1 = cc in omega arith)
front_some place at (suc k) tables a e = let g = rw (anchors_cons at (suc k) tables (omega arith)) at e in (omega arith, cc)

pub front_none : (place at left : ℕ) (tables : List ℕ) → anchor_found place (anchors at left tables) ≡ None → left ≤ 0
front_none place at zero tables e = omega arith
front_none place at (suc k) tables e = let g = rw (anchors_cons at (suc k) tables (omega arith)) at e in absurd (let z : ◌≡◌ {A = ℕ} 0 1 = cc in omega arith)

module _ (x : Context) (routes tables area : List ℕ) (at left place : ℕ) (s : Outcome RangeRead) where
  pub read_none : left ≤ 0 → anchors_read x routes (with_messages (drop (33 * place) area) (anchors at left tables)) s ≡ record { value = fully_read_of s.value; entries = s.entries }
  unfolding anchors_read with_messages
  read_none h = rw (anchors_none at left tables h)

  module _ (a : CachedAnchor) (more : 0 < left) (ae : a ≡ cached_anchor place (anchor_at at tables)) (t : Outcome RangeRead)
      (te : t ≡ anchor_read x routes a.id a.chain_time (rows 33 a.count (drop (33 * a.place) area)) s.value) where
    read_step : anchors_read x routes (with_messages (drop (33 * place) area) (anchors at left tables)) s
        ≡ pick t.value.ended (followed s t) (anchors_read x routes (with_messages (drop (33 * (place + a.count)) area) (anchors (at + 1) (left - 1) tables)) (followed s t))
    unfolding anchors_read with_messages
    read_step =
        let e : 33 * (place + (anchor_at at tables).count) ≡ 33 * place + 33 * (anchor_at at tables).count = omega arith in
        rw (te, ae, anchors_cons at left tables more, e, sym (drop-drop (33 * (anchor_at at tables).count) (33 * place) area))

    pub read_ended : t.value.ended ≡ true → anchors_read x routes (with_messages (drop (33 * place) area) (anchors at left tables)) s ≡ followed s t
    read_ended h = read_step ∙ pick_yes _ _ _ h

    pub read_more : t.value.ended ≡ false → anchors_read x routes (with_messages (drop (33 * place) area) (anchors at left tables)) s
        ≡ anchors_read x routes (with_messages (drop (33 * (place + a.count)) area) (anchors (at + 1) (left - 1) tables)) (followed s t)
    read_more h = read_step ∙ pick_no _ _ _ h

-- what the loop over the anchors keeps; `entries` are those written so far, `whole` is what the read comes to
pub record RangeTurn (x : Context) (routes tables area : List ℕ) (write : Bool) (out₀ : List ℕ) (used₀ : ℕ) (all : Outcome RangeRead) (out : List ℕ) (r : RangeRead) (at left place : ℕ) : Type 0 where
  pub entries : List ℕ
  pub window : at + left ≤ max_anchors
  pub few_pops : r.pops + left ≤ max_anchors
  pub placed : 33 * (place + total (anchors at left tables)) ≤ length area
  pub near : place + total (anchors at left tables) < 2 ^ 63
  pub number : r.walk.number ≡ 0
  pub eight : Eight r.walk
  pub few : Few x (total (anchors at left tables)) r.walk
  pub used_part : r.walk.buffers.used ≡ used₀ + length entries
  pub long : length out ≡ length out₀
  pub wrote : out ≡ pick write (sets out₀ used₀ entries) out₀
  pub read : anchors_read x routes (with_messages (drop (33 * place) area) (anchors at left tables)) (record { value = r; entries = entries }) ≡ all

module _ (x : Context) (routes tables area : List ℕ) (write : Bool) (out₀ : List ℕ) (used₀ : ℕ) (all : Outcome RangeRead) (out : List ℕ) (r : RangeRead) (at left place : ℕ) (h : RangeTurn x routes tables area write out₀ used₀ all out r at left place) where
  range_end : (says : RangeRead → Type 0) (q : Outcome RangeRead) (o : List ℕ) → says q.value → q ≡ all → o ≡ pick write (sets out₀ used₀ q.entries) out₀ → Tells write used₀ out₀ o says all
  range_end says q o p e g = record { value = subst (λ (s : Outcome RangeRead). says s.value) e p; out = g ∙ ap (λ (s : Outcome RangeRead). pick write (sets out₀ used₀ s.entries) out₀) e }

  pub range_none : (q : CodeRead) → left ≤ 0 → range_told q ≡ fully_read_of r → Tells write used₀ out₀ out (range_tells (Ok q)) all
  range_none q z e =
      let s : Outcome RangeRead = record { value = r; entries = h.entries } in
      range_end (range_tells (Ok q)) (record { value = fully_read_of r; entries = h.entries }) out e (sym (read_none x routes tables area at left place s z) ∙ h.read) h.wrote

  module _ (a : CachedAnchor) (more : 0 < left) (ae : a ≡ cached_anchor place (anchor_at at tables)) where
    counted : total (anchors at left tables) ≡ a.count + total (anchors (at + 1) (left - 1) tables)
    counted = total_more at left tables more ∙ ap (λ (b : CachedAnchor). b.count + total (anchors (at + 1) (left - 1) tables)) (sym ae)

    pub anchor_fits : (33 * (a.place + a.count) ≤ length area) × ((place + a.count < 2 ^ 64) × (Few x a.count r.walk))
    anchor_fits =
        let t = counted in
        let p : a.place ≡ place = ap (λ (b : CachedAnchor). b.place) ae in
        let f = h.few.few in
        (omega (arith, h.placed), (omega (arith, h.near), record { few = omega arith; within = within_up x (max_messages - total (anchors at left tables)) r.walk h.few.within (max_messages - a.count) (omega arith) }))

    abbrev now_read : Outcome RangeRead
    now_read = anchor_read x routes a.id a.chain_time (rows 33 a.count (drop (33 * a.place) area)) r

    module _ (o : List ℕ) (says : RangeRead → Type 0) (g : Tells write r.walk.buffers.used out o says now_read) where
      wrote_both : o ≡ pick write (sets out₀ used₀ (h.entries ++ now_read.entries)) out₀
      wrote_both = wrote_more write used₀ r.walk.buffers.used out₀ out o h.entries now_read.entries h.used_part h.wrote g.out

      -- where this look ends the read, what was said of it is said of the read
      ended_here : now_read.value.ended ≡ true → Tells write used₀ out₀ o says all
      ended_here f =
          let s : Outcome RangeRead = record { value = r; entries = h.entries } in
          range_end says (followed s now_read) o g.value (sym (read_ended x routes tables area at left place s a more ae now_read refl f) ∙ h.read) wrote_both

    module _ (o : List ℕ) (e : Refusal) (g : Tells write r.walk.buffers.used out o (range_tells (Err e)) now_read) where
      -- a refused look ends the read
      pub range_refused : Tells write used₀ out₀ o (range_tells (Err e)) all
      range_refused = ended_here o (range_tells (Err e)) g (refused_ends x routes a.id a.chain_time (rows 33 a.count (drop (33 * a.place) area)) r h.number (λ z. refused_is_not_done e (g.value ∙ z)))

    -- where it doesn't, one anchor was popped
    module _ (o : List ℕ) (q : RangeRead) (g : Wrote write r.walk.buffers.used out o q now_read) (z : q.walk.number ≡ 0) where
      go_on : q.ended ≡ false → RangeTurn x routes tables area write out₀ used₀ all o q (at + 1) (left - 1) (place + a.count)
      go_on e =
          let s : Outcome RangeRead = record { value = r; entries = h.entries } in
          let f : now_read.value.ended ≡ false = ap (λ (v : RangeRead). v.ended) (sym g.value) ∙ e in
          let t = counted in
          let n = total (anchors at left tables) in
          let m = total (anchors (at + 1) (left - 1) tables) in
          let w = h.window in
          let b = h.few.few in
          let l : length (rows 33 a.count (drop (33 * a.place) area)) ≡ a.count = rows_length 33 a.count (drop (33 * a.place) area) in
          let k = anchor_kept x routes a.id a.chain_time (rows 33 a.count (drop (33 * a.place) area)) (max_messages - n) r h.few.within in
          record {
            entries = h.entries ++ now_read.entries;
            window = omega arith;
            few_pops = omega (arith, h.few_pops, k.few_pops, ap (λ (v : RangeRead). v.pops) g.value);
            placed = omega (arith, h.placed);
            near = omega (arith, h.near);
            number = z;
            eight = rw g.value (eight_anchor x routes a.id a.chain_time (rows 33 a.count (drop (33 * a.place) area)) r h.eight);
            few = record { few = omega arith; within = rw g.value (within_up x (max_messages - n + length (rows 33 a.count (drop (33 * a.place) area))) now_read.value.walk k.within (max_messages - m) (omega arith)) };
            used_part = ap (λ (v : RangeRead). v.walk.buffers.used) g.value ∙ (k.used_part ∙ simp length-append (omega (arith, h.used_part)));
            long = wrote_long write r.walk.buffers.used out o q now_read g ∙ h.long;
            wrote = wrote_more write used₀ r.walk.buffers.used out₀ out o h.entries now_read.entries h.used_part h.wrote g.out;
            read = rw g.value (sym (read_more x routes tables area at left place s a more ae now_read refl f) ∙ h.read);
          }

    module _ (o : List ℕ) (c : CodeRead) (g : Tells write r.walk.buffers.used out o (range_tells (Ok c)) now_read) where
      pub range_ended : c.ended ≡ true → Tells write used₀ out₀ o (range_tells (Ok c)) all
      range_ended e = ended_here o (range_tells (Ok c)) g (ap (λ (v : RangeRead). v.ended) (sym g.value) ∙ e)

      pub range_next : c.ended ≡ false → RangeTurn x routes tables area write out₀ used₀ all o (range_told c) (at + 1) (left - 1) (place + a.count)
      range_next e = go_on o (range_told c) (record { value = g.value; out = g.out }) refl e

pub range_start : (x : Context) (routes tables area : List ℕ) (write : Bool) (out : List ℕ) (c : AnchorsCache) (r : CodeRead) → RangeReady tables area c routes x r out → length area < 2 ^ 64
    → RangeTurn x routes tables area write out r.walk.buffers.used (anchors_read x routes (with_messages (drop (33 * c.base) area) (anchors_of tables c)) (silent (range_told r))) out (range_told r) c.first c.len c.base
range_start x routes tables area write out c r h n = record {
  entries = [];
  window = h.window;
  few_pops = omega (arith, h.pops, h.window);
  placed = h.placed;
  near = omega (arith, h.placed);
  number = refl;
  eight = h.eight;
  few = h.few;
  used_part = omega arith;
  long = refl;
  wrote = sym (pick_same write out);
  read = refl;
}

-- ---- the runs
module _ (write : Bool) (out : List ℕ) (used : ℕ) (all : Outcome RangeRead) where
  -- what the run that a caller sees says, and what it leaves of the output
  abbrev Came : Result CodeRead Refusal → List ℕ → Type 0
  Came q o = range_tells q (read_or_refused write out used all).value × (o ≡ (read_or_refused write out used all).entries)

  pub written_run : all.value.walk.number ≡ 0 → (p : List ℕ) (q : Result CodeRead Refusal) → write ≡ true → Tells true used out p (range_tells q) all → Came q p
  unfolding read_or_refused
  written_run n p q w g = (g.value, rw (eq-eqb all.value.walk.number 0 n, w) g.out)

  pub refused_run : (o : List ℕ) (e : Refusal) → Tells false used out o (range_tells (Err e)) all → Came (Err e) o
  unfolding read_or_refused
  refused_run o e h = (h.value, rw (ne_eqb all.value.walk.number 0 (λ z. refused_is_not_done e (h.value ∙ z))) h.out)

  module _ (o : List ℕ) (dry : CodeRead) (h : Tells false used out o (range_tells (Ok dry)) all) where
    not_refused : all.value.walk.number ≡ 0
    not_refused = ap (λ (v : RangeRead). v.walk.number) (sym h.value)

    pub checked_run : write ≡ false → Came (Ok dry) o
    unfolding read_or_refused
    checked_run w = (h.value, rw (eq-eqb all.value.walk.number 0 not_refused, w) h.out)

    pub done_run : (p : List ℕ) (q : Result CodeRead Refusal) → write ≡ true → Tells true used o p (range_tells q) all → Came q p
    done_run p q w g = written_run not_refused p q w (rw h.out at g)
