-- Document 01, question 11: "Does the walk move on?" It is answered "no" exactly in the one case in which the Rust
-- loops forever.
use Rattle.std.proofs.lemmas.Bool.{or_parts}
use Prim.Native.Nat.{ℕ, ◌+◌, ◌-◌, ◌≤◌, ◌<◌}
use mathlib.Core.Path.{◌≡◌, refl, sym, ap, ◌∙◌}
use mathlib.Core.Bool.{Bool, true, false, not, ◌||◌}
use mathlib.Core.List.{List, [], ◌∷◌}
use native.Mathlib.Omega.{arith}
use lib.Dec.{eqb, ltb, leb}
use lib.ListN.{length, get_or, length-drop}
use borrow.Author.Tests.{ltb-true, ltb-false, eqb-true, eqb-false, eq-eqb, ne_eqb, le-ltb}
use Rattle.rows.specs.Rows.{pick}
use Rattle.rows.proofs.Laws.{pick_yes, pick_no, pick_both, never}
use Rattle.ext_types.specs.declared.ChainTime.{ChainTime}
use Rattle.ext_types.specs.declared.ExternalKey.{ExternalKey}
use Rattle.ext_types.specs.Keys.{key_above}
use Rattle.ext_types.specs.Time.{expired_at}
use Rattle.shard_ident.specs.Shard.{is_ours}
use Rattle.router.specs.Router.{partition_of}
use Rattle.messages_buffer.specs.declared.ExternalsPartitionRangeReaderState.{ExternalsPartitionRangeReaderState}
use Rattle.messages_buffer.specs.Fullness.{no_partition}
use Rattle.range_rules.specs.declared.Context.{Context}
use Rattle.range_rules.specs.declared.Buffers.{Buffers}
use Rattle.range_rules.specs.Walks.{Walk, RangeRead, Verdict, Keep, Buffer, Refuse}
use Rattle.range_rules.specs.declared.ProcessedTo.{ProcessedTo}
use Rattle.range_rules.specs.Rules.{Outcome, silent, followed, key_at, end_reached, advanced, ends, full, stopped, judge, no_processed, refused_with, read_one, buffer_one, after, verdict_on, our_read, message_read, messages_read, popped, offset_in, look_key, looked, expired_over, expired, leave, after_pop, is_whole, finished, unread, walked, anchor_read, entry_len}
use Rattle.range_rules.proofs.Counts.{stopped_full}
use Rattle.range_rules.proofs.Walks.{walk_all}
use Rattle.range_rules.proofs.WalkEnd.{past_the_count_no_message_is_walked}

-- ---- the walk's own refusals are 12, 13 and 14
module _ (x : Context) (routes : List ℕ) (time : ChainTime) where
  after_number : (v : Verdict) (p : ℕ) (w : Walk) → w.number ≡ 0 → (v ≡ Refuse 11 → ⊥) → (after v x time p w).value.number ≡ 11 → ⊥
  unfolding read_one buffer_one refused_with
  after_number Keep p w z h e = omega arith
  after_number Buffer p w z h e = omega arith
  after_number (Refuse n) p w z h e = h (ap Refuse e)

  judge_not_11 : (q : ProcessedTo) (partition : ExternalsPartitionRangeReaderState) (key : ExternalKey) (room : Bool) → judge q partition key room ≡ Refuse 11 → ⊥
  unfolding judge
  judge_not_11 q partition key room = go q.present (key_above key q.key) partition.present room
    where
      go : (a b c d : Bool) → pick a (pick b (pick c (pick d Buffer (Refuse 14)) (Refuse 13)) Keep) (Refuse 12) ≡ Refuse 11 → ⊥
      go true true true true e = let z : ◌≡◌ {A = ℕ} 0 1 = cc in omega arith
      go true true true false e = let z : ◌≡◌ {A = ℕ} 14 11 = cc in omega arith
      go true true false d e = let z : ◌≡◌ {A = ℕ} 13 11 = cc in omega arith
      go true false c d e = let z : ◌≡◌ {A = ℕ} 0 1 = cc in omega arith
      go false b c d e = let z : ◌≡◌ {A = ℕ} 12 11 = cc in omega arith

  advanced_number : (w : Walk) → (advanced x w).number ≡ w.number
  unfolding advanced
  advanced_number w = refl

  message_not_11 : (m : List ℕ) (w : Walk) → w.number ≡ 0 → (message_read x routes time m w).value.number ≡ 11 → ⊥
  unfolding message_read our_read
  message_not_11 m w z =
      let a = advanced x w in
      let p = partition_of routes m in
      let n : a.number ≡ 0 = advanced_number w ∙ z in
      let P : Outcome Walk → Type 0 = λ s. s.value.number ≡ 11 → ⊥ in
      pick_both P (is_ours x.shard m) (our_read x time p a) (silent a)
      (after_number (verdict_on x p a) p a n (judge_not_11 (get_or x.processed p no_processed) (get_or a.buffers.by_partitions p no_partition) a.place.key (leb (a.buffers.used + entry_len) x.room)))
      (λ e. omega arith)

  -- a walk that goes on was not refused
  going_zero : (w : Walk) → stopped x w ≡ false → w.number ≡ 0
  unfolding stopped
  going_zero w e = go (eqb w.number 0) refl e
    where
      go : (b : Bool) → eqb w.number 0 ≡ b → (not (eqb w.number 0) || (full w.buffers || ends x.mode w.place.reached)) ≡ false → w.number ≡ 0
      go true h f = eqb-true w.number 0 h
      go false h f = never (rw h at f)

  walk_not_11 : (l : List (List ℕ)) (s : Outcome Walk) → (s.value.number ≡ 11 → ⊥) → (messages_read x routes time l s).value.number ≡ 11 → ⊥
  unfolding messages_read
  walk_not_11 [] s z = z
  walk_not_11 (m ∷ l) s z = go (λ n. walk_not_11 l (followed s (message_read x routes time m s.value)) n) (stopped x s.value) refl
    where
      t : Outcome Walk
      t = followed s (message_read x routes time m s.value)

      go : ((t.value.number ≡ 11 → ⊥) → (messages_read x routes time l t).value.number ≡ 11 → ⊥) → (b : Bool) → stopped x s.value ≡ b → (pick b s (messages_read x routes time l t)).value.number ≡ 11 → ⊥
      go i true h = z
      go i false h = i (message_not_11 m s.value (going_zero s.value h))

-- ---- step 6 asks question 11
module _ (x : Context) (time : ChainTime) (count : ℕ) (w : Walk) (r : RangeRead) where
  finished_11 : (w.number ≡ 11 → ⊥) → (finished x time count w r).walk.number ≡ 11 → (stopped x w ≡ false) × (w.place.key.msgs_offset ≡ count → ⊥)
  unfolding finished stopped
  finished_11 h = go (eqb w.number 0) (ends x.mode w.place.reached) (full w.buffers) (is_whole w count) refl
    where
      go : (a b c d : Bool) → is_whole w count ≡ d
          → (pick (not a) (leave w time (after_pop (is_whole w count) r.pops) r.fully_read true) (pick b (leave w time (after_pop (is_whole w count) r.pops) true true) (pick c (leave w time (after_pop (is_whole w count) r.pops) r.fully_read true)
          (pick d (leave w time (after_pop (is_whole w count) r.pops) r.fully_read false) (leave (refused_with 11 w) time (after_pop (is_whole w count) r.pops) r.fully_read true))))).walk.number ≡ 11
          → ((not a || (c || b)) ≡ false) × (w.place.key.msgs_offset ≡ count → ⊥)
      go false b c d f e = absurd (h e)
      go true true c d f e = absurd (h e)
      go true false true d f e = absurd (h e)
      go true false false true f e = absurd (h e)
      go true false false false f e = (refl, eqb-false w.place.key.msgs_offset count f)

  refused_number : (refused_with 11 w).number ≡ 11
  unfolding refused_with
  refused_number = refl

  finished_is_11 : w.number ≡ 0 → ends x.mode w.place.reached ≡ false → full w.buffers ≡ false → (w.place.key.msgs_offset ≡ count → ⊥) → (finished x time count w r).walk.number ≡ 11
  unfolding finished
  finished_is_11 n e f h =
      ap (λ (q : RangeRead). q.walk.number) (pick_no _ _ _ (ap not (eq-eqb w.number 0 n)) ∙ (pick_no _ _ _ e ∙ (pick_no _ _ _ f ∙ pick_no _ _ _ (ne_eqb w.place.key.msgs_offset count h)))) ∙ refused_number

-- ---- the front anchor at which the walk does not move on, in document 01's words
pub record NotMovingOn (x : Context) (id : ℕ) (time : ChainTime) (l : List (List ℕ)) (r : RangeRead) : Type 0 where
  pub unexpired : expired_at x.chain_time time x.limit ≡ false
  pub position's_id : x.position.anchor_id ≡ id
  pub beyond : length l < x.position.msgs_offset
  pub none_full : full r.walk.buffers ≡ false
  pub not_at_the_saved_end : ends x.mode (end_reached x.position x.saved_end) ≡ false

looked_parts : (x : Context) (id : ℕ) (w : Walk) → ((looked x id w).number ≡ w.number) × (((looked x id w).buffers ≡ w.buffers) × (((looked x id w).place.key ≡ look_key x id) × ((looked x id w).place.reached ≡ end_reached (look_key x id) x.saved_end)))
unfolding looked
looked_parts x id w = (refl, (refl, (refl, refl)))

look_own : (x : Context) (id : ℕ) → x.position.anchor_id ≡ id → look_key x id ≡ x.position
look_own x id e = ap (λ (n : ℕ). key_at id n) (pick_yes _ _ _ (eq-eqb x.position.anchor_id id e)) ∙ ap (λ (i : ℕ). key_at i x.position.msgs_offset) (sym e)

only_beyond : (o n m : ℕ) → n ≡ o + (m - o) → (n ≡ m → ⊥) → m < o
only_beyond o n m e h = go (ltb m o) refl
  where
    go : (b : Bool) → ltb m o ≡ b → m < o
    go true f = ltb-true m o f
    go false f = let g = ltb-false m o f in absurd (h (omega arith))

own_anchor : (position : ExternalKey) (id m : ℕ) → m < offset_in position id → (position.anchor_id ≡ id) × (m < position.msgs_offset)
own_anchor position id m = go (eqb position.anchor_id id) refl
  where
    go : (b : Bool) → eqb position.anchor_id id ≡ b → m < pick b position.msgs_offset 0 → (position.anchor_id ≡ id) × (m < position.msgs_offset)
    go true e h = (eqb-true position.anchor_id id e, h)
    go false e h = absurd (omega arith)

stopped_ends : (x : Context) (w : Walk) → stopped x w ≡ false → ends x.mode w.place.reached ≡ false
unfolding stopped
stopped_ends x w e = (or_parts (full w.buffers) _ (or_parts (not (eqb w.number 0)) _ e).1).1

module _ (x : Context) (routes : List ℕ) (id : ℕ) (time : ChainTime) (l : List (List ℕ)) (r : RangeRead) (zero : r.walk.number ≡ 0) where
  abbrev here : Walk
  here = looked x id r.walk

  abbrev reading : Walk
  reading = (messages_read x routes time (unread here l) (silent here)).value

  key_here : here.place.key ≡ look_key x id
  key_here = (looked_parts x id r.walk).1.1.0

  number_here : here.number ≡ 0
  number_here = (looked_parts x id r.walk).0 ∙ zero

  -- past the end nothing is read
  unmoved : length l ≤ offset_in x.position id → reading ≡ here
  unmoved h =
      let o : here.place.key.msgs_offset ≡ offset_in x.position id = ap (λ (k : ExternalKey). k.msgs_offset) key_here in
      let g : length l ≤ here.place.key.msgs_offset = omega arith in
      ap (λ (s : Outcome Walk). s.value) (past_the_count_no_message_is_walked x routes time l here.place.key.msgs_offset here g)

  not_moving : expired_at x.chain_time time x.limit ≡ false → (finished x time (length l) reading r).walk.number ≡ 11 → NotMovingOn x id time l r
  not_moving u e =
      let f = finished_11 x time (length l) reading r (walk_not_11 x routes time (unread here l) (silent here) (λ q. let n = number_here in omega arith)) e in
      let o : here.place.key.msgs_offset ≡ offset_in x.position id = ap (λ (k : ExternalKey). k.msgs_offset) key_here in
      let n = walk_all x routes time (unread here l) (silent here) f.0 in
      let d : length (unread here l) ≡ length l - here.place.key.msgs_offset = length-drop here.place.key.msgs_offset l in
      let b = only_beyond (offset_in x.position id) reading.place.key.msgs_offset (length l) (omega arith) f.1 in
      let c = own_anchor x.position id (length l) b in
      let s = unmoved (omega arith) in
      let k = look_own x id c.0 in
      record {
        unexpired = u;
        position's_id = c.0;
        beyond = c.1;
        none_full = ap (λ (w : Buffers). full w) (sym (looked_parts x id r.walk).1.0) ∙ (ap (λ (w : Walk). full w.buffers) (sym s) ∙ stopped_full x reading f.0);
        not_at_the_saved_end = ap (λ (q : ExternalKey). ends x.mode (end_reached q x.saved_end)) (sym k) ∙ (ap (ends x.mode) (sym (looked_parts x id r.walk).1.1.1) ∙ (ap (λ (w : Walk). ends x.mode w.place.reached) (sym s) ∙ stopped_ends x reading f.0));
      }

  pub question_11_refuses_only_a_walk_that_does_not_move_on : (anchor_read x routes id time l r).value.walk.number ≡ 11 → NotMovingOn x id time l r
  unfolding anchor_read expired
  question_11_refuses_only_a_walk_that_does_not_move_on = go (ltb id x.position.anchor_id) (expired_at x.chain_time time x.limit) refl
    where
      go : (a b : Bool) → expired_at x.chain_time time x.limit ≡ b
          → (pick a (silent (popped r)) (pick b (silent (expired x time (expired_over x.shard routes (unread here l) here.counts.expired) here r)) (walked x time (length l) (messages_read x routes time (unread here l) (silent here)) r))).value.walk.number ≡ 11 → NotMovingOn x id time l r
      go true b u e = absurd (omega arith)
      go false true u e = let n = number_here in absurd (omega arith)
      go false false u e = not_moving u e

  pub a_walk_that_does_not_move_on_is_refused_by_question_11 : NotMovingOn x id time l r → (anchor_read x routes id time l r).value.walk.number ≡ 11
  unfolding anchor_read
  a_walk_that_does_not_move_on_is_refused_by_question_11 h =
      let k = look_own x id h.position's_id in
      let o : offset_in x.position id ≡ x.position.msgs_offset = ap (λ (q : ExternalKey). q.msgs_offset) k in
      let g : here.place.key.msgs_offset ≡ offset_in x.position id = ap (λ (q : ExternalKey). q.msgs_offset) key_here in
      let b = h.beyond in
      let s = unmoved (omega arith) in
      let i = h.position's_id in
      rw (le-ltb id x.position.anchor_id (omega arith), h.unexpired)
      (ap (λ (w : Walk). (finished x time (length l) w r).walk.number) s
      ∙ finished_is_11 x time (length l) here r number_here
      (ap (ends x.mode) (looked_parts x id r.walk).1.1.1 ∙ (ap (λ (q : ExternalKey). ends x.mode (end_reached q x.saved_end)) k ∙ h.not_at_the_saved_end))
      (ap (λ (w : Buffers). full w) (looked_parts x id r.walk).1.0 ∙ h.none_full)
      (λ e. omega arith))
