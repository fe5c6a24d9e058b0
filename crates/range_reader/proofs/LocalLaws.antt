-- What the walk's locals stand for moves on with each message as the walk does.
use Prim.Native.Nat.{ℕ, ◌+◌, ◌-◌, ◌*◌, ◌^◌, ◌≤◌, ◌<◌}
use mathlib.Core.Path.{◌≡◌, refl, sym, ap, ◌∙◌}
use mathlib.Core.Bool.{Bool, true, false, cond, ◌||◌, ◌&&◌}
use mathlib.Core.List.{List, []}
use mathlib.Core.Logic.{inr}
use native.Mathlib.Omega.{arith}
use lib.Dec.{eqb, ltb, leb}
use lib.ListN.{length, get_or, set, take, drop, length-set}
use lib.Seq.{sets}
use borrow.Author.Tests.{eqb-true, eqb-false, eq-eqb, ne_eqb, ltb-true, ltb-false}
use Rattle.std.proofs.Common.{Less, Equal, Greater}
use Rattle.std.specs.Ordering.{is_lt, nat_cmp, ordering_then, ord_max}
use Rattle.ext_types.specs.contracts.ExternalKeyOrd.TheImpl as derived
use Rattle.rows.specs.Rows.{pick, rows}
use Rattle.std.proofs.lemmas.List.{set-get_or}
use Rattle.std.proofs.Math.Bool.{or-false, or-true}
use Rattle.rows.proofs.Laws.{pick_yes, pick_no, pick_same}
use Rattle.ext_types.specs.declared.ChainTime.{ChainTime}
use Rattle.ext_types.specs.declared.ExternalKey.{ExternalKey}
use Rattle.ext_types.specs.Keys.{key_above}
use Rattle.ext_types.proofs.Laws.{fact_above, above_transitive}
use Rattle.messages_buffer.specs.declared.ExternalsPartitionRangeReaderState.{ExternalsPartitionRangeReaderState}
use Rattle.messages_buffer.specs.Fullness.{range_free, no_partition}
use Rattle.messages_buffer.proofs.Free.{one_more_free}
use Rattle.shard_ident.specs.Shard.{is_ours}
use Rattle.router.specs.Router.{partition_of}
use Rattle.range_rules.specs.declared.Context.{Context}
use Rattle.range_reader.specs.declared.Entry.{Entry}
use Rattle.range_rules.specs.declared.Place.{Place}
use Rattle.range_reader.specs.declared.Progress.{Progress}
use Rattle.range_reader.specs.declared.Taken.{Taken}
use Rattle.range_rules.specs.Walks.{Verdict, Keep, Buffer, Refuse, Walk}
use Rattle.range_reader.specs.declared.Walk.{Walk as CodeWalk}
use Rattle.std.specs.Prelude.{Ok, Err}
use Rattle.refusals.specs.declared.Refusal.{Refusal}
use Rattle.refusals.specs.Refusals.{number_of}
use Rattle.refusals.proofs.Laws.{refused_is_not_done}
use Rattle.range_rules.specs.Rules.{silent, end_reached, raised, moved_to, key_at, next_key, advanced, ends, stopped, no_processed, judge, more, refused_with, read_one, buffered, buffer_one, after, verdict_on, our_read, message_read, messages_read, entry_len}
use Rattle.range_rules.specs.WalkEnd.{walk_end}
use Rattle.range_rules.specs.Bounds.{Few}
use Rattle.cache_rules.specs.Rules.{max_messages, area_bytes}
use Rattle.range_reader.specs.Ready.{Wrote, Tells, Eight, walk_told, walk_tells}
use Rattle.range_reader.specs.Locals.{progress_of, place_at, walk_of, entry_at, bytes_of, verdict_at, grown, taken, entries_of}
use Rattle.range_rules.proofs.Counts.{judge_buffer, stopped_full, room_in}
use Rattle.range_rules.proofs.WalkEnd.{the_narrow_end_is_the_64_bit_end, the_walk_ends_within_its_messages}
use Rattle.range_reader.proofs.MessageLaws.{wrote_nothing, Turn, turn_start, turn_next, turn_stop, turn_none}

-- ---- places
-- the greater of two keys, as `max` tells it, is "to" raised
less_by_numbers : (i j m n : ℕ) → is_lt (ordering_then (nat_cmp i j) (nat_cmp m n)) ≡ (ltb i j || (eqb j i && ltb m n))
less_by_numbers i j m n = go (ltb i j) refl (eqb i j) refl (ltb m n) refl (eqb m n)
  where
    go : (x : Bool) → ltb i j ≡ x → (y : Bool) → eqb i j ≡ y → (z : Bool) → ltb m n ≡ z → (w : Bool) → is_lt (ordering_then (cond x Less (cond y Equal Greater)) (cond z Less (cond w Equal Greater))) ≡ (ltb i j || (eqb j i && ltb m n))
    go true p y q z r w = rw p
    go false p true q true r w = rw (p, r, eq-eqb j i (sym (eqb-true i j q)))
    go false p true q false r true = rw (p, r, eq-eqb j i (sym (eqb-true i j q)))
    go false p true q false r false = rw (p, r, eq-eqb j i (sym (eqb-true i j q)))
    go false p false q z r w = let d = eqb-false i j q in rw (p, ne_eqb j i (λ e. d (sym e)))

picked : {A : Type 0} (b : Bool) (x y : A) → cond b x y ≡ pick b x y
picked true x y = refl
picked false x y = refl

pub the_greater_is_raised : (key to : ExternalKey) → ord_max derived.cmp-value.it key to ≡ raised key to
unfolding key_above
the_greater_is_raised key to =
    ap (λ (b : Bool). cond b key to) (less_by_numbers to.anchor_id key.anchor_id to.msgs_offset key.msgs_offset)
    ∙ picked (key_above key to) key to

-- raising by one key and then by the next is raising by the next
raised_again : (key to : ExternalKey) → raised (next_key key) (raised key to) ≡ raised (next_key key) to
raised_again key to = go (key_above key to) refl
  where
    above : key_above (next_key key) key ≡ true
    above = fact_above (next_key key) key (inr (refl, omega arith))

    go : (b : Bool) → key_above key to ≡ b → raised (next_key key) (pick b key to) ≡ raised (next_key key) to
    go true h = pick_yes _ _ _ above ∙ sym (pick_yes _ _ _ (above_transitive (next_key key) key to above h))
    go false h = refl

module _ (end : ExternalKey) (place : Place) (offset : ℕ) where
  pub place_key : (place_at end place offset).key ≡ key_at place.key.anchor_id offset
  unfolding place_at
  place_key = go (eqb place.key.msgs_offset offset) refl
    where
      go : (b : Bool) → eqb place.key.msgs_offset offset ≡ b → (pick b place (moved_to end (key_at place.key.anchor_id offset) place)).key ≡ key_at place.key.anchor_id offset
      go true h = ap (key_at place.key.anchor_id) (eqb-true _ _ h)
      go false h = refl

  place_reached : place.reached ≡ end_reached place.key end → (place_at end place offset).reached ≡ end_reached (key_at place.key.anchor_id offset) end
  unfolding place_at
  place_reached r = go (eqb place.key.msgs_offset offset) refl
    where
      go : (b : Bool) → eqb place.key.msgs_offset offset ≡ b → (pick b place (moved_to end (key_at place.key.anchor_id offset) place)).reached ≡ end_reached (key_at place.key.anchor_id offset) end
      go true h = r ∙ ap (λ (o : ℕ). end_reached (key_at place.key.anchor_id o) end) (eqb-true _ _ h)
      go false h = refl

  place_next : place.key.msgs_offset ≤ offset → moved_to end (key_at place.key.anchor_id (offset + 1)) (place_at end place offset) ≡ place_at end place (offset + 1)
  unfolding place_at
  place_next h = go (eqb place.key.msgs_offset offset) ∙ sym (pick_no _ _ _ (ne_eqb place.key.msgs_offset (offset + 1) (λ e. omega arith)))
    where
      id : ℕ
      id = place.key.anchor_id

      go : (b : Bool) → moved_to end (key_at place.key.anchor_id (offset + 1)) (pick b place (moved_to end (key_at place.key.anchor_id offset) place)) ≡ moved_to end (key_at place.key.anchor_id (offset + 1)) place
      go true = refl
      go false =
          let k = key_at place.key.anchor_id (offset + 1) in
          ap (λ (t : ExternalKey). record { key = k; reached = end_reached k end; position = k; to = t }) (raised_again (key_at place.key.anchor_id offset) place.to)

-- ---- lists
none_more : (l : List ℕ) (p : ℕ) → set l p (get_or l p 0 + 0) ≡ l
none_more l p =
    let e : get_or l p 0 + 0 ≡ get_or l p 0 = omega arith in
    rw e (set-get_or l p 0)

-- ---- the walk
module _ (x : Context) (start : CodeWalk) where
  abbrev walk : ℕ → Progress → List ExternalsPartitionRangeReaderState → List ℕ → List ℕ → Walk
  walk offset b partitions read buffered₁ = walk_told (walk_of start x.saved_end offset b partitions read buffered₁)

  pub walk_start : walk start.place.key.msgs_offset (progress_of start.buffers) start.buffers.by_partitions start.counts.read start.counts.buffered ≡ walk_told start
  unfolding place_at
  walk_start =
      ap (λ (p : Place). walk_told (record { place = p; buffers = start.buffers; counts = start.counts }))
      (pick_yes _ _ _ (eq-eqb start.place.key.msgs_offset start.place.key.msgs_offset refl))

  module _ (offset : ℕ) (b : Progress) (partitions : List ExternalsPartitionRangeReaderState) (read buffered₁ : List ℕ) where
    -- up to the walk's end, the saved end stops it exactly there
    stopped_locals : (n : ℕ) → start.place.reached ≡ end_reached start.place.key x.saved_end → start.place.key.msgs_offset ≤ offset → offset < start.place.key.msgs_offset + n → offset ≤ walk_end x.mode x.saved_end start.place.key (start.place.key.msgs_offset + n)
        → stopped x (walk offset b partitions read buffered₁) ≡ (eqb b.free 0 || eqb offset (walk_end x.mode x.saved_end start.place.key (start.place.key.msgs_offset + n)))
    unfolding stopped
    stopped_locals n r past more before =
        let key = start.place.key in
        ap (λ (q : Bool). eqb b.free 0 || q)
        (ap (ends x.mode) (place_reached x.saved_end start.place offset r) ∙ sym (the_narrow_end_is_the_64_bit_end x.mode x.saved_end key.anchor_id key.msgs_offset (key.msgs_offset + n) offset past more before))

    advanced_locals : start.place.key.msgs_offset ≤ offset → advanced x (walk offset b partitions read buffered₁) ≡ walk (offset + 1) b partitions read buffered₁
    unfolding advanced
    advanced_locals h =
        let k = place_key x.saved_end start.place offset in
        let f : Place → Walk = λ (p : Place). record { number = 0; place = p; buffers = record { free = b.free; used = b.used; by_partitions = partitions }; counts = record { read = read; expired = start.counts.expired; buffered = buffered₁ } } in
        ap (λ (key : ExternalKey). f (moved_to x.saved_end (next_key key) (place_at x.saved_end start.place offset))) k
        ∙ ap f (place_next x.saved_end start.place offset h)

    -- what a verdict changes in one partition is what it makes of the walk
    taken_locals : (v : Verdict) (time : ChainTime) (p : ℕ) → length x.limits ≡ length partitions → p < length x.limits → b.free ≡ range_free x.limits partitions → (v ≡ Buffer → (get_or partitions p no_partition).present ≡ true)
        → (t : Taken) → Ok t ≡ taken v (get_or x.limits p 0) (get_or partitions p no_partition) b
        → walk offset t.progress (set partitions p t.partition) (set read p (get_or read p 0 + 1)) (set buffered₁ p (get_or buffered₁ p 0 + t.buffered)) ≡ (after v x time p (walk offset b partitions read buffered₁)).value
    unfolding taken read_one buffer_one buffered
    taken_locals Keep time p l h e f t g = let k : t ≡ record { progress = b; buffered = 0; partition = get_or partitions p no_partition } = cc in rw (k, set-get_or partitions p no_partition, none_more buffered₁ p)
    taken_locals Buffer time p l h e f t g = let k : t ≡ grown (get_or x.limits p 0) (get_or partitions p no_partition) b = cc in rw (k, one_more_free x.limits partitions p h (omega arith) (f refl), sym e)
    taken_locals (Refuse n) time p l h e f t g = absurd cc

  module _ (offset : ℕ) (b : Progress) (partitions : List ExternalsPartitionRangeReaderState) (read buffered₁ : List ℕ) where
    abbrev next : Walk
    next = walk (offset + 1) b partitions read buffered₁

    module _ (routes : List ℕ) (time : ChainTime) (m : List ℕ) (write : Bool) (out : List ℕ) (h : start.place.key.msgs_offset ≤ offset) where
      pub other_step : is_ours x.shard m ≡ false → Wrote write b.used out out next (message_read x routes time m (walk offset b partitions read buffered₁))
      unfolding message_read
      other_step i = rw i (wrote_nothing write b.used out next _ (sym (advanced_locals offset b partitions read buffered₁ h)))

      module _ (p : ℕ) (ours : is_ours x.shard m ≡ true) (pe : p ≡ partition_of routes m) (l : length x.limits ≡ length partitions) (few : p < length x.limits) (free : b.free ≡ range_free x.limits partitions) where
        abbrev key : ExternalKey
        key = key_at start.place.key.anchor_id (offset + 1)

        abbrev verdict : Verdict
        verdict = verdict_at (get_or x.processed p no_processed) (get_or partitions p no_partition) key b x.room

        abbrev entry : Entry
        entry = entry_at x.seqno p start.place.key.anchor_id (offset + 1) time

        same_verdict : verdict_on x p next ≡ verdict
        same_verdict = ap (λ (k : ExternalKey). judge (get_or x.processed p no_processed) (get_or partitions p no_partition) k (leb (b.used + entry_len) x.room)) (place_key x.saved_end start.place (offset + 1))

        same_entries : (v : Verdict) → entries_of v entry ≡ (after v x time p next).entries
        unfolding entries_of
        same_entries Keep = refl
        same_entries Buffer = sym (ap (λ (k : ExternalKey). bytes_of (record { seqno = x.seqno; partition = p; key = k; time = time })) (place_key x.saved_end start.place (offset + 1)))
        same_entries (Refuse n) = refl

        pub ours_step : (o : List ℕ) (t : Taken) → Ok t ≡ taken verdict (get_or x.limits p 0) (get_or partitions p no_partition) b → o ≡ pick write (sets out b.used (entries_of verdict entry)) out
            → Wrote write b.used out o (walk (offset + 1) t.progress (set partitions p t.partition) (set read p (get_or read p 0 + 1)) (set buffered₁ p (get_or buffered₁ p 0 + t.buffered))) (message_read x routes time m (walk offset b partitions read buffered₁))
        unfolding message_read our_read
        ours_step o t te oe =
            rw (ours, sym pe, advanced_locals offset b partitions read buffered₁ h, same_verdict)
            (record {
              value = taken_locals (offset + 1) b partitions read buffered₁ verdict time p l few free (λ e. (judge_buffer _ _ _ _ e).1) t te;
              out = oe ∙ ap (λ (es : List ℕ). pick write (sets out b.used es) out) (same_entries verdict);
            })

        -- where a question refuses it, the walk that the rules come to stops at once
        pub refused_step : (o : List ℕ) (n : ℕ) → Err n ≡ taken verdict (get_or x.limits p 0) (get_or partitions p no_partition) b → o ≡ pick write (sets out b.used (entries_of verdict entry)) out
            → Wrote write b.used out o (refused_with n next) (message_read x routes time m (walk offset b partitions read buffered₁))
        unfolding message_read our_read taken entries_of
        refused_step o n te oe = rw (ours, sym pe, advanced_locals offset b partitions read buffered₁ h, same_verdict) (go verdict te oe)
          where
            go : (v : Verdict) → Err n ≡ taken v (get_or x.limits p 0) (get_or partitions p no_partition) b → o ≡ pick write (sets out b.used (entries_of v entry)) out → Wrote write b.used out o (refused_with n next) (after v x time p next)
            go Keep e f = absurd cc
            go Buffer e f = absurd cc
            go (Refuse k) e f = let g : n ≡ k = cc in rw g (record { value = refl; out = f })

-- ---- one message of ours, put together from what its parts ensure
pub no_entry : (write : Bool) (used : ℕ) (out es : List ℕ) → es ≡ [] → out ≡ pick write (sets out used es) out
no_entry write used out es e = rw e (sym (pick_same write out))

-- ---- the loop over the messages
refused_stops : (x : Context) (w : Walk) → (w.number ≡ 0 → ⊥) → stopped x w ≡ true
unfolding stopped
refused_stops x w n = rw (ne_eqb w.number 0 n)

-- the part that the loop reads is as long as a message
pub one_message : (at : ℕ) → at + 33 - at ≡ 33
one_message at = omega arith

-- the start's offset plus n is behind the last message: less the offset, so many are left
pub record LocalTurn (x : Context) (routes : List ℕ) (time : ChainTime) (rest : List ℕ) (n : ℕ) (write : Bool) (out₀ : List ℕ) (start : CodeWalk) (out : List ℕ) (offset : ℕ) (b : Progress) (partitions : List ExternalsPartitionRangeReaderState) (read buffered₁ : List ℕ) (at : ℕ) : Type 0 where
  pub turn : Turn x routes time rest n write out₀ (walk_told start) out (walk_told (walk_of start x.saved_end offset b partitions read buffered₁)) at (start.place.key.msgs_offset + n - offset)
  pub past : start.place.key.msgs_offset ≤ offset
  pub before : offset ≤ walk_end x.mode x.saved_end start.place.key (start.place.key.msgs_offset + n)
  pub partitions_long : length partitions ≡ 8
  pub read_long : length read ≡ 8
  pub buffered_long : length buffered₁ ≡ 8

module _ (x : Context) (routes : List ℕ) (time : ChainTime) (rest : List ℕ) (n : ℕ) (write : Bool) (out₀ : List ℕ) (start : CodeWalk) where
  pub locals_within : (end : ℕ) → end ≡ walk_end x.mode x.saved_end start.place.key (start.place.key.msgs_offset + n) → (start.place.key.msgs_offset ≤ end) × (end ≤ start.place.key.msgs_offset + n)
  locals_within end e = rw e (the_walk_ends_within_its_messages x.mode x.saved_end start.place.key (start.place.key.msgs_offset + n) (omega arith))

  pub locals_start : 33 * n ≤ length rest → start.place.key.msgs_offset + n < 2 ^ 16 → Few x n (walk_told start) → Eight (walk_told start)
      → (b : Progress) → b ≡ progress_of start.buffers → LocalTurn x routes time rest n write out₀ start out₀ start.place.key.msgs_offset b start.buffers.by_partitions start.counts.read start.counts.buffered 0
  locals_start e f h l8 b be =
      let l : start.place.key.msgs_offset + n - start.place.key.msgs_offset ≡ n = omega arith in
      record {
        turn = rw (be, walk_start x start, l) (turn_start x routes time rest n write out₀ (walk_told start) e f h);
        past = omega arith;
        before = (locals_within _ refl).0;
        partitions_long = l8.partitions;
        read_long = l8.read;
        buffered_long = l8.buffered;
      }

module _ {x : Context} {routes : List ℕ} {time : ChainTime} {rest : List ℕ} {n : ℕ} {write : Bool} {out₀ : List ℕ} {start : CodeWalk} {out : List ℕ} {offset : ℕ} {b : Progress} {partitions : List ExternalsPartitionRangeReaderState} {read buffered₁ : List ℕ} {at end : ℕ}
    (h : LocalTurn x routes time rest n write out₀ start out offset b partitions read buffered₁ at)
    (reached : start.place.reached ≡ end_reached start.place.key x.saved_end) (ee : end ≡ walk_end x.mode x.saved_end start.place.key (start.place.key.msgs_offset + n)) where
  abbrev first : ℕ
  first = start.place.key.msgs_offset

  abbrev here : Walk
  here = walk_told (walk_of start x.saved_end offset b partitions read buffered₁)

  stopped_here : offset < first + n → stopped x here ≡ (eqb b.free 0 || eqb offset end)
  stopped_here l = stopped_locals x start offset b partitions read buffered₁ n reached h.past l h.before ∙ ap (λ (q : ℕ). eqb b.free 0 || eqb offset q) (sym ee)

  -- the arrays were changed in place, and the rest of the walk is set at its end
  abbrev arrays : CodeWalk
  arrays = record { place = start.place; buffers = record { free = start.buffers.free; used = start.buffers.used; by_partitions = partitions }; counts = record { read = read; expired = start.counts.expired; buffered = buffered₁ } }

  pub locals_set : (w : CodeWalk) (place : Place) → w ≡ arrays → place ≡ place_at x.saved_end w.place offset → Wrote write start.buffers.used out₀ out here (messages_read x routes time (rows 33 n rest) (silent (walk_told start)))
      → Tells write start.buffers.used out₀ out (walk_tells (Ok (record { place = place; buffers = record { free = b.free; used = b.used; by_partitions = w.buffers.by_partitions }; counts = w.counts }))) (messages_read x routes time (rows 33 n rest) (silent (walk_told start)))
  locals_set w place e f t = rw (f, e) (record { value = t.value; out = t.out })

  -- at its end the walk has read its messages, or stands at the saved end
  pub locals_end : end ≤ offset → Wrote write start.buffers.used out₀ out here (messages_read x routes time (rows 33 n rest) (silent (walk_told start)))
  locals_end e = go (ltb offset (first + n)) refl
    where
      go : (q : Bool) → ltb offset (first + n) ≡ q → Wrote write start.buffers.used out₀ out here (messages_read x routes time (rows 33 n rest) (silent (walk_told start)))
      go true l = turn_stop x routes time rest n write out₀ (walk_told start) out here at (first + n - offset) h.turn
          (stopped_here (ltb-true offset (first + n) l) ∙ (ap (λ (q : Bool). eqb b.free 0 || q) (eq-eqb offset end (omega (arith, h.before, ee))) ∙ or-true (eqb b.free 0)))
      go false l = let g = ltb-false offset (first + n) l in turn_none x routes time rest n write out₀ (walk_told start) out here at (first + n - offset) h.turn (omega arith)

  module _ (more : offset < end) where
    left : offset < first + n
    left = omega (arith, (locals_within x routes time rest n write out₀ start end ee).1)

    stopped_full_lem : stopped x here ≡ eqb b.free 0
    stopped_full_lem = stopped_here left ∙ (ap (λ (q : Bool). eqb b.free 0 || q) (ne_eqb offset end (λ (q : offset ≡ end). omega arith)) ∙ or-false (eqb b.free 0))

    -- the walk is stopped where a buffer is full, as the loop tests it
    pub locals_full : b.free ≡ 0 → Wrote write start.buffers.used out₀ out here (messages_read x routes time (rows 33 n rest) (silent (walk_told start)))
    locals_full z = turn_stop x routes time rest n write out₀ (walk_told start) out here at (first + n - offset) h.turn (stopped_full_lem ∙ eq-eqb b.free 0 z)

    -- the next message stands in the rest, and behind it 64 bits still hold the place
    pub locals_bytes : at + 33 ≤ length rest
    locals_bytes = omega (arith, h.turn.bytes, left)

    pub locals_near : at + 33 ≤ area_bytes
    locals_near = omega (arith, h.turn.near, left)

    -- counts leave room for one more
    pub locals_counts : (p : ℕ) → (get_or read p 0 < max_messages) × (get_or buffered₁ p 0 < max_messages)
    locals_counts p = (omega (arith, h.turn.within.read p, h.turn.few, left), omega (arith, h.turn.within.buffered p, h.turn.few, left))

    module _ (free_left : (b.free ≡ 0 → ⊥)) where
      goes_on : stopped x here ≡ false
      goes_on = stopped_full_lem ∙ ne_eqb b.free 0 free_left

      next_turn_lem : (o : List ℕ) (q : Walk) → Wrote write b.used out o q (message_read x routes time (take 33 (drop at rest)) here) → Turn x routes time rest n write out₀ (walk_told start) o q (at + 33) (first + n - (offset + 1))
      next_turn_lem o q w =
          let e : first + n - offset - 1 ≡ first + n - (offset + 1) = omega arith in
          rw e at (turn_next x routes time rest n write out₀ (walk_told start) out here at (first + n - offset) h.turn o q (omega (arith, left)) goes_on w)

      pub locals_other : is_ours x.shard (take 33 (drop at rest)) ≡ false → LocalTurn x routes time rest n write out₀ start out (offset + 1) b partitions read buffered₁ (at + 33)
      locals_other i = record {
        turn = next_turn_lem out _ (other_step x start offset b partitions read buffered₁ routes time _ write out h.past i);
        past = omega (arith, h.past);
        before = omega (arith, ee);
        partitions_long = h.partitions_long;
        read_long = h.read_long;
        buffered_long = h.buffered_long;
      }

      module _ (p : ℕ) (i : is_ours x.shard (take 33 (drop at rest)) ≡ true) (pe : p ≡ partition_of routes (take 33 (drop at rest))) (few : p < 8) (l : length x.limits ≡ 8) where
        pub locals_room : (get_or partitions p no_partition).present ≡ true → (get_or partitions p no_partition).count + 1 ≤ get_or x.limits p 0
        locals_room q = room_in x.limits here.buffers p l h.partitions_long few (ap (λ (n : ℕ). eqb n 0) (sym h.turn.within.free) ∙ stopped_full x here goes_on) q

        pub locals_ours : (o : List ℕ) (t : Taken) (e : Entry) → e ≡ entry_at x.seqno p start.place.key.anchor_id (offset + 1) time
            → (Ok t ≡ taken (verdict_at (get_or x.processed p no_processed) (get_or partitions p no_partition) e.key b x.room) (get_or x.limits p 0) (get_or partitions p no_partition) b)
            × (o ≡ pick write (sets out b.used (entries_of (verdict_at (get_or x.processed p no_processed) (get_or partitions p no_partition) e.key b x.room) e)) out)
            → LocalTurn x routes time rest n write out₀ start o (offset + 1) t.progress (set partitions p t.partition) (set read p (get_or read p 0 + 1)) (set buffered₁ p (get_or buffered₁ p 0 + t.buffered)) (at + 33)
        locals_ours o t e entry-is g =
            let f = rw entry-is at g in
            let s : length x.limits ≡ length partitions = l ∙ sym h.partitions_long in
            record {
              turn = next_turn_lem o _ (ours_step x start offset b partitions read buffered₁ routes time _ write out h.past p i pe s (omega arith) h.turn.within.free o t f.0 f.1);
              past = omega (arith, h.past);
              before = omega (arith, ee);
              partitions_long = simp length-set h.partitions_long;
              read_long = simp length-set h.read_long;
              buffered_long = simp length-set h.buffered_long;
            }

        -- where a question refuses the message, the result tells its number
        pub locals_refused : (o : List ℕ) (r : Refusal) (e : Entry) → e ≡ entry_at x.seqno p start.place.key.anchor_id (offset + 1) time
            → (Err (number_of r) ≡ taken (verdict_at (get_or x.processed p no_processed) (get_or partitions p no_partition) e.key b x.room) (get_or x.limits p 0) (get_or partitions p no_partition) b)
            × (o ≡ pick write (sets out b.used (entries_of (verdict_at (get_or x.processed p no_processed) (get_or partitions p no_partition) e.key b x.room) e)) out)
            → Tells write start.buffers.used out₀ o (walk_tells (Err r)) (messages_read x routes time (rows 33 n rest) (silent (walk_told start)))
        unfolding refused_with
        locals_refused o r e entry-is g =
            let f = rw entry-is at g in
            let s : length x.limits ≡ length partitions = l ∙ sym h.partitions_long in
            let v = refused_with (number_of r) (walk_told (walk_of start x.saved_end (offset + 1) b partitions read buffered₁)) in
            let k = next_turn_lem o v (refused_step x start offset b partitions read buffered₁ routes time _ write out h.past p i pe s (omega arith) h.turn.within.free o (number_of r) f.0 f.1) in
            let w = turn_stop x routes time rest n write out₀ (walk_told start) o v (at + 33) (first + n - (offset + 1)) k (refused_stops x v (refused_is_not_done r)) in
            record { value = ap (λ (u : Walk). u.number) w.value; out = w.out }

-- a message counts at most once
pub taken_once : (v : Verdict) (limit : ℕ) (partition : ExternalsPartitionRangeReaderState) (b : Progress) (t : Taken) → Ok t ≡ taken v limit partition b → t.buffered ≤ 1
unfolding taken
taken_once Keep limit partition b t e = let k : t ≡ record { progress = b; buffered = 0; partition = partition } = cc in rw k (omega arith)
taken_once Buffer limit partition b t e = let k : t ≡ grown limit partition b = cc in rw k (omega arith)
taken_once (Refuse n) limit partition b t e = absurd cc
