-- One message, and the walk over the messages of an anchor.
use Prim.Native.Nat.{ℕ, suc, zero, ◌+◌, ◌-◌, ◌*◌, ◌/◌, ◌^◌, ◌≤◌, ◌<◌}
use mathlib.Core.Path.{◌≡◌, refl, sym, ap, subst, ◌∙◌}
use mathlib.Core.Bool.{Bool, true, false}
use mathlib.Core.List.{List, [], ◌++◌}
use native.Mathlib.Omega.{arith}
use lib.ListN.{length, get_or, take, drop, length-append}
use lib.Seq.{sets, length-sets}
use Rattle.rows.specs.Rows.{pick, rows, whole_rows}
use Rattle.rows.proofs.Laws.{sets_append, pick_yes, pick_no, rows_cons, pick_same, whole_cons}
use Rattle.ext_types.specs.declared.ChainTime.{ChainTime}
use Rattle.shard_ident.specs.Shard.{is_ours}
use Rattle.shard_ident.specs.declared.ShardIdent.{ShardIdent}
use Rattle.router.specs.Router.{partition_of}
use Rattle.range_rules.specs.declared.Context.{Context}
use Rattle.range_rules.specs.Walks.{Walk}
use Rattle.range_rules.specs.Rules.{Outcome, silent, followed, stopped, more, message_read, messages_read, expired_one, expired_over}
use Rattle.range_rules.specs.Bounds.{Within, Few}
use Rattle.range_reader.specs.Ready.{Wrote, Tells}
use Rattle.range_rules.proofs.Counts.{message_stepped, expired_one_le}
use Rattle.cache_rules.specs.Rules.{max_messages, area_bytes}

-- ---- the output
pub wrote_nothing : {A : Type 0} (write : Bool) (used : ℕ) (out : List ℕ) (a v : A) → a ≡ v → Wrote write used out out a (silent v)
wrote_nothing write used out a v e = record { value = e; out = sym (pick_same write out) }

-- so a result that says something of the same value says it of the rules'
pub tells : {A : Type 0} (write : Bool) (used : ℕ) (before after : List ℕ) (a : A) (says : A → Type 0) (s : Outcome A) → says a → Wrote write used before after a s → Tells write used before after says s
tells write used before after a says s p h = record { value = subst says h.value p; out = h.out }

pub wrote_long : {A : Type 0} (write : Bool) (used : ℕ) (before after : List ℕ) (a : A) (s : Outcome A) → Wrote write used before after a s → length after ≡ length before
wrote_long true used before after a s h = ap length h.out ∙ length-sets before used s.entries
wrote_long false used before after a s h = ap length h.out

-- what was written before, and then what t adds
pub wrote_more : (write : Bool) (start used : ℕ) (l m o es fs : List ℕ) → used ≡ start + length es → m ≡ pick write (sets l start es) l → o ≡ pick write (sets m used fs) m
    → o ≡ pick write (sets l start (es ++ fs)) l
wrote_more true start used l m o es fs u a b = b ∙ rw (a, u, sets_append l start es fs)
wrote_more false start used l m o es fs u a b = b ∙ a

-- ---- the walk
module _ (x : Context) (routes : List ℕ) (time : ChainTime) (rest : List ℕ) (at k : ℕ) (s : Outcome Walk) where
  pub walk_more : 0 < k → stopped x s.value ≡ false
      → messages_read x routes time (rows 33 k (drop at rest)) s ≡ messages_read x routes time (rows 33 (k - 1) (drop (at + 33) rest)) (followed s (message_read x routes time (take 33 (drop at rest)) s.value))
  unfolding messages_read
  walk_more h e = rw (rows_cons 33 k at rest h) (pick_no (stopped x s.value) _ _ e)

  pub walk_stop : stopped x s.value ≡ true → messages_read x routes time (rows 33 k (drop at rest)) s ≡ s
  unfolding messages_read rows
  walk_stop = go k
    where
      go : (k : ℕ) → stopped x s.value ≡ true → messages_read x routes time (rows 33 k (drop at rest)) s ≡ s
      go zero e = refl
      go (suc k) e = pick_yes (stopped x s.value) _ _ e

  pub walk_none : k ≤ 0 → messages_read x routes time (rows 33 k (drop at rest)) s ≡ s
  unfolding messages_read rows
  walk_none = go k
    where
      go : (k : ℕ) → k ≤ 0 → messages_read x routes time (rows 33 k (drop at rest)) s ≡ s
      go zero e = refl
      go (suc k) e = absurd (omega arith)

-- what the loop over the messages keeps; `entries` are those written so far
pub record Turn (x : Context) (routes : List ℕ) (time : ChainTime) (rest : List ℕ) (n : ℕ) (write : Bool) (out₀ : List ℕ) (w₀ : Walk) (out : List ℕ) (w : Walk) (at left : ℕ) : Type 0 where
  pub entries : List ℕ
  pub bytes : at + 33 * left ≤ length rest
  pub near : at + 33 * left ≤ area_bytes
  pub few : left ≤ max_messages
  pub fits : w.place.key.msgs_offset + left < 2 ^ 16
  pub within : Within x (max_messages - left) w
  pub used : w.buffers.used ≡ w₀.buffers.used + length entries
  pub long : length out ≡ length out₀
  pub wrote : out ≡ pick write (sets out₀ w₀.buffers.used entries) out₀
  pub walked : messages_read x routes time (rows 33 left (drop at rest)) (record { value = w; entries = entries }) ≡ messages_read x routes time (rows 33 n rest) (silent w₀)

module _ (x : Context) (routes : List ℕ) (time : ChainTime) (rest : List ℕ) (n : ℕ) (write : Bool) (out₀ : List ℕ) (w₀ : Walk) where
  pub turn_start : 33 * n ≤ length rest → w₀.place.key.msgs_offset + n < 2 ^ 16 → Few x n w₀ → Turn x routes time rest n write out₀ w₀ out₀ w₀ 0 n
  turn_start b f h = record {
    entries = [];
    bytes = omega arith;
    near = omega (arith, h.few);
    few = h.few;
    fits = f;
    within = h.within;
    used = omega arith;
    long = refl;
    wrote = sym (pick_same write out₀);
    walked = refl;
  }

  module _ (out : List ℕ) (w : Walk) (at left : ℕ) (h : Turn x routes time rest n write out₀ w₀ out w at left) where
    pub turn_next : (o : List ℕ) (q : Walk) → 0 < left → stopped x w ≡ false → Wrote write w.buffers.used out o q (message_read x routes time (take 33 (drop at rest)) w)
        → Turn x routes time rest n write out₀ w₀ o q (at + 33) (left - 1)
    turn_next o q p e g =
        let t = message_read x routes time (take 33 (drop at rest)) w in
        let b = h.bytes in
        let f = h.few in
        let k : max_messages - (left - 1) ≡ max_messages - left + 1 = omega arith in
        let s = message_stepped x routes time (take 33 (drop at rest)) (max_messages - left) w h.within in
        record {
          entries = h.entries ++ t.entries;
          bytes = omega arith;
          near = omega (arith, h.near);
          few = omega arith;
          fits = omega (arith, ap (λ (v : Walk). v.place.key.msgs_offset) g.value, s.offset, h.fits);
          within = rw (k, g.value) s.within;
          used = ap (λ (v : Walk). v.buffers.used) g.value ∙ (s.used ∙ simp length-append (omega (arith, h.used)));
          long = wrote_long write w.buffers.used out o q t g ∙ h.long;
          wrote = wrote_more write w₀.buffers.used w.buffers.used out₀ out o h.entries t.entries h.used h.wrote g.out;
          walked = rw g.value (sym (walk_more x routes time rest at left (record { value = w; entries = h.entries }) p e) ∙ h.walked);
        }

    -- where the walk ends
    turn_end : messages_read x routes time (rows 33 left (drop at rest)) (record { value = w; entries = h.entries }) ≡ record { value = w; entries = h.entries }
        → Wrote write w₀.buffers.used out₀ out w (messages_read x routes time (rows 33 n rest) (silent w₀))
    turn_end e =
        let f = sym e ∙ h.walked in
        record {
          value = ap (λ (s : Outcome Walk). s.value) f;
          out = h.wrote ∙ ap (λ (s : Outcome Walk). pick write (sets out₀ w₀.buffers.used s.entries) out₀) f;
        }

    pub turn_stop : stopped x w ≡ true → Wrote write w₀.buffers.used out₀ out w (messages_read x routes time (rows 33 n rest) (silent w₀))
    turn_stop e = turn_end (walk_stop x routes time rest at left (record { value = w; entries = h.entries }) e)

    pub turn_none : left ≤ 0 → Wrote write w₀.buffers.used out₀ out w (messages_read x routes time (rows 33 n rest) (silent w₀))
    turn_none e = turn_end (walk_none x routes time rest at left (record { value = w; entries = h.entries }) e)

-- ---- an expired anchor's messages
module _ (shard : ShardIdent) (routes : List ℕ) where
  -- what the loop over them keeps; `left` are the bytes that are left
  pub record Counted (rest counts₀ counts left : List ℕ) : Type 0 where
    pub few : length left / 33 ≤ max_messages
    pub small : (i : ℕ) → get_or counts i 0 ≤ max_messages - length left / 33
    pub over : expired_over shard routes (whole_rows 33 left) counts ≡ expired_over shard routes (whole_rows 33 rest) counts₀

  module _ (rest counts₀ counts left : List ℕ) (h : Counted rest counts₀ counts left) where
    pub counted_end : length left < 33 → counts ≡ expired_over shard routes (whole_rows 33 rest) counts₀
    unfolding expired_over rows
    counted_end f = let z : length left / 33 ≡ 0 = omega arith in rw z at h.over

    module _ (m next : List ℕ) (e : left ≡ m ++ next) (w : length m ≡ 33) where
      one_less : length left / 33 ≡ length next / 33 + 1
      one_less = rw (e, length-append m next, w) (omega arith)

      counted_next : (new : List ℕ) → new ≡ expired_one shard routes m counts → Counted rest counts₀ new next
      unfolding expired_over
      counted_next new f =
          let k : max_messages - length next / 33 ≡ max_messages - length left / 33 + 1 = omega (arith, h.few, one_less) in
          record {
            few = omega (arith, h.few, one_less);
            small = rw (k, f) (expired_one_le shard routes m counts (max_messages - length left / 33) h.small);
            over = rw f (sym (rw (e, whole_cons 33 m next (omega arith) w)) ∙ h.over);
          }

      pub counted_other : is_ours shard m ≡ false → Counted rest counts₀ counts next
      unfolding expired_one
      counted_other i = counted_next counts (sym (pick_no _ _ _ i))

      pub counted_ours : (p : ℕ) → is_ours shard m ≡ true → p ≡ partition_of routes m → Counted rest counts₀ (more counts p) next
      unfolding expired_one
      counted_ours p i e = counted_next (more counts p) (rw e (sym (pick_yes _ _ _ i)))
