-- The turns of a read of all: what each adds, where it writes, and its bounds.
use Rattle.std.specs.Prelude.{Some}
use Prim.Native.Nat.{ℕ, zero, suc, ◌+◌, ◌-◌, ◌*◌, ◌<◌, ◌≤◌}
use mathlib.Core.Path.{◌≡◌, refl, sym, ap, ◌∙◌}
use mathlib.Core.Bool.{Bool, true, false, not, ◌&&◌, ◌||◌}
use mathlib.Core.List.{List, [], ◌∷◌, ◌++◌, append-nil}
use native.Mathlib.Omega.{arith}
use lib.Dec.{eqb}
use lib.ListN.{length, get_or, set, take, drop, replicate, length-replicate, length-set, length-append, length-take, length-drop, drop_of_length-le, take-append-drop}
use lib.Seq.{sets, set-set, get_or-set_same, take_all, length-take-le, length-sets}
use borrow.Rule.Slice.PartMut.{put_mid, mid_of, put_same}
use borrow.Author.Tests.{eq-eqb, ne_eqb}
use Rattle.reader_rules.proofs.Sums.{added_at_most, more_at_most}
use Rattle.rows.specs.Rows.{pick}
use Rattle.rows.proofs.Laws.{pick_yes, pick_no, pick_same}
use Rattle.messages_buffer.specs.Fullness.{first_no}
use Rattle.anchors_cache.specs.declared.AnchorsCacheTransaction.{AnchorsCacheTransaction}
use Rattle.anchors_cache.specs.Answers.{Done}
use Rattle.anchors_cache.specs.Calls.{pops_call}
use Rattle.std.proofs.lemmas.List.{set-get_or}
use Rattle.range_rules.specs.declared.ExternalsRangeReaderState.{ExternalsRangeReaderState}
use Rattle.range_rules.specs.declared.ReadCounts.{ReadCounts}
use Rattle.range_rules.specs.Walks.{RangeRead}
use Rattle.range_rules.specs.declared.ReadNextExternalsMode.{ReadNextExternalsMode}
use Rattle.range_rules.specs.Rules.{Outcome, silent, followed}
use Rattle.range_rules.specs.Bounds.{AtMost}
use Rattle.range_reader.specs.Ready.{Wrote, Tells}
use Rattle.std.specs.Prelude.{Result, Ok, Err}
use Rattle.refusals.specs.declared.Refusal.{Refusal}
use Rattle.refusals.specs.Refusals.{number_of}
use Rattle.refusals.proofs.Laws.{refused_is_not_done}
use Rattle.range_reader.specs.Calls.{ReadAnswer, ReadResult, asked_number, range_read, refused_answer, done_result, read_call, read_or_check_call}
use Rattle.range_reader.proofs.MessageLaws.{wrote_more}
use Rattle.range_reader.proofs.Bounds.{Bounded, every_answer_is_bounded, a_read_with_number_0_stores_its_entries}
use Rattle.reader_rules.specs.declared.Fixed.{Fixed}
use Rattle.reader_rules.specs.Turns.{SoFar, RangesRead}
use Rattle.externals_reader.specs.declared.SoFar.{SoFar as CodeSoFar}
use Rattle.externals_reader.specs.declared.RangesRead.{RangesRead as CodeRanges}
use Rattle.externals_reader.specs.declared.TurnDone.{TurnDone as CodeTurn}
use Rattle.reader_rules.specs.State.{no_range, max_ranges}
use Rattle.reader_rules.specs.Rules.{next_range, is_skipped, mode_for, settled, nothing_read, counts_added, Told, numbered, not_all_read, added, read_of, after_turn, OneRange, read_turn, turn, is_over, turns, with_next_range, ranges_read, wants_next}
use Rattle.externals_reader.specs.Calls.{told, window_read}
use Rattle.externals_reader.specs.Locals.{TurnDone, turn_done}
use Rattle.externals_reader.specs.Ready.{so_far_told, ranges_told, done_told, ranges_tell, turns_tell, turn_tells, After, TurnRoom, Start, TurnReady, RangeWrote, TurnWrote}
use Rattle.std.proofs.lemmas.List.{get_or_append_left, set-append_left}
use Rattle.externals_reader.proofs.Laws.{next_below}
use Rattle.cache_rules.specs.Rules.{max_anchors, max_messages}

-- ---- one range's read, as the turn uses it
module _ (tables area : List ℕ) (t : AnchorsCacheTransaction) (routes : List ℕ) (x : Fixed) (pops : ℕ) (mode : ReadNextExternalsMode) (range : ExternalsRangeReaderState) (out : List ℕ) where
  abbrev before : AnchorsCacheTransaction
  before = (pops_call (length area) pops tables t).state

  abbrev read : ReadResult
  read = read_call tables area before x.shard routes x.limits x.processed x.params.externals_expire_timeout mode range out

  abbrev six_steps_lem : Outcome RangeRead
  six_steps_lem = range_read tables area before x.shard routes x.limits x.processed x.params.externals_expire_timeout mode range (length out)

  abbrev number : ℕ
  number = first_no (asked_number tables area before x.shard routes x.limits range ∷ six_steps_lem.value.walk.number ∷ [])

  abbrev one : Outcome Told
  one = window_read tables area t routes x pops mode range (length out)

  pub one_told : one.value ≡ told read.answer
  unfolding window_read read_call
  one_told = go (eqb number 0)
    where
      go : (b : Bool) → (pick b (record { value = told (done_result tables before range six_steps_lem out).answer; entries = six_steps_lem.entries }) (silent (told (refused_answer number range before)))).value ≡ told (pick b (done_result tables before range six_steps_lem out) (record { answer = refused_answer number range before; out = out })).answer
      go true = refl
      go false = refl

  pub one_stored : read.out ≡ sets out 0 one.entries
  unfolding window_read read_call
  one_stored = go (eqb number 0)
    where
      go : (b : Bool) → (pick b (done_result tables before range six_steps_lem out) (record { answer = refused_answer number range before; out = out })).out ≡ sets out 0 (pick b (record { value = told (done_result tables before range six_steps_lem out).answer; entries = six_steps_lem.entries }) (silent (told (refused_answer number range before)))).entries
      go true = refl
      go false = refl

  pub one_bounded : Bounded (length out) read.answer
  one_bounded = every_answer_is_bounded tables area before x.shard routes x.limits x.processed x.params.externals_expire_timeout mode range out read.answer refl

  pub one_used : read.answer.used ≡ length one.entries
  unfolding window_read read_call
  one_used = go (eqb number 0) refl
    where
      go : (b : Bool) → eqb number 0 ≡ b → (pick b (done_result tables before range six_steps_lem out) (record { answer = refused_answer number range before; out = out })).answer.used ≡ length (pick b (record { value = told (done_result tables before range six_steps_lem out).answer; entries = six_steps_lem.entries }) (silent (told (refused_answer number range before)))).entries
      go true e =
          let z : read.answer.number ≡ 0 = ap (λ (b : Bool). (pick b (done_result tables before range six_steps_lem out) (record { answer = refused_answer number range before; out = out })).answer.number) e in
          sym (ap (λ (b : Bool). (pick b (done_result tables before range six_steps_lem out) (record { answer = refused_answer number range before; out = out })).answer.used) e)
          ∙ (a_read_with_number_0_stores_its_entries tables area before x.shard routes x.limits x.processed x.params.externals_expire_timeout mode range out read.answer read.out refl z).0
      go false e = refl

  pub one_silent : eqb one.value.number 0 ≡ false → one.entries ≡ []
  unfolding window_read
  one_silent = go (eqb number 0)
    where
      go : (b : Bool) → eqb (pick b (record { value = told (done_result tables before range six_steps_lem out).answer; entries = six_steps_lem.entries }) (silent (told (refused_answer number range before)))).value.number 0 ≡ false → (pick b (record { value = told (done_result tables before range six_steps_lem out).answer; entries = six_steps_lem.entries }) (silent (told (refused_answer number range before)))).entries ≡ []
      go true e = absurd (omega (arith, ap (λ (b : Bool). pick {A = ℕ} b 1 0) e))
      go false e = refl

-- ---- the output lent on
set_behind : {A : Type 0} (a b : List A) (i : ℕ) (v : A) → set (a ++ b) (length a + i) v ≡ a ++ set b i v
set_behind [] b i v = let e : 0 + i ≡ i = omega arith in rw e
set_behind {A = A} (y ∷ a) b i v = let e : suc (length a) + i ≡ suc (length a + i) = omega arith in rw e (ap (λ (l : List A). y ∷ l) (set_behind a b i v))

pub sets_behind : {A : Type 0} (a b : List A) (i : ℕ) (vs : List A) → sets (a ++ b) (length a + i) vs ≡ a ++ sets b i vs
sets_behind a b i [] = refl
sets_behind a b i (v ∷ vs) = let e : suc (length a + i) ≡ length a + suc i = omega arith in rw (set_behind a b i v, e) (sets_behind a (set b i v) (suc i) vs)

-- ---- what a turn adds
module _ (x : Fixed) (s : SoFar) (range : ExternalsRangeReaderState) (a : Told) where
  module _ (all-read stopped : Bool) (counts : ReadCounts) (next : ExternalsRangeReaderState)
      (ae : all-read ≡ (s.all_read && a.range.fully_read)) (se : stopped ≡ (eqb a.free 0 && not a.range.fully_read)) (ce : counts ≡ counts_added s.counts a.counts) (re : next ≡ settled x a.range) where
    pub done_read : a.number ≡ 0
        → ◌≡◌ {A = TurnDone} (record { so_far = record { number = 0; pops = s.pops + a.pops; used = s.used + a.used; all_read = all-read; stopped = stopped; free = Some a.free; last = a.last; counts = counts }; range = next }) (turn_done x s range a)
    unfolding turn_done
    done_read z = rw (ae, se, ce, re) (sym (pick_yes (eqb a.number 0) _ _ (eq-eqb a.number 0 z)))

-- ---- a range among the others
module _ (ranges : List ExternalsRangeReaderState) (i : ℕ) (range : ExternalsRangeReaderState) (here : get_or ranges i no_range ≡ range) where
  stays : set ranges i range ≡ ranges
  stays = ap (set ranges i) (sym here) ∙ set-get_or ranges i no_range

  module _ (x : Fixed) (s : SoFar) (len : ℕ) (a : Told) where
    abbrev read_done : TurnDone
    read_done = record { so_far = added s a; range = settled x a.range }

    abbrev refused_done : TurnDone
    refused_done = record { so_far = numbered a.number s; range = range }

    done_at : read_of (turn_done x s range a).so_far (set ranges i (turn_done x s range a).range) len ≡ after_turn x i (read_of s ranges len) a
    unfolding turn_done after_turn
    done_at = go (eqb a.number 0)
      where
        go : (b : Bool) → read_of (pick b read_done refused_done).so_far (set ranges i (pick b read_done refused_done).range) len ≡ pick b (read_of read_done.so_far (set ranges i (settled x a.range)) len) (read_of (numbered a.number s) ranges len)
        go true = refl
        go false = rw stays

-- ---- one range's read, writing or not
module _ (tables area : List ℕ) (t : AnchorsCacheTransaction) (routes : List ℕ) (x : Fixed) (range : ExternalsRangeReaderState) (out : List ℕ) (write : Bool) (mode : ReadNextExternalsMode) (me : mode ≡ mode_for x range.seqno) (a : ReadAnswer) (o : List ℕ) where
  pub range_told : record { answer = a; out = o } ≡ read_or_check_call write tables area t x.shard routes x.limits x.processed x.params.externals_expire_timeout mode range out → RangeWrote write tables area t routes x range out o a
  range_told e = go write (e ∙ ap (λ (m : ReadNextExternalsMode). read_or_check_call write tables area t x.shard routes x.limits x.processed x.params.externals_expire_timeout m range out) me)
    where
      go : (b : Bool) → record { answer = a; out = o } ≡ read_or_check_call b tables area t x.shard routes x.limits x.processed x.params.externals_expire_timeout (mode_for x range.seqno) range out → RangeWrote b tables area t routes x range out o a
      go true f = record { answer = ap (λ (d : ReadResult). d.answer) f; out = ap (λ (d : ReadResult). d.out) f }
      go false f = record { answer = ap (λ (d : ReadResult). d.answer) f; out = ap (λ (d : ReadResult). d.out) f }

-- ---- a turn
-- what is stored in the lent part is stored behind the used bytes
lent_on : (used : ℕ) (out es : List ℕ) → used ≤ length out → put_mid used (length out - used) out (sets (mid_of used (length out - used) out) 0 es) ≡ sets out used es
lent_on used out es h =
    let n : length (drop used out) ≡ length out - used = length-drop used out in
    let e : take (length out - used) (drop used out) ≡ drop used out = take_all (length out - used) (drop used out) (omega arith) in
    let d : drop (length out - used) (drop used out) ≡ [] = drop_of_length-le (drop used out) {i = length out - used} (omega arith) in
    let k : length (take used out) ≡ used = length-take-le used out h in
    let z : used + 0 ≡ used = omega arith in
    let g : sets (take used out ++ drop used out) used es ≡ take used out ++ sets (drop used out) 0 es = rw (k, z) at (sets_behind (take used out) (drop used out) 0 es) in
    rw (e, d, append-nil (sets (drop used out) 0 es)) (sym (rw (take-append-drop used out) at g))

module _ (one : OneRange) (x : Fixed) (i : ℕ) (r : RangesRead) where
  abbrev range_i : ExternalsRangeReaderState
  range_i = get_or r.ranges i no_range

  passes : range_i.fully_read ≡ true → turn one x i r ≡ silent r
  unfolding turn
  passes h = rw h

  skips : range_i.fully_read ≡ false → is_skipped x range_i ≡ true → turn one x i r ≡ silent (read_of (not_all_read r.so_far) r.ranges r.len)
  unfolding turn
  skips h k = rw (h, k)

  reads : range_i.fully_read ≡ false → is_skipped x range_i ≡ false → turn one x i r ≡ read_turn one x i r range_i
  unfolding turn
  reads h k = rw (h, k)

module _ (one : OneRange) (x : Fixed) (s : CodeSoFar) (range : ExternalsRangeReaderState) (write : Bool) (out : List ℕ) where
  pub turn_passed : range.fully_read ≡ true → TurnWrote write one x (so_far_told s) range out out (Ok (record { so_far = s; range = range }))
  turn_passed h = record {
    at = λ ranges i len e.
        rw (passes one x i (read_of (so_far_told s) ranges len) (ap (λ (v : ExternalsRangeReaderState). v.fully_read) e ∙ h))
        (record { value = ap (λ (l : List ExternalsRangeReaderState). read_of (so_far_told s) l len) (stays ranges i range e); out = sym (pick_same write _) });
  }

  pub turn_skipped : range.fully_read ≡ false → is_skipped x range ≡ true
      → TurnWrote write one x (so_far_told s) range out out (Ok (record { so_far = record { pops = s.pops; used = s.used; all_read = false; stopped = s.stopped; free = s.free; last = s.last; counts = s.counts }; range = range }))
  turn_skipped h k = record {
    at = λ ranges i len e.
        rw (skips one x i (read_of (so_far_told s) ranges len) (ap (λ (v : ExternalsRangeReaderState). v.fully_read) e ∙ h) (ap (is_skipped x) e ∙ k))
        (record { value = ap (λ (l : List ExternalsRangeReaderState). read_of (not_all_read (so_far_told s)) l len) (stays ranges i range e); out = sym (pick_same write _) });
  }

module _ (tables area : List ℕ) (t : AnchorsCacheTransaction) (routes : List ℕ) (x : Fixed) (s : SoFar) (range : ExternalsRangeReaderState) (write : Bool) (out : List ℕ) (ready : TurnRoom x s out)
    (p : Done) (pe : p ≡ pops_call (length area) s.pops tables t) (a : ReadAnswer) (o : List ℕ)
    (w : RangeWrote write tables area p.state routes x range (mid_of s.used (length out - s.used) out) o a) where
  abbrev rest : List ℕ
  rest = mid_of s.used (length out - s.used) out

  abbrev one_now : Outcome Told
  one_now = window_read tables area t routes x s.pops (mode_for x range.seqno) range (x.room - s.used)

  rest_length : length rest ≡ x.room - s.used
  rest_length = simp (length-take, length-drop) (omega (arith, ready.room))

  abbrev read_now : AnchorsCacheTransaction → ReadResult
  read_now u = read_call tables area u x.shard routes x.limits x.processed x.params.externals_expire_timeout (mode_for x range.seqno) range rest

  answered : a ≡ (read_now (pops_call (length area) s.pops tables t).state).answer
  answered = w.answer ∙ ap (λ (d : Done). (read_now d.state).answer) pe

  pub turn_ready : TurnReady s a
  turn_ready =
      let c = every_answer_is_bounded tables area (pops_call (length area) s.pops tables t).state x.shard routes x.limits x.processed x.params.externals_expire_timeout (mode_for x range.seqno) range rest a answered in
      record {
        counts = record {
          read = λ j. omega (arith, ready.few.read j, c.counts.read j);
          expired = λ j. omega (arith, ready.few.expired j, c.counts.expired j);
          buffered = λ j. omega (arith, ready.few.buffered j, c.counts.buffered j);
        };
        pops = omega (arith, ready.pops, c.pops);
        used = omega (arith, ready.used, ready.small, c.used, rest_length);
      }

  module _ (h : range.fully_read ≡ false) (k : is_skipped x range ≡ false) where
    module _ (ranges : List ExternalsRangeReaderState) (i len : ℕ) (e : get_or ranges i no_range ≡ range) where
      turn_at : turn (window_read tables area t routes x) x i (read_of s ranges len) ≡ record { value = after_turn x i (read_of s ranges len) one_now.value; entries = one_now.entries }
      turn_at =
          reads (window_read tables area t routes x) x i (read_of s ranges len) (ap (λ (v : ExternalsRangeReaderState). v.fully_read) e ∙ h) (ap (is_skipped x) e ∙ k)
          ∙ ap (read_turn (window_read tables area t routes x) x i (read_of s ranges len)) e

      told_now : one_now.value ≡ told a
      told_now = rw rest_length at (one_told tables area t routes x s.pops (mode_for x range.seqno) range rest) ∙ ap told (sym answered)

      done_value : (q : TurnDone) → q ≡ turn_done x s range (told a) → read_of q.so_far (set ranges i q.range) len ≡ after_turn x i (read_of s ranges len) one_now.value
      done_value q qe =
          ap (λ (d : TurnDone). read_of d.so_far (set ranges i d.range) len) qe
          ∙ (done_at ranges i range e x s len (told a) ∙ ap (after_turn x i (read_of s ranges len)) (sym told_now))

      refused_number : (n : ℕ) → (n ≡ 0 → ⊥) → n ≡ a.number → n ≡ (after_turn x i (read_of s ranges len) one_now.value).so_far.number
      unfolding after_turn
      refused_number n z ne = rw (told_now, ← ne, ne_eqb n 0 z)

    stored : (read_now p.state).out ≡ sets rest 0 one_now.entries
    stored = ap (λ (d : Done). (read_now d.state).out) pe ∙ rw rest_length at (one_stored tables area t routes x s.pops (mode_for x range.seqno) range rest)

    bytes : (b : Bool) → o ≡ pick b (read_now p.state).out rest → put_mid s.used (length out - s.used) out o ≡ pick b (sets out s.used one_now.entries) out
    bytes true e = rw (e ∙ stored) (lent_on s.used out one_now.entries (omega (arith, ready.used, ready.room)))
    bytes false e = rw e (put_same s.used (length out - s.used) out)

    pub turn_lent : (q : CodeTurn) → done_told q ≡ turn_done x s range (told a) → TurnWrote write (window_read tables area t routes x) x s range out (put_mid s.used (length out - s.used) out o) (Ok q)
    turn_lent q qe = record { at = λ ranges i len e. rw (turn_at ranges i len e) (record { value = done_value ranges i len e (done_told q) qe; out = bytes write w.out }) }

    pub turn_refused : (r : Refusal) (q : Result CodeTurn Refusal) → q ≡ Err r → number_of r ≡ a.number → TurnWrote write (window_read tables area t routes x) x s range out (put_mid s.used (length out - s.used) out o) q
    turn_refused r q qe ne = rw qe (record { at = λ ranges i len e. rw (turn_at ranges i len e) (record { value = refused_number ranges i len e (number_of r) (refused_is_not_done r) ne; out = bytes write w.out }) })

-- ---- bounds
-- what one range's read keeps within, and that it tells the bytes of its entries
pub record Fits (room : ℕ) (s : Outcome Told) : Type 0 where
  pub counts : AtMost max_messages s.value.counts
  pub pops : s.value.pops ≤ max_anchors
  pub used : s.value.used ≤ room
  pub told_bytes : s.value.used ≡ length s.entries
  pub refused : eqb s.value.number 0 ≡ false → s.entries ≡ []

pub window_fits : (tables area : List ℕ) (t : AnchorsCacheTransaction) (routes : List ℕ) (x : Fixed) (pops : ℕ) (mode : ReadNextExternalsMode) (range : ExternalsRangeReaderState) (room : ℕ) → Fits room (window_read tables area t routes x pops mode range room)
window_fits tables area t routes x pops mode range room =
    let out : List ℕ = replicate room 0 in
    let n : length out ≡ room = length-replicate room _ in
    let e = one_told tables area t routes x pops mode range out in
    let b = one_bounded tables area t routes x pops mode range out in
    rw n at (fits_of (length out) (window_read tables area t routes x pops mode range (length out)) _ e b (one_used tables area t routes x pops mode range out) (one_silent tables area t routes x pops mode range out))
  where
    fits_of : (n : ℕ) (s : Outcome Told) (a : ReadAnswer) → s.value ≡ told a → Bounded n a → a.used ≡ length s.entries → (eqb s.value.number 0 ≡ false → s.entries ≡ []) → Fits n s
    fits_of n s a e b u f =
        record {
          counts = record {
            read = λ j. rw e (b.counts.read j);
            expired = λ j. rw e (b.counts.expired j);
            buffered = λ j. rw e (b.counts.buffered j);
          };
          pops = rw e b.pops;
          used = rw e b.used;
          told_bytes = ap (λ (v : Told). v.used) e ∙ u;
          refused = f;
        }

-- a turn adds at most 1,024 to each count and 32 pops, keeps the used bytes in the room, and tells the bytes of its
-- entries
module _ (one : OneRange) (fits : (pops : ℕ) (mode : ReadNextExternalsMode) (range : ExternalsRangeReaderState) (room : ℕ) → Fits room (one pops mode range room)) (x : Fixed) (i : ℕ) (r : RangesRead) where
  pub record Kept (k : ℕ) (s : Outcome RangesRead) : Type 0 where
    pub after : After k x.room s.value
    pub bytes : s.value.so_far.used ≡ r.so_far.used + length s.entries
    pub len : s.value.len ≡ r.len

  more : (k : ℕ) → After k x.room r → After (k + 1) x.room r
  more k a = record { few = more_at_most (max_messages * k) (max_messages * (k + 1)) _ (omega arith) a.few; pops = omega (arith, a.pops); used = a.used }

  turn_added : (k : ℕ) → After k x.room r → (s : Outcome Told) → Fits (x.room - r.so_far.used) s → Kept (k + 1) (record { value = after_turn x i r s.value; entries = s.entries })
  unfolding after_turn
  turn_added k a s f = go (eqb s.value.number 0) refl
    where
      go : (b : Bool) → eqb s.value.number 0 ≡ b → Kept (k + 1) (record { value = pick b (read_of (added r.so_far s.value) (set r.ranges i (settled x s.value.range)) r.len) (read_of (numbered s.value.number r.so_far) r.ranges r.len); entries = s.entries })
      go true e =
          record {
            after = record {
              few = more_at_most (max_messages * k + max_messages) (max_messages * (k + 1)) _ (omega arith) (added_at_most r.so_far.counts s.value.counts (max_messages * k) max_messages a.few f.counts);
              pops = omega (arith, a.pops, f.pops);
              used = omega (arith, a.used, f.used);
            };
            bytes = ap (λ (n : ℕ). r.so_far.used + n) f.told_bytes;
            len = refl;
          }
      go false e = record { after = record { few = (more k a).few; pops = (more k a).pops; used = a.used }; bytes = omega (arith, ap (λ (l : List ℕ). length l) (f.refused e)); len = refl }

  pub turn_kept : (k : ℕ) → After k x.room r → Kept (k + 1) (turn one x i r)
  unfolding turn
  turn_kept k a = go (range_i one x i r).fully_read (is_skipped x (range_i one x i r))
    where
      go : (b c : Bool) → Kept (k + 1) (pick b (silent r) (pick c (silent (read_of (not_all_read r.so_far) r.ranges r.len)) (read_turn one x i r (range_i one x i r))))
      go true c = record { after = more k a; bytes = omega arith; len = refl }
      go false true = record { after = record { few = (more k a).few; pops = (more k a).pops; used = a.used }; bytes = omega arith; len = refl }
      go false false = turn_added k a (one r.so_far.pops (mode_for x (range_i one x i r).seqno) (range_i one x i r) (x.room - r.so_far.used)) (fits _ _ _ _)

-- ---- the loop over the ranges
turns_step : (one : OneRange) (x : Fixed) (left i : ℕ) (s : Outcome RangesRead) → 0 < left → is_over s.value ≡ false → turns one x left i s ≡ turns one x (left - 1) (i + 1) (followed s (turn one x i s.value))
unfolding turns
turns_step one x zero i s h e = absurd (omega arith)
turns_step one x (suc n) i s h e = let m : n ≡ suc n - 1 = omega arith in pick_no (is_over s.value) _ _ e ∙ ap (λ (k : ℕ). turns one x k (i + 1) (followed s (turn one x i s.value))) m

turns_last : (one : OneRange) (x : Fixed) (left i : ℕ) (s : Outcome RangesRead) → (0 < left → is_over s.value ≡ true) → turns one x left i s ≡ s
unfolding turns
turns_last one x zero i s e = refl
turns_last one x (suc n) i s e = pick_yes (is_over s.value) _ _ (e (omega arith))

written_same : (write : Bool) (used : ℕ) (out out' es : List ℕ) → out' ≡ pick write (sets out used es) out → length out' ≡ length out
written_same true used out out' es e = ap (λ (l : List ℕ). length l) e ∙ length-sets out used es
written_same false used out out' es e = ap (λ (l : List ℕ). length l) e

weaker : (k m room : ℕ) (r : RangesRead) → k ≤ m → After k room r → After m room r
weaker k m room r h a = record { few = record { read = λ j. omega (arith, h, a.few.read j); expired = λ j. omega (arith, h, a.few.expired j); buffered = λ j. omega (arith, h, a.few.buffered j) }; pops = omega (arith, h, a.pops); used = a.used }

-- what a result that was not refused says, as an equation
pub turn_wrote : (write : Bool) (used : ℕ) (out out' : List ℕ) (ranges : List ExternalsRangeReaderState) (i len : ℕ) (q : CodeTurn) (s : Outcome RangesRead)
    → Tells write used out out' (turn_tells ranges i len (Ok q)) s → Wrote write used out out' (read_of (so_far_told q.so_far) (set ranges i q.range) len) s
turn_wrote write used out out' ranges i len q s w = record { value = w.value; out = w.out }

module _ (write : Bool) (out out' : List ℕ) (r : CodeRanges) (s : Outcome RangesRead) where
  pub ranges_wrote : Tells write 0 out out' (ranges_tell (Ok r)) s → Wrote write 0 out out' (ranges_told r) s
  ranges_wrote w = record { value = w.value; out = w.out }

  pub wrote_told : Wrote write 0 out out' (ranges_told r) s → Tells write 0 out out' (ranges_tell (Ok r)) s
  wrote_told w = record { value = w.value; out = w.out }

module _ (one : OneRange) (fits : (pops : ℕ) (mode : ReadNextExternalsMode) (range : ExternalsRangeReaderState) (room : ℕ) → Fits room (one pops mode range room)) (x : Fixed) (write : Bool) (start : RangesRead) (out₀ : List ℕ) where
  -- i ranges have had their turn; `entries` are those so far
  pub record Turning (r : RangesRead) (i : ℕ) (out : List ℕ) : Type 0 where
    pub entries : List ℕ
    pub counted : i ≤ start.len
    pub after : After i x.room r
    pub bytes : r.so_far.used ≡ length entries
    pub len : r.len ≡ start.len
    pub wrote : out ≡ pick write (sets out₀ 0 entries) out₀
    pub walked : turns one x (start.len - i) i (record { value = r; entries = entries }) ≡ turns one x start.len 0 (silent start)

  pub turning_next : (r : RangesRead) (i : ℕ) (out : List ℕ) → Turning r i out → i < start.len → is_over r ≡ false → (q : RangesRead) (out' : List ℕ) → Wrote write r.so_far.used out out' q (turn one x i r) → Turning q (i + 1) out'
  turning_next r i out h more e q out' w =
      let k = turn_kept one fits x i r i h.after in
      let s = turn one x i r in
      let z : start.len - i - 1 ≡ start.len - (i + 1) = omega arith in
      record {
        entries = h.entries ++ s.entries;
        counted = omega arith;
        after = rw w.value k.after;
        bytes = rw w.value (k.bytes ∙ (ap (λ (n : ℕ). n + length s.entries) h.bytes ∙ sym (length-append h.entries s.entries)));
        len = rw w.value (k.len ∙ h.len);
        wrote = wrote_more write 0 r.so_far.used out₀ out out' h.entries s.entries (omega (arith, h.bytes)) h.wrote w.out;
        walked = rw (w.value, ← z) (sym (turns_step one x (start.len - i) i (record { value = r; entries = h.entries }) (omega arith) e) ∙ h.walked);
      }

  -- a refused range's turn is the last one
  pub turning_refused : (r : RangesRead) (i : ℕ) (out : List ℕ) → Turning r i out → i < start.len → is_over r ≡ false → (e : Refusal) (out' : List ℕ) → Tells write r.so_far.used out out' (λ v. number_of e ≡ v.so_far.number) (turn one x i r)
      → Tells write 0 out₀ out' (λ v. number_of e ≡ v.so_far.number) (turns one x start.len 0 (silent start))
  turning_refused r i out h more going e out' w =
      let s = turn one x i r in
      let stop : is_over s.value ≡ true = rw (← w.value, ne_eqb (number_of e) 0 (refused_is_not_done e)) in
      rw (sym h.walked ∙ (turns_step one x (start.len - i) i (record { value = r; entries = h.entries }) (omega arith) going ∙ turns_last one x (start.len - i - 1) (i + 1) (followed (record { value = r; entries = h.entries }) s) (λ p. stop)))
      (record { value = w.value; out = wrote_more write 0 r.so_far.used out₀ out out' h.entries s.entries (omega (arith, h.bytes)) h.wrote w.out })

  pub turning_last : (r : RangesRead) (i : ℕ) (out : List ℕ) → Turning r i out → (i < start.len → is_over r ≡ true) → Wrote write 0 out₀ out r (turns one x start.len 0 (silent start))
  turning_last r i out h e =
      rw (sym h.walked ∙ turns_last one x (start.len - i) i (record { value = r; entries = h.entries }) (λ p. e (omega arith))) (record { value = refl; out = h.wrote })

  pub turning_length : (r : RangesRead) (i : ℕ) (out : List ℕ) → Turning r i out → length out ≡ length out₀
  turning_length r i out h = written_same write 0 out₀ out h.entries h.wrote

  pub turning_ready : Start x start out₀ → (s : SoFar) (ranges : List ExternalsRangeReaderState) (len i : ℕ) (out : List ℕ) → Turning (read_of s ranges len) i out → TurnRoom x s out
  turning_ready st s ranges len i out h =
      let a = weaker i max_ranges x.room (read_of s ranges len) (omega (arith, h.counted, st.slots)) h.after in
      record { few = a.few; pops = a.pops; used = a.used; room = turning_length (read_of s ranges len) i out h ∙ st.room; small = st.small }

-- the loop has the ranges as a part of the table, and leaves the `rest` of it
module _ (one : OneRange) (fits : (pops : ℕ) (mode : ReadNextExternalsMode) (range : ExternalsRangeReaderState) (room : ℕ) → Fits room (one pops mode range room)) (x : Fixed) (write : Bool) (old : List ExternalsRangeReaderState) (out₀ : List ℕ) where
  abbrev pub part_start : List ExternalsRangeReaderState → RangesRead
  part_start rest = read_of nothing_read (old ++ rest) (length old)

  pub record PartTurning (s : SoFar) (ranges : List ExternalsRangeReaderState) (i : ℕ) (out : List ℕ) : Type 0 where
    pub long : length ranges ≡ length old
    pub turning : (rest : List ExternalsRangeReaderState) → Turning one fits x write (part_start rest) out₀ (read_of s (ranges ++ rest) (length old)) i out

  module _ (s : SoFar) (ranges : List ExternalsRangeReaderState) (i : ℕ) (out : List ℕ) (h : PartTurning s ranges i out) where
    pub part_ready : Start x (read_of nothing_read old (length old)) out₀ → TurnRoom x s out
    part_ready st =
        let t = h.turning [] in
        let b : Start x (part_start []) out₀ = record { after = record { few = st.after.few; pops = st.after.pops; used = st.after.used }; unused = st.unused; slots = st.slots; limit = st.limit; room = st.room; small = st.small } in
        turning_ready one fits x write (part_start []) out₀ b s (ranges ++ []) (length old) i out t

    module _ (more : i < length old) (going : (not (eqb s.number 0) || s.stopped) ≡ false) where
      here : (rest : List ExternalsRangeReaderState) → get_or (ranges ++ rest) i no_range ≡ get_or ranges i no_range
      here rest = get_or_append_left ranges rest no_range i (omega (arith, more, h.long))

      pub part_next : (q : CodeTurn) (out' : List ℕ) → TurnWrote write one x s (get_or ranges i no_range) out out' (Ok q) → PartTurning (so_far_told q.so_far) (set ranges i q.range) (i + 1) out'
      part_next q out' w = record {
        long = length-set ranges i q.range ∙ h.long;
        turning = λ rest. rw (← set-append_left ranges rest i q.range (omega (arith, more, h.long)))
            (turning_next one fits x write (part_start rest) out₀ (read_of s (ranges ++ rest) (length old)) i out (h.turning rest) more going _ out' (turn_wrote write s.used out out' (ranges ++ rest) i (length old) q _ (w.at (ranges ++ rest) i (length old) (here rest))));
      }

      pub part_refused : (r : Refusal) (out' : List ℕ) → TurnWrote write one x s (get_or ranges i no_range) out out' (Err r) → (rest now : List ExternalsRangeReaderState) (q : Result CodeSoFar Refusal) → q ≡ Err r
          → Tells write 0 out₀ out' (turns_tell (now ++ rest) (length old) q) (turns one x (length old) 0 (silent (part_start rest)))
      part_refused r out' w rest now q e =
          rw e (turning_refused one fits x write (part_start rest) out₀ (read_of s (ranges ++ rest) (length old)) i out (h.turning rest) more going r out' (let v = w.at (ranges ++ rest) i (length old) (here rest) in record { value = v.value; out = v.out }))

  pub part_ended : (s : CodeSoFar) (ranges : List ExternalsRangeReaderState) (i : ℕ) (out : List ℕ) → PartTurning (so_far_told s) ranges i out → (i < length old → s.stopped ≡ true) → (rest : List ExternalsRangeReaderState)
      → Tells write 0 out₀ out (turns_tell (ranges ++ rest) (length old) (Ok s)) (turns one x (length old) 0 (silent (part_start rest)))
  part_ended s ranges i out h e rest =
      let w = turning_last one fits x write (part_start rest) out₀ (read_of (so_far_told s) (ranges ++ rest) (length old)) i out (h.turning rest) e in
      record { value = w.value; out = w.out }

-- the first `len` ranges of a table are that part
pub part_long : (ranges now : List ExternalsRangeReaderState) (len : ℕ) → len ≤ length ranges → length now ≡ length (take len ranges) → length ranges ≡ max_ranges → length (now ++ drop len ranges) ≡ max_ranges
part_long ranges now len fit h e = length-append now (drop len ranges) ∙ omega (arith, h, e, length-take-le len ranges fit, length-drop len ranges)

module _ (one : OneRange) (x : Fixed) (write : Bool) (ranges : List ExternalsRangeReaderState) (len : ℕ) (fit : len ≤ length ranges) (out₀ out : List ℕ) where
  abbrev pub part_read : Outcome RangesRead
  part_read = turns one x (length (take len ranges)) 0 (silent (read_of nothing_read (take len ranges ++ drop len ranges) (length (take len ranges))))

  part_is : part_read ≡ turns one x len 0 (silent (read_of nothing_read ranges len))
  part_is = rw (length-take-le len ranges fit, take-append-drop len ranges)

  pub part_done : (s : CodeSoFar) (now : List ExternalsRangeReaderState) → Tells write 0 out₀ out (turns_tell (now ++ drop len ranges) (length (take len ranges)) (Ok s)) part_read
      → Wrote write 0 out₀ out (read_of (so_far_told s) (now ++ drop len ranges) len) (turns one x len 0 (silent (read_of nothing_read ranges len)))
  part_done s now w = rw (← part_is) (record { value = ap (λ (n : ℕ). read_of (so_far_told s) (now ++ drop len ranges) n) (sym (length-take-le len ranges fit)) ∙ w.value; out = w.out })

  pub part_stopped : (e : Refusal) → Tells write 0 out₀ out (λ v. number_of e ≡ v.so_far.number) part_read
      → Tells write 0 out₀ out (λ v. number_of e ≡ v.so_far.number) (turns one x len 0 (silent (read_of nothing_read ranges len)))
  part_stopped e w = rw (← part_is) w

-- ---- all the turns
module _ (one : OneRange) (fits : (pops : ℕ) (mode : ReadNextExternalsMode) (range : ExternalsRangeReaderState) (room : ℕ) → Fits room (one pops mode range room)) (x : Fixed) where
  record Told-bytes (k len : ℕ) (s : Outcome RangesRead) : Type 0 where
    after : After k x.room s.value
    bytes : s.value.so_far.used ≡ length s.entries
    same_len : s.value.len ≡ len

  turn_told : (k len i : ℕ) (s : Outcome RangesRead) → Told-bytes k len s → Told-bytes (k + 1) len (followed s (turn one x i s.value))
  turn_told k len i s h =
      let t = turn_kept one fits x i s.value k h.after in
      record { after = t.after; bytes = t.bytes ∙ (ap (λ (n : ℕ). n + length (turn one x i s.value).entries) h.bytes ∙ sym (length-append s.entries (turn one x i s.value).entries)); same_len = t.len ∙ h.same_len }

  more_told : (k m len : ℕ) (s : Outcome RangesRead) → k ≤ m → Told-bytes k len s → Told-bytes m len s
  more_told k m len s h t = record { after = weaker k m x.room s.value h t.after; bytes = t.bytes; same_len = t.same_len }

  turns_told : (n k len i : ℕ) (s : Outcome RangesRead) → Told-bytes k len s → Told-bytes (k + n) len (turns one x n i s)
  unfolding turns
  turns_told zero k len i s h = more_told k (k + 0) len s (omega arith) h
  turns_told (suc n) k len i s h = go (is_over s.value) (turns_told n (k + 1) len (i + 1) (followed s (turn one x i s.value)) (turn_told k len i s h))
    where
      go : (b : Bool) → Told-bytes (k + 1 + n) len (turns one x n (i + 1) (followed s (turn one x i s.value))) → Told-bytes (k + suc n) len (pick b s (turns one x n (i + 1) (followed s (turn one x i s.value))))
      go true t = more_told k (k + suc n) len s (omega arith) h
      go false t = more_told (k + 1 + n) (k + suc n) len _ (omega arith) t

  module _ (r : RangesRead) where
    used_kept : (with_next_range x r).so_far.used ≡ r.so_far.used
    unfolding with_next_range
    used_kept = refl

    after_kept : (k : ℕ) → After k x.room r → After k x.room (with_next_range x r)
    unfolding with_next_range
    after_kept k a = record { few = a.few; pops = a.pops; used = a.used }

  module _ (write : Bool) (start : RangesRead) (out₀ : List ℕ) (st : Start x start out₀) where
    abbrev whole : Outcome RangesRead
    whole = turns one x start.len 0 (silent start)

    whole_told : Told-bytes max_ranges start.len whole
    whole_told = more_told (0 + start.len) max_ranges start.len whole (omega (arith, st.slots)) (turns_told start.len 0 start.len 0 (silent start) (record { after = st.after; bytes = st.unused; same_len = refl }))

    -- with the next range's turn
    abbrev longer : Outcome RangesRead
    longer = followed whole (turn one x whole.value.len (with_next_range x whole.value))

    longer_told : longer.value.so_far.used ≡ length longer.entries
    longer_told =
        let t = turn one x whole.value.len (with_next_range x whole.value) in
        (turn_kept one fits x whole.value.len (with_next_range x whole.value) max_ranges (after_kept whole.value max_ranges whole_told.after)).bytes
        ∙ (ap (λ (n : ℕ). n + length t.entries) (used_kept whole.value ∙ whole_told.bytes) ∙ sym (length-append whole.entries t.entries))

    -- the bytes that the read of all tells are those of its entries
    pub all_told : (ranges_read one x start).value.so_far.used ≡ length (ranges_read one x start).entries
    unfolding ranges_read
    all_told = go (wants_next x whole.value)
      where
        go : (b : Bool) → (pick b longer whole).value.so_far.used ≡ length (pick b longer whole).entries
        go true = longer_told
        go false = whole_told.bytes

    module _ (s : SoFar) (ranges : List ExternalsRangeReaderState) (len : ℕ) (out : List ℕ) (w : Wrote write 0 out₀ out (read_of s ranges len) (turns one x start.len 0 (silent start))) where
      abbrev now : RangesRead
      now = read_of s ranges len

      all_bytes : length out ≡ length out₀
      all_bytes = written_same write 0 out₀ out whole.entries w.out

      pub next_room : wants_next x (read_of s ranges len) ≡ true → len < max_ranges
      next_room h = omega (arith, st.limit, next_below x now h)

      pub next_ready : TurnRoom x s out
      next_ready =
          let a : After max_ranges x.room now = rw w.value whole_told.after in
          record { few = a.few; pops = a.pops; used = a.used; room = all_bytes ∙ st.room; small = st.small }

      pub all_done : wants_next x (read_of s ranges len) ≡ false → Wrote write 0 out₀ out (read_of s ranges len) (ranges_read one x start)
      unfolding ranges_read
      all_done h = rw (pick_no (wants_next x whole.value) longer whole (ap (wants_next x) (sym w.value) ∙ h)) (record { value = w.value; out = w.out })

      appended_at : (range : ExternalsRangeReaderState) → range ≡ next_range x.block_seqno x.next_chain_time x.by_partitions ranges len → read_of s (set ranges len range) (len + 1) ≡ with_next_range x (read_of s ranges len)
      unfolding with_next_range
      appended_at range e = ap (λ (y : ExternalsRangeReaderState). read_of s (set ranges len y) (len + 1)) e

      pub next_done : wants_next x (read_of s ranges len) ≡ true → length ranges ≡ max_ranges → (range : ExternalsRangeReaderState) → range ≡ next_range x.block_seqno x.next_chain_time x.by_partitions ranges len
          → (q : CodeTurn) (out' : List ℕ) → TurnWrote write one x s range out out' (Ok q) → Wrote write 0 out₀ out' (read_of (so_far_told q.so_far) (set ranges len q.range) (len + 1)) (ranges_read one x start)
      unfolding ranges_read
      next_done h long range re q out' v =
          let e : read_of s (set ranges len range) (len + 1) ≡ with_next_range x now = appended_at range re in
          let z = v.at (set ranges len range) len (len + 1) (get_or-set_same ranges len range no_range (omega (arith, long, next_room h))) in
          let f : turn one x len (read_of s (set ranges len range) (len + 1)) ≡ turn one x whole.value.len (with_next_range x whole.value) = ap (turn one x len) e ∙ ap (λ (y : RangesRead). turn one x y.len (with_next_range x y)) w.value in
          let u : s.used ≡ length whole.entries = ap (λ (y : RangesRead). y.so_far.used) w.value ∙ whole_told.bytes in
          rw (pick_yes (wants_next x whole.value) longer whole (ap (wants_next x) (sym w.value) ∙ h))
          (record {
            value = ap (λ (l : List ExternalsRangeReaderState). read_of (so_far_told q.so_far) l (len + 1)) (sym (set-set ranges len range q.range)) ∙ (z.value ∙ ap (λ (t : Outcome RangesRead). t.value) f);
            out = wrote_more write 0 s.used out₀ out out' whole.entries (turn one x whole.value.len (with_next_range x whole.value)).entries (omega (arith, u)) w.out (z.out ∙ ap (λ (t : Outcome RangesRead). pick write (sets out s.used t.entries) out) f);
          })

      pub next_refused : wants_next x (read_of s ranges len) ≡ true → length ranges ≡ max_ranges → (range : ExternalsRangeReaderState) → range ≡ next_range x.block_seqno x.next_chain_time x.by_partitions ranges len
          → (r : Refusal) (out' : List ℕ) → TurnWrote write one x s range out out' (Err r) → (q : Result CodeRanges Refusal) → q ≡ Err r → Tells write 0 out₀ out' (ranges_tell q) (ranges_read one x start)
      unfolding ranges_read
      next_refused h long range re r out' v q qe =
          let e : read_of s (set ranges len range) (len + 1) ≡ with_next_range x now = appended_at range re in
          let z = v.at (set ranges len range) len (len + 1) (get_or-set_same ranges len range no_range (omega (arith, long, next_room h))) in
          let f : turn one x len (read_of s (set ranges len range) (len + 1)) ≡ turn one x whole.value.len (with_next_range x whole.value) = ap (turn one x len) e ∙ ap (λ (y : RangesRead). turn one x y.len (with_next_range x y)) w.value in
          let u : s.used ≡ length whole.entries = ap (λ (y : RangesRead). y.so_far.used) w.value ∙ whole_told.bytes in
          rw (qe, pick_yes (wants_next x whole.value) longer whole (ap (wants_next x) (sym w.value) ∙ h))
          (record {
            value = z.value ∙ ap (λ (t : Outcome RangesRead). t.value.so_far.number) f;
            out = wrote_more write 0 s.used out₀ out out' whole.entries (turn one x whole.value.len (with_next_range x whole.value)).entries (omega (arith, u)) w.out (z.out ∙ ap (λ (t : Outcome RangesRead). pick write (sets out s.used t.entries) out) f);
          })

    -- a refusal in the turns is the read's
    pub all_refused : (r : Refusal) (out : List ℕ) → Tells write 0 out₀ out (λ v. number_of r ≡ v.so_far.number) (turns one x start.len 0 (silent start))
        → (q : Result CodeRanges Refusal) → q ≡ Err r → Tells write 0 out₀ out (ranges_tell q) (ranges_read one x start)
    unfolding ranges_read wants_next
    all_refused r out w q qe =
        let n : eqb whole.value.so_far.number 0 ≡ false = rw (← w.value) (ne_eqb (number_of r) 0 (refused_is_not_done r)) in
        rw (qe, n) (record { value = w.value; out = w.out })

-- a first run that used no byte has written what a second one would
pub nothing_used : (out o : List ℕ) (r : RangesRead) (s : Outcome RangesRead) → Wrote false 0 out o r s → s.value.so_far.used ≡ length s.entries → r.so_far.used ≡ 0 → Wrote true 0 o o r s
nothing_used out o r s w e z = record { value = w.value; out = sym (ap (sets o 0) (none s.entries (sym e ∙ (ap (λ (q : RangesRead). q.so_far.used) (sym w.value) ∙ z)))) }
  where
    none : (l : List ℕ) → length l ≡ 0 → l ≡ []
    none [] h = refl
    none (v ∷ l) h = absurd (omega (arith, h))
