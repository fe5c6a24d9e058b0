-- The turns of a read of all, each with what its range passed: which messages were counted, and where the range stands.
use Prim.Native.Nat.{ℕ, zero, suc, ◌+◌, ◌-◌, ◌<◌, ◌≤◌}
use mathlib.Core.Path.{◌≡◌, refl, sym, ap, subst, ◌∙◌}
use mathlib.Core.Bool.{Bool, true, false}
use mathlib.Core.List.{List, [], ◌∷◌}
use native.Mathlib.Omega.{arith}
use lib.Dec.{eqb}
use lib.ListN.{get_or, set, take, drop, replicate}
use borrow.Author.Tests.{eqb-true}
use Rattle.rows.specs.Rows.{pick}
use Rattle.rows.proofs.Laws.{pick_both}
use Rattle.router.specs.Router.{routes_number}
use Rattle.messages_buffer.specs.Fullness.{partitions_number, limited_number, first_no}
use Rattle.messages_buffer.proofs.Laws.{first_zero, first_alone}
use Rattle.cache_rules.specs.Rules.{Anchor, Cache}
use Rattle.anchors_cache.specs.Calls.{closed_transaction}
use Rattle.cache_laws.specs.Book.{pop_times}
use Rattle.range_rules.specs.declared.Context.{Context}
use Rattle.range_rules.specs.Walks.{RangeRead}
use Rattle.range_rules.specs.declared.ExternalsRangeReaderState.{ExternalsRangeReaderState}
use Rattle.range_rules.specs.Rules.{Outcome, silent, followed, context_of, range_after}
use Rattle.range_rules.proofs.Conservation.{ours_in, passed_in, unread_all, front_unread, expired_ours, all_buffered, front_buffered, all_position, front_position, all_to, front_to, ReadPassed, a_read_passes_the_messages_in_order_and_counts_each}
use Rattle.range_reader.specs.Calls.{refused_answer, done_answer}
use Rattle.reader_rules.specs.declared.Fixed.{Fixed}
use Rattle.reader_rules.specs.Turns.{SoFar, RangesRead}
use Rattle.reader_rules.specs.State.{no_range}
use Rattle.reader_rules.specs.Rules.{is_skipped, mode_for, settled, sums, Told, numbered, not_all_read, read_of, after_turn, read_turn, turn, is_over, turns, wants_next, with_next_range, ranges_read, at_entry}
use Rattle.reader_rules.proofs.Each.{each_at}
use Rattle.externals_reader.specs.Calls.{told}
use Rattle.reader_laws.specs.AllRanges.{HandedAll, book_fixed, range_steps, book_range, book_all_read}

-- ---- one range's turn
-- range i as the turn finds it, what its read fixes at entry, and the anchors that the turns before left
abbrev found : RangesRead → ℕ → ExternalsRangeReaderState
found r i = get_or r.ranges i no_range

abbrev context_at : Fixed → RangesRead → ℕ → Context
context_at x r i = context_of x.shard x.limits x.processed x.params.externals_expire_timeout (mode_for x (found r i).seqno) (found r i) (x.room - r.so_far.used)

abbrev anchors_at : Cache → RangesRead → List Anchor
anchors_at v r = (pop_times r.so_far.pops v).anchors

-- The turn of range i, which went from r to q: n anchors were popped and k messages of the next one passed. `range` is
-- what the read leaves.
pub record TurnRead (x : Fixed) (routes : List ℕ) (v : Cache) (i n k : ℕ) (r q : RangesRead) : Type 0 where
  pub range : ExternalsRangeReaderState
  pub position : range.current_position ≡ front_position (context_at x r i) k (drop n (anchors_at v r)) (all_position (context_at x r i) (take n (anchors_at v r)) (found r i).current_position)
  pub to : range.to ≡ front_to (context_at x r i) k (drop n (anchors_at v r)) (all_to (context_at x r i) (take n (anchors_at v r)) (found r i).to)
  pub ranges : q.ranges ≡ set r.ranges i (settled x range)
  pub pops : q.so_far.pops ≡ r.so_far.pops + n
  pub expired : (p : ℕ) → p < 8 → get_or q.so_far.counts.expired p 0 ≡ get_or r.so_far.counts.expired p 0 + expired_ours (context_at x r i) routes p (take n (anchors_at v r))
  pub passed : (p : ℕ) → p < 8 → passed_in q.so_far.counts p
      ≡ passed_in r.so_far.counts p + (ours_in x.shard routes p (unread_all (context_at x r i) (take n (anchors_at v r))) + ours_in x.shard routes p (take k (front_unread (context_at x r i) (drop n (anchors_at v r)))))
  pub buffered : (p : ℕ) → p < 8 → get_or q.so_far.counts.buffered p 0
      ≡ get_or r.so_far.counts.buffered p 0 + get_or (front_buffered (context_at x r i) routes k (drop n (anchors_at v r)) (all_buffered (context_at x r i) routes (take n (anchors_at v r)) (replicate 8 0))) p 0

-- pops, used bytes and counts as before
pub record SameSums (s q : SoFar) : Type 0 where
  pub pops : q.pops ≡ s.pops
  pub used : q.used ≡ s.used
  pub counts : q.counts ≡ s.counts

-- ---- the whole read as a list of turns
-- a range that was passed over or refused, the next range appended, a range that was read
pub data TurnOf : Type 0 where
  over : SoFar → TurnOf
  next : TurnOf
  read : ℕ → ℕ → ℕ → RangesRead → TurnOf

-- r becomes q by these turns, each on what the one before left, in the order of the ranges from `from` on
unfoldable pub Trace : Fixed → List ℕ → Cache → ℕ → List TurnOf → RangesRead → RangesRead → Type 0
Trace x routes v from [] r q = q ≡ r
Trace x routes v from (over s ∷ l) r q = SameSums r.so_far s × Trace x routes v from l (read_of s r.ranges r.len) q
Trace x routes v from (next ∷ l) r q = Trace x routes v from l (with_next_range x r) q
Trace x routes v from (read i n k m ∷ l) r q = (from ≤ i) × (TurnRead x routes v i n k r m × Trace x routes v (i + 1) l m q)

-- some turns
pub record Traced (x : Fixed) (routes : List ℕ) (v : Cache) (from : ℕ) (r q : RangesRead) : Type 0 where
  pub list : List TurnOf
  pub trace : Trace x routes v from list r q

earlier : (x : Fixed) (routes : List ℕ) (v : Cache) (from to : ℕ) → from ≤ to → (l : List TurnOf) (r q : RangesRead) → Trace x routes v to l r q → Trace x routes v from l r q
unfolding Trace
earlier x routes v from to h [] r q t = t
earlier x routes v from to h (over s ∷ l) r q t = (t.0, earlier x routes v from to h l (read_of s r.ranges r.len) q t.1)
earlier x routes v from to h (next ∷ l) r q t = earlier x routes v from to h l (with_next_range x r) q t
earlier x routes v from to h (read i n k m ∷ l) r q t = let g = t.0 in (omega arith, t.1)

module _ (routes : List ℕ) (sound : routes_number routes ≡ 0) (x : Fixed) (v : Cache) where
  module _ (i : ℕ) (r : RangesRead) where
    abbrev six_steps_lem : Outcome RangeRead
    six_steps_lem = range_steps routes x (pop_times r.so_far.pops v) (mode_for x (found r i).seqno) (found r i) (x.room - r.so_far.used)

    abbrev number : ℕ
    number = first_no (partitions_number (found r i).by_partitions ∷ limited_number x.limits (found r i).by_partitions ∷ six_steps_lem.value.walk.number ∷ [])

    steps_passed : number ≡ 0 → ReadPassed (context_at x r i) routes (found r i) (anchors_at v r) six_steps_lem.value
    unfolding range_steps
    steps_passed z =
        a_read_passes_the_messages_in_order_and_counts_each (context_at x r i) routes sound (found r i) (anchors_at v r)
        (sym (first_alone six_steps_lem.value.walk.number) ∙ (first_zero _ _ (first_zero _ _ z).1).1)

    abbrev added_here : RangesRead
    added_here = after_turn x i r (told (done_answer (found r i) six_steps_lem.value closed_transaction))

    sum_at : (a b : List ℕ) (p : ℕ) → p < 8 → get_or (sums a b) p 0 ≡ get_or a p 0 + get_or b p 0
    unfolding sums
    sum_at a b p few = each_at 8 (λ j. get_or a j 0 + get_or b j 0) p 0 few

    turn_read : (z : number ≡ 0) → TurnRead x routes v i (steps_passed z).n (steps_passed z).k r added_here
    unfolding after_turn
    turn_read z =
        let c = steps_passed z in
        let a = r.so_far.counts in
        let b = six_steps_lem.value.walk.counts in
        record {
          range = range_after (found r i) six_steps_lem.value;
          position = c.position;
          to = c.to;
          ranges = refl;
          pops = ap (λ (m : ℕ). r.so_far.pops + m) c.pops;
          expired = λ p few. sum_at a.expired b.expired p few ∙ ap (λ (m : ℕ). get_or a.expired p 0 + m) (c.expired p);
          passed = λ p few. omega (arith, sum_at a.read b.read p few, sum_at a.expired b.expired p few, c.passed p);
          buffered = λ p few. sum_at a.buffered b.buffered p few ∙ ap (λ (l : List ℕ). get_or a.buffered p 0 + get_or l p 0) c.buffered;
        }

    read_traced : (from : ℕ) → from ≤ i → (q : RangesRead) → Traced x routes v (i + 1) (read_turn (book_range routes x v) x i r (found r i)).value q → Traced x routes v from r q
    unfolding book_range after_turn Trace
    read_traced from h q = go (eqb number 0) refl
      where
        refused : RangesRead
        refused = read_of (numbered number r.so_far) r.ranges r.len

        done : Outcome Told
        done = record { value = told (done_answer (found r i) six_steps_lem.value closed_transaction); entries = six_steps_lem.entries }

        left : eqb number 0 ≡ false → after_turn x i r (told (refused_answer number (found r i) closed_transaction)) ≡ refused
        left e = rw e

        go : (b : Bool) → eqb number 0 ≡ b
            → Traced x routes v (i + 1) (after_turn x i r (pick b done (silent (told (refused_answer number (found r i) closed_transaction)))).value) q → Traced x routes v from r q
        go true e t = record { list = read i (steps_passed (eqb-true number 0 e)).n (steps_passed (eqb-true number 0 e)).k added_here ∷ t.list; trace = (h, (turn_read (eqb-true number 0 e), t.trace)) }
        go false e t =
            let g : Trace x routes v (i + 1) t.list refused q = subst (λ (m : RangesRead). Trace x routes v (i + 1) t.list m q) (left e) t.trace in
            record { list = over (numbered number r.so_far) ∷ t.list; trace = (record { pops = refl; used = refl; counts = refl }, earlier x routes v from (i + 1) (omega arith) t.list refused q g) }

    turn_traced : (from : ℕ) → from ≤ i → (q : RangesRead) → Traced x routes v (i + 1) (turn (book_range routes x v) x i r).value q → Traced x routes v from r q
    unfolding turn Trace
    turn_traced from h q =
        let P : Outcome RangesRead → Type 0 = λ s. Traced x routes v (i + 1) s.value q → Traced x routes v from r q in
        let none = read_of (not_all_read r.so_far) r.ranges r.len in
        pick_both P (found r i).fully_read _ _ (λ t. record { list = t.list; trace = earlier x routes v from (i + 1) (omega arith) t.list r q t.trace })
        (pick_both P (is_skipped x (found r i)) _ _
        (λ t. record { list = over (not_all_read r.so_far) ∷ t.list; trace = (record { pops = refl; used = refl; counts = refl }, earlier x routes v from (i + 1) (omega arith) t.list none q t.trace) })
        (read_traced from h q))

  turns_traced : (n i : ℕ) (s : Outcome RangesRead) (q : RangesRead) → Traced x routes v (i + n) (turns (book_range routes x v) x n i s).value q → Traced x routes v i s.value q
  unfolding turns
  turns_traced zero i s q = λ t. record { list = t.list; trace = earlier x routes v i (i + 0) (omega arith) t.list s.value q t.trace }
  turns_traced (suc n) i s q =
      let u = followed s (turn (book_range routes x v) x i s.value) in
      let e : i + suc n ≡ i + 1 + n = omega arith in
      let P : Outcome RangesRead → Type 0 = λ w. Traced x routes v (i + suc n) w.value q → Traced x routes v i s.value q in
      pick_both P (is_over s.value) s (turns (book_range routes x v) x n (i + 1) u)
      (λ t. record { list = t.list; trace = earlier x routes v i (i + suc n) (omega arith) t.list s.value q t.trace })
      (λ t. turn_traced i s.value i (omega arith) q (turns_traced n (i + 1) u q (subst (λ (m : ℕ). Traced x routes v m (turns (book_range routes x v) x n (i + 1) u).value q) e t)))

  -- the turns leave the number of ranges
  turn_len : (i : ℕ) (r : RangesRead) → (turn (book_range routes x v) x i r).value.len ≡ r.len
  unfolding turn after_turn
  turn_len i r =
      let P : Outcome RangesRead → Type 0 = λ s. s.value.len ≡ r.len in
      let Q : RangesRead → Type 0 = λ q. q.len ≡ r.len in
      let a = (book_range routes x v r.so_far.pops (mode_for x (found r i).seqno) (found r i) (x.room - r.so_far.used)).value in
      pick_both P (found r i).fully_read _ _ refl (pick_both P (is_skipped x (found r i)) _ _ refl (pick_both Q (eqb a.number 0) _ _ refl refl))

  turns_len : (n i : ℕ) (s : Outcome RangesRead) → (turns (book_range routes x v) x n i s).value.len ≡ s.value.len
  unfolding turns
  turns_len zero i s = refl
  turns_len (suc n) i s =
      let u = followed s (turn (book_range routes x v) x i s.value) in
      let P : Outcome RangesRead → Type 0 = λ w. w.value.len ≡ s.value.len in
      pick_both P (is_over s.value) s (turns (book_range routes x v) x n (i + 1) u) refl (turns_len n (i + 1) u ∙ turn_len i s.value)

  all_traced : (r : RangesRead) → Traced x routes v 0 r (ranges_read (book_range routes x v) x r).value
  unfolding ranges_read Trace
  all_traced r =
      let s = turns (book_range routes x v) x r.len 0 (silent r) in
      let e : s.value.len ≡ r.len = turns_len r.len 0 (silent r) in
      let longer = (turn (book_range routes x v) x s.value.len (with_next_range x s.value)).value in
      let P : Outcome RangesRead → Type 0 = λ q. Traced x routes v 0 r q.value in
      let a = turn_traced s.value.len (with_next_range x s.value) (0 + r.len) (omega arith) longer (record { list = []; trace = refl }) in
      pick_both P (wants_next x s.value) _ s
      (turns_traced r.len 0 (silent r) longer (record { list = next ∷ a.list; trace = a.trace }))
      (turns_traced r.len 0 (silent r) s.value (record { list = []; trace = refl }))

-- every range that is read is read in its own context, on what the pops before it left, and what it passed is added
pub every_message_of_ours_passed_by_any_range_is_counted_as_read_or_expired : (h : HandedAll) (v : Cache) → routes_number h.routes ≡ 0
    → Traced (book_fixed h v) h.routes v 0 (at_entry h.reader.reader_state) (book_all_read h v).value
unfolding book_all_read
every_message_of_ours_passed_by_any_range_is_counted_as_read_or_expired h v sound = all_traced h.routes sound (book_fixed h v) v (at_entry h.reader.reader_state)
