-- The mark that a read of all leaves says whether every range is fully read.
use Rattle.std.proofs.lemmas.Bool.{and_parts}
use Prim.Native.Nat.{ℕ, zero, suc, ◌+◌, ◌-◌, ◌<◌, ◌≤◌}
use mathlib.Core.Path.{◌≡◌, refl, sym, ap, subst, ◌∙◌}
use mathlib.Core.Bool.{Bool, true, false, not, ◌&&◌, ◌||◌}
use mathlib.Core.List.{List, [], ◌∷◌, ◌++◌}
use native.Mathlib.Omega.{arith}
use native.Mathlib.Numerals.{add-one}
use lib.Dec.{eqb}
use lib.ListN.{length, get_or, set, take, length-set}
use lib.Seq.{take-suc, take-suc-set}
use borrow.Author.Tests.{eqb-true, eqb-false, not-true}
use Rattle.rows.specs.Rows.{pick}
use Rattle.rows.proofs.Laws.{no_later, yes_later, pick_both, never}
use Rattle.messages_buffer.specs.Fullness.{every}
use Rattle.range_rules.specs.declared.ExternalsRangeReaderState.{ExternalsRangeReaderState}
use Rattle.range_rules.specs.Rules.{Outcome, silent, followed}
use Rattle.reader_rules.specs.declared.ExternalsReaderState.{ExternalsReaderState}
use Rattle.reader_rules.specs.declared.Fixed.{Fixed}
use Rattle.reader_rules.specs.Turns.{RangesRead}
use Rattle.reader_rules.specs.State.{no_range, open_ranges_limit_of}
use Rattle.reader_rules.specs.Offsets.{all_fully_read}
use Rattle.reader_rules.specs.Rules.{OneRange, Told, is_skipped, mode_for, settled, numbered, not_all_read, added, read_of, after_turn, next_range, wants_next, turn, turns, with_next_range, ranges_read, at_entry}
use Rattle.reader_rules.proofs.Kept.{settled_either, wanted}

-- ---- the first ranges, and one more
one_more_lem : (l : List ExternalsRangeReaderState) (r : ExternalsRangeReaderState) → all_fully_read (l ++ (r ∷ [])) ≡ (all_fully_read l && r.fully_read)
unfolding every
one_more_lem [] r = sym (yes_later r.fully_read true refl)
one_more_lem (q ∷ l) r = ap (λ (b : Bool). q.fully_read && b) (one_more_lem l r) ∙ go q.fully_read
  where
    go : (b : Bool) → (b && (all_fully_read l && r.fully_read)) ≡ ((b && all_fully_read l) && r.fully_read)
    go true = refl
    go false = refl

one_read : (l : List ExternalsRangeReaderState) (i : ℕ) → i < length l → all_fully_read (take (suc i) l) ≡ (all_fully_read (take i l) && (get_or l i no_range).fully_read)
one_read l i h = ap all_fully_read (take-suc l i no_range h) ∙ one_more_lem (take i l) (get_or l i no_range)

-- one that is not fully read is enough
more_not_read : (n i : ℕ) (l : List ExternalsRangeReaderState) → all_fully_read (take i l) ≡ false → all_fully_read (take (i + n) l) ≡ false
unfolding every
more_not_read n zero l e = never e
more_not_read n (suc i) [] e = never e
more_not_read n (suc i) (r ∷ l) e = let k : suc i + n ≡ suc (i + n) = omega arith in ap (λ (j : ℕ). all_fully_read (take j (r ∷ l))) k ∙ go r.fully_read e (more_not_read n i l)
  where
    go : (b : Bool) → (b && all_fully_read (take i l)) ≡ false → (all_fully_read (take i l) ≡ false → all_fully_read (take (i + n) l) ≡ false) → (b && all_fully_read (take (i + n) l)) ≡ false
    go true f more = more f
    go false f more = refl

before_set : (l : List ExternalsRangeReaderState) (i : ℕ) (r : ExternalsRangeReaderState) → take i (set l i r) ≡ take i l
before_set [] i r = refl
before_set (q ∷ l) zero r = refl
before_set (q ∷ l) (suc i) r = ap (λ (k : List ExternalsRangeReaderState). q ∷ k) (before_set l i r)

settled_mark : (x : Fixed) (r : ExternalsRangeReaderState) → (settled x r).fully_read ≡ r.fully_read
settled_mark x r =
    let P : ExternalsRangeReaderState → Type 0 = λ q. q.fully_read ≡ r.fully_read in
    settled_either P x r refl (λ key. refl)

-- ---- turn by turn
-- what is known before range i's turn, of as many slots and ranges
record Marked (slots len i : ℕ) (r : RangesRead) : Type 0 where
  mark : r.so_far.number ≡ 0 → r.so_far.all_read ≡ all_fully_read (take i r.ranges)
  stop : r.so_far.number ≡ 0 → r.so_far.stopped ≡ true → r.so_far.all_read ≡ false
  many : length r.ranges ≡ slots
  ranges : r.len ≡ len

module _ (one : OneRange) (x : Fixed) (slots len : ℕ) where
  read_marked : (i : ℕ) (r : RangesRead) (a : Told) → i < slots → r.so_far.number ≡ 0 → Marked slots len i r → Marked slots len (suc i) (after_turn x i r a)
  unfolding after_turn
  read_marked i r a h z m = go (eqb a.number 0) refl
    where
      q : ExternalsRangeReaderState
      q = settled x a.range

      go : (b : Bool) → eqb a.number 0 ≡ b → Marked slots len (suc i) (pick b (read_of (added r.so_far a) (set r.ranges i q) r.len) (read_of (numbered a.number r.so_far) r.ranges r.len))
      go true e =
          record {
            mark = λ y. ap (λ (b : Bool). b && a.range.fully_read) (m.mark z) ∙ ap (λ (b : Bool). all_fully_read (take i r.ranges) && b) (sym (settled_mark x a.range))
                ∙ sym (ap all_fully_read (take-suc-set r.ranges i q (omega (arith, h, m.many))) ∙ one_more_lem (take i r.ranges) q);
            stop = λ y s. sym (no_later r.so_far.all_read _ (not-true _ (and_parts (eqb a.free 0) _ s).1));
            many = length-set r.ranges i q ∙ m.many;
            ranges = m.ranges;
          }
      go false e = record { mark = λ y. absurd (eqb-false a.number 0 e y); stop = λ y. absurd (eqb-false a.number 0 e y); many = m.many; ranges = m.ranges }

  turn_marked : (i : ℕ) (r : RangesRead) → i < slots → r.so_far.number ≡ 0 → Marked slots len i r → Marked slots len (suc i) (turn one x i r).value
  unfolding turn
  turn_marked i r h z m = go range.fully_read refl
    where
      range : ExternalsRangeReaderState
      range = get_or r.ranges i no_range

      told : Outcome Told
      told = one r.so_far.pops (mode_for x range.seqno) range (x.room - r.so_far.used)

      skipped : Outcome RangesRead
      skipped = silent (read_of (not_all_read r.so_far) r.ranges r.len)

      read : Outcome RangesRead
      read = record { value = after_turn x i r told.value; entries = told.entries }

      up_to : all_fully_read (take (suc i) r.ranges) ≡ (all_fully_read (take i r.ranges) && range.fully_read)
      up_to = one_read r.ranges i (omega (arith, h, m.many))

      go : (b : Bool) → range.fully_read ≡ b → Marked slots len (suc i) (pick b (silent r) (pick (is_skipped x range) skipped read)).value
      go true e = record { mark = λ y. m.mark y ∙ yes_later (all_fully_read (take i r.ranges)) range.fully_read e ∙ sym up_to; stop = m.stop; many = m.many; ranges = m.ranges }
      go false e =
          let Q : Outcome RangesRead → Type 0 = λ s. Marked slots len (suc i) s.value in
          pick_both Q (is_skipped x range) skipped read (record { mark = λ y. no_later (all_fully_read (take i r.ranges)) range.fully_read e ∙ sym up_to; stop = λ y s. refl; many = m.many; ranges = m.ranges }) (read_marked i r told.value h z m)

  turns_marked : (n i : ℕ) (s : Outcome RangesRead) → i + n ≤ slots → Marked slots len i s.value → Marked slots len (i + n) (turns one x n i s).value
  unfolding turns
  turns_marked zero i s h m = let e : i ≡ i + 0 = omega arith in subst (λ (k : ℕ). Marked slots len k s.value) e m
  turns_marked (suc n) i s h m = go (eqb s.value.so_far.number 0) refl s.value.so_far.stopped refl (turns_marked n (i + 1) (followed s (turn one x i s.value)) (omega arith))
    where
      rest : Outcome RangesRead
      rest = turns one x n (i + 1) (followed s (turn one x i s.value))

      go : (b : Bool) → eqb s.value.so_far.number 0 ≡ b → (c : Bool) → s.value.so_far.stopped ≡ c → (Marked slots len (i + 1) (turn one x i s.value).value → Marked slots len (i + 1 + n) rest.value) → Marked slots len (i + suc n) (pick (not b || c) s rest).value
      go true e true f later =
          record {
            mark = λ z. m.stop z f ∙ sym (more_not_read (suc n) i s.value.ranges (sym (m.mark z) ∙ m.stop z f));
            stop = m.stop;
            many = m.many;
            ranges = m.ranges;
          }
      go true e false f later =
          let k : i + 1 + n ≡ i + suc n = omega arith in
          let t = turn_marked i s.value (omega arith) (eqb-true _ 0 e) m in
          subst (λ (j : ℕ). Marked slots len j rest.value) k (later (subst (λ (j : ℕ). Marked slots len j (turn one x i s.value).value) (sym (add-one i)) t))
      go false e c f later = record { mark = λ z. absurd (eqb-false _ 0 e z); stop = λ z. absurd (eqb-false _ 0 e z); many = m.many; ranges = m.ranges }

-- "When all are fully read, a range is appended and read if ..; else the mark is set."
pub the_mark_says_whether_every_range_is_fully_read : (one : OneRange) (x : Fixed) (s : ExternalsReaderState) → s.len ≤ length s.ranges → open_ranges_limit_of x.params ≤ length s.ranges
    → (let q = (ranges_read one x (at_entry s)).value in q.so_far.number ≡ 0 → q.so_far.all_read ≡ all_fully_read (take q.len q.ranges))
unfolding ranges_read with_next_range wants_next every
the_mark_says_whether_every_range_is_fully_read one x s fits limit = go (wants_next x t.value) refl
  where
    slots : ℕ
    slots = length s.ranges

    t : Outcome RangesRead
    t = turns one x s.len 0 (silent (at_entry s))

    m : Marked slots s.len s.len t.value
    m =
        let k : 0 + s.len ≡ s.len = omega arith in
        subst (λ (i : ℕ). Marked slots s.len i t.value) k
        (turns_marked one x slots s.len s.len 0 (silent (at_entry s)) (omega (arith, fits)) (record { mark = λ z. refl; stop = λ z e. never (sym e); many = refl; ranges = refl }))

    at_len : (len i : ℕ) (q : RangesRead) → len ≡ i → Marked slots len i q → q.so_far.number ≡ 0 → q.so_far.all_read ≡ all_fully_read (take q.len q.ranges)
    at_len len i q e k z = k.mark z ∙ ap (λ (n : ℕ). all_fully_read (take n q.ranges)) (sym (k.ranges ∙ e))

    go : (b : Bool) → wants_next x t.value ≡ b → (let q = (pick b (followed t (turn one x t.value.len (with_next_range x t.value))) t).value in q.so_far.number ≡ 0 → q.so_far.all_read ≡ all_fully_read (take q.len q.ranges))
    go false w z = at_len s.len s.len t.value refl m z
    go true w z =
        let q = t.value in
        let next = next_range x.block_seqno x.next_chain_time x.by_partitions q.ranges q.len in
        let appended : Marked slots (s.len + 1) q.len (with_next_range x q) =
        record {
          mark = λ y. m.mark y ∙ ap (λ (n : ℕ). all_fully_read (take n q.ranges)) (sym m.ranges) ∙ sym (ap all_fully_read (before_set q.ranges q.len next));
          stop = m.stop;
          many = length-set q.ranges q.len next ∙ m.many;
          ranges = ap (λ (n : ℕ). n + 1) m.ranges;
        } in
        let h : q.len < slots = omega (arith, (wanted x q w).0, limit) in
        let n : q.so_far.number ≡ 0 = eqb-true _ 0 (and_parts (eqb q.so_far.number 0) _ w).0 in
        let e : s.len + 1 ≡ suc q.len = omega (arith, m.ranges) in
        at_len (s.len + 1) (suc q.len) (turn one x q.len (with_next_range x q)).value e (turn_marked one x slots (s.len + 1) q.len (with_next_range x q) h n appended) z
