-- Document 02, ticket 7, of the read of all: the free places told are "the free places that the last range read
-- reported", as that range stands at the end; where no range was read none are told.
use Rattle.std.specs.Prelude.{Option}
use Prim.Native.Nat.{ℕ, zero, suc, ◌+◌, ◌-◌, ◌<◌, ◌≤◌}
use mathlib.Core.Path.{◌≡◌, refl, sym, ap, subst, ◌∙◌}
use mathlib.Core.Bool.{Bool, true, false}
use mathlib.Core.List.{List}
use mathlib.Core.Logic.{◌⊎◌, inl, inr}
use mathlib.Core.Option.{none, some}
use native.Mathlib.Omega.{arith}
use native.Mathlib.Numerals.{add-one}
use lib.Dec.{eqb}
use lib.ListN.{length, get_or, set, length-set}
use lib.Seq.{get_or-set_same}
use borrow.Author.Rules.{read_above, read_below}
use borrow.Author.Tests.{eqb-true}
use Rattle.rows.specs.Rows.{pick}
use Rattle.rows.proofs.Laws.{pick_both}
use Rattle.messages_buffer.specs.Fullness.{range_free}
use Rattle.range_rules.specs.declared.ExternalsRangeReaderState.{ExternalsRangeReaderState}
use Rattle.range_rules.specs.declared.ReadNextExternalsMode.{ReadNextExternalsMode}
use Rattle.range_rules.specs.Rules.{Outcome, silent, followed}
use Rattle.reader_rules.specs.declared.ExternalsReaderState.{ExternalsReaderState}
use Rattle.reader_rules.specs.declared.Fixed.{Fixed}
use Rattle.reader_rules.specs.Turns.{RangesRead}
use Rattle.reader_rules.specs.State.{no_range, open_ranges_limit_of}
use Rattle.reader_rules.proofs.Kept.{settled_either, wanted}
use Rattle.reader_rules.specs.Rules.{OneRange, Told, free_value, is_skipped, mode_for, settled, numbered, added, read_of, after_turn, wants_next, turn, is_over, turns, with_next_range, ranges_read, next_range, at_entry}

-- no range is read: the `len` ranges handed in are left as they were
pub record NoneRead (before : List ExternalsRangeReaderState) (len : ℕ) (free : Option ℕ) (after : List ExternalsRangeReaderState) : Type 0 where
  pub told : free_value free ≡ none
  pub same : (j : ℕ) → j < len → get_or after j no_range ≡ get_or before j no_range

-- range i is the last read: it has as many free places as are told, and those behind it are as they were
pub record LastRead (limits : List ℕ) (before : List ExternalsRangeReaderState) (len most : ℕ) (free : Option ℕ) (after : List ExternalsRangeReaderState) : Type 0 where
  pub i : ℕ
  pub held : i < most
  pub told : free_value free ≡ some (range_free limits (get_or after i no_range).by_partitions)
  pub same : (j : ℕ) → i < j → j < len → get_or after j no_range ≡ get_or before j no_range

abbrev pub Reported : List ℕ → List ExternalsRangeReaderState → ℕ → ℕ → Option ℕ → List ExternalsRangeReaderState → Type 0
Reported limits before len most free after = NoneRead before len free after ⊎ LastRead limits before len most free after

-- a range's read that is not refused reports the free places of the range that it leaves
abbrev pub Reports : List ℕ → OneRange → Type 0
Reports limits one = (pops : ℕ) (mode : ReadNextExternalsMode) (range : ExternalsRangeReaderState) (room : ℕ)
    → let a = (one pops mode range room).value in a.number ≡ 0 → a.free ≡ range_free limits a.range.by_partitions

settled_partitions : (x : Fixed) (r : ExternalsRangeReaderState) → (settled x r).by_partitions ≡ r.by_partitions
settled_partitions x r =
    let P : ExternalsRangeReaderState → Type 0 = λ q. q.by_partitions ≡ r.by_partitions in
    settled_either P x r refl (λ key. refl)

module _ (x : Fixed) (before : List ExternalsRangeReaderState) (slots len : ℕ) where
  -- before range i's turn, of n ranges that there are now
  record Standing (n i : ℕ) (r : RangesRead) : Type 0 where
    many : length r.ranges ≡ slots
    ranges : r.len ≡ n
    reported : Reported x.limits before len i r.so_far.free r.ranges

  later : (i k : ℕ) (free : Option ℕ) (after : List ExternalsRangeReaderState) → i ≤ k → Reported x.limits before len i free after → Reported x.limits before len k free after
  later i k free after h (inl n) = inl n
  later i k free after h (inr l) = inr (record { i = l.i; held = omega (arith, l.held); told = l.told; same = l.same })

  -- a range that has not had its turn is as it was handed in
  behind : (i : ℕ) (free : Option ℕ) (after : List ExternalsRangeReaderState) → Reported x.limits before len i free after → (j : ℕ) → i ≤ j → j < len → get_or after j no_range ≡ get_or before j no_range
  behind i free after (inl n) j h g = n.same j g
  behind i free after (inr l) j h g = l.same j (omega (arith, l.held)) g

  -- a store behind the ranges handed in changes none of them
  appended : (k : ℕ) (v : ExternalsRangeReaderState) (free : Option ℕ) (after : List ExternalsRangeReaderState) → len ≤ k → Reported x.limits before len k free after → Reported x.limits before len k free (set after k v)
  appended k v free after e (inl n) = inl (record { told = n.told; same = λ j h. read_below ExternalsRangeReaderState after k j v no_range (get_or before j no_range) (omega arith) (n.same j h) })
  appended k v free after e (inr l) =
      inr
      (record {
        i = l.i;
        held = l.held;
        told = l.told ∙ ap (λ (q : ExternalsRangeReaderState). some (range_free x.limits q.by_partitions)) (sym (read_below ExternalsRangeReaderState after k l.i v no_range (get_or after l.i no_range) l.held refl));
        same = λ j h g. read_below ExternalsRangeReaderState after k j v no_range (get_or before j no_range) (omega arith) (l.same j h g);
      })

  module _ (one : OneRange) (reports : Reports x.limits one) (n : ℕ) where
    read_stands : (i : ℕ) (r : RangesRead) (a : Told) → (a.number ≡ 0 → a.free ≡ range_free x.limits a.range.by_partitions) → i < slots → Standing n i r → Standing n (suc i) (after_turn x i r a)
    unfolding after_turn
    read_stands i r a tells h s = go (eqb a.number 0) refl
      where
        v : ExternalsRangeReaderState
        v = settled x a.range

        here : get_or (set r.ranges i v) i no_range ≡ v
        here = get_or-set_same r.ranges i v no_range (omega (arith, h, s.many))

        go : (b : Bool) → eqb a.number 0 ≡ b → Standing n (suc i) (pick b (read_of (added r.so_far a) (set r.ranges i v) r.len) (read_of (numbered a.number r.so_far) r.ranges r.len))
        go true e =
            record {
              many = length-set r.ranges i v ∙ s.many;
              ranges = s.ranges;
              reported =
                  inr
                  (record {
                    i = i;
                    held = omega arith;
                    told = ap some (tells (eqb-true _ 0 e) ∙ ap (range_free x.limits) (sym (ap (λ (q : ExternalsRangeReaderState). q.by_partitions) here ∙ settled_partitions x a.range)));
                    same = λ j g k. read_above ExternalsRangeReaderState r.ranges i j v no_range (get_or before j no_range) g (behind i _ r.ranges s.reported j (omega arith) k);
                  });
            }
        go false e = record { many = s.many; ranges = s.ranges; reported = later i (suc i) _ _ (omega arith) s.reported }

    turn_stands : (i : ℕ) (r : RangesRead) → i < slots → Standing n i r → Standing n (suc i) (turn one x i r).value
    unfolding turn
    turn_stands i r h s =
        let Q : Outcome RangesRead → Type 0 = λ o. Standing n (suc i) o.value in
        let range = get_or r.ranges i no_range in
        let passed = later i (suc i) r.so_far.free r.ranges (omega arith) s.reported in
        pick_both Q range.fully_read _ _ (record { many = s.many; ranges = s.ranges; reported = passed })
        (pick_both Q (is_skipped x range) _ _ (record { many = s.many; ranges = s.ranges; reported = passed })
        (read_stands i r _ (reports r.so_far.pops (mode_for x range.seqno) range (x.room - r.so_far.used)) h s))

    turns_stand : (m i : ℕ) (s : Outcome RangesRead) → i + m ≤ slots → Standing n i s.value → Standing n (i + m) (turns one x m i s).value
    unfolding turns
    turns_stand zero i s h t = let e : i ≡ i + 0 = omega arith in subst (λ (k : ℕ). Standing n k s.value) e t
    turns_stand (suc m) i s h t =
        let Q : Outcome RangesRead → Type 0 = λ o. Standing n (i + suc m) o.value in
        let rest = followed s (turn one x i s.value) in
        let k : i + 1 + m ≡ i + suc m = omega arith in
        let next : Standing n (i + 1) rest.value = subst (λ (j : ℕ). Standing n j rest.value) (sym (add-one i)) (turn_stands i s.value (omega arith) t) in
        pick_both Q (is_over s.value) _ _ (record { many = t.many; ranges = t.ranges; reported = later i (i + suc m) _ _ (omega arith) t.reported })
        (subst (λ (j : ℕ). Standing n j (turns one x m (i + 1) rest).value) k (turns_stand m (i + 1) rest (omega arith) next))

-- whatever the number
pub the_free_places_told_are_those_of_the_last_range_read : (one : OneRange) (x : Fixed) (s : ExternalsReaderState) → Reports x.limits one → s.len ≤ length s.ranges → open_ranges_limit_of x.params ≤ length s.ranges
    → (let q = (ranges_read one x (at_entry s)).value in Reported x.limits s.ranges s.len q.len q.so_far.free q.ranges)
unfolding ranges_read with_next_range
the_free_places_told_are_those_of_the_last_range_read one x s reports fits limit = go (wants_next x t.value) refl
  where
    slots : ℕ
    slots = length s.ranges

    t : Outcome RangesRead
    t = turns one x s.len 0 (silent (at_entry s))

    m : Standing x s.ranges slots s.len s.len s.len t.value
    m =
        let k : 0 + s.len ≡ s.len = omega arith in
        let none_yet : NoneRead s.ranges s.len (at_entry s).so_far.free s.ranges = record { told = refl; same = λ j h. refl } in
        subst (λ (i : ℕ). Standing x s.ranges slots s.len s.len i t.value) k
        (turns_stand x s.ranges slots s.len one reports s.len s.len 0 (silent (at_entry s)) (omega (arith, fits)) (record { many = refl; ranges = refl; reported = inl none_yet }))

    at_len : (n i : ℕ) (q : RangesRead) → n ≡ i → Standing x s.ranges slots s.len n i q → Reported x.limits s.ranges s.len q.len q.so_far.free q.ranges
    at_len n i q e k = subst (λ (most : ℕ). Reported x.limits s.ranges s.len most q.so_far.free q.ranges) (sym (k.ranges ∙ e)) k.reported

    go : (b : Bool) → wants_next x t.value ≡ b → (let q = (pick b (followed t (turn one x t.value.len (with_next_range x t.value))) t).value in Reported x.limits s.ranges s.len q.len q.so_far.free q.ranges)
    go false w = at_len s.len s.len t.value refl m
    go true w =
        let q = t.value in
        let next = next_range x.block_seqno x.next_chain_time x.by_partitions q.ranges q.len in
        let longer : Standing x s.ranges slots s.len (s.len + 1) q.len (with_next_range x q) =
        record {
          many = length-set q.ranges q.len next ∙ m.many;
          ranges = ap (λ (n : ℕ). n + 1) m.ranges;
          reported = appended x s.ranges slots s.len q.len next _ q.ranges (omega (arith, m.ranges)) (later x s.ranges slots s.len s.len q.len _ _ (omega (arith, m.ranges)) m.reported);
        } in
        let h : q.len < slots = omega (arith, (wanted x q w).0, limit) in
        let e : s.len + 1 ≡ suc q.len = omega (arith, m.ranges) in
        at_len (s.len + 1) (suc q.len) (turn one x q.len (with_next_range x q)).value e (turn_stands x s.ranges slots s.len one reports (s.len + 1) q.len (with_next_range x q) h longer)
