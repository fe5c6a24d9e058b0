-- The turns do not look at how one range is read: two ways that answer the same of the ranges that are read give the
-- same read of all, and what each range's read keeps, the read of all keeps.
use Prim.Native.Nat.{ℕ, zero, suc, ◌+◌, ◌-◌, ◌<◌, ◌≤◌}
use mathlib.Core.Path.{◌≡◌, refl, ap, ◌∙◌}
use mathlib.Core.Bool.{Bool, true, false}
use mathlib.Core.List.{List, [], ◌∷◌}
use native.Mathlib.Omega.{arith}
use lib.Dec.{eqb}
use lib.ListN.{get_or, set}
use borrow.Author.Rules.{read_above}
use Rattle.rows.specs.Rows.{pick}
use Rattle.range_rules.specs.declared.ExternalsRangeReaderState.{ExternalsRangeReaderState}
use Rattle.range_rules.specs.declared.ReadNextExternalsMode.{ReadNextExternalsMode}
use Rattle.range_rules.specs.Rules.{Outcome, silent, followed}
use Rattle.rows.proofs.Laws.{pick_both}
use Rattle.reader_rules.specs.declared.Fixed.{Fixed}
use Rattle.reader_rules.specs.Turns.{RangesRead}
use Rattle.reader_rules.specs.State.{no_range}
use Rattle.reader_rules.specs.Rules.{OneRange, Told, is_skipped, mode_for, not_all_read, read_of, settled, after_turn, next_range, wants_next, turn, is_over, turns, with_next_range, next_turn, ranges_read}

-- ---- a turn changes its own range alone
after_later : (x : Fixed) (i : ℕ) (r : RangesRead) (a : Told) (j : ℕ) → i < j → get_or (after_turn x i r a).ranges j no_range ≡ get_or r.ranges j no_range
unfolding after_turn
after_later x i r a j h =
    let P : RangesRead → Type 0 = λ q. get_or q.ranges j no_range ≡ get_or r.ranges j no_range in
    pick_both P (eqb a.number 0) _ _ (read_above ExternalsRangeReaderState r.ranges i j (settled x a.range) no_range (get_or r.ranges j no_range) h refl) refl

pub a_turn_leaves_later_ranges : (one : OneRange) (x : Fixed) (i : ℕ) (r : RangesRead) (j : ℕ) → i < j → get_or (turn one x i r).value.ranges j no_range ≡ get_or r.ranges j no_range
unfolding turn
a_turn_leaves_later_ranges one x i r j h =
    let P : Outcome RangesRead → Type 0 = λ s. get_or s.value.ranges j no_range ≡ get_or r.ranges j no_range in
    let range = get_or r.ranges i no_range in
    pick_both P range.fully_read _ _ refl
    (pick_both P (is_skipped x range) _ _ refl (after_later x i r (one r.so_far.pops (mode_for x range.seqno) range (x.room - r.so_far.used)).value j h))

set_at : {A : Type 0} (P : A → Type 0) (l : List A) (k : ℕ) (v d : A) → P v → P d → P (get_or (set l k v) k d)
set_at P [] k v d p q = q
set_at P (y ∷ l) zero v d p q = p
set_at P (y ∷ l) (suc k) v d p q = set_at P l k v d p q

-- ---- two ways to read one range
module _ (one two : OneRange) (x : Fixed) where
  turn_same : (i : ℕ) (r : RangesRead)
      → (let range = get_or r.ranges i no_range in one r.so_far.pops (mode_for x range.seqno) range (x.room - r.so_far.used) ≡ two r.so_far.pops (mode_for x range.seqno) range (x.room - r.so_far.used)) → turn one x i r ≡ turn two x i r
  unfolding turn
  turn_same i r e =
      let range = get_or r.ranges i no_range in
      ap (λ (s : Outcome Told). pick range.fully_read (silent r) (pick (is_skipped x range) (silent (read_of (not_all_read r.so_far) r.ranges r.len)) (record { value = after_turn x i r s.value; entries = s.entries }))) e

  -- that answer the same of every range with Q, which the next range has, and what is past the end
  module _ (Q : ExternalsRangeReaderState → Type 0)
      (same : (pops : ℕ) (mode : ReadNextExternalsMode) (range : ExternalsRangeReaderState) (room : ℕ) → Q range → one pops mode range room ≡ two pops mode range room)
      (next : (r : RangesRead) → Q (next_range x.block_seqno x.next_chain_time x.by_partitions r.ranges r.len)) (none : Q no_range) where
    same_at : (i : ℕ) (r : RangesRead) → Q (get_or r.ranges i no_range) → turn one x i r ≡ turn two x i r
    same_at i r q = let range = get_or r.ranges i no_range in turn_same i r (same r.so_far.pops (mode_for x range.seqno) range (x.room - r.so_far.used) q)

    turns_same : (n i : ℕ) (s : Outcome RangesRead) → ((j : ℕ) → i ≤ j → j < i + n → Q (get_or s.value.ranges j no_range)) → turns one x n i s ≡ turns two x n i s
    unfolding turns
    turns_same zero i s q = refl
    turns_same (suc n) i s q =
        let t = turn two x i s.value in
        ap (λ (u : Outcome RangesRead). pick (is_over s.value) s (turns one x n (i + 1) (followed s u))) (same_at i s.value (q i (omega arith) (omega arith)))
        ∙ ap (λ (u : Outcome RangesRead). pick (is_over s.value) s u)
        (turns_same n (i + 1) (followed s t) (λ j a b. rw (a_turn_leaves_later_ranges two x i s.value j (omega arith)) (q j (omega arith) (omega arith))))

    pub the_read_of_all_looks_only_at_the_ranges_it_reads : (r : RangesRead) → ((j : ℕ) → j < r.len → Q (get_or r.ranges j no_range)) → ranges_read one x r ≡ ranges_read two x r
    unfolding ranges_read with_next_range
    the_read_of_all_looks_only_at_the_ranges_it_reads r q =
        let s = turns two x r.len 0 (silent r) in
        ap (next_turn one x) (turns_same r.len 0 (silent r) (λ j a b. q j (omega arith)))
        ∙ ap (λ (t : Outcome RangesRead). pick (wants_next x s.value) (followed s t) s) (same_at s.value.len (with_next_range x s.value) (set_at Q s.value.ranges s.value.len _ no_range (next s.value) none))

  -- of every range whatever
  pub two_ways_to_read_a_range_that_agree_read_all_alike : ((pops : ℕ) (mode : ReadNextExternalsMode) (range : ExternalsRangeReaderState) (room : ℕ) → one pops mode range room ≡ two pops mode range room)
      → (r : RangesRead) → ranges_read one x r ≡ ranges_read two x r
  two_ways_to_read_a_range_that_agree_read_all_alike same r =
      the_read_of_all_looks_only_at_the_ranges_it_reads (λ q. Unit) (λ pops mode range room q. same pops mode range room) (λ q. tt) tt r (λ j a. tt)

-- ---- what each range's read keeps
-- P of the ranges that have not had their turn yet, and of what those before came to
module _ (one : OneRange) (x : Fixed) (P : ℕ → RangesRead → Type 0) (passed : (k : ℕ) (r : RangesRead) → P (suc k) r → P k r)
    (skipped : (k : ℕ) (r : RangesRead) → P k r → P k (read_of (not_all_read r.so_far) r.ranges r.len))
    (read : (k i : ℕ) (r : RangesRead) → P (suc k) r → (let range = get_or r.ranges i no_range in P k (after_turn x i r (one r.so_far.pops (mode_for x range.seqno) range (x.room - r.so_far.used)).value)))
    (next : (r : RangesRead) → wants_next x r ≡ true → P 0 r → P 1 (with_next_range x r)) where
  turn_keeps : (k i : ℕ) (r : RangesRead) → P (suc k) r → P k (turn one x i r).value
  unfolding turn
  turn_keeps k i r h =
      let Q : Outcome RangesRead → Type 0 = λ s. P k s.value in
      let range = get_or r.ranges i no_range in
      pick_both Q range.fully_read _ _ (passed k r h) (pick_both Q (is_skipped x range) _ _ (skipped k r (passed k r h)) (read k i r h))

  all_passed : (k : ℕ) (r : RangesRead) → P k r → P 0 r
  all_passed zero r h = h
  all_passed (suc k) r h = all_passed k r (passed k r h)

  turns_keep : (n i : ℕ) (s : Outcome RangesRead) → P n s.value → P 0 (turns one x n i s).value
  unfolding turns
  turns_keep zero i s h = h
  turns_keep (suc n) i s h =
      let Q : Outcome RangesRead → Type 0 = λ q. P 0 q.value in
      pick_both Q (is_over s.value) _ _ (all_passed (suc n) s.value h) (turns_keep n (i + 1) (followed s (turn one x i s.value)) (turn_keeps n i s.value h))

  pub the_read_of_all_keeps_what_each_range's_read_keeps : (r : RangesRead) → P r.len r → P 0 (ranges_read one x r).value
  unfolding ranges_read
  the_read_of_all_keeps_what_each_range's_read_keeps r h = go (wants_next x s.value) refl
    where
      s : Outcome RangesRead
      s = turns one x r.len 0 (silent r)

      kept : P 0 s.value
      kept = turns_keep r.len 0 (silent r) h

      go : (b : Bool) → wants_next x s.value ≡ b → P 0 (pick b (followed s (turn one x s.value.len (with_next_range x s.value))) s).value
      go true e = turn_keeps 0 s.value.len (with_next_range x s.value) (next s.value e kept)
      go false e = kept
