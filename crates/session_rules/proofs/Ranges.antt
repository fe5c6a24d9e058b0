-- The table of ranges keeps its length through every record.
use Prim.Native.Nat.{ℕ, zero, suc, ◌+◌, ◌-◌, ◌≤◌}
use mathlib.Core.Path.{◌≡◌, refl, ◌∙◌}
use mathlib.Core.List.{List}
use native.Mathlib.Omega.{arith}
use lib.Dec.{eqb}
use lib.ListN.{length, take, drop, get_or, length-set}
use Rattle.rows.proofs.Laws.{pick_both}
use Rattle.rows.specs.Rows.{num_at}
use Rattle.anchors_cache.specs.declared.AnchorsCacheTransaction.{AnchorsCacheTransaction}
use Rattle.range_rules.specs.Rules.{silent, followed}
use Rattle.range_rules.specs.Rules.{Outcome as Walk}
use Rattle.reader_rules.specs.declared.ExternalsReader.{ExternalsReader}
use Rattle.reader_rules.specs.declared.GetNextMessageGroupMode.{GetNextMessageGroupMode}
use Rattle.reader_rules.specs.Turns.{RangesRead}
use Rattle.reader_rules.specs.declared.Fixed.{Fixed}
use Rattle.reader_rules.specs.Rules.{OneRange, mode_for, after_turn, is_skipped, turn, turns, is_over, with_next_range, wants_next, ranges_read, fixed_of, at_entry}
use Rattle.reader_rules.specs.Rules.{settled as read}
use Rattle.reader_rules.specs.State.{no_range, max_ranges}
use Rattle.externals_reader.specs.Calls.{ReadAllResult, imported_in, window_read, asked_of_read, all_ranges_read, new_call, read_all_call}
use Rattle.session_rules.specs.declared.Session.{Session}
use Rattle.session_rules.specs.Said.{record_counted, is_taken}
use Rattle.session_rules.specs.Steps.{shard_done, settings_done, mode_of, Lent, reaches_reader, session_read, has_routes, reader_reader, StepOutcome, reader_outcome, plain_outcome, taken_outcome, step_of}

-- ---- a read
module _ (one : OneRange) (x : Fixed) where
  turn_keeps : (i : ℕ) (r : RangesRead) → length (turn one x i r).value.ranges ≡ length r.ranges
  unfolding turn after_turn
  turn_keeps i r =
      let range = get_or r.ranges i no_range in
      let a = (one r.so_far.pops (mode_for x range.seqno) range (x.room - r.so_far.used)).value in
      let P : Walk RangesRead → Type 0 = λ s. length s.value.ranges ≡ length r.ranges in
      let Q : RangesRead → Type 0 = λ q. length q.ranges ≡ length r.ranges in
      pick_both P range.fully_read _ _ refl (pick_both P (is_skipped x range) _ _ refl (pick_both Q (eqb a.number 0) _ _ (length-set r.ranges i (read x a.range)) refl))

  turns_keep : (n i : ℕ) (s : Walk RangesRead) → length (turns one x n i s).value.ranges ≡ length s.value.ranges
  unfolding turns
  turns_keep zero i s = refl
  turns_keep (suc n) i s =
      let P : Walk RangesRead → Type 0 = λ q. length q.value.ranges ≡ length s.value.ranges in
      pick_both P (is_over s.value) _ _ refl (turns_keep n (i + 1) (followed s (turn one x i s.value)) ∙ turn_keeps i s.value)

  all_keep : (r : RangesRead) → length (ranges_read one x r).value.ranges ≡ length r.ranges
  unfolding ranges_read with_next_range
  all_keep r =
      let s = turns one x r.len 0 (silent r) in
      let e = turns_keep r.len 0 (silent r) in
      let P : Walk RangesRead → Type 0 = λ q. length q.value.ranges ≡ length r.ranges in
      pick_both P (wants_next x s.value) _ _ (turn_keeps s.value.len (with_next_range x s.value) ∙ (length-set s.value.ranges s.value.len _ ∙ e)) e

pub a_read_keeps_the_length_of_the_ranges : (tables area : List ℕ) (t : AnchorsCacheTransaction) (routes : List ℕ) (r : ExternalsReader) (mode : GetNextMessageGroupMode) (out : List ℕ)
    → length (read_all_call tables area t routes r mode out).answer.reader.reader_state.ranges ≡ length r.reader_state.ranges
unfolding read_all_call all_ranges_read
a_read_keeps_the_length_of_the_ranges tables area t routes r mode out =
    let x = fixed_of r mode (imported_in tables t.cache) (length out) in
    let s = all_ranges_read tables area t routes r mode (length out) in
    let P : ReadAllResult → Type 0 = λ a. length a.answer.reader.reader_state.ranges ≡ length r.reader_state.ranges in
    pick_both P (eqb (asked_of_read tables area t routes r) 0) _ _
    (pick_both P r.all_ranges_fully_read _ _ refl
    (pick_both P (eqb s.value.so_far.number 0) _ _ (all_keep (window_read tables area t routes x) x (at_entry r.reader_state)) refl))
    refl

-- ---- one record
abbrev Within : ExternalsReader → Type 0
Within r = length r.reader_state.ranges ≤ max_ranges

settings_within : (r : ExternalsReader) (p : List ℕ) → Within (settings_done r p).reader
unfolding settings_done new_call
settings_within r p =
    let h : 16 ≤ max_ranges = omega arith in
    pick_both Within (eqb (settings_done r p).number 0) _ _ h h

reader_within : (l : Lent) (s : Session) (r : ExternalsReader) (kind : ℕ) (p : List ℕ) → Within r → Within (reader_reader l s r kind p)
unfolding reader_reader shard_done
reader_within l s r kind p h =
    let e = a_read_keeps_the_length_of_the_ranges l.tables l.area s.transaction (take s.routes_len l.routes) r (mode_of (get_or p 0 0)) l.entries in
    pick_both Within (eqb kind 1) _ _ (pick_both Within (eqb (shard_done r p).number 0) _ _ h h)
    (pick_both Within (eqb kind 3) _ _ (pick_both Within (eqb (settings_done r p).number 0) _ _ (settings_within r p) h)
    (pick_both Within (has_routes l s) (session_read l s r p).answer.reader r (omega arith) h))

pub a_step_leaves_at_most_16_ranges : (l : Lent) (s : Session) (r : ExternalsReader) (rec : List ℕ) → length r.reader_state.ranges ≤ max_ranges
    → length (step_of l s r rec).reader.reader_state.ranges ≤ max_ranges
unfolding step_of taken_outcome reader_outcome plain_outcome
a_step_leaves_at_most_16_ranges l s r rec h =
    let kind = num_at 2 0 rec in
    let p = drop 2 rec in
    let P : StepOutcome → Type 0 = λ o. Within o.reader in
    pick_both P (is_taken s rec) _ _ (pick_both P (reaches_reader kind (get_or p 0 0)) _ _ (reader_within l (record_counted s) r kind p h) h) h
