-- Document 02, ticket 7: the free places that a read of all answers, of the call's own answer.
use Rattle.std.specs.Prelude.{Option}
use Prim.Native.Nat.{ℕ}
use mathlib.Core.Path.{◌≡◌, refl, ap}
use mathlib.Core.Bool.{true, false}
use mathlib.Core.List.{List}
use mathlib.Core.Logic.{inl}
use mathlib.Core.Option.{none}
use native.Mathlib.Omega.{arith}
use lib.Dec.{eqb}
use lib.ListN.{length}
use Rattle.rows.proofs.Laws.{pick_both}
use Rattle.messages_buffer.specs.Fullness.{range_free}
use Rattle.anchors_cache.specs.declared.AnchorsCacheTransaction.{AnchorsCacheTransaction}
use Rattle.anchors_cache.specs.Calls.{pops_call}
use Rattle.range_reader.proofs.Kept.{steps_kept}
use Rattle.reader_rules.specs.declared.ExternalsReader.{ExternalsReader}
use Rattle.reader_rules.specs.declared.Fixed.{Fixed}
use Rattle.reader_rules.specs.declared.GetNextMessageGroupMode.{GetNextMessageGroupMode}
use Rattle.reader_rules.specs.Turns.{RangesRead}
use Rattle.reader_rules.specs.State.{max_ranges}
use Rattle.reader_rules.specs.Rules.{Told, free_value}
use Rattle.reader_rules.proofs.Reported.{Reported, Reports, the_free_places_told_are_those_of_the_last_range_read}
use Rattle.externals_reader.specs.Calls.{asked_of_read, window_read, all_ranges_read, ReadAllResult, unchanged, all_result, read_all_call}
use Rattle.reader_laws.proofs.AllKept.{window_done, answered, begun, fixed}
use Rattle.reader_laws.proofs.Laws.{a_refused_read_of_all_changes_nothing, once_all_ranges_are_read_only_the_questions_are_asked}

-- one range's read on the window
window_reports : (tables area : List ℕ) (t : AnchorsCacheTransaction) (routes : List ℕ) (x : Fixed) → Reports x.limits (window_read tables area t routes x)
window_reports tables area t routes x pops mode range room =
    let P : Told → Type 0 = λ a. a.free ≡ range_free x.limits a.range.by_partitions in
    let before = (pops_call (length area) pops tables t).state in
    window_done tables area t routes x pops mode range room P
    (λ z. (steps_kept tables area before x.shard routes x.limits x.processed x.params.externals_expire_timeout mode range room z).within.free)

module _ (tables area : List ℕ) (t : AnchorsCacheTransaction) (routes : List ℕ) (r : ExternalsReader) (mode : GetNextMessageGroupMode) (out : List ℕ) where
  abbrev free : Option ℕ
  free = (read_all_call tables area t routes r mode out).answer.free

  -- "is left out if no range was read or the read was refused"
  pub a_refused_read_of_all_reports_nothing : ((read_all_call tables area t routes r mode out).answer.number ≡ 0 → ⊥) → free_value free ≡ none
  a_refused_read_of_all_reports_nothing h = ap (λ (d : ReadAllResult). free_value d.answer.free) (a_refused_read_of_all_changes_nothing tables area t routes r mode out h)

  pub once_all_ranges_are_read_nothing_is_reported : r.all_ranges_fully_read ≡ true → free_value free ≡ none
  once_all_ranges_are_read_nothing_is_reported e = ap (λ (d : ReadAllResult). free_value d.answer.free) (once_all_ranges_are_read_only_the_questions_are_asked tables area t routes r mode out e)

  -- Of the sixteen slots that a reader's type gives: none told, and every range handed in is left as it was; or some
  -- range that is left has as many places free as are told, and those behind it are left as they were.
  pub a_read_of_all_reports_the_free_places_of_the_last_range_read : length r.reader_state.ranges ≡ max_ranges
      → (let a = (read_all_call tables area t routes r mode out).answer in
      Reported r.buffer_limits_by_partitions r.reader_state.ranges r.reader_state.len a.reader.reader_state.len a.free a.reader.reader_state.ranges)
  unfolding all_ranges_read
  a_read_of_all_reports_the_free_places_of_the_last_range_read sixteen = answered tables area t routes r mode out P (λ z m. as_it_was 0) (λ n. as_it_was (asked_of_read tables area t routes r)) done
    where
      P : ReadAllResult → Type 0
      P d = Reported r.buffer_limits_by_partitions r.reader_state.ranges r.reader_state.len d.answer.reader.reader_state.len d.answer.free d.answer.reader.reader_state.ranges

      as_it_was : (n : ℕ) → P (unchanged n r t out)
      as_it_was n = inl (record { told = refl; same = λ j h. refl })

      q : RangesRead
      q = (all_ranges_read tables area t routes r mode (length out)).value

      done : asked_of_read tables area t routes r ≡ 0 → r.all_ranges_fully_read ≡ false → P (all_result tables area t r (all_ranges_read tables area t routes r mode (length out)) out)
      done z m =
          let s = begun tables area t routes r mode out z m in
          let x = fixed tables area t routes r mode out in
          pick_both P (eqb q.so_far.number 0) _ _
          (the_free_places_told_are_those_of_the_last_range_read (window_read tables area t routes x) x r.reader_state (window_reports tables area t routes x) (omega (arith, s.slots, sixteen)) (omega (arith, s.limit, sixteen)))
          (as_it_was q.so_far.number)
