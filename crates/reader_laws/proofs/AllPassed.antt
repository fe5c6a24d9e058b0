-- What a read of all that answers 0 passed, told of the call's own answer: its counts, its reader and its cache.
use Rattle.std.proofs.lemmas.Bool.{and_parts}
use Prim.Native.Nat.{ℕ, ◌≤◌}
use mathlib.Core.Path.{◌≡◌, refl, sym, ap, subst, ◌∙◌}
use mathlib.Core.Bool.{Bool, true, false}
use mathlib.Core.List.{List}
use native.Mathlib.Omega.{arith}
use lib.Dec.{eqb}
use lib.ListN.{length}
use borrow.Author.Tests.{eqb-true, eq-eqb}
use Rattle.rows.specs.Rows.{pick}
use Rattle.rows.proofs.Laws.{pick_yes, pick_no}
use Rattle.messages_buffer.proofs.Laws.{first_zero}
use Rattle.router.specs.Router.{routes_number}
use Rattle.cache_rules.specs.Rules.{Cache, ask, area_bytes}
use Rattle.anchors_cache.specs.declared.AnchorsCacheTransaction.{AnchorsCacheTransaction}
use Rattle.anchors_cache.specs.Tables.{view}
use Rattle.anchors_cache.specs.Windows.{popped_times}
use Rattle.anchors_cache.specs.Calls.{places_in, valid_cache, valid, refusal, on_zero, answer, with_cache, pops_call}
use Rattle.anchors_cache.proofs.Asked.{refusal_zero}
use Rattle.range_rules.specs.Rules.{Outcome}
use Rattle.reader_rules.specs.Turns.{RangesRead}
use Rattle.reader_rules.specs.Rules.{at_entry}
use Rattle.externals_reader.specs.Calls.{asked_of_read, all_ranges_read, reader_after, ReadAllResult, unchanged, all_result, read_all_call}
use Rattle.reader_laws.specs.AllRanges.{HandedAll, book_fixed}
use Rattle.reader_laws.proofs.Entered.{asked_same, all_same}
use Rattle.reader_laws.proofs.Conservation.{Traced, every_message_of_ours_passed_by_any_range_is_counted_as_read_or_expired}

module _ (tables area : List ℕ) (t : AnchorsCacheTransaction) (h : HandedAll) where
  abbrev read : ReadAllResult
  read = read_all_call tables area t h.routes h.reader h.mode h.out

  abbrev now : Cache
  now = view tables area t.cache

  -- the ranges' turns lead from the reader as it was handed in to `q`; counts, reader and cache of the answer are q's
  pub record AllPassed : Type 0 where
    pub q : RangesRead
    pub turns : Traced (book_fixed h now) h.routes now 0 (at_entry h.reader.reader_state) q
    pub counts : read.answer.counts ≡ q.so_far.counts
    pub reader : read.answer.reader ≡ reader_after h.reader q
    pub state : read.answer.state ≡ with_cache t (popped_times q.so_far.pops tables t.cache)

  abbrev asked : ℕ
  asked = asked_of_read tables area t h.routes h.reader

  abbrev ranges : RangesRead
  ranges = (all_ranges_read tables area t h.routes h.reader h.mode (length h.out)).value

  asked_zero : read.answer.number ≡ 0 → asked ≡ 0
  unfolding read_all_call
  asked_zero = go (eqb asked 0) refl
    where
      go : (b : Bool) → eqb asked 0 ≡ b
          → (pick b (pick h.reader.all_ranges_fully_read (unchanged 0 h.reader t h.out) (all_result tables area t h.reader (all_ranges_read tables area t h.routes h.reader h.mode (length h.out)) h.out)) (unchanged asked h.reader t h.out)).answer.number ≡ 0 → asked ≡ 0
      go true e z = eqb-true asked 0 e
      go false e z = z

  -- what the questions said
  pub record Asked : Type 0 where
    pub open_now : t.active ≡ true
    pub big : area_bytes ≤ length area
    pub cache_ok : valid_cache (places_in (length area)) tables t.cache ≡ true
    pub undo_ok : valid_cache (places_in (length area)) tables t.undo ≡ true
    pub routes_ok : routes_number h.routes ≡ 0
    pub accepted : refusal (length area) tables t ≡ 0

  active_of : (b : Bool) → ask 9 b 0 ≡ 0 → b ≡ true
  active_of true e = refl
  active_of false e = absurd (omega arith)

  pub answered_yes : asked_of_read tables area t h.routes h.reader ≡ 0 → Asked
  unfolding asked_of_read valid
  answered_yes z =
      let p2 = first_zero _ _ (first_zero _ _ z).1 in
      let p3 = first_zero _ _ p2.1 in
      let p4 = first_zero _ _ p3.1 in
      let p5 = first_zero _ _ p4.1 in
      let p6 = first_zero _ _ p5.1 in
      let f = refusal_zero (length area) tables t p5.0 in
      let a = active_of t.active p6.0 in
      let b = and_parts (valid_cache (places_in (length area)) tables t.cache) (pick t.active (valid_cache (places_in (length area)) tables t.undo) true) f.1 in
      record { open_now = a; big = f.0; cache_ok = b.0; undo_ok = sym (pick_yes t.active _ _ a) ∙ b.1; routes_ok = p3.0; accepted = p5.0 }

  module _ (z : read.answer.number ≡ 0) (unread : h.reader.all_ranges_fully_read ≡ false) where
    result : read ≡ all_result tables area t h.reader (all_ranges_read tables area t h.routes h.reader h.mode (length h.out)) h.out
    unfolding read_all_call
    result = pick_yes _ _ _ (eq-eqb asked 0 (asked_zero z)) ∙ pick_no _ _ _ unread

    ranges_zero : ranges.so_far.number ≡ 0
    ranges_zero = go (eqb ranges.so_far.number 0) refl (ap (λ (d : ReadAllResult). d.answer.number) (sym result) ∙ z)
      where
        go : (b : Bool) → eqb ranges.so_far.number 0 ≡ b → (all_result tables area t h.reader (all_ranges_read tables area t h.routes h.reader h.mode (length h.out)) h.out).answer.number ≡ 0 → ranges.so_far.number ≡ 0
        go true e y = eqb-true ranges.so_far.number 0 e
        go false e y = rw e at y

    popped : (pops_call (length area) ranges.so_far.pops tables t).state ≡ with_cache t (popped_times ranges.so_far.pops tables t.cache)
    unfolding pops_call answer
    popped = ap (λ (n : ℕ). on_zero n (with_cache t (popped_times ranges.so_far.pops tables t.cache)) t) (answered_yes (asked_zero z)).accepted

    pub what_a_read_of_all_passed : AllPassed
    what_a_read_of_all_passed =
        let a = answered_yes (asked_zero z) in
        let same = all_same tables area t a.open_now a.big a.cache_ok a.undo_ok h (sym (asked_same tables area t a.open_now a.big a.cache_ok a.undo_ok h) ∙ asked_zero z) in
        let e = result ∙ pick_yes _ _ _ (eq-eqb ranges.so_far.number 0 ranges_zero) in
        record {
          q = ranges;
          turns = subst (λ (s : Outcome RangesRead). Traced (book_fixed h now) h.routes now 0 (at_entry h.reader.reader_state) s.value) (sym same) (every_message_of_ours_passed_by_any_range_is_counted_as_read_or_expired h now a.routes_ok);
          counts = ap (λ (d : ReadAllResult). d.answer.counts) e;
          reader = ap (λ (d : ReadAllResult). d.answer.reader) e;
          state = ap (λ (d : ReadAllResult). d.answer.state) e ∙ popped;
        }
