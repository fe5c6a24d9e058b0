-- One range's read is a call of the book.
use Prim.Native.Nat.{ℕ, zero, suc, ◌<◌, ◌≤◌}
use mathlib.Core.Path.{◌≡◌, refl, ap, ◌∙◌}
use mathlib.Core.Bool.{Bool, true}
use mathlib.Core.List.{List, [], ◌∷◌}
use lib.Dec.{leb}
use lib.ListN.{length}
use native.Mathlib.Omega.{arith}
use borrow.Author.Tests.{le-leb, lt-leb, ne_eqb}
use Rattle.shard_ident.specs.Shard.{shard_number}
use Rattle.router.specs.Router.{routes_number}
use Rattle.messages_buffer.specs.Fullness.{limits_number, partitions_number, limited_number, first_no}
use Rattle.anchors_cache.specs.declared.AnchorsCacheTransaction.{AnchorsCacheTransaction}
use Rattle.anchors_cache.specs.Answers.{Done}
use Rattle.cache_rules.specs.Rules.{Cache, ask, area_bytes}
use Rattle.anchors_cache.specs.Tables.{view}
use Rattle.anchors_cache.specs.Windows.{popped_times}
use Rattle.anchors_cache.specs.Calls.{places_in, valid_cache, refusal, answer, with_cache}
use Rattle.anchors_cache.proofs.Asked.{parts}
use Rattle.cache_laws.specs.Book.{Reading}
use Rattle.cache_laws.proofs.Kept.{valid_of, holds_view}
use Rattle.range_rules.specs.Walks.{RangeRead}
use Rattle.range_rules.specs.declared.ExternalsRangeReaderState.{ExternalsRangeReaderState}
use Rattle.range_rules.specs.Rules.{Outcome}
use Rattle.range_reader.specs.Calls.{asked_number, range_read, read_answer, read_call}
use Rattle.range_laws.specs.OneRange.{Handed, book_steps, book_read_number, read_on_window}

-- a read that answers 0 leaves the popped window, any other the window it was handed
by_number : (k : ℕ) (tables : List ℕ) (t : AnchorsCacheTransaction) (range : ExternalsRangeReaderState) (s : Outcome RangeRead) (out : List ℕ)
    → ◌≡◌ {A = Done} (record { number = (read_answer k tables t range s out).answer.number; state = (read_answer k tables t range s out).answer.state }) (answer k t (with_cache t (popped_times s.value.pops tables t.cache)))
unfolding answer
by_number zero tables t range s out = refl
by_number (suc k) tables t range s out = rw (ne_eqb (suc k) 0 (λ (e : suc k ≡ 0). omega arith))

pub accepted : (tables area : List ℕ) (t : AnchorsCacheTransaction) → area_bytes ≤ length area
    → valid_cache (places_in (length area)) tables t.cache ≡ true → valid_cache (places_in (length area)) tables t.undo ≡ true → refusal (length area) tables t ≡ 0
unfolding refusal
accepted tables area t big now then =
    let n = places_in (length area) in
    rw (le-leb area_bytes (length area) big, valid_of n tables t (parts n tables t.cache now) (λ h. parts n tables t.undo then))

module _ (h : Handed) (tables area : List ℕ) (t : AnchorsCacheTransaction) where
  abbrev number : ℕ
  number = book_read_number h area (view tables area t.cache) (view tables area t.undo)

  module _ (active : t.active ≡ true) (big : area_bytes ≤ length area)
      (now : valid_cache (places_in (length area)) tables t.cache ≡ true) (then : valid_cache (places_in (length area)) tables t.undo ≡ true) where
    -- the questions on the window are those on the caches that it stands for
    asked_same : first_no (asked_number tables area t h.shard h.routes h.limits h.range ∷ (book_steps h (view tables area t.cache)).value.walk.number ∷ []) ≡ number
    unfolding asked_number book_read_number
    asked_same =
        let n = places_in (length area) in
        rw (
          accepted tables area t big now then,
          holds_view n tables area t.cache (parts n tables t.cache now),
          holds_view n tables area t.undo (parts n tables t.undo then),
        )
        (ap
        (λ (x : Bool).
        first_no
        (first_no
        (ask 1 (leb area_bytes (length area)) 0
        ∷ shard_number h.shard
        ∷ routes_number h.routes
        ∷ limits_number h.limits
        ∷ 0
        ∷ partitions_number h.range.by_partitions
        ∷ ask 9 x 0
        ∷ limited_number h.limits h.range.by_partitions
        ∷ [])
        ∷ (book_steps h (view tables area t.cache)).value.walk.number
        ∷ []))
        active)

    pub agrees : read_on_window h tables area t ≡ answer number t (with_cache t (popped_times (book_steps h (view tables area t.cache)).value.pops tables t.cache))
    unfolding read_on_window book_steps read_call range_read
    agrees =
        let s = book_steps h (view tables area t.cache) in
        by_number (first_no (asked_number tables area t h.shard h.routes h.limits h.range ∷ s.value.walk.number ∷ [])) tables t h.range s h.out
        ∙ ap (λ (k : ℕ). answer k t (with_cache t (popped_times (book_steps h (view tables area t.cache)).value.pops tables t.cache))) asked_same

  pub refused : (v w : Cache) → length area < area_bytes → (read_on_window h tables area t ≡ record { number = 1; state = t }) × (book_read_number h area v w ≡ 1)
  unfolding read_on_window book_read_number read_call asked_number first_no
  refused v w few = (rw (lt-leb area_bytes (length area) few), rw (lt-leb area_bytes (length area) few))

-- whatever it is handed, a read of one range may stand in the list of `the-book`
unfoldable pub one_range : Handed → Reading
one_range h =
    record {
      number = book_read_number h;
      pops = λ area present. (book_steps h present).value.pops;
      on_window = read_on_window h;
      agrees = λ tables area t active big now then. agrees h tables area t active big now then;
      refused = refused h;
    }
