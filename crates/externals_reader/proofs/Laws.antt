-- The last range, and answers by their number.
use Rattle.std.proofs.lemmas.Bool.{and_parts}
use Prim.Native.Nat.{ℕ, zero, suc, ◌<◌, ◌≤◌, ◌-◌}
use mathlib.Core.Path.{◌≡◌, refl, sym, ap, ◌∙◌}
use mathlib.Core.Bool.{Bool, true, false, not, ◌&&◌, ◌||◌}
use mathlib.Core.List.{List, [], ◌∷◌}
use Rattle.std.specs.List.{zip, list_any}
use lib.Dec.{eqb, leb}
use borrow.Author.Tests.{leb-false, not-true}
use Rattle.range_rules.specs.declared.ExternalsRangeReaderState.{ExternalsRangeReaderState}
use Rattle.reader_rules.specs.declared.ExternalsReader.{ExternalsReader}
use Rattle.messages_buffer.specs.declared.ExternalsPartitionRangeReaderState.{ExternalsPartitionRangeReaderState}
use Rattle.messages_buffer.proofs.Laws.{first_zero}
use Rattle.reader_rules.specs.declared.ExternalsPartitionReaderState.{ExternalsPartitionReaderState}
use Rattle.reader_rules.specs.State.{open_ranges_limit_of, max_ranges, state_number, settled_number, reader_number, no_range}
use Rattle.std.specs.Prelude.{Option, MatchOption}
use Rattle.externals_reader.specs.Locals.{last_range}
use Rattle.std.proofs.lemmas.Bool.Decides.{nat_tests}
use Rattle.anchors_cache.specs.Calls.{anchor_info_of, info_row_at}
use Rattle.anchors_cache.specs.Tables.{info_at, tables_bytes}
use Rattle.cache_rules.specs.Rules.{max_history}
use lib.ListN.{length, get_or}
use native.Mathlib.Omega.{arith}
use Rattle.reader_rules.specs.declared.ExternalsReaderState.{ExternalsReaderState}
use Rattle.externals_reader.proofs.Sound.{sound_parts}
use Rattle.reader_rules.specs.Rules.{last_or, continues, wants_next, reached, before_skip_offsets}
use Rattle.reader_rules.specs.declared.Fixed.{Fixed}
use Rattle.reader_rules.specs.Turns.{RangesRead}

-- what the last range gives, by how many ranges there are
module _ {A : Type 0} (none : A) (of : ExternalsRangeReaderState → A) (l : List ExternalsRangeReaderState) where
  pub last_none : (len : ℕ) → len ≡ 0 → none ≡ last_or none of len l
  last_none zero h = refl
  last_none (suc k) h = absurd (omega arith)

  pub last_some : (len : ℕ) → (len ≡ 0 → ⊥) → (range : ExternalsRangeReaderState) → get_or l (len - 1) no_range ≡ range → of range ≡ last_or none of len l
  last_some zero h range e = absurd (h refl)
  last_some (suc k) h range e = ap of (sym e) ∙ ap (λ (i : ℕ). of (get_or l i no_range)) (omega arith)

-- what the last range gives, or else `none`, as `map_or` answers it
pub last_told : {A : Type 0} (none : A) (of : ExternalsRangeReaderState → A) (len : ℕ) (l : List ExternalsRangeReaderState) (last : Option ExternalsRangeReaderState) (a : A) (says : ExternalsRangeReaderState → Type 0)
    → last ≡ last_range len l → ((q : ExternalsRangeReaderState) → says q → a ≡ of q) → MatchOption last (a ≡ none) says → a ≡ last_or none of len l
last_told none of zero l last a says e f h = rw e at h
last_told none of (suc k) l last a says e f h = f _ (rw e at h)

-- ---- skip offsets: no pair of partitions has reached its offset
pub none_reached : (ps : List ExternalsPartitionReaderState) (qs : List ExternalsPartitionRangeReaderState) → not (list_any (λ p. reached p.0 p.1) (zip ps qs)) ≡ before_skip_offsets ps qs
unfolding before_skip_offsets
none_reached [] qs = refl
none_reached (p ∷ ps) [] = refl
none_reached (p ∷ ps) (q ∷ qs) = go (reached p q) (none_reached ps qs)
  where
    go : (b : Bool) → not (list_any (λ p. reached p.0 p.1) (zip ps qs)) ≡ before_skip_offsets ps qs → not (b || list_any (λ p. reached p.0 p.1) (zip ps qs)) ≡ (not b && before_skip_offsets ps qs)
    go true e = refl
    go false e = e

-- ---- what a number 0 says
pub state_few : (s : ExternalsReaderState) → state_number s ≡ 0 → s.len ≤ max_ranges
state_few s z = (sound_parts s z).0

pub reader_few : (r : ExternalsReader) → reader_number r ≡ 0 → r.reader_state.len ≤ max_ranges
unfolding reader_number settled_number
reader_few r z = (sound_parts r.reader_state (first_zero _ _ (first_zero _ _ (first_zero _ _ (first_zero _ _ z).1).0).1).0).0

-- ---- the next range
module _ (x : Fixed) (r : RangesRead) where
  abbrev done : Bool
  done = eqb r.so_far.number 0

  abbrev limited : Bool
  limited = not (leb (open_ranges_limit_of x.params) r.len)

  pub next_below : wants_next x r ≡ true → r.len < open_ranges_limit_of x.params
  unfolding wants_next
  next_below h =
      let a = (and_parts done _ h).1 in
      let b = (and_parts r.so_far.all_read _ a).1 in
      let c = (and_parts (continues x.mode) _ b).1 in
      let d = (and_parts (not x.params.new_is_some) _ c).1 in
      leb-false _ _ (not-true _ (and_parts limited _ d).0)

-- ---- the last imported entry
pub info_in_table : (i : ℕ) (l : List ℕ) → i < max_history → tables_bytes ≤ length l → info_row_at i l ≡ anchor_info_of (info_at i l)
unfolding info_row_at
info_in_table i l h k = grind (arith, nat_tests)
