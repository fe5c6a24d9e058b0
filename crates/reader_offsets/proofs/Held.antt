-- The ranges held as a list, and a table whose first slots hold a list.
use Prim.Native.Nat.{ℕ, ◌≤◌, ◌<◌}
use mathlib.Core.Path.{◌≡◌, sym, ap, ◌∙◌}
use mathlib.Core.List.{List, ◌++◌}
use lib.ListN.{length, take, drop, set, length-set, take-append-drop}
use lib.Seq.{length-take-le, take-set-lt, drop-set-lt}
use Rattle.range_rules.specs.declared.ExternalsRangeReaderState.{ExternalsRangeReaderState}
use Rattle.reader_rules.specs.declared.ExternalsReader.{ExternalsReader}
use Rattle.reader_rules.specs.State.{held_ranges}
use Rattle.reader_rules.specs.Offsets.{with_ranges, with_held}

-- ---- the list
module _ (xs : List ExternalsRangeReaderState) (len : ℕ) (fits : len ≤ length xs) where
  pub held_length : length (take len xs) ≡ len
  held_length = length-take-le len xs fits

  -- one slot changed: the list changes there, and the slots behind it stay
  pub set_held : (i : ℕ) (r : ExternalsRangeReaderState) → i < len → set xs i r ≡ set (take len xs) i r ++ drop (length (set (take len xs) i r)) xs
  set_held i r h =
      sym (take-append-drop len (set xs i r))
      ∙ rw (take-set-lt len xs i r h, drop-set-lt len xs i r h, length-set (take len xs) i r, held_length)

module _ (s : ExternalsReader) where
  pub holds : (l m : List ExternalsRangeReaderState) (n : ℕ) → n ≡ length l → m ≡ l ++ drop (length l) s.reader_state.ranges → with_ranges m n s ≡ with_held l s
  holds l m n e q = ap (λ (x : List ExternalsRangeReaderState). with_ranges x n s) q ∙ ap (λ (k : ℕ). with_ranges (l ++ drop (length l) s.reader_state.ranges) k s) e

  pub held_set : s.reader_state.len ≤ length s.reader_state.ranges → (i : ℕ) (r : ExternalsRangeReaderState) → i < s.reader_state.len
      → with_ranges (set s.reader_state.ranges i r) s.reader_state.len s ≡ with_held (set (held_ranges s.reader_state) i r) s
  held_set fits i r h =
      holds
      (set (held_ranges s.reader_state) i r)
      _
      _
      (sym (length-set (held_ranges s.reader_state) i r ∙ held_length s.reader_state.ranges s.reader_state.len fits))
      (set_held s.reader_state.ranges s.reader_state.len fits i r h)
