-- No free places; the turns of the loops over entries and ranges: what is left to show after a turn
-- is what was left before it.
use Rattle.std.specs.Prelude.{Option, None}
use Prim.Native.Nat.{ℕ, zero, suc, ◌+◌, ◌<◌}
use mathlib.Core.Path.{◌≡◌, sym}
use mathlib.Core.List.{List, [], ◌∷◌, ◌++◌}
use native.Mathlib.Omega.{arith}
use lib.ListN.{length, take}
use lib.Seq.{take-nil}
use Rattle.rows.specs.Rows.{whole_rows}
use Rattle.rows.proofs.Laws.{whole_cons, whole_none}
use Rattle.range_rules.specs.declared.ExternalsRangeReaderState.{ExternalsRangeReaderState}
use Rattle.text.specs.Shown.{Text, show}
use Rattle.text.proofs.Laws.{show_on, show_nothing}
use Rattle.lines.specs.Lines.{free_line, entry_line, entry_lines, range_line, range_lines}

-- ---- the free places
pub free_none : (f : Option ℕ) (p : Text) → f ≡ None → p ≡ show (free_line f) p
unfolding free_line
free_none f p e = rw e (sym (show_nothing p))

-- ---- the loops
pub entries_turn : (e l m : List ℕ) (p q : Text) → m ≡ e ++ l → length e ≡ 26 → q ≡ show (entry_line e) p → show (entry_lines (whole_rows 26 l)) q ≡ show (entry_lines (whole_rows 26 m)) p
unfolding entry_lines
entries_turn e l m p q t w h = rw (h, t, whole_cons 26 e l (omega arith) w) (show_on (entry_line e) (entry_lines (whole_rows 26 l)) p)

pub entries_end : (l : List ℕ) (p : Text) → length l < 26 → show (entry_lines (whole_rows 26 l)) p ≡ p
unfolding entry_lines
entries_end l p h = rw (whole_none 26 l h) (show_nothing p)

pub ranges_turn : (r : ExternalsRangeReaderState) (l m : List ExternalsRangeReaderState) (k n : ℕ) (p q : Text) → m ≡ r ∷ l → k + 1 ≡ n → q ≡ show (range_line r) p
    → show (range_lines (take k l)) q ≡ show (range_lines (take n m)) p
unfolding range_lines
ranges_turn r l m k n p q t f h =
    let e : n ≡ suc k = omega arith in
    rw (h, t, e) (show_on (range_line r) (range_lines (take k l)) p)

pub ranges_end : (l : List ExternalsRangeReaderState) (n : ℕ) (p : Text) → (0 < n → length l ≡ 0) → show (range_lines (take n l)) p ≡ p
unfolding range_lines
ranges_end [] n p h = rw (take-nil {A = ExternalsRangeReaderState} n) (show_nothing p)
ranges_end (r ∷ l) zero p h = show_nothing p
ranges_end (r ∷ l) (suc n) p h = absurd (let e = h (omega arith) in omega arith)
