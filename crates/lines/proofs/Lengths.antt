-- How long the lines are.
use Rattle.std.specs.Prelude.{Option, None, Some}
use Prim.Native.Nat.{ℕ, ◌*◌, ◌≤◌}
use mathlib.Core.List.{List, [], ◌∷◌}
use native.Mathlib.Omega.{arith}
use lib.ListN.{length, length-append}
use Rattle.rows.specs.Rows.{pick, num_at}
use Rattle.anchors_cache.specs.declared.AnchorsCache.{AnchorsCache}
use Rattle.range_rules.specs.declared.ExternalsRangeReaderState.{ExternalsRangeReaderState}
use Rattle.text.proofs.Lengths.{line_length}
use Rattle.lines.specs.Lines.{free_line, entry_line, entry_lines, range_line, range_lines, bad_line, end_line}

pub free_line_length : (f : Option ℕ) → length (free_line f) ≤ 26
unfolding free_line
free_line_length None = omega arith
free_line_length (Some n) = line_length (102 ∷ 114 ∷ 101 ∷ 101 ∷ []) (n ∷ [])

pub entry_line_length : (e : List ℕ) → length (entry_line e) ≤ 109
unfolding entry_line
entry_line_length e = line_length (97 ∷ 100 ∷ 100 ∷ []) (num_at 4 0 e ∷ num_at 2 4 e ∷ num_at 4 6 e ∷ num_at 8 10 e ∷ num_at 8 18 e ∷ [])

pub entry_lines_length : (l : List (List ℕ)) → length (entry_lines l) ≤ 109 * length l
unfolding entry_lines
entry_lines_length [] = omega arith
entry_lines_length (e ∷ l) =
    let h = entry_line_length e in
    let k = entry_lines_length l in
    rw (length-append (entry_line e) (entry_lines l)) (omega arith)

pub range_line_length : (r : ExternalsRangeReaderState) → length (range_line r) ≤ 132
unfolding range_line
range_line_length r = line_length (114 ∷ 97 ∷ 110 ∷ 103 ∷ 101 ∷ []) _

pub range_lines_length : (l : List ExternalsRangeReaderState) → length (range_lines l) ≤ 132 * length l
unfolding range_lines
range_lines_length [] = omega arith
range_lines_length (r ∷ l) =
    let h = range_line_length r in
    let k = range_lines_length l in
    rw (length-append (range_line r) (range_lines l)) (omega arith)

pub bad_line_length : (k number : ℕ) → length (bad_line k number) ≤ 46
unfolding bad_line
bad_line_length k number = line_length (98 ∷ 97 ∷ 100 ∷ []) (k ∷ number ∷ [])

pub end_line_length : (c : AnchorsCache) → length (end_line c) ≤ 67
unfolding end_line
end_line_length c = line_length (101 ∷ 110 ∷ 100 ∷ []) (c.len ∷ c.history_len ∷ pick c.pending 1 0 ∷ [])
