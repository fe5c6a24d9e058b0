-- Document 01's example, line by line, with ticket 7's `free`.
use Rattle.std.specs.Prelude.{None, Some}
use Prim.Native.Nat.{ℕ}
use mathlib.Core.Path.{◌≡◌, refl}
use mathlib.Core.Bool.{true, false}
use mathlib.Core.List.{[], ◌∷◌}
use Rattle.rows.specs.Rows.{word, num_at}
use Rattle.range_rules.specs.declared.ExternalsRangeReaderState.{ExternalsRangeReaderState}
use Rattle.text.specs.Shown.{places, decimal, marked, line}
use Rattle.lines.specs.Lines.{free_line, entry_line, range_line, end_line}

-- free 0
pub free_line_lem : free_line (Some 0) ≡ 102 ∷ 114 ∷ 101 ∷ 101 ∷ 32 ∷ 48 ∷ 10 ∷ []
unfolding free_line line marked decimal places
free_line_lem = refl

pub no_range_read_has_no_free_line : free_line None ≡ []
unfolding free_line
no_range_read_has_no_free_line = refl

-- add 5 0 1 1 1000
pub add_line : entry_line (5 ∷ 0 ∷ 0 ∷ 0 ∷ 0 ∷ 0 ∷ 1 ∷ 0 ∷ 0 ∷ 0 ∷ 1 ∷ 0 ∷ 0 ∷ 0 ∷ 0 ∷ 0 ∷ 0 ∷ 0 ∷ 232 ∷ 3 ∷ 0 ∷ 0 ∷ 0 ∷ 0 ∷ 0 ∷ 0 ∷ [])
    ≡ 97 ∷ 100 ∷ 100 ∷ 32 ∷ 53 ∷ 32 ∷ 48 ∷ 32 ∷ 49 ∷ 32 ∷ 49 ∷ 32 ∷ 49 ∷ 48 ∷ 48 ∷ 48 ∷ 10 ∷ []
unfolding entry_line line marked decimal places num_at word
add_line = refl

-- range 5 2 1 2 1 0
pub range_line_lem : (r : ExternalsRangeReaderState)
    → range_line (record {
      seqno = 5;
      «from» = r.«from»;
      to = record { anchor_id = 2; msgs_offset = 1 };
      current_position = record { anchor_id = 2; msgs_offset = 1 };
      chain_time = r.chain_time;
      fully_read = false;
      by_partitions = r.by_partitions;
    })
    ≡ 114 ∷ 97 ∷ 110 ∷ 103 ∷ 101 ∷ 32 ∷ 53 ∷ 32 ∷ 50 ∷ 32 ∷ 49 ∷ 32 ∷ 50 ∷ 32 ∷ 49 ∷ 32 ∷ 48 ∷ 10 ∷ []
unfolding range_line line marked decimal places
range_line_lem r = refl

-- "to" stands before the position: range 5 2 3 4 6 1
pub read_range_line : (r : ExternalsRangeReaderState)
    → range_line (record {
      seqno = 5;
      «from» = r.«from»;
      to = record { anchor_id = 2; msgs_offset = 3 };
      current_position = record { anchor_id = 4; msgs_offset = 6 };
      chain_time = r.chain_time;
      fully_read = true;
      by_partitions = r.by_partitions;
    })
    ≡ 114 ∷ 97 ∷ 110 ∷ 103 ∷ 101 ∷ 32 ∷ 53 ∷ 32 ∷ 50 ∷ 32 ∷ 51 ∷ 32 ∷ 52 ∷ 32 ∷ 54 ∷ 32 ∷ 49 ∷ 10 ∷ []
unfolding range_line line marked decimal places
read_range_line r = refl

-- end 2 2 1
pub end_line_lem : (first from base : ℕ)
    → end_line (record { first = first; len = 2; history_first = from; history_len = 2; base = base; pending = true })
    ≡ 101 ∷ 110 ∷ 100 ∷ 32 ∷ 50 ∷ 32 ∷ 50 ∷ 32 ∷ 49 ∷ 10 ∷ []
unfolding end_line line marked decimal places
end_line_lem first from base = refl
