-- The text of document 01's lines ("Session program"), and of ticket 7's `free`.
use Rattle.std.specs.Prelude.{ℕ, List, [], ◌∷◌, ◌++◌, Option, None, Some}
use Rattle.rows.specs.Rows.{pick, num_at}
use Rattle.anchors_cache.specs.declared.AnchorsCache.{AnchorsCache}
use Rattle.range_rules.specs.declared.ExternalsRangeReaderState.{ExternalsRangeReaderState}
use Rattle.text.specs.Shown.{line}

-- `free`, of document 02's ticket 7: the free places that the last range read reported; "is left out if no range was
-- read"
unfoldable pub free_line : Option ℕ → List ℕ
free_line None = []
free_line (Some n) = line (102 ∷ 114 ∷ 101 ∷ 101 ∷ []) (n ∷ [])

-- `add`: an output entry's fields
unfoldable pub entry_line : List ℕ → List ℕ
entry_line e = line (97 ∷ 100 ∷ 100 ∷ []) (num_at 4 0 e ∷ num_at 2 4 e ∷ num_at 4 6 e ∷ num_at 8 10 e ∷ num_at 8 18 e ∷ [])

unfoldable pub entry_lines : List (List ℕ) → List ℕ
entry_lines [] = []
entry_lines (e ∷ l) = entry_line e ++ entry_lines l

-- `range`: seqno, "to" key, position key, fully read
unfoldable pub range_line : ExternalsRangeReaderState → List ℕ
range_line r =
    line (114 ∷ 97 ∷ 110 ∷ 103 ∷ 101 ∷ [])
    (r.seqno ∷ r.to.anchor_id ∷ r.to.msgs_offset ∷ r.current_position.anchor_id ∷ r.current_position.msgs_offset ∷ pick r.fully_read 1 0 ∷ [])

unfoldable pub range_lines : List ExternalsRangeReaderState → List ℕ
range_lines [] = []
range_lines (r ∷ l) = range_line r ++ range_lines l

-- `bad`: the record's number, the refusal
unfoldable pub bad_line : ℕ → ℕ → List ℕ
bad_line record-number number = line (98 ∷ 97 ∷ 100 ∷ []) (record-number ∷ number ∷ [])

-- `end`: cached, history length, pending
unfoldable pub end_line : AnchorsCache → List ℕ
end_line c = line (101 ∷ 110 ∷ 100 ∷ []) (c.len ∷ c.history_len ∷ pick c.pending 1 0 ∷ [])
