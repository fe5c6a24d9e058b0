-- How long the texts of the records are that do not reach the reader.
use Prim.Native.Nat.{ℕ, ◌≤◌}
use mathlib.Core.Bool.{Bool, ◌||◌}
use mathlib.Core.List.{List, [], ◌∷◌}
use native.Mathlib.Omega.{arith}
use lib.Dec.{ltb, eqb}
use lib.ListN.{length, get_or}
use Rattle.rows.proofs.Laws.{pick_both}
use Rattle.rows.specs.Rows.{pick}
use Rattle.lines.specs.Lines.{end_line}
use Rattle.text.proofs.Lengths.{line_length}
use Rattle.lines.proofs.Lengths.{bad_line_length, end_line_length}
use Rattle.session_rules.specs.declared.Session.{Session}
use Rattle.session_rules.specs.Said.{Said, record_counted, stop, nothing_said, bad_said, after_or_bad, malformed_said, route_said, anchor_said, do_name, called, cache_said, plain_said, long_number, long_said, end_said}

name_length : (d : ℕ) → length (do_name d) ≤ 8
unfolding do_name
name_length d = grind arith

-- a text of at most n bytes
abbrev Short : ℕ → Said → Type 0
Short n s = length s.text ≤ n

pub bad_length : (s : Session) (number : ℕ) → length (bad_said s number).text ≤ 46
unfolding bad_said
bad_length s number = bad_line_length s.records number

pub after_or_bad_length : (before after : Session) (number : ℕ) → length (after_or_bad before after number).text ≤ 46
unfolding after_or_bad
after_or_bad_length before after number = pick_both (Short 46) (eqb number 0) (nothing_said after) (bad_said before number) (omega arith) (bad_length before number)

cache_length : (s : Session) (n : ℕ) (tables : List ℕ) (d : ℕ) → length (cache_said s n tables d).text ≤ 46
unfolding cache_said
cache_length s n tables d =
    let h = line_length (do_name d) ((called n tables s.transaction d).number ∷ []) in
    let k = name_length d in
    omega arith

pub a_plain_record_says_at_most_46_bytes : (tables area routes : List ℕ) (s : Session) (kind : ℕ) (p : List ℕ) → length (plain_said tables area routes s kind p).text ≤ 46
unfolding plain_said anchor_said route_said
a_plain_record_says_at_most_46_bytes tables area routes s kind p =
    pick_both (Short 46) (eqb kind 4) (anchor_said s (length area) tables p) (pick (eqb kind 2) (route_said s routes p) (cache_said s (length area) tables (get_or p 0 0))) (after_or_bad_length s _ _)
    (pick_both (Short 46) (eqb kind 2) (route_said s routes p) (cache_said s (length area) tables (get_or p 0 0)) (after_or_bad_length s _ _) (cache_length s (length area) tables (get_or p 0 0)))

pub a_malformed_record_says_at_most_46_bytes : (s : Session) → length (malformed_said s).text ≤ 46
unfolding malformed_said
a_malformed_record_says_at_most_46_bytes s = pick_both (Short 46) s.stopped (nothing_said s) (bad_said (record_counted s) 17) (omega arith) (bad_length (record_counted s) 17)

pub a_long_record_says_at_most_46_bytes : (len : ℕ) (tables : List ℕ) (s : Session) (head : List ℕ) (n : ℕ) → length (long_said len tables s head n).text ≤ 46
unfolding long_said
a_long_record_says_at_most_46_bytes len tables s head n =
    let number = long_number len tables (record_counted s).records s.transaction head n in
    pick_both (Short 46) s.stopped (nothing_said s) (bad_said (record_counted s) number) (omega arith) (bad_length (record_counted s) number)

pub the_end_says_at_most_67_bytes : (s : Session) (cut : Bool) → length (end_said s cut).text ≤ 67
unfolding end_said
the_end_says_at_most_67_bytes s cut =
    let ended : Said = record { session = stop s; text = end_line s.transaction.cache } in
    let h = a_malformed_record_says_at_most_46_bytes s in
    pick_both (Short 67) (cut || ltb s.records 2) (malformed_said s) (pick s.stopped (nothing_said s) ended) (omega arith) (pick_both (Short 67) s.stopped (nothing_said s) ended (omega arith) (end_line_length s.transaction.cache))
