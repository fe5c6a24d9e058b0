-- Invariant: the entries left, shown behind what is shown so far, are all the entries shown from the start.
use mathlib.Core.Path.{◌≡◌}
use lib.ListN.{length}
use Rattle.rows.specs.Rows.{whole_rows}
use Rattle.text.specs.Shown.{show}
use Rattle.lines.specs.Lines.{entry_lines}
use Rattle.range_rules.specs.Rules.{entry_len}
use Rattle.lines.proofs.put_entries.Given as goal

abbrev pub invariant-loop-entry : goal.invariant-loop-entry
invariant-loop-entry l =
    (l.entry-iterator.size ≡ entry_len)
    × (length l.out ≡ length l.initial.out)
    × (show (entry_lines (whole_rows entry_len l.entry-iterator.rest.now)) (record { at = l.to; bytes = l.out }) ≡ show (entry_lines (whole_rows entry_len l.entries)) (record { at = l.at; bytes = l.initial.out }))
