-- Invariant: the ranges left, shown behind what is shown so far, are all the ranges shown from the start.
use mathlib.Core.Path.{◌≡◌}
use lib.ListN.{length, take}
use Rattle.text.specs.Shown.{show}
use Rattle.lines.specs.Lines.{range_lines}
use Rattle.lines.proofs.put_ranges.Given as goal

abbrev pub invariant-loop-range : goal.invariant-loop-range
invariant-loop-range l =
    (length l.out ≡ length l.initial.out)
    × (show (range_lines (take l.range-iterator.n l.range-iterator.iter.rest.now)) (record { at = l.to; bytes = l.out }) ≡ show (range_lines (take l.fn.state.len l.fn.state.ranges)) (record { at = l.at; bytes = l.initial.out }))
