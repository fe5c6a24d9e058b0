use Rattle.std.proofs.Common.{◌≡◌, ◌*◌, ◌≤◌, drop}
use Rattle.reader_rules.specs.Offsets.{tally_from, no_tally}
use Rattle.reader_offsets.proofs.ranges.tally.Given as goal

abbrev pub invariant-loop-range : goal.invariant-loop-range
invariant-loop-range l =
    (tally_from l.par l.t (drop l.range-index l.ranges) ≡ tally_from l.par no_tally l.ranges)
    × (l.t.count ≤ 4294967296 * l.range-index)
