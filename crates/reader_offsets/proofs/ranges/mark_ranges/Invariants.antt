use Rattle.std.proofs.Common.{◌≡◌, ◌++◌, take, drop, map}
use Rattle.reader_rules.specs.Offsets.{marked}
use Rattle.reader_offsets.proofs.ranges.mark_ranges.Given as goal

abbrev pub invariant-loop-range : goal.invariant-loop-range
invariant-loop-range l =
    l.ranges ≡ map marked (take l.range-index l.initial.ranges) ++ drop l.range-index l.initial.ranges
