use Rattle.std.proofs.Common.{◌≡◌, ◌++◌, take, drop, map}
use Rattle.reader_rules.specs.Rules.{range_entered}
use Rattle.externals_reader.proofs.ranges.enter.Given as goal

abbrev pub invariant-loop-range : goal.invariant-loop-range
invariant-loop-range l =
    l.range-items ≡ map range_entered (take l.range-index l.initial.range-items) ++ drop l.range-index l.initial.range-items
