use Rattle.std.proofs.Common.{◌≡◌, drop}
use Rattle.reader_rules.specs.State.{sound_ranges_from}
use Rattle.externals_reader.proofs.questions.sound_ranges.Given as goal

abbrev pub invariant-loop-range : goal.invariant-loop-range
invariant-loop-range l = sound_ranges_from l.low (drop l.range-index l.ranges) ≡ sound_ranges_from 0 l.ranges
