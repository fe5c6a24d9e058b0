use Rattle.std.proofs.Common.{arith}
use Rattle.reader_offsets.proofs.Windows.{tally_next, tally_end}
use Rattle.reader_offsets.proofs.ranges.tally.Goals as goal

pub loop-range-preserved : goal.loop-range-preserved
loop-range-preserved c = grind (arith, tally_next)

pub returns : goal.returns
returns c = grind (arith, tally_end)
