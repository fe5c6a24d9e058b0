use Rattle.std.proofs.Common.{arith}
use Rattle.reader_rules.proofs.Each.{mapped_next, mapped_end}
use Rattle.reader_rules.specs.State.{no_range}
use Rattle.reader_rules.specs.Offsets.{marked}
use Rattle.reader_offsets.proofs.ranges.mark_ranges.Goals as goal

pub loop-range-preserved : goal.loop-range-preserved
loop-range-preserved c = mapped_next marked _ _ _ c.loop-range.invariant no_range _ (omega arith) c.marked.ensures

pub returns : goal.returns
returns c = mapped_end marked _ _ _ c.loop-range.invariant c.loop-range-test.false
