use Rattle.text.proofs.Laws.{puts_on}
use Rattle.probe_reader.proofs.shown.put_ranges.Goals as goal

pub loop-range-preserved : goal.loop-range-preserved
loop-range-preserved c = puts_on _ _ _ c.loop-range.invariant c.put_range-to.ensures
