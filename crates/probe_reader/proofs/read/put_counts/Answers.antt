use Rattle.text.proofs.Laws.{puts_on}
use Rattle.probe_reader.proofs.read.put_counts.Goals as goal

pub loop-i-preserved : goal.loop-i-preserved
loop-i-preserved c = puts_on _ _ _ c.loop-i.invariant c.put_count-to.ensures
