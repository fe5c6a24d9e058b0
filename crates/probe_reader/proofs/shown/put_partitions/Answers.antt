use Rattle.text.proofs.Laws.{puts_on}
use Rattle.probe_reader.proofs.shown.put_partitions.Goals as goal

pub loop-i-preserved : goal.loop-i-preserved
loop-i-preserved c = puts_on _ _ _ c.loop-i.invariant c.put_partition-to.ensures

pub returns : goal.returns
returns c = puts_on _ _ _ c.loop-i.invariant (_, c.put.ensures)
