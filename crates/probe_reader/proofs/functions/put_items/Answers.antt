use Rattle.text.proofs.Laws.{puts_on}
use Rattle.probe_reader.proofs.functions.put_items.Goals as goal

pub loop-i-preserved : goal.loop-i-preserved
loop-i-preserved g c = puts_on _ _ _ c.loop-i.invariant c.put_item-to.ensures

pub returns : goal.returns
returns g c = puts_on _ _ _ (puts_on _ _ _ c.put_done-to.ensures c.loop-i.invariant) (_, c.put.ensures)
