use Rattle.text.proofs.Laws.{puts_on}
use Rattle.probe_cache.proofs.shown.put_history.Goals as goal

pub loop-found-preserved : goal.loop-found-preserved
loop-found-preserved c = puts_on _ _ _ c.loop-found.invariant c.put_info-to.ensures
