use Rattle.text.proofs.Laws.{puts_on}
use Rattle.probe_cache.proofs.shown.put_cache.Goals as goal

pub returns : goal.returns
returns c = puts_on _ _ _ (puts_on _ _ _ (puts_on _ _ _ (puts_on _ _ _ (_, c.put-a.ensures) c.put_anchors-b.ensures) (_, c.put-d.ensures)) c.put_history-e.ensures) (_, c.put_line.ensures)
