use Rattle.text.proofs.Laws.{puts_on}
use Rattle.probe_reader.proofs.functions.put_done.Goals as goal

pub returns : goal.returns
returns c = puts_on _ _ _ (_, c.put-named.ensures) (_, c.put_number.ensures)
