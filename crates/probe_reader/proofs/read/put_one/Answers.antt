use Rattle.text.proofs.Laws.{puts_on}
use Rattle.probe_reader.proofs.read.put_one.Goals as goal

pub returns : goal.returns
returns c =
    let last = puts_on _ _ _ (_, c.put-a.ensures) c.put_last-b.ensures in
    let counts = puts_on _ _ _ (puts_on _ _ _ last (_, c.put_line-c.ensures)) c.put_counts-d.ensures in
    puts_on _ _ _ counts c.put_entries.ensures
