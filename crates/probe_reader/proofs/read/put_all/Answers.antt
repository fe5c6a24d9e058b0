use Rattle.text.proofs.Laws.{puts_on}
use Rattle.probe_reader.proofs.read.put_all.Goals as goal

pub returns : goal.returns
returns c =
    let free = puts_on _ _ _ (_, c.put-named.ensures) (_, c.put_free-a.ensures) in
    let entries = c.put_entries-b.ensures in
    puts_on _ _ _ (puts_on _ _ _ (puts_on _ _ _ free entries) c.put_counts-c.ensures) (_, c.put_ranges.ensures)
