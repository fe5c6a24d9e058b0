use Rattle.text.proofs.Laws.{puts_on}
use Rattle.probe_reader.proofs.shown.put_reader.Goals as goal

pub returns : goal.returns
returns c =
    let parts = puts_on _ _ _ c.put_ranges-a.ensures c.put_reader_partitions-b.ensures in
    let marks = puts_on _ _ _ (puts_on _ _ _ parts (_, c.put-c.ensures)) (_, c.put_number-d.ensures) in
    puts_on _ _ _ (puts_on _ _ _ marks c.put_last-e.ensures) (_, c.put.ensures)
