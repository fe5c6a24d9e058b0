use Rattle.text.proofs.Laws.{puts_on}
use Rattle.probe_reader.proofs.shown.put_range.Goals as goal

pub returns : goal.returns
returns c =
    let numbers = puts_on _ _ _ (_, c.put-named.ensures) (_, c.put_numbers-to.ensures) in
    puts_on _ _ _ numbers c.put_partitions.ensures
