use Rattle.std.proofs.Common.{◌≡◌, length, rules, tests, ◌∙◌}
use Rattle.std.proofs.lemmas.Iterator.{YieldsList-from_slice, YieldsList-from_zip}
use Rattle.std.proofs.lemmas.Iterator.Search.{all_from_yields_List}
use Rattle.messages_buffer.specs.Fullness.{no_partition}
use Rattle.reader_rules.specs.State.{no_reader_partition}
use Rattle.reader_rules.specs.Offsets.{meets}
use Rattle.reader_offsets.proofs.Windows.{below_listed}
use Rattle.reader_offsets.proofs.partitions.every_partition.Goals as goal

pub returns : goal.returns
returns c =
    let ps = c.args.partitions in
    let xs = c.args.records in
    let n : length ps ≡ 8 = search rules in
    let m : length xs ≡ length ps = search rules in
    all_from_yields_List (λ p. meets c.args.test p.0 p.1) c.all.new.self _ c.all.result c.all.ensures.ran (YieldsList-from_zip (YieldsList-from_slice ps cc) (YieldsList-from_slice xs cc)) (λ x b q k. search (rules, tests))
    ∙ rw n at (below_listed (meets c.args.test) no_reader_partition no_partition ps xs m)
