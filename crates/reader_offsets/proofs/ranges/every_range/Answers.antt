use Rattle.std.proofs.Common.{rules, tests, ◌∙◌}
use Rattle.std.proofs.lemmas.Iterator.{YieldsList-from_slice}
use Rattle.std.proofs.lemmas.Iterator.Search.{all_from_yields_List}
use Rattle.reader_rules.specs.Offsets.{range_meets}
use Rattle.messages_buffer.proofs.Laws.{all_is_every}
use Rattle.reader_offsets.proofs.ranges.every_range.Goals as goal

pub returns : goal.returns
returns c =
    let a = c.args in
    all_from_yields_List (range_meets a.test a.partitions) c.all.new.self _ c.all.result c.all.ensures.ran (YieldsList-from_slice a.ranges.now cc) (λ x b q k. search (rules, tests))
    ∙ all_is_every (range_meets a.test a.partitions) a.ranges.now
