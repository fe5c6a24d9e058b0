use Rattle.std.proofs.Common.{rules, tests, ◌∙◌}
use Rattle.std.proofs.lemmas.Iterator.{YieldsList-from_slice}
use Rattle.std.proofs.lemmas.Iterator.Search.{all_from_yields_List}
use Rattle.range_rules.specs.declared.ExternalsRangeReaderState.{ExternalsRangeReaderState}
use Rattle.messages_buffer.proofs.Laws.{all_is_every}
use Rattle.reader_offsets.proofs.ranges.all_fully_read.Goals as goal

pub returns : goal.returns
returns c =
    all_from_yields_List (λ r. r.fully_read) c.all.new.self _ c.all.result c.all.ensures.ran (YieldsList-from_slice c.args.ranges.now cc) (λ x b q k. search (rules, tests))
    ∙ all_is_every (λ (r : ExternalsRangeReaderState). r.fully_read) c.args.ranges.now
