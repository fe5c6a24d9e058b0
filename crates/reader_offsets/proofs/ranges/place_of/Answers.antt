use Rattle.std.proofs.Common.{rules, tests, eqb, ◌∙◌}
use Rattle.std.proofs.lemmas.Iterator.{YieldsList-from_slice}
use Rattle.std.proofs.lemmas.Iterator.Search.{position_from_yields_List}
use Rattle.reader_offsets.proofs.Windows.{place_found}
use Rattle.reader_offsets.proofs.ranges.place_of.Goals as goal

pub returns : goal.returns
returns c =
    let a = c.args in
    position_from_yields_List (λ r. eqb r.seqno a.seqno) c.position.new.self _ c.position.result c.position.ensures.ran (YieldsList-from_slice a.ranges.now cc) (λ x b q k. search (rules, tests))
    ∙ place_found a.seqno a.ranges.now
