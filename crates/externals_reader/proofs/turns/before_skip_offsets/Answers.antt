use Rattle.std.proofs.Common.{rules, tests, ap, ◌∙◌, not}
use Rattle.std.proofs.lemmas.Iterator.{YieldsList-from_slice, YieldsList-from_zip}
use Rattle.std.proofs.lemmas.Iterator.Search.{any_from_yields_List}
use Rattle.reader_rules.specs.Rules.{reached}
use Rattle.externals_reader.proofs.Laws.{none_reached}
use Rattle.externals_reader.proofs.turns.before_skip_offsets.Goals as goal

pub returns : goal.returns
returns c =
    let ps = c.args.parts in
    let qs = c.args.of_range in
    ap not (any_from_yields_List (λ p. reached p.0 p.1) c.any.new.self _ c.any.result c.any.ensures.ran (YieldsList-from_zip (YieldsList-from_slice ps cc) (YieldsList-from_slice qs cc)) (λ x b q k. search (rules, tests))) ∙ none_reached ps qs
