use Rattle.std.proofs.Common.{rules, tests, ◌∙◌}
use Rattle.range_rules.specs.Rules.{no_key}
use Rattle.reader_rules.specs.Rules.{next_range}
use Rattle.externals_reader.proofs.Laws.{last_told}
use Rattle.externals_reader.proofs.next.next_range.Goals as goal

pub returns : goal.returns
unfolding next_range
returns c = λ ranges len e. c.range_from.ensures ∙ rw (last_told no_key (λ q. q.to) len ranges c.args.last c.map_or-from.result _ e (λ q h. search (rules, tests)) c.map_or-from.ensures, c.next_partitions.ensures)
