use Rattle.std.proofs.Common.{arith, rules, tests}
use Rattle.std.proofs.lemmas.Bool.Decides.{nat_tests}
use Rattle.reader_rules.specs.Rules.{wants_next}
use Rattle.externals_reader.proofs.Laws.{last_told}
use Rattle.externals_reader.proofs.next.wants_next.Goals as goal

pub returns-then-len-open_ranges_limit : goal.returns-then-len-open_ranges_limit
unfolding wants_next
returns-then-len-open_ranges_limit c = λ ranges e. let s = last_told 0 (λ q. q.seqno) c.args.len ranges c.args.last c.map_or.result _ e (λ q h. search (rules, tests)) c.map_or.ensures in grind (arith, nat_tests)

pub returns-else-len-open_ranges_limit : goal.returns-else-len-open_ranges_limit
unfolding wants_next
returns-else-len-open_ranges_limit c = λ ranges e. grind (arith, nat_tests)
