-- By an attribute the law of the library's call is not found (tried).
use Rattle.std.proofs.Common.{ℕ, ◌+◌, rules, get_or}
use Rattle.reader_rules.proofs.Each.{each_made}
use Rattle.reader_rules.specs.Rules.{sums}
use Rattle.externals_reader.proofs.turns.summed.Goals as goal

pub returns : goal.returns
unfolding sums
returns c = each_made _ _ (λ (j : ℕ). get_or c.args.a j 0 + get_or c.args.b j 0) (λ i x q k. search rules) 8 _ c.from_fn.ensures.items
