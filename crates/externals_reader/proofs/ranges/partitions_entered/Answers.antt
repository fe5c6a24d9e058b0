-- By an attribute the law of the library's call is not found (tried).
use Rattle.std.proofs.Common.{rules, get_or, ℕ}
use Rattle.reader_rules.proofs.Each.{each_made}
use Rattle.reader_rules.specs.State.{no_reader_partition}
use Rattle.reader_rules.specs.Rules.{with_default, partitions_entered}
use Rattle.externals_reader.proofs.ranges.partitions_entered.Goals as goal

pub returns : goal.returns
unfolding partitions_entered
returns c =
    let limits = c.args.limits in
    let parts = c.args.parts in
    each_made _ _ (λ (j : ℕ). with_default (get_or limits j 0) (get_or parts j no_reader_partition)) (λ i x q k. search rules) 8 _ c.from_fn.ensures.items
