-- By an attribute the law of the library's call is not found (tried).
use Rattle.std.proofs.Common.{rules}
use Rattle.reader_rules.proofs.Each.{each_mapped}
use Rattle.reader_rules.specs.Rules.{next_partition}
use Rattle.externals_reader.proofs.next.next_partitions.Goals as goal

pub returns : goal.returns
returns c = each_mapped _ _ next_partition (λ x y q k. search rules) 8 c.args.parts _ (search rules) c.map.ensures.items
