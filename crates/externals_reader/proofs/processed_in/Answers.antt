-- By an attribute the law of the library's call is not found (tried).
use Rattle.std.proofs.Common.{rules}
use Rattle.reader_rules.proofs.Each.{each_mapped}
use Rattle.reader_rules.specs.Rules.{processed_of}
use Rattle.externals_reader.proofs.processed_in.Goals as goal

pub returns : goal.returns
returns c = each_mapped _ _ processed_of (λ x y q k. search rules) 8 c.args.parts _ (search rules) c.map.ensures.items
