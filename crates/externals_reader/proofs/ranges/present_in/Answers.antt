-- By an attribute the law of the library's call is not found (tried).
use Rattle.std.proofs.Common.{rules}
use Rattle.reader_rules.proofs.Each.{each_mapped}
use Rattle.externals_reader.specs.Calls.{is_present}
use Rattle.externals_reader.proofs.ranges.present_in.Goals as goal

pub returns : goal.returns
returns c = each_mapped _ _ is_present (λ x y q k. search rules) 8 c.args.parts _ (search rules) c.map.ensures.items
