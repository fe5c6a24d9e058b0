use Rattle.std.proofs.Common.{arith}
use Rattle.reader_rules.specs.Rules.{range_entered}
use Rattle.reader_rules.proofs.Each.{sets_mapped}
use Rattle.externals_reader.proofs.ranges.entered.Goals as goal

pub returns : goal.returns
returns c =
    let s = c.args.state.now in
    rw (c.enter.ensures, c.partitions_entered-state.ensures, sets_mapped range_entered s.len s.ranges (omega (arith, c.requires.0, c.requires.1)))
