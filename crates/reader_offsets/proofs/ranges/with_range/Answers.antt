-- One slot of the list changes.
use Rattle.std.proofs.Common.{◌≡◌, ◌∙◌, length, arith, rules}
use Rattle.reader_offsets.proofs.Held.{held_set}
use Rattle.reader_rules.specs.State.{max_ranges}
use Rattle.reader_offsets.proofs.ranges.with_range.Goals as goal

pub returns : goal.returns
returns c =
    let s = c.args.reader in
    let n : length s.reader_state.ranges ≡ max_ranges = search rules in
    c.with_ranges.ensures ∙ held_set s (omega (arith, c.requires)) c.args.at c.args.range c.requires.0
