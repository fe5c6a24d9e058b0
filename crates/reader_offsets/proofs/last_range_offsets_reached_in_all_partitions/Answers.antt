use Rattle.std.proofs.Common.{sym, ap, ◌∙◌}
use borrow.Author.Tests.{not-true, not-false}
use Rattle.reader_rules.specs.Offsets.{ranges_meet}
use Rattle.reader_rules.specs.declared.PartitionTest.TheVariants.{InReader, Reached}
use Rattle.reader_offsets.proofs.Numbers.{flag_15, flag_0}
use Rattle.reader_offsets.specs.Calls.{offsets_reached_call}
use Rattle.reader_offsets.proofs.last_range_offsets_reached_in_all_partitions.Goals as goal

pub returns-then-not-every_range : goal.returns-then-not-every_range
unfolding offsets_reached_call
returns-then-not-every_range c =
    let s = c.args.reader in
    let last = rw c.in_ok-held_of.ensures.held at c.last_only-last.ensures in
    flag_15 s _ _ c.in_ok-held_of.ensures.number (ap (ranges_meet InReader s.reader_state.by_partitions) (sym last) ∙ (sym c.every_range.ensures ∙ not-true _ c.if-not-every_range.true-raw))

pub returns : goal.returns
unfolding offsets_reached_call
returns c =
    let s = c.args.reader in
    let last = rw c.in_ok-held_of.ensures.held at c.last_only-last.ensures in
    flag_0 s _ _ c.in_ok-held_of.ensures.number (ap (ranges_meet InReader s.reader_state.by_partitions) (sym last) ∙ (sym c.every_range.ensures ∙ not-false _ c.if-not-every_range.false-raw)) _ (c.every_range-2.ensures ∙ ap (ranges_meet Reached s.reader_state.by_partitions) last)
