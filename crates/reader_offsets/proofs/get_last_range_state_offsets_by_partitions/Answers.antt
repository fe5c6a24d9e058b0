use Rattle.std.proofs.Common.{ap, ◌∙◌, rules, arith, ◌-◌, length, true}
use lib.ListN.{length-drop}
use Rattle.reader_rules.specs.Offsets.{shown_by}
use Rattle.reader_offsets.proofs.Numbers.{partitions_done}
use Rattle.reader_offsets.proofs.Changes.{last_fits}
use Rattle.reader_offsets.specs.Calls.{last_offsets_call}
use Rattle.reader_offsets.proofs.get_last_range_state_offsets_by_partitions.Goals as goal

pub by_partitions-requires : goal.by_partitions-requires
by_partitions-requires c =
    let s = c.args.reader in
    let e = c.in_ok-held_of.ensures in
    let l = c.in_ok-held_of.field-0.now in
    let k = length-drop (length l - 1) l in
    (rw c.last_only-last.ensures (omega (arith, k, e.few.0, e.few.1)), rw (c.last_only-last.ensures, e.held) (last_fits s e.number (search rules)))

pub returns : goal.returns
unfolding last_offsets_call
returns c =
    let e = c.in_ok-held_of.ensures in
    partitions_done _ _ _ e.number (c.by_partitions.ensures ∙ ap (shown_by true) (rw e.held at c.last_only-last.ensures))
