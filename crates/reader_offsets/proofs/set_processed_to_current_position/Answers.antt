use Rattle.std.proofs.Common.{refl, ap, ◌∙◌, rules}
use borrow.Author.Tests.{lt-ltb}
use Rattle.reader_rules.specs.declared.ExternalsPartitionReaderState.{ExternalsPartitionReaderState}
use Rattle.range_rules.specs.declared.ExternalsRangeReaderState.{ExternalsRangeReaderState}
use Rattle.reader_rules.specs.Offsets.{reader_partition, with_partition, with_processed_to}
use Rattle.reader_offsets.proofs.Numbers.{done}
use Rattle.reader_offsets.proofs.There.{present}
use Rattle.reader_offsets.proofs.Changes.{last_held}
use Rattle.reader_offsets.specs.Calls.{set_processed_call}
use Rattle.reader_offsets.proofs.set_processed_to_current_position.Goals as goal

pub returns : goal.returns
unfolding set_processed_call
returns c =
    let s = c.args.reader in
    let sound = c.in_ok-held.ensures.number in
    let w = last_held s sound (search rules) (present _ _ _ (rw c.in_ok-held.ensures.held at c.last_range.ensures) _ c.in_ok-last.ensures.value) in
    let i = c.args.par_id in
    let p = present _ _ _ c.partition_at.ensures _ c.in_ok-p.ensures.value in
    done s _ _ _ sound (rw p.0 (lt-ltb 0 s.reader_state.len w.0)) refl _ (c.with_partition.ensures ∙ (ap (λ (z : ExternalsPartitionReaderState). with_partition i (with_processed_to c.in_ok-last.last.current_position z) s) p.1 ∙ ap (λ (z : ExternalsRangeReaderState). with_partition i (with_processed_to z.current_position (reader_partition i s.reader_state.by_partitions)) s) w.1))
