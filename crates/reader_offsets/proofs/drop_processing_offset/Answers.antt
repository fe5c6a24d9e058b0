use Rattle.std.proofs.Common.{refl, ap, ◌∙◌, rules}
use Rattle.reader_rules.specs.declared.ExternalsPartitionReaderState.{ExternalsPartitionReaderState}
use Rattle.reader_rules.specs.declared.ExternalsReader.{ExternalsReader}
use Rattle.reader_rules.specs.Offsets.{reader_partition, with_partition, with_offset, dropped}
use Rattle.reader_offsets.proofs.Numbers.{done}
use Rattle.reader_offsets.proofs.There.{present}
use Rattle.reader_offsets.proofs.Changes.{last_changed}
use Rattle.reader_offsets.specs.Calls.{drop_call}
use Rattle.reader_offsets.proofs.drop_processing_offset.Goals as goal

pub returns : goal.returns
unfolding drop_call
returns c =
    let s = c.args.reader in
    let i = c.args.par_id in
    let sound = c.in_ok-held.ensures.number in
    let p = present _ _ _ c.partition_at.ensures _ c.in_ok-p.ensures.value in
    let x = present _ _ _ (rw c.in_ok-held.ensures.held at c.last_record.ensures) _ c.in_ok-x.ensures.value in
    let skip = c.args.drop_skip_offset in
    let next = c.with_record_of-next.ensures ∙ last_changed s sound (search rules) _ i (dropped skip) _ c.last_place-at.ensures (c.dropped.ensures ∙ ap (dropped skip) x.1) in
    done s _ _ _ sound (rw p.0 x.0) refl _ (c.with_partition.ensures ∙ (ap (λ (z : ExternalsPartitionReaderState). with_partition i (with_offset 0 z) c.with_record_of-next.result) p.1 ∙ ap (λ (z : ExternalsReader). with_partition i (with_offset 0 (reader_partition i s.reader_state.by_partitions)) z) next))
