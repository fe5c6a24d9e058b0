use Rattle.std.proofs.Common.{refl, ap, ◌∙◌, rules}
use Rattle.reader_rules.specs.declared.ExternalsPartitionReaderState.{ExternalsPartitionReaderState}
use Rattle.reader_rules.specs.Offsets.{reader_partition, skip_raised}
use Rattle.reader_offsets.proofs.Numbers.{done}
use Rattle.reader_offsets.proofs.There.{present}
use Rattle.reader_offsets.proofs.Changes.{last_changed}
use Rattle.reader_offsets.specs.Calls.{set_skip_call}
use Rattle.reader_offsets.proofs.set_skip_processed_offset_to_current.Goals as goal

pub returns : goal.returns
unfolding set_skip_call
returns c =
    let s = c.args.reader in
    let i = c.args.par_id in
    let sound = c.in_ok-held.ensures.number in
    let p = present _ _ _ c.partition_at.ensures _ c.in_ok-p.ensures.value in
    let x = present _ _ _ (rw c.in_ok-held.ensures.held at c.last_record.ensures) _ c.in_ok-x.ensures.value in
    let offset = (reader_partition i s.reader_state.by_partitions).curr_processed_offset in
    let raised = c.skip_raised-y.ensures ∙ (ap (λ (z : ExternalsPartitionReaderState). skip_raised z.curr_processed_offset c.in_ok-x.x) p.1 ∙ ap (skip_raised offset) x.1) in
    done s _ _ _ sound (rw p.0 x.0) refl _ (c.with_record_of.ensures ∙ last_changed s sound (search rules) _ i (skip_raised offset) _ c.last_place-at.ensures raised)
