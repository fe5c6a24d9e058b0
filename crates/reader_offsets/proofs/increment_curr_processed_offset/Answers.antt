use Rattle.std.proofs.Common.{◌≡◌, ◌+◌, ap, ◌∙◌, arith}
use borrow.Author.Tests.{lt-ltb}
use Rattle.reader_rules.specs.declared.ExternalsPartitionReaderState.{ExternalsPartitionReaderState}
use Rattle.reader_rules.specs.Offsets.{reader_partition, with_partition, with_offset}
use Rattle.reader_offsets.proofs.Numbers.{done}
use Rattle.reader_offsets.proofs.There.{present}
use Rattle.reader_offsets.specs.Calls.{increment_call}
use Rattle.reader_offsets.proofs.increment_curr_processed_offset.Goals as goal

pub returns : goal.returns
unfolding increment_call
returns c =
    let s = c.args.reader in
    let i = c.args.par_id in
    let p = present _ _ _ c.partition_at.ensures _ c.in_ok-p.ensures.value in
    let same : c.in_ok-p.p.curr_processed_offset ≡ (reader_partition i s.reader_state.by_partitions).curr_processed_offset = ap (λ (z : ExternalsPartitionReaderState). z.curr_processed_offset) p.1 in
    let fits = lt-ltb ((reader_partition i s.reader_state.by_partitions).curr_processed_offset + 1) 4294967296 (omega (arith, same)) in
    done s _ _ _ c.in_ok-check_state.ensures.0 p.0 fits _ (c.with_partition.ensures ∙ ap (λ (z : ExternalsPartitionReaderState). with_partition i (with_offset (z.curr_processed_offset + 1) z) s) p.1)
