use Rattle.std.proofs.Common.{rules}
use Rattle.reader_offsets.proofs.Changes.{sum_fits}
use Rattle.reader_offsets.proofs.count_messages_in_buffers_by_partitions.Goals as goal

pub by_partitions-requires : goal.by_partitions-requires
by_partitions-requires c =
    let s = c.args.reader in
    (search rules, rw c.in_ok-held_of.ensures.held (sum_fits s c.in_ok-held_of.ensures.number (search rules)))
