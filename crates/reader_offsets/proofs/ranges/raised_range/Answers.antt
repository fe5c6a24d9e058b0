-- By an attribute the law of the library's call is not found (tried).
use Rattle.std.proofs.Common.{ℕ, List, ap, arith}
use Rattle.messages_buffer.specs.declared.ExternalsPartitionRangeReaderState.{ExternalsPartitionRangeReaderState}
use Rattle.reader_rules.specs.Offsets.{reader_partition, record_of, tally_of, offset_raised, with_records}
use Rattle.reader_rules.proofs.Each.{each_made}
use Rattle.reader_offsets.proofs.ranges.raised_range.Goals as goal

pub returns : goal.returns
returns c =
    let a = c.args in
    let greatest = λ (j : ℕ). (tally_of j a.ranges.now).processed in
    ap (λ (xs : List ExternalsPartitionRangeReaderState). with_records xs a.last) (each_made _ _ (λ (j : ℕ). offset_raised (reader_partition j a.partitions) (greatest j) (record_of j a.last)) (λ i x q k. grind arith) 8 _ c.from_fn-raised.ensures.items)
