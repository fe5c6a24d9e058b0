use Rattle.std.proofs.lemmas.Bool.{or_right}
use Rattle.std.proofs.Common.{refl, true, not}
use Rattle.reader_rules.specs.State.{held_ranges}
use Rattle.reader_rules.specs.Offsets.{last_range, reader_partition, record_of}
use Rattle.anchors_cache.specs.Calls.{flag_answer}
use Rattle.reader_offsets.proofs.There.{is_none}
use Rattle.reader_offsets.proofs.Changes.{reached_absent}
use Rattle.reader_offsets.specs.Calls.{offset_reached_call}
use Rattle.reader_offsets.proofs.last_range_offset_reached.Goals as goal

pub returns-in_default-last_record : goal.returns-in_default-last_record
unfolding offset_reached_call flag_answer
returns-in_default-last_record c =
    let s = c.args.reader in
    let i = c.args.par_id in
    let x = is_none _ _ _ (rw c.in_ok-held.ensures.held at c.last_record.ensures) c.in_default-last_record.is in
    rw (← c.in_ok-held.ensures.number, reached_absent (reader_partition i s.reader_state.by_partitions) (record_of i (last_range (held_ranges s.reader_state))) x, or_right (not (reader_partition i s.reader_state.by_partitions).present) true refl)
