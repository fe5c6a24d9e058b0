use Rattle.std.proofs.Common.{ℕ, sym, ap, ◌∙◌, rules, leb}
use borrow.Author.Tests.{le-leb}
use Rattle.messages_buffer.specs.declared.ExternalsPartitionRangeReaderState.{ExternalsPartitionRangeReaderState}
use Rattle.reader_rules.specs.State.{held_ranges}
use Rattle.reader_rules.specs.Offsets.{record_of, range_at}
use Rattle.reader_offsets.proofs.Numbers.{done}
use Rattle.reader_offsets.proofs.There.{present}
use Rattle.reader_offsets.proofs.Changes.{taken_there}
use Rattle.reader_offsets.specs.Calls.{taken_call}
use Rattle.reader_offsets.proofs.messages_taken.Goals as goal

pub returns : goal.returns
unfolding taken_call
returns c =
    let s = c.args.reader in
    let i = c.args.par_id in
    let a = present _ _ _ (rw c.in_ok-held.ensures.held at c.place_of.ensures) _ c.in_ok-at.ensures.value in
    let x = present _ _ _ (rw c.in_ok-held.ensures.held at c.record_of.ensures) _ c.in_ok-x.ensures.value in
    let place = sym (ap (λ (k : ℕ). record_of i (range_at k (held_ranges s.reader_state))) a.1) in
    let there = ap (λ (z : ExternalsPartitionRangeReaderState). z.present) place ∙ x.0 in
    let counted = ap (λ (z : ExternalsPartitionRangeReaderState). leb c.args.taken z.count) (place ∙ sym x.1) ∙ le-leb c.args.taken c.in_ok-x.x.count c.if-x-taken.false in
    done s _ _ _ c.in_ok-held.ensures.number there counted _ (c.with_record_of.ensures ∙ taken_there s c.in_ok-held.ensures.number (search rules) c.args.seqno i _ c.args.taken _ a.1 x.1)
