use Rattle.std.proofs.Common.{refl, rules}
use borrow.Author.Tests.{lt-ltb}
use Rattle.reader_offsets.proofs.Numbers.{done}
use Rattle.reader_offsets.proofs.There.{present}
use Rattle.reader_offsets.proofs.Changes.{last_held, mark_stays, mark_goes}
use Rattle.reader_offsets.specs.Calls.{retain_call}
use Rattle.reader_offsets.proofs.retain_only_last_range_state.Goals as goal

pub returns-then-reader-last : goal.returns-then-reader-last
unfolding retain_call
returns-then-reader-last c =
    let s = c.args.reader in
    let sound = c.in_ok-held.ensures.number in
    let w = last_held s sound (search rules) (present _ _ _ (rw c.in_ok-held.ensures.held at c.last_range.ensures) _ c.in_ok-last.ensures.value) in
    done s _ _ _ sound (lt-ltb 0 s.reader_state.len w.0) refl _ (mark_stays s sound (search rules) w.0 c.in_ok-last.last w.1 _ c.with_ranges-next.ensures c.if-reader-last.true)

pub returns : goal.returns
unfolding retain_call
returns c =
    let s = c.args.reader in
    let sound = c.in_ok-held.ensures.number in
    let w = last_held s sound (search rules) (present _ _ _ (rw c.in_ok-held.ensures.held at c.last_range.ensures) _ c.in_ok-last.ensures.value) in
    done s _ _ _ sound (lt-ltb 0 s.reader_state.len w.0) refl _ (mark_goes s sound (search rules) w.0 c.in_ok-last.last w.1 c.with_ranges-next.result c.with_ranges-next.ensures c.if-reader-last.false)
