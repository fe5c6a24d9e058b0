use Rattle.std.proofs.Common.{refl, sym, ◌∙◌, rules}
use borrow.Author.Tests.{not-true, not-false}
use Rattle.reader_offsets.proofs.Numbers.{done, not_there}
use Rattle.reader_offsets.proofs.There.{is_some, is_none}
use Rattle.reader_offsets.proofs.Changes.{last_held, none_held, nothing_to_finalize, finalize_done}
use Rattle.reader_offsets.specs.Calls.{finalize_call}
use Rattle.reader_offsets.proofs.finalize.Goals as goal

pub returns-then-not-every_range : goal.returns-then-not-every_range
unfolding finalize_call
returns-then-not-every_range c = not_there c.args.reader _ _ _ c.in_ok-held.ensures.number (sym (rw c.in_ok-held.ensures.held at c.every_range.ensures) ∙ not-true _ c.if-not-every_range.true-raw)

pub returns-in_default : goal.returns-in_default
unfolding finalize_call
returns-in_default c =
    let s = c.args.reader in
    let sound = c.in_ok-held.ensures.number in
    let w = none_held s sound (search rules) (is_none _ _ _ (rw c.in_ok-held.ensures.held at c.last_range.ensures) c.in_default.is) in
    done s _ _ _ sound (sym (rw c.in_ok-held.ensures.held at c.every_range.ensures) ∙ not-false _ c.if-not-every_range.false-raw) refl _ (nothing_to_finalize s sound (search rules) s.reader_state.by_partitions w)

pub returns : goal.returns
unfolding finalize_call
returns c =
    let s = c.args.reader in
    let sound = c.in_ok-held.ensures.number in
    let w = last_held s sound (search rules) (is_some _ _ _ (rw c.in_ok-held.ensures.held at c.last_range.ensures) _ c.in-Some.is) in
    done s _ _ _ sound (sym (rw c.in_ok-held.ensures.held at c.every_range.ensures) ∙ not-false _ c.if-not-every_range.false-raw) refl _ (c.with_ranges.ensures ∙ finalize_done s sound (search rules) s.reader_state.by_partitions w.0 _ _ _ w.1 (rw c.in_ok-held.ensures.held at c.raised_range.ensures) (rw c.mark_ranges.ensures))
