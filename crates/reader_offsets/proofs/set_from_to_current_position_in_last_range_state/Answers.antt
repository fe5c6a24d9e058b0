use Rattle.std.proofs.Common.{refl, ◌∙◌, rules}
use borrow.Author.Tests.{lt-ltb}
use Rattle.reader_rules.specs.Offsets.{from_position}
use Rattle.reader_offsets.proofs.Numbers.{done}
use Rattle.reader_offsets.proofs.There.{present}
use Rattle.reader_offsets.proofs.Changes.{last_held, last_set}
use Rattle.reader_offsets.specs.Calls.{set_from_call}
use Rattle.reader_offsets.proofs.set_from_to_current_position_in_last_range_state.Goals as goal

pub returns : goal.returns
unfolding set_from_call
returns c =
    let s = c.args.reader in
    let sound = c.in_ok-held.ensures.number in
    let w = last_held s sound (search rules) (present _ _ _ (rw c.in_ok-held.ensures.held at c.last_range.ensures) _ c.in_ok-last.ensures.value) in
    done s _ _ _ sound (lt-ltb 0 s.reader_state.len w.0) refl _ (c.with_range.ensures ∙ last_set s sound (search rules) from_position _ c.in_ok-last.last refl w.1)
