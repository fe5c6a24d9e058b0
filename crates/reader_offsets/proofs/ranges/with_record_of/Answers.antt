-- One record of one slot changes.
use Rattle.std.proofs.Common.{◌≡◌, ◌∙◌, ap, sym, length, set, get_or, arith, rules}
use Rattle.std.proofs.lemmas.List.{get_or-take}
use Rattle.range_rules.specs.declared.ExternalsRangeReaderState.{ExternalsRangeReaderState}
use Rattle.reader_rules.specs.State.{held_ranges, max_ranges, no_range}
use Rattle.reader_rules.specs.Offsets.{range_at, with_held, with_record}
use Rattle.reader_offsets.proofs.Held.{held_set}
use Rattle.reader_offsets.proofs.ranges.with_record_of.Goals as goal

pub returns : goal.returns
returns c =
    let s = c.args.reader in
    let i = c.args.at in
    let put = with_record c.args.par_id c.args.held in
    let n : length s.reader_state.ranges ≡ max_ranges = search rules in
    let r : range_at i (held_ranges s.reader_state) ≡ get_or s.reader_state.ranges i no_range = get_or-take s.reader_state.len s.reader_state.ranges i no_range c.requires.0 in
    rw c.put.ensures (held_set s (omega (arith, n, c.requires)) i (put (get_or s.reader_state.ranges i no_range)) c.requires.0 ∙ ap (λ (z : ExternalsRangeReaderState). with_held (set (held_ranges s.reader_state) i (put z)) s) (sym r))
