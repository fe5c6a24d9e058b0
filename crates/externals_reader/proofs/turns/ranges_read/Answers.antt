use Rattle.std.proofs.Common.{rules, arith, drop, sym, ◌∙◌, ◌++◌}
use Rattle.refusals.proofs.Laws.{handed_on}
use Rattle.externals_reader.proofs.TurnLaws.{part_done, part_long, part_stopped, wrote_told, next_room, next_ready, all_done, all_refused, next_done, next_refused, window_fits}
use Rattle.reader_rules.specs.Rules.{at_entry, read_of, turns}
use Rattle.range_rules.specs.Rules.{silent}
use Rattle.range_reader.specs.Ready.{Wrote}
use Rattle.externals_reader.specs.Calls.{window_read}
use Rattle.externals_reader.specs.Ready.{so_far_told}
use Rattle.externals_reader.proofs.turns.ranges_read.Goals.{In_ok-so_far}
use Rattle.externals_reader.proofs.turns.ranges_read.Goals as goal

-- what the turns of all have come to
turned : (c : In_ok-so_far) → let a = c.args in
    Wrote a.write 0 a.out.now c.turns_taken.new.out (read_of (so_far_told c.in_ok-so_far.so_far) (c.turns_taken.new.ranges ++ drop a.start.len a.start.ranges) a.start.len) (turns (window_read a.lent.tables.now a.lent.area.now a.t a.lent.routes.now a.x) a.x a.start.len 0 (silent (at_entry a.start)))
turned c =
    let a = c.args in
    part_done _ _ _ a.start.ranges a.start.len (omega arith) _ _ _ _ (c.in_ok-so_far.ensures (drop a.start.len a.start.ranges))

pub returns-in_err-so_far : goal.returns-in_err-so_far
returns-in_err-so_far c =
    let a = c.args in
    let w = c.in_err-so_far.ensures (drop a.start.len a.start.ranges) in
    all_refused _ (window_fits a.lent.tables.now a.lent.area.now a.t a.lent.routes.now a.x) _ _ _ _ c.requires _ _ (part_stopped _ _ _ a.start.ranges a.start.len (omega arith) _ _ _ (record { value = w.value; out = w.out })) _ (handed_on _ _ c.from_residual.ensures)

pub returns-then-not-wants_next : goal.returns-then-not-wants_next
returns-then-not-wants_next c =
    let a = c.args in
    let w = turned (goal.at.returns-then-not-wants_next c).In_ok-so_far in
    wrote_told _ _ _ _ _ (all_done _ (window_fits a.lent.tables.now a.lent.area.now a.t a.lent.routes.now a.x) _ _ _ _ c.requires _ _ _ _ w (sym (c.wants_next.ensures _ c.last_range-last.ensures) ∙ c.if-not-wants_next.true))

pub turn-requires : goal.turn-requires
turn-requires c =
    let a = c.args in
    let w = turned (goal.at.turn-requires c).In_ok-so_far in
    next_ready _ (window_fits a.lent.tables.now a.lent.area.now a.t a.lent.routes.now a.x) _ _ _ _ c.requires _ _ _ _ w

pub returns-in_err-more : goal.returns-in_err-more
returns-in_err-more c =
    let a = c.args in
    let w = turned (goal.at.returns-in_err-more c).In_ok-so_far in
    let last = c.last_range-last.ensures in
    next_refused _ (window_fits a.lent.tables.now a.lent.area.now a.t a.lent.routes.now a.x) _ _ _ _ c.requires _ _ _ _ w (sym (c.wants_next.ensures _ last) ∙ c.if-not-wants_next.false) (part_long a.start.ranges _ a.start.len (omega arith) c.turns_taken.auto.ranges (search rules)) _ (c.appended_range-fresh.ensures _ a.start.len last) _ _ c.in_err-more.ensures _ (handed_on _ _ c.from_residual-in_err-more.ensures)

pub bounds-ranges-len : goal.bounds-ranges-len
bounds-ranges-len c =
    let a = c.args in
    let w = turned (goal.at.bounds-ranges-len c).In_ok-so_far in
    next_room _ (window_fits a.lent.tables.now a.lent.area.now a.t a.lent.routes.now a.x) _ _ _ _ c.requires _ _ _ _ w (sym (c.wants_next.ensures _ c.last_range-last.ensures) ∙ c.if-not-wants_next.false)

pub returns : goal.returns
returns c =
    let a = c.args in
    let w = turned (goal.at.returns c).In_ok-so_far in
    let last = c.last_range-last.ensures in
    wrote_told _ _ _ _ _ (next_done _ (window_fits a.lent.tables.now a.lent.area.now a.t a.lent.routes.now a.x) _ _ _ _ c.requires _ _ _ _ w (sym (c.wants_next.ensures _ last) ∙ c.if-not-wants_next.false) (part_long a.start.ranges _ a.start.len (omega arith) c.turns_taken.auto.ranges (search rules)) _ (c.appended_range-fresh.ensures _ a.start.len last) _ _ c.in_ok-more.ensures)
