use Rattle.externals_reader.specs.Ready.{so_far_told}
use Rattle.externals_reader.proofs.TurnLaws.{turn_passed, turn_skipped, turn_ready, turn_lent, turn_refused}
use Rattle.refusals.proofs.Laws.{handed_on}
use Rattle.anchors_cache.specs.Answers.{done_of}
use Rattle.anchors_cache.proofs.Refused.{state_left}
use mathlib.Core.Path.{refl, sym, ◌∙◌}
use Rattle.externals_reader.proofs.turns.turn.Goals as goal

pub returns-then-range : goal.returns-then-range
returns-then-range c = turn_passed _ _ _ _ _ _ c.if-range.true

pub returns-then-is_skipped : goal.returns-then-is_skipped
returns-then-is_skipped c = turn_skipped _ _ _ _ _ _ c.if-range.false (sym c.is_skipped.ensures ∙ c.if-is_skipped.true)

pub returns-in_err-read : goal.returns-in_err-read
returns-in_err-read c =
    let a = c.args in
    turn_refused a.lent.tables.now a.lent.area.now a.t a.lent.routes.now a.x (so_far_told a.s) a.range a.write a.out.now c.requires (done_of a.t c.pop_fronts.result) c.pop_fronts.ensures _ _ (rw (state_left a.t c.unwrap_or-now.result c.pop_fronts.result c.unwrap_or-now.ensures) at c.in_err-read.ensures) c.if-range.false (sym c.is_skipped.ensures ∙ c.if-is_skipped.false) _ _ (handed_on _ _ c.from_residual.ensures) refl

pub after_turn-requires : goal.after_turn-requires
after_turn-requires c =
    let a = c.args in
    let r = turn_ready a.lent.tables.now a.lent.area.now a.t a.lent.routes.now a.x (so_far_told a.s) a.range a.write a.out.now c.requires (done_of a.t c.pop_fronts.result) c.pop_fronts.ensures _ _ (rw (state_left a.t c.unwrap_or-now.result c.pop_fronts.result c.unwrap_or-now.ensures) at c.in_ok-read.ensures) in
    record { counts = r.counts; pops = r.pops; used = r.used }

pub returns : goal.returns
returns c =
    let a = c.args in
    turn_lent a.lent.tables.now a.lent.area.now a.t a.lent.routes.now a.x (so_far_told a.s) a.range a.write a.out.now c.requires (done_of a.t c.pop_fronts.result) c.pop_fronts.ensures _ _ (rw (state_left a.t c.unwrap_or-now.result c.pop_fronts.result c.unwrap_or-now.ensures) at c.in_ok-read.ensures) c.if-range.false (sym c.is_skipped.ensures ∙ c.if-is_skipped.false) _ (c.after_turn.ensures a.range)
