use mathlib.Core.Path.{sym, ◌∙◌}
use Rattle.anchors_cache.proofs.Asked.{valid_shut, valid_same, equal_window}
use Rattle.anchors_cache.proofs.questions.valid_state.Goals as goal
use Rattle.anchors_cache.proofs.questions.valid_state.Goals.{then-not-t, else-not-t}

pub returns-then-eq : goal.returns-then-eq
returns-then-eq c =
    let a = c.args in
    let now = sym c.valid_cache.ensures ∙ c.if-valid_cache.true in
    c.if-eq.true ∙ sym (elim c.if-not-t.branch [
      | then-not-t w ↦ valid_shut a.places a.tables.now a.t now w.if-not-t.true
      | else-not-t w ↦ valid_same a.places a.tables.now a.t now w.if-not-t.false (equal_window a.t.cache a.t.undo (sym w.eq.ensures ∙ sym w.value-is ∙ c.if-eq.true))
    ])
