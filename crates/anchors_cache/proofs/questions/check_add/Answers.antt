use Rattle.anchors_cache.proofs.Asked.{add_refused, asked_inside}
use Rattle.refusals.proofs.Laws.{refused_is_not_done}
use Rattle.anchors_cache.proofs.Refused.{number_refused}
use mathlib.Core.Path.{sym, ◌∙◌}
use Rattle.anchors_cache.proofs.questions.check_add.Goals as goal

pub returns-in_err-check : goal.returns-in_err-check
returns-in_err-check c =
    let a = c.args in
    let e = c.in_err-check.ensures in
    number_refused _ _ _ c.from_residual.ensures (e ∙ sym (add_refused a.n a.tables.now a.t a.id a.ours a.k (λ z. refused_is_not_done _ (e ∙ z))))

pub of-anchors-requires : goal.of-anchors-requires
of-anchors-requires c = let i = asked_inside c.args.n c.args.tables.now c.args.t (sym c.in_ok-check.ensures) in (i.1, i.0)
