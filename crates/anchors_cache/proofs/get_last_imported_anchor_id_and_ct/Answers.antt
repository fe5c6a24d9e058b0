use Rattle.anchors_cache.specs.Calls.{last_id_call, last_info_call}
use Rattle.refusals.proofs.Laws.{handed_on}
use Rattle.anchors_cache.proofs.Answers.{ids_of, ids_answered, ids_mapped}
use mathlib.Core.Path.{ap, ◌∙◌}
use borrow.Author.Rules.{rules}
use Rattle.anchors_cache.proofs.get_last_imported_anchor_id_and_ct.Goals as goal

pub returns-in_err-last : goal.returns-in_err-last
unfolding last_info_call last_id_call
returns-in_err-last c = rw (handed_on _ _ c.from_residual.ensures) (ap ids_of c.in_err-last.ensures ∙ ids_answered _ _)

pub returns : goal.returns
unfolding last_info_call last_id_call
returns c =
    ap (λ l. record { number = 0; last = l }) (ids_mapped c.in_ok-last.last c.map.result (λ x y q. search rules) c.map.ensures.cases)
    ∙ ap ids_of c.in_ok-last.ensures ∙ ids_answered _ _
