use Rattle.anchors_cache.specs.Calls.{add_info_call, answer}
use Rattle.anchors_cache.proofs.Refused.{done_refused, on_refused}
use Rattle.anchors_cache.proofs.Asked.{info_refusal, info_yes, asked_inside}
use mathlib.Core.Path.{◌≡◌, sym, ◌∙◌}
use lib.ListN.{length}
use borrow.Author.Rules.{rules}
use Rattle.anchors_cache.proofs.add_imported_anchor_info.Goals as goal

pub returns-in_err-check_add_info : goal.returns-in_err-check_add_info
unfolding add_info_call
returns-in_err-check_add_info c = (done_refused _ _ _ c.in_err-check_add_info.ensures _ _ c.from_residual.ensures, sym (on_refused _ _ _ _ c.in_err-check_add_info.ensures))

pub in_history-requires : goal.in_history-requires
in_history-requires c =
    let c-args = c.args in
    let e = sym c.in_ok-check_add_info.ensures in
    let i = asked_inside (length c-args.area.now) c-args.tables.now c-args.t (info_refusal _ _ _ e) in
    let w : length c.info_row-row.result ≡ 52 = search rules in
    (i, w, (info_yes _ _ _ e).0)

pub returns : goal.returns
unfolding add_info_call answer
returns c =
    let c-in-history = c.in_history in
    rw (sym c.in_ok-check_add_info.ensures) (rw (c.with_cache.ensures, c-in-history.ensures.0), c-in-history.ensures.1 ∙ rw c.info_row-row.ensures)
