use Rattle.anchors_cache.specs.Calls.{add_call, answer}
use Rattle.anchors_cache.proofs.Refused.{done_refused, on_refused}
use Rattle.anchors_cache.proofs.Asked.{add_asks}
use mathlib.Core.Path.{sym}
use Rattle.anchors_cache.proofs.add.Goals as goal

pub returns-in_err-check_add : goal.returns-in_err-check_add
unfolding add_call
returns-in_err-check_add c =
    let e = c.in_err-check_add.ensures in
    (done_refused _ _ _ e _ _ c.from_residual.ensures, sym (on_refused _ _ _ _ e), sym (on_refused _ _ _ _ e))

pub added_cache-cache-requires : goal.added_cache-cache-requires
added_cache-cache-requires c =
    let c-args = c.args in
    add_asks c-args.area.now c-args.tables.now c-args.t c-args.anchor.id c-args.our_exts_count c-args.messages.now (sym c.in_ok-check_add.ensures)

pub returns : goal.returns
unfolding add_call answer
returns c =
    let c-added = c.added_cache-cache in
    rw (sym c.in_ok-check_add.ensures) (rw (c.with_cache.ensures, c-added.ensures.0), c-added.ensures.1, c-added.ensures.2)
