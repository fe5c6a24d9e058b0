use Rattle.anchors_cache.specs.declared.CachedAnchor.{CachedAnchor}
use Rattle.cache_rules.specs.Rules.{pending_up_to}
use Rattle.anchors_cache.specs.Calls.{pending_in_range_call, flag_answer}
use Rattle.anchors_cache.proofs.Laws.{anchors_none, anchors_cons}
use Rattle.anchors_cache.proofs.Asked.{seen_parts, front_decides}
use mathlib.Core.Path.{sym, ap}
use native.Mathlib.Omega.{arith}
use Rattle.anchors_cache.proofs.check_has_pending_externals_in_range.Goals as goal

pub returns-then-c-eq0 : goal.returns-then-c-eq0
unfolding pending_in_range_call flag_answer pending_up_to
returns-then-c-eq0 c =
    let c-args = c.args in
    rw ((sym c.in_ok-check_seen.ensures), anchors_none c-args.t.cache.first c-args.t.cache.len c-args.tables.now (omega arith))

pub anchor_at-front-requires : goal.anchor_at-front-requires
anchor_at-front-requires c =
    let c-args = c.args in
    let p = seen_parts c-args.tables.now c-args.t (sym c.in_ok-check_seen.ensures) in
    (omega (arith, p.anchors_within), p.tall)

pub returns : goal.returns
unfolding pending_in_range_call flag_answer
returns c =
    let c-args = c.args in
    let p = seen_parts c-args.tables.now c-args.t (sym c.in_ok-check_seen.ensures) in
    let w = anchors_cons c-args.t.cache.first c-args.t.cache.len c-args.tables.now (omega arith) in
    rw ((sym c.in_ok-check_seen.ensures), w, front_decides c-args.«up_to».anchor_id _ _ (rw w at p.sound), ap (λ (x : CachedAnchor). x.id) c.anchor_at-front.ensures.0)
