use Rattle.anchors_cache.proofs.Asked.{info_refused, info_asked}
use Rattle.refusals.proofs.Laws.{refused_is_not_done}
use Rattle.anchors_cache.proofs.Refused.{number_refused}
use mathlib.Core.Path.{sym, ◌∙◌, ap}
use mathlib.Core.Bool.{Bool, not}
use borrow.Author.Tests.{lt-ltb, le-ltb}
use Rattle.cache_rules.specs.Rules.{ask}
use Rattle.anchors_cache.proofs.questions.check_add_info.Goals as goal

pub returns-in_err-check : goal.returns-in_err-check
returns-in_err-check c =
    let a = c.args in
    let e = c.in_err-check.ensures in
    number_refused _ _ _ c.from_residual.ensures (e ∙ sym (info_refused a.n a.tables.now a.t (λ z. refused_is_not_done _ (e ∙ z))))

pub returns-then-t-ge-MAX_HISTORY : goal.returns-then-t-ge-MAX_HISTORY
returns-then-t-ge-MAX_HISTORY c =
    let c-args = c.args in
    sym (info_asked c-args.n c-args.tables.now c-args.t (sym c.in_ok-check.ensures) ∙ rw (le-ltb _ _ c.if-t-ge-MAX_HISTORY.true))

pub returns-then-t : goal.returns-then-t
returns-then-t c =
    let c-args = c.args in
    sym (info_asked c-args.n c-args.tables.now c-args.t (sym c.in_ok-check.ensures) ∙ rw (lt-ltb _ _ c.if-t-ge-MAX_HISTORY.false) (ap (λ (b : Bool). ask 9 (not b) 0) c.if-t.true))

pub returns : goal.returns
returns c =
    let c-args = c.args in
    sym (info_asked c-args.n c-args.tables.now c-args.t (sym c.in_ok-check.ensures) ∙ rw (lt-ltb _ _ c.if-t-ge-MAX_HISTORY.false) (ap (λ (b : Bool). ask 9 (not b) 0) c.if-t.false))
