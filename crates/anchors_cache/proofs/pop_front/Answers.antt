use Rattle.anchors_cache.specs.Answers.{AnchorAnswer}
use Rattle.anchors_cache.specs.Tables.{anchors_of}
use Rattle.anchors_cache.specs.Calls.{pop_call, pop_answer}
use Rattle.anchors_cache.proofs.Asked.{asked_inside, inside, refusal_parts}
use Rattle.anchors_cache.proofs.Answers.{front_shown}
use mathlib.Core.Path.{sym, ap, ◌∙◌}
use native.Mathlib.Omega.{arith}
use lib.ListN.{length}
use Rattle.anchors_cache.proofs.pop_front.Goals as goal

pub of-requires : goal.of-requires
of-requires c = let i = asked_inside (length c.args.area.now) c.args.tables.now c.args.t (sym c.in_ok-check.ensures) in (i.1, i.0)

pub shown-answer-requires : goal.shown-answer-requires
shown-answer-requires c =
    let p = refusal_parts (length c.args.area.now) c.args.tables.now c.args.t (sym c.in_ok-check.ensures) in
    omega (arith, p.in_area)

pub popped_cache-requires : goal.popped_cache-requires
popped_cache-requires c =
    let p = refusal_parts (length c.args.area.now) c.args.tables.now c.args.t (sym c.in_ok-check.ensures) in
    (inside _ _ _ p, omega (arith, p.in_area))

pub returns : goal.returns
unfolding pop_call pop_answer
returns c =
    let c-args = c.args in
    let shown = rw (c.of.ensures.0, c.of.ensures.1, c.of.ensures.2) at c.shown-answer.ensures in
    let f = front_shown c-args.t.cache.base (anchors_of c-args.tables.now c-args.t.cache) in
    rw (
      (sym c.in_ok-check.ensures),
      ap (λ (x : AnchorAnswer). x.anchor) shown ∙ f.0,
      ap (λ (x : AnchorAnswer). x.author) shown ∙ f.1,
      c.with_cache-state.ensures,
      c.popped_cache.ensures,
    )
