use Rattle.std.proofs.Common.{◌+◌, ◌-◌, arith}
use Rattle.anchors_cache.specs.Calls.{shown_anchor}
use Rattle.anchors_cache.proofs.Laws.{anchors_none, anchors_cons, anchors_drop, anchors_take}
use Rattle.anchors_cache.proofs.anchors.Anchors.shown.Goals as goal

pub returns-then-self-i : goal.returns-then-self-i
unfolding shown_anchor
returns-then-self-i c =
    let a = c.args in
    let s = a.self in
    rw (anchors_drop s.first a.i s.len s.tables.now, anchors_none (s.first + a.i) (s.len - a.i) s.tables.now (omega arith))

pub returns : goal.returns
unfolding shown_anchor
returns c =
    let a = c.args in
    let s = a.self in
    rw (
      anchors_take s.first a.i s.len s.tables.now (omega arith),
      anchors_drop s.first a.i s.len s.tables.now,
      anchors_cons (s.first + a.i) (s.len - a.i) s.tables.now (omega arith),
      c.anchor_at-value.ensures.0,
      c.count_before.ensures.0,
      c.anchor_author-author.ensures,
    )
