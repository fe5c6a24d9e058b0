use Rattle.anchors_cache.specs.Answers.{InfoAnswer}
use Rattle.anchors_cache.specs.Calls.{trim_call, trim_answer, shown_info}
use Rattle.anchors_cache.proofs.Laws.{trimmed_inside}
use Rattle.anchors_cache.proofs.Asked.{asked_inside}
use mathlib.Core.Path.{sym, ap}
use lib.ListN.{length}
use Rattle.anchors_cache.proofs.remove_last_imported_above.Goals as goal

pub trimmed_cache-c-requires : goal.trimmed_cache-c-requires
trimmed_cache-c-requires c = asked_inside (length c.args.area.now) c.args.tables.now c.args.t (sym c.in_ok-check.ensures)

pub of-requires : goal.of-requires
of-requires c =
    let a = c.args in
    let i = trimmed_inside a.ct.0 a.tables.now a.t.cache (asked_inside (length a.area.now) a.tables.now a.t (sym c.in_ok-check.ensures)) in
    rw c.trimmed_cache-c.ensures (i.2, i.0)

pub returns : goal.returns
unfolding trim_call trim_answer shown_info
returns c =
    let shown = rw (c.of.ensures.0, c.of.ensures.1, c.of.ensures.2) at c.last-answer.ensures in
    rw (
      (sym c.in_ok-check.ensures),
      ap (λ (x : InfoAnswer). x.info) shown,
      ap (λ (x : InfoAnswer). x.author) shown,
      c.with_cache.ensures,
      c.trimmed_cache-c.ensures,
    )
