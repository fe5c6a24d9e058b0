use Rattle.std.proofs.Common.{sym, arith}
use Rattle.cache_rules.proofs.Lists.{at_ct}
use Rattle.anchors_cache.specs.Tables.{infos}
use Rattle.anchors_cache.specs.Calls.{info_at_ct_call, info_answer}
use Rattle.anchors_cache.proofs.Asked.{seen_inside}
use Rattle.anchors_cache.proofs.Laws.{kept_history, history_kept_le}
use Rattle.anchors_cache.proofs.last_imported_anchor_info_at_ct.Goals as goal

pub of-history-requires : goal.of-history-requires
of-history-requires c = let i = seen_inside c.args.tables.now c.args.t (sym c.in_ok-check_seen.ensures) in (i.2, i.0)

pub shown-requires : goal.shown-requires
shown-requires c =
    let h = c.of-history.result in
    omega (arith, c.kept_len.ensures, history_kept_le c.args.ct.0 h.first h.len h.tables.now)

pub returns : goal.returns
unfolding info_at_ct_call info_answer
returns c =
    let h = c.of-history.result in
    rw (
      sym c.in_ok-check_seen.ensures,
      ← c.of-history.ensures.0,
      ← c.of-history.ensures.1,
      ← c.of-history.ensures.2,
      ← at_ct c.args.ct.0 (infos h.first h.len h.tables.now),
      ← kept_history c.args.ct.0 h.first h.len h.tables.now,
      ← c.kept_len.ensures,
    ) c.shown.ensures
