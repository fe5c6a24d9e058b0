use Rattle.std.proofs.Common.{sym}
use Rattle.anchors_cache.proofs.Asked.{seen_inside}
use Rattle.anchors_cache.proofs.last_imported_anchor_info.Goals as goal

pub of-requires : goal.of-requires
of-requires c = let i = seen_inside c.args.tables.now c.args.t (sym c.in_ok-check_seen.ensures) in (i.2, i.0)
