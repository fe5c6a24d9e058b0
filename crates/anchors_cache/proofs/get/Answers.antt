use Rattle.std.proofs.Common.{sym, arith}
use Rattle.anchors_cache.proofs.Asked.{seen_inside, seen_parts}
use Rattle.anchors_cache.proofs.get.Goals as goal

pub of-requires : goal.of-requires
of-requires c = let i = seen_inside c.args.tables.now c.args.t (sym c.in_ok-check_seen.ensures) in (i.1, i.0)

pub shown-requires : goal.shown-requires
shown-requires c =
    let p = seen_parts c.args.tables.now c.args.t (sym c.in_ok-check_seen.ensures) in
    omega (arith, p.in_area)
