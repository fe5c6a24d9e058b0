use Rattle.anchors_cache.proofs.Asked.{refusal_parts}
use mathlib.Core.Path.{sym}
use native.Mathlib.Omega.{arith}
use lib.ListN.{length}
use Rattle.anchors_cache.proofs.pop_fronts.Goals as goal

pub popped_times-requires : goal.popped_times-requires
popped_times-requires c =
    let c-args = c.args in
    let p = refusal_parts (length c-args.area.now) c-args.tables.now c-args.t (sym c.in_ok-check.ensures) in
    record { tall = p.tall; anchors_within = p.anchors_within; history_within = p.history_within; in_memory = omega (arith, p.in_area) }
