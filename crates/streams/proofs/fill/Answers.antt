use Rattle.std.proofs.Common.{rules, subst}
use Rattle.std.specs.Io.KnownBytes.{Consumes}
use Rattle.std.proofs.KnownBytes.{Consumes-trans}
use Rattle.streams.proofs.Fronts.{front_replaced}
use Rattle.streams.proofs.fill.Goals as goal

pub loop-n-preserved : goal.loop-n-preserved
loop-n-preserved g c =
    let before = c.loop-n.invariant in
    let read = rw c.in-Ok-Some.field-0-is at c.in-Ok-Some.ensures in
    let front = front_replaced _ _ _ _ c.read.new.bytes before.1 read.within.1 in
    (search rules, search rules, subst (Consumes _ _) front (Consumes-trans _ _ _ _ _ before.2 read.taken))
