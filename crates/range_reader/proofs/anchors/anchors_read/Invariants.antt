-- The invariant says that what is left to read comes to the whole read; each look that does not end it popped one
-- anchor.
use Rattle.range_rules.specs.Rules.{anchors_read, silent}
use Rattle.range_reader.specs.Ready.{range_told}
use Rattle.range_reader.proofs.AnchorLaws.{RangeTurn}
use Rattle.anchors_cache.specs.Tables.{with_messages, anchors}
use Prim.Native.Nat.{◌*◌}
use lib.ListN.{drop}
use Rattle.range_reader.proofs.anchors.anchors_read.Given as goal

abbrev pub invariant-loop-a : goal.invariant-loop-a
invariant-loop-a l =
    RangeTurn l.x l.lent.routes.now l.lent.tables.now l.lent.area.now l.write l.initial.out l.initial.r.walk.buffers.used (anchors_read l.x l.lent.routes.now (with_messages (drop (33 * l.initial.place) l.lent.area.now) (anchors l.initial.at l.initial.left l.lent.tables.now)) (silent (range_told l.initial.r))) l.out (range_told l.r) l.at l.left l.place

abbrev pub decreases-loop-a : goal.decreases-loop-a
decreases-loop-a l = l.left
