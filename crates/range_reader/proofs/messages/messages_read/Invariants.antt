-- The invariant says that what is left to walk comes to the whole walk, with the entries written so far; the walk is
-- what the locals stand for.
use Rattle.range_reader.proofs.LocalLaws.{LocalTurn}
use Prim.Native.Nat.{◌-◌, ◌/◌}
use lib.ListN.{length}
use Rattle.range_reader.proofs.messages.messages_read.Given as goal

abbrev pub invariant-loop-offset : goal.invariant-loop-offset
invariant-loop-offset l = LocalTurn l.x l.routes l.time l.rest (length l.rest / 33) l.write l.initial.out l.fn.w l.out l.offset l.b l.partitions l.read l.buffered l.at

abbrev pub decreases-loop-offset : goal.decreases-loop-offset
decreases-loop-offset l = l.end - l.offset
