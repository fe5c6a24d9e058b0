-- The sum stays within 1,024, so 26 bytes for each message fit a `usize`.
use Prim.Native.Nat.{◌+◌, ◌-◌}
use Rattle.anchors_cache.specs.Tables.{anchors}
use Rattle.range_reader.proofs.RefusalLaws.{FitTurn}
use Rattle.range_reader.proofs.halfway.all_fit.Given as goal

abbrev pub invariant-loop-at : goal.invariant-loop-at
invariant-loop-at l = FitTurn l.position l.tables (anchors l.first l.len l.tables) l.at (l.first + l.len - l.at) l.sum
