use Rattle.std.proofs.Common.{length, take, drop, ◌-◌, ◌≤◌, ◌≡◌}
use Rattle.std.specs.Io.KnownBytes.{Appends}
use Rattle.streams.proofs.write_all.Given as goal

abbrev pub invariant-loop : goal.invariant-loop
invariant-loop g l = (length l.left ≤ length l.bytes) × (l.left ≡ drop (length l.bytes - length l.left) l.bytes) × Appends (g.W.Write.contents l.initial.output) (g.W.Write.contents l.output) (take (length l.bytes - length l.left) l.bytes)
