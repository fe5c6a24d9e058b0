-- Invariant: the first i bytes of src are stored.
use lib.Seq.{sets}
use Prim.Native.Nat.{◌≤◌}
use mathlib.Core.Path.{◌≡◌}
use lib.ListN.{length, take}
use Rattle.rows.proofs.copy_in_place.Given as goal

abbrev pub invariant-loop-i : goal.invariant-loop-i
invariant-loop-i l = (l.i ≤ length l.src) × (length l.dst ≡ length l.initial.dst) × (l.dst ≡ sets l.initial.dst l.at (take l.i l.src))
