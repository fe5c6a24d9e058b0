-- Invariant: storing what is left of the number from here on gives what the call is to give.
use lib.Seq.{sets}
use Rattle.rows.specs.Rows.{le}
use Prim.Native.Nat.{◌+◌, ◌-◌, ◌≤◌}
use mathlib.Core.Path.{◌≡◌}
use lib.ListN.{length}
use Rattle.rows.proofs.put_le_in.Given as goal

abbrev pub invariant-loop-i : goal.invariant-loop-i
invariant-loop-i l =
    (l.i ≤ l.k) × (length l.out ≡ length l.initial.out) × (sets l.out (l.at + l.i) (le (l.k - l.i) l.rest) ≡ sets l.initial.out l.at (le l.k l.v))
