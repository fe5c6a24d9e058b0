use Rattle.rows.specs.Rows.{part}
use Rattle.rows.proofs.Laws.{part_length}
use Prim.Native.Nat.{◌+◌, ◌-◌}
use mathlib.Core.Path.{◌≡◌, ◌∙◌}
use native.Mathlib.Omega.{arith}
use lib.ListN.{length}
use lib.Seq.{sets-eq}
use Rattle.rows.proofs.move_down_in.Goals as goal

pub returns : goal.returns
returns c =
    let a = c.args in
    let e : a.from + a.n - a.from ≡ a.n = omega arith in
    let k : length (part a.from a.n a.s.now) ≡ a.n = part_length a.s.now a.from a.n (omega arith) in
    c.copy_within.ensures.after ∙ rw (e, sets-eq (part a.from a.n a.s.now) a.s.now a.to (omega arith), k)
