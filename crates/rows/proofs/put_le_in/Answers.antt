use Rattle.rows.proofs.Laws.{le_more, le_none}
use Prim.Native.Nat.{◌+◌, ◌-◌}
use mathlib.Core.Path.{◌≡◌, sym, ◌∙◌}
use native.Mathlib.Omega.{arith}
use lib.ListN.{length-set}
use Rattle.rows.proofs.put_le_in.Goals as goal

pub loop-i-preserved : goal.loop-i-preserved
loop-i-preserved c =
    let s = c.loop-i in
    let a = c.args in
    let here : a.at + (s.i + 1) ≡ a.at + s.i + 1 = omega arith in
    let left : a.k - (s.i + 1) ≡ a.k - s.i - 1 = omega arith in
    (omega arith, simp length-set s.invariant.1, rw (here, left) (sym (le_more s.out (a.at + s.i) (a.k - s.i) s.rest (omega arith)) ∙ s.invariant.2))

pub returns : goal.returns
returns c =
    let s = c.loop-i in
    let a = c.args in
    sym (le_none s.out (a.at + s.i) (a.k - s.i) s.rest (omega arith)) ∙ s.invariant.2
