use lib.Seq.{take_all}
use Rattle.rows.proofs.Laws.{copy_more}
use mathlib.Core.Path.{◌∙◌}
use native.Mathlib.Omega.{arith}
use lib.ListN.{length-set}
use Rattle.rows.proofs.copy_in_place.Goals as goal

pub loop-i-preserved : goal.loop-i-preserved
loop-i-preserved c =
    let s = c.loop-i in
    let a = c.args in
    (omega arith, simp length-set s.invariant.1, rw s.invariant.2 (copy_more _ a.dst.now a.at a.src.now s.i (omega arith)))

pub returns : goal.returns
returns c =
    let s = c.loop-i in
    let a = c.args in
    s.invariant.2 ∙ rw (take_all s.i a.src.now (omega arith))
