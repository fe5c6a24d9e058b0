use Prim.Native.Nat.{◌+◌, ◌-◌}
use mathlib.Core.Path.{◌≡◌, ap}
use mathlib.Core.Bool.{not}
use native.Mathlib.Omega.{arith}
use Rattle.range_reader.proofs.RefusalLaws.{fit_sum, fit_stop, fit_next}
use Rattle.range_reader.proofs.halfway.all_fit.Goals as goal

pub returns-then-not-starts_within : goal.returns-then-not-starts_within
returns-then-not-starts_within c =
    let l = c.loop-at in
    let t = c.loop-at-test.true in
    fit_stop _ _ _ _ l.at _ l.sum l.invariant _ c.requires.1 (omega arith) c.cached_row-a.ensures _ c.starts_within.ensures (ap not c.if-not-starts_within.true)

pub overflow_add-sum : goal.overflow_add-sum
overflow_add-sum c =
    let l = c.loop-at in
    let t = c.loop-at-test.true in
    omega (arith, c.requires.2, fit_sum _ c.args.room _ _ l.at _ l.sum l.invariant _ c.requires.1 (omega arith) c.cached_row-a.ensures)

pub loop-at-preserved : goal.loop-at-preserved
loop-at-preserved c =
    let a = c.args in
    let l = c.loop-at in
    let t = c.loop-at-test.true in
    let e : a.first + a.len - (l.at + 1) ≡ a.first + a.len - l.at - 1 = omega arith in
    rw e (fit_next _ a.room _ _ l.at _ l.sum l.invariant _ c.requires.1 (omega arith) c.cached_row-a.ensures _ c.starts_within.ensures (ap not c.if-not-starts_within.false))
