use Rattle.router.proofs.Laws.{twice_next, twice_stop, twice_end}
use mathlib.Core.Path.{sym, ◌∙◌}
use lib.ListN.{length-take}
use native.Mathlib.Omega.{arith}
use Rattle.router.proofs.none_twice.Goals as goal

pub slice_bounds-address-end : goal.slice_bounds-address-end
slice_bounds-address-end c = let h = c.in-Some.ensures.cases.3 in omega (arith, length-take 33 c.in-Some.route.now)

pub returns-in_default-find_row : goal.returns-in_default-find_row
returns-in_default-find_row c =
    let cut = c.in-Some.ensures.cases in
    sym (twice_stop c.loop-route.left.now _ _ cut.0 (cut.1, cut.2) _ c.find_row.ensures _ c.in_default-find_row.is) ∙ c.loop-route.invariant

pub loop-route-preserved : goal.loop-route-preserved
loop-route-preserved c =
    let cut = c.in-Some.ensures.cases in
    sym (twice_next c.loop-route.left.now _ _ cut.0 (cut.1, cut.2) _ c.find_row.ensures c.in-None.is) ∙ c.loop-route.invariant

pub returns : goal.returns
returns c = sym (twice_end _ c.in_default.ensures.cases) ∙ c.loop-route.invariant
