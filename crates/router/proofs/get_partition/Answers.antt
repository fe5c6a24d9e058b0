-- Question 3 first; where it is answered yes, the lookup.
use mathlib.Core.Path.{sym}
use Rattle.router.proofs.Laws.{refused_on, answered}
use Rattle.router.proofs.get_partition.Goals as goal

pub returns-in_err-check_routes : goal.returns-in_err-check_routes
returns-in_err-check_routes c = refused_on _ _ _ _ c.from_residual.ensures c.in_err-check_routes.ensures

pub returns : goal.returns
returns c =
    let a = c.args in
    rw c.partition_of.ensures (sym (answered a.routes.now a.message.now (sym c.in_ok-check_routes.ensures)))
