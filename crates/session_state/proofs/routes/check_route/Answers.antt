use native.Mathlib.Omega.{arith}
use lib.Seq.{length-take-le}
use Rattle.session_state.proofs.routes.check_route.Goals as goal

pub slice_bounds-find_row-end : goal.slice_bounds-find_row-end
slice_bounds-find_row-end c = omega (arith, length-take-le 33 c.args.p.now (omega (arith, c.if-p-ge-ROUTE_LEN.true)))
