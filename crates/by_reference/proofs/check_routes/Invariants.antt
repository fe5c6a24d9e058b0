use Rattle.std.proofs.Common.{◌≡◌, take, drop, []}
use Rattle.by_reference.specs.Search.{takes_all}
use Rattle.by_reference.proofs.check_routes.Given as goal

-- Question 3 takes the records left behind those so far exactly if it takes them all.
abbrev pub invariant-loop-i : goal.invariant-loop-i
invariant-loop-i l = takes_all (take l.i l.routes) (drop l.i l.routes) ≡ takes_all [] l.routes
