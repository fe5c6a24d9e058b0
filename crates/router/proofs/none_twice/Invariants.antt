-- Invariant: none twice among the routes left exactly if none twice among all.
use Rattle.router.specs.Router.{route_rows, none_twice}
use mathlib.Core.Path.{◌≡◌}
use lib.ListN.{length}
use Rattle.router.proofs.none_twice.Given as goal

abbrev pub invariant-loop-route : goal.invariant-loop-route
invariant-loop-route l = none_twice (route_rows l.left) ≡ none_twice (route_rows l.routes)

abbrev pub decreases-loop-route : goal.decreases-loop-route
decreases-loop-route l = length l.left
