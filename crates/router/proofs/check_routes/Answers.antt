-- The tests in the order of the definition.
use Rattle.rows.proofs.Laws.{rows_length}
use lib.Dec.{leb, eqb}
use mathlib.Core.Bool.{true}
use mathlib.Core.Path.{◌≡◌, sym, ◌∙◌}
use Rattle.router.specs.Router.{route_rows, routes_number, sound_routes, max_routes}
use Prim.Native.Nat.{ℕ, ◌/◌, ◌%◌, ◌≤◌}
use mathlib.Core.List.{List}
use lib.ListN.{length}
use borrow.Author.Tests.{le-leb, lt-leb, eq-eqb, ne_eqb}
use Rattle.router.proofs.check_routes.Goals as goal
use Rattle.router.proofs.check_routes.Goals.{then-routes-ne0-via-then-routes-ne0, then-routes-ne0-via-else-routes-ne0+then-routes-gt-MAX_ROUTES, then-routes-ne0-via-else-routes-ne0+else-routes-gt-MAX_ROUTES+then-not-none_twice, then-routes-ne0-via-else-routes-ne0+else-routes-gt-MAX_ROUTES+else-not-none_twice+then-not-partitions_exist}

-- the first two tests are passed
counted : (l : List ℕ) → length l % 34 ≡ 0 → length l / 34 ≤ max_routes → (eqb (length l % 34) 0 ≡ true) × (leb (length (route_rows l)) max_routes ≡ true)
counted l whole few =
    (eq-eqb (length l % 34) 0 whole, rw (rows_length 34 (length l / 34) l) (le-leb (length l / 34) max_routes few))

pub returns-then-routes-ne0 : goal.returns-then-routes-ne0
unfolding routes_number sound_routes
returns-then-routes-ne0 c =
    let l = c.args.routes.now in
    elim c.then-routes-ne0.branch [
      | then-routes-ne0-via-then-routes-ne0 w ↦ rw (ne_eqb (length l % 34) 0 w.if-routes-ne0.true)
      | then-routes-ne0-via-else-routes-ne0+then-routes-gt-MAX_ROUTES w ↦
          rw (eq-eqb (length l % 34) 0 w.if-routes-ne0.false, rows_length 34 (length l / 34) l, lt-leb (length l / 34) max_routes w.if-routes-gt-MAX_ROUTES.true)
      | then-routes-ne0-via-else-routes-ne0+else-routes-gt-MAX_ROUTES+then-not-none_twice w ↦
          let k = counted l w.if-routes-ne0.false w.if-routes-gt-MAX_ROUTES.false in
          rw (k.0, k.1, sym w.none_twice.ensures ∙ w.if-not-none_twice.true)
      | then-routes-ne0-via-else-routes-ne0+else-routes-gt-MAX_ROUTES+else-not-none_twice+then-not-partitions_exist w ↦
          let k = counted l w.if-routes-ne0.false w.if-routes-gt-MAX_ROUTES.false in
          rw (k.0, k.1, sym w.none_twice.ensures ∙ w.if-not-none_twice.false, sym w.partitions_exist.ensures ∙ w.if-not-partitions_exist.true)
    ]

pub returns : goal.returns
unfolding routes_number sound_routes
returns c =
    let k = counted c.args.routes.now c.if-routes-ne0.false c.if-routes-gt-MAX_ROUTES.false in
    rw (k.0, k.1, sym c.none_twice.ensures ∙ c.if-not-none_twice.false, sym c.partitions_exist.ensures ∙ c.if-not-partitions_exist.false)
