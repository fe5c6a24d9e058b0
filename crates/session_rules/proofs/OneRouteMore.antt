-- The test of one route more is question 3 of all the routes with it.
use Prim.Native.Nat.{ℕ, ◌+◌, ◌*◌, ◌/◌, ◌%◌, ◌≤◌}
use mathlib.Core.Path.{◌≡◌, refl, ap, ◌∙◌}
use mathlib.Core.Bool.{Bool, true, false, not, ◌||◌}
use mathlib.Core.List.{List, [], ◌∷◌, ◌++◌}
use native.Mathlib.Omega.{arith}
use lib.ListN.{length, take, drop, length-append}
use lib.Seq.{length-take-le, sets-eq, take_at}
use Rattle.std.proofs.lemmas.Bool.Decides.{nat_tests}
use borrow.Author.Tests.{eq-eqb}
use Rattle.std.specs.Prelude.{Option, Some, None}
use Rattle.rows.specs.Rows.{pick, rows, same_bytes, later, find_row}
use Rattle.rows.proofs.Laws.{pick_yes, rows_length, rows_snoc, written_in}
use Rattle.router.proofs.Laws.{question_3_of_one_row_more}
use Rattle.router.specs.Router.{route_rows, listed, none_twice, partitions_exist, sound_routes, routes_number}
use Rattle.session_rules.specs.Said.{Said, after_or_bad, is_nothing, route_number, placed_number, routes_with, route_said, routes_after}
use Rattle.session_rules.specs.declared.Session.{Session}

-- a row is found exactly if its address is listed
listed_found : (a : List ℕ) (l : List (List ℕ)) → length a ≡ 33 → listed a l ≡ not (is_nothing (find_row a l))
unfolding listed find_row
listed_found a [] e = refl
listed_found a (r ∷ l) e = rw e (go (same_bytes (take 33 r) a) (find_row a l) (listed_found a l e))
  where
    go : (b : Bool) (f : Option ℕ) → listed a l ≡ not (is_nothing f) → (b || listed a l) ≡ not (is_nothing (pick b (Some 0) (later 1 f)))
    go true f h = refl
    go false (Some i) h = h
    go false None h = h

-- what question 3 says of whole rows
asked_parts : (known : List ℕ) → routes_number known ≡ 0 → (length known % 34 ≡ 0) × (sound_routes (route_rows known) ≡ true)
unfolding routes_number
asked_parts known e = grind (arith, nat_tests)

-- Where the known routes are as question 3 wants them, the test of one more says what question 3 says of all.
pub question_3_of_the_routes_with_one_more : (known p : List ℕ) → routes_number known ≡ 0 → length p ≡ 34 → routes_number (known ++ p) ≡ route_number known p
unfolding routes_number route_number
question_3_of_the_routes_with_one_more known p e long =
    let n = length known / 34 in
    let k = asked_parts known e in
    let w : length known ≡ 34 * n = omega (arith, k.0) in
    let all : length (known ++ p) ≡ 34 * (n + 1) = length-append known p ∙ (omega arith) in
    let z : 34 * (n + 1) % 34 ≡ 0 = omega arith in
    let d : 34 * (n + 1) / 34 ≡ n + 1 = omega arith in
    let address : length (take 33 p) ≡ 33 = length-take-le 33 p (omega arith) in
    let s = rows_snoc 34 n known p w long in
    rw (all, z, d, s, question_3_of_one_row_more (rows 34 n known) p k.1, rows_length 34 n known, listed_found (take 33 p) (rows 34 n known) address, long)
    (grind arith)

-- ---- the lent routes of a session
pub placed_parts : (n : ℕ) (routes p : List ℕ) → placed_number n routes p ≡ 0 → (n + length p ≤ length routes) × (route_number (take n routes) p ≡ 0)
unfolding placed_number
placed_parts n routes p e = grind (arith, nat_tests)

pub the_routes_before_the_first_answer_question_3 : (routes : List ℕ) → routes_number (take 0 routes) ≡ 0
unfolding routes_number sound_routes none_twice partitions_exist rows
the_routes_before_the_first_answer_question_3 routes = refl

-- a route that is listed stands behind those that were, and question 3 is answered yes of all
pub a_listed_route_stands_behind_the_others : (n : ℕ) (routes p : List ℕ) → length p ≡ 34 → placed_number n routes p ≡ 0 → take (n + 34) (routes_with n routes p) ≡ take n routes ++ p
unfolding routes_with
a_listed_route_stands_behind_the_others n routes p long e =
    let h = (placed_parts n routes p e).0 in
    let k : length (take n routes ++ p) ≡ n + 34 = length-append (take n routes) p ∙ (let j = length-take-le n routes (omega arith) in omega arith) in
    rw (e, written_in n p routes h, sets-eq p routes n h) (take_at (take n routes ++ p) (drop (n + length p) routes) (n + 34) k)

pub the_listed_routes_answer_question_3 : (n : ℕ) (routes p : List ℕ) → routes_number (take n routes) ≡ 0 → length p ≡ 34 → placed_number n routes p ≡ 0
    → routes_number (take (n + 34) (routes_with n routes p)) ≡ 0
the_listed_routes_answer_question_3 n routes p known long e =
    ap routes_number (a_listed_route_stands_behind_the_others n routes p long e)
    ∙ (question_3_of_the_routes_with_one_more (take n routes) p known long ∙ (placed_parts n routes p e).1)

-- what a read is then lent as routes: those before, and the new one
pub a_taken_route_is_listed_behind_the_others : (s : Session) (routes p : List ℕ) → length p ≡ 34 → placed_number s.routes_len routes p ≡ 0
    → take (route_said s routes p).session.routes_len (routes_after s routes p) ≡ take s.routes_len routes ++ p
unfolding route_said after_or_bad
a_taken_route_is_listed_behind_the_others s routes p long e =
    ap (λ (q : Said). take q.session.routes_len (routes_after s routes p)) (pick_yes _ _ _ (eq-eqb (placed_number s.routes_len routes p) 0 e))
    ∙ a_listed_route_stands_behind_the_others s.routes_len routes p long e
