-- What a search in a list of route records finds.
use Rattle.std.specs.Prelude.{ℕ, ◌+◌, ◌-◌, List, [], ◌∷◌, ◌++◌, map, Bool, true, false, not, ◌&&◌, leb, ltb, ℤ, pos, negsuc, length, get_or, take, set, replicate}
use Rattle.rows.specs.Rows.{pick, part, same_bytes}
use Rattle.shard_ident.specs.Shard.{signed_byte, equalℤ}
use Rattle.router.specs.Router.{Answer, max_routes, unless_refused, route_rows, route_partition_of}
use Rattle.by_reference.specs.declared.Route.{Route}

abbrev pub same_route : Route → ℤ → List ℕ → Bool
same_route r workchain account = pick (equalℤ r.workchain workchain) (same_bytes r.account account) false

-- the partition of the first route for the workchain and the account, or 0
abbrev pub first_partition_in : List Route → ℤ → List ℕ → ℕ
first_partition_in [] workchain account = 0
first_partition_in (r ∷ l) workchain account = pick (same_route r workchain account) r.partition (first_partition_in l workchain account)

-- ---- question 3 of the records
-- whether the address is among them
unfoldable pub listed_in : ℤ → List ℕ → List Route → Bool
listed_in workchain account [] = false
listed_in workchain account (r ∷ l) = pick (same_route r workchain account) true (listed_in workchain account l)

-- question 3, one record after the other: fewer than the cap before it, its partition at most 7, and none before it
-- with its workchain and account
unfoldable pub takes_one : List Route → Route → Bool
takes_one before r = ltb (length before) max_routes && (leb r.partition 7 && not (listed_in r.workchain r.account before))

unfoldable pub takes_all : List Route → List Route → Bool
takes_all before [] = true
takes_all before (r ∷ l) = takes_one before r && takes_all (before ++ (r ∷ [])) l

unfoldable pub records_number : List Route → ℕ
records_number l = pick (takes_all [] l) 0 3

-- what the router answers of records: refused by question 3, or the partition of the first, else 0
unfoldable pub get_partition_in : List Route → ℤ → List ℕ → Answer
get_partition_in l workchain account = unless_refused (records_number l) (first_partition_in l workchain account)

-- ---- the rule again, as one walk
-- What the walk over route records has come to: those so far, whether question 3 takes them, and the partition of the
-- first for the workchain and the account.
pub record Walk : Type 0 where
  pub routes : List Route
  pub len : ℕ
  pub sound : Bool
  pub found : Bool
  pub partition : ℕ

abbrev pub empty_route : Route
empty_route = record { workchain = pos 0; account = replicate 32 0; partition = 0 }

unfoldable pub nothing_walked : Walk
nothing_walked = record { routes = replicate max_routes empty_route; len = 0; sound = true; found = false; partition = 0 }

-- whether question 3 takes one record more
unfoldable pub takes_route : Walk → Route → Bool
takes_route w r = w.sound && (ltb w.len max_routes && (leb r.partition 7 && not (listed_in r.workchain r.account (take w.len w.routes))))

abbrev pub with_route : Walk → Route → Bool → ℕ → Walk
with_route w r found partition = record { routes = set w.routes w.len r; len = w.len + 1; sound = true; found = found; partition = partition }

abbrev pub refused_walk : Walk → Walk
refused_walk w = record { routes = w.routes; len = w.len; sound = false; found = w.found; partition = w.partition }

-- one record more: the first for the workchain and the account gives the partition
unfoldable pub walked_on : ℤ → List ℕ → Walk → Route → Walk
walked_on workchain account w r =
    pick (takes_route w r)
    (pick w.found (with_route w r true w.partition) (pick (same_route r workchain account) (with_route w r true r.partition) (with_route w r false w.partition)))
    (refused_walk w)

abbrev pub walked_over : ℤ → List ℕ → Walk → List Route → Walk
walked_over workchain account w [] = w
walked_over workchain account w (r ∷ l) = walked_over workchain account (walked_on workchain account w r) l

abbrev pub walk_answer : Walk → Answer
walk_answer w = pick w.sound (record { number = 0; value = w.partition }) (record { number = 3; value = 0 })

-- the records that rows of 34 bytes hold
abbrev pub route_of : List ℕ → Route
route_of row = record { workchain = signed_byte (get_or row 0 0); account = part 1 32 row; partition = route_partition_of row }

abbrev pub routes_of : List ℕ → List Route
routes_of bytes = map route_of (route_rows bytes)

-- a record, written down as a row
abbrev pub byte_of : ℤ → ℕ
byte_of (pos n) = n
byte_of (negsuc n) = 255 - n

abbrev pub route_row : Route → List ℕ
route_row r = byte_of r.workchain ∷ (r.account ++ (r.partition ∷ []))

unfoldable pub rows_of : List Route → List ℕ
rows_of [] = []
rows_of (r ∷ l) = route_row r ++ rows_of l
