-- Which partition a message goes to (document 01, "Ours, and which partition"), and question 3.
-- A route is 34 bytes: workchain 1, account 32, partition 1; a message is 33: workchain 1, account 32.
use Rattle.std.specs.Prelude.{ℕ, zero, suc, ◌%◌, List, [], ◌∷◌, Bool, true, false, not, ◌&&◌, ◌||◌, leb, eqb, length, take, get_or, Result, Ok, Err}
use Rattle.refusals.specs.declared.Refusal.{Refusal}
use Rattle.refusals.specs.Refusals.{number_of}
use Rattle.rows.specs.Rows.{pick, same_bytes, whole_rows}

abbrev pub route_rows : List ℕ → List (List ℕ)
route_rows routes = whole_rows 34 routes

-- a route's (workchain, account)
abbrev pub address_of : List ℕ → List ℕ
address_of route = take 33 route

abbrev pub route_partition_of : List ℕ → ℕ
route_partition_of route = get_or route 33 0

-- ---- question 3
-- Document 01, caps: "256 routes"
abbrev pub max_routes : ℕ
max_routes = 256

-- whether a route has this (workchain, account)
unfoldable pub listed : List ℕ → List (List ℕ) → Bool
listed address [] = false
listed address (r ∷ l) = same_bytes (address_of r) address || listed address l

-- no (workchain, account) twice
unfoldable pub none_twice : List (List ℕ) → Bool
none_twice [] = true
none_twice (r ∷ l) = not (listed (address_of r) l) && none_twice l

-- all partitions at most 7
unfoldable pub partitions_exist : List (List ℕ) → Bool
partitions_exist [] = true
partitions_exist (r ∷ l) = leb (route_partition_of r) 7 && partitions_exist l

-- question 3 of the routes
unfoldable pub sound_routes : List (List ℕ) → Bool
sound_routes l = leb (length l) max_routes && (none_twice l && partitions_exist l)

-- question 3's number; bytes that are no whole number of routes are refused by it too
unfoldable pub routes_number : List ℕ → ℕ
routes_number routes = pick (eqb (length routes % 34) 0 && sound_routes (route_rows routes)) 0 3

-- ---- partition
-- the partition of the first route with the message's workchain and account; unlisted means 0
unfoldable pub first_partition : List ℕ → List (List ℕ) → ℕ
first_partition message [] = 0
first_partition message (r ∷ l) = pick (same_bytes (address_of r) message) (route_partition_of r) (first_partition message l)

unfoldable pub partition_of : List ℕ → List ℕ → ℕ
partition_of routes message = first_partition message (route_rows routes)

-- ---- the call
pub record Answer : Type 0 where
  pub number : ℕ
  pub value : ℕ

-- document 01's number and value of a result
abbrev pub answer_of : Result ℕ Refusal → Answer
answer_of (Ok p) = record { number = 0; value = p }
answer_of (Err r) = record { number = number_of r; value = 0 }

-- a refusal gives only the number
unfoldable pub unless_refused : ℕ → ℕ → Answer
unless_refused zero p = record { number = 0; value = p }
unless_refused (suc k) p = record { number = suc k; value = 0 }

unfoldable pub get_partition : List ℕ → List ℕ → Answer
get_partition routes message = unless_refused (routes_number routes) (partition_of routes message)
