-- Laws of the router.
use Rattle.std.proofs.lemmas.Bool.{and_parts}
use Prim.Native.Nat.{ℕ, ◌+◌, ◌-◌, ◌/◌, ◌%◌, ◌≤◌, ◌<◌}
use mathlib.Core.Path.{◌≡◌, refl, sym, ap, ◌∙◌}
use mathlib.Core.List.Memᴰ
use mathlib.Core.List.{List, [], ◌∷◌, ◌++◌, Memᴰ}
use mathlib.Core.Bool.{Bool, true, false, cond, not, ◌&&◌, ◌||◌}
use mathlib.Core.Logic.{⊎_elim, ◌⊎◌, inl, inr}
use native.Mathlib.Omega.{arith}
use native.Mathlib.Nat.{mul-div-le}
use lib.Dec.{leb, ltb, eqb}
use lib.ListN.{length, take, drop, get_or, length-drop, length-take, length-append}
use borrow.Author.Tests.{leb-true, leb-false, le-leb, lt-leb, lt-ltb, le-ltb}
use Rattle.rows.specs.Rows.{pick, rows, same_bytes, starts_with, later, find_row}
use Rattle.std.specs.Prelude.{Option, Some, None}
use Rattle.rows.proofs.Laws.{same_refl, same_true, same_length, rows_cons, rows_wide}
use Rattle.router.specs.Router.{route_rows, address_of, route_partition_of, listed, none_twice, partitions_exist, sound_routes, routes_number, first_partition, partition_of, answer_of, unless_refused, get_partition, max_routes, Answer}
use Rattle.std.specs.Prelude.{Result, Ok, Err}
use Rattle.std.specs.List.{list_all, find}
use Rattle.std.specs.Option.{MatchOption, option_map}
use denote.Ref.{Bor}
use Rattle.std.specs.Result.{IsErr, IsErrAnd}
use Rattle.refusals.specs.declared.Refusal.{Refusal}
use Rattle.refusals.specs.declared.Refusal.TheVariants.{RoutesUnsound}
use Rattle.refusals.specs.Refusals.{number_of}
use Rattle.refusals.proofs.Laws.{refused_is_not_done, handed_on}

-- ---- a message's row
-- the partition of a route that the library found
found_partition : Option (List ℕ) → ℕ
found_partition (Some r) = route_partition_of r
found_partition None = 0

first_found : (m : List ℕ) (l : List (List ℕ)) → length m ≡ 33 → found_partition (find (starts_with m) l) ≡ first_partition m l
unfolding first_partition found_partition
first_found m [] e = refl
first_found m (r ∷ l) e = rw e (go (same_bytes (take 33 r) m) (first_found m l e))
  where
    go : (b : Bool) → found_partition (find (starts_with m) l) ≡ first_partition m l → found_partition (cond b (Some r) (find (starts_with m) l)) ≡ pick b (route_partition_of r) (first_partition m l)
    go true h = refl
    go false h = h

-- A message's partition stands in the route that is found.
pub partition_is_that_of_the_row_found : (routes m : List ℕ) (P : Bor (List ℕ) → Type 0) (o : Option (Bor (List ℕ))) (n : ℕ) → length m ≡ 33 → option_map (λ x. x.now) o ≡ find (starts_with m) (route_rows routes)
    → ((x : Bor (List ℕ)) → P x → n ≡ get_or x.now 33 0) → MatchOption o (n ≡ 0) P → n ≡ partition_of routes m
unfolding partition_of found_partition
partition_is_that_of_the_row_found routes m P None n e f k h = h ∙ (ap found_partition f ∙ first_found m (route_rows routes) e)
partition_is_that_of_the_row_found routes m P (Some x) n e f k h = k x h ∙ (ap found_partition f ∙ first_found m (route_rows routes) e)

-- A message that is not 33 bytes long is unlisted.
first_short : (m : List ℕ) (l : List (List ℕ)) → (length m ≡ 33 → ⊥) → ((r : List ℕ) → Memᴰ r l → length r ≡ 34) → first_partition m l ≡ 0
unfolding first_partition
first_short m [] p q = refl
first_short m (r ∷ l) p q =
    let k : length r ≡ 34 = q r (Memᴰ.head refl) in
    let d : (length (take 33 r) ≡ length m → ⊥) = λ e. p (omega (arith, length-take 33 r, e)) in
    rw (same_length (take 33 r) m d) (first_short m l p (λ x h. q x (Memᴰ.tail h)))

pub unlisted_where_not_33_bytes : (routes m : List ℕ) → (length m ≡ 33 → ⊥) → partition_of routes m ≡ 0
unfolding partition_of
unlisted_where_not_33_bytes routes m p = first_short m (route_rows routes) p (λ r h. rows_wide 34 (length routes / 34) routes r (mul-div-le (length routes) 34) h)

-- ---- question 3, row by row
is_at : Option ℕ → Bool
is_at (Some i) = true
is_at None = false

listed_found : (a : List ℕ) (l : List (List ℕ)) → length a ≡ 33 → listed a l ≡ is_at (find_row a l)
unfolding listed find_row is_at
listed_found a [] e = refl
listed_found a (r ∷ l) e = rw e (go (same_bytes (take 33 r) a) (find_row a l) (listed_found a l e))
  where
    go : (b : Bool) (f : Option ℕ) → listed a l ≡ is_at f → (b || listed a l) ≡ is_at (pick b (Some 0) (later 1 f))
    go true f h = refl
    go false (Some i) h = h
    go false None h = h

-- the loop over the routes: l are the bytes that are left, one route and those behind it
module _ (l route behind : List ℕ) (some : 34 ≤ length l) (cut : (route ≡ take 34 l) × (behind ≡ drop 34 l)) where
  one_route : route_rows l ≡ route ∷ route_rows behind
  one_route =
      let n : (length l - 34) / 34 ≡ length l / 34 - 1 = omega arith in
      let p : 0 < length l / 34 = omega arith in
      rw (cut.0, cut.1, length-drop 34 l, n) (rows_cons 34 (length l / 34) 0 l p)

  -- f is what the search among the routes behind says
  module _ (f : Option ℕ) (search-behind : f ≡ find_row (take 33 route) (route_rows behind)) where
    twice_found : none_twice (route_rows l) ≡ (not (is_at f) && none_twice (route_rows behind))
    unfolding none_twice
    twice_found =
        let k : length (take 33 route) ≡ 33 = omega (arith, length-take 33 route, ap length cut.0, length-take 34 l) in
        rw (one_route, listed_found (take 33 route) (route_rows behind) k, sym search-behind)

    pub twice_next : f ≡ None → none_twice (route_rows l) ≡ none_twice (route_rows behind)
    unfolding is_at
    twice_next e = twice_found ∙ rw e

    pub twice_stop : (i : ℕ) → f ≡ Some i → none_twice (route_rows l) ≡ false
    unfolding is_at
    twice_stop i e = twice_found ∙ rw e

pub twice_end : (l : List ℕ) → length l < 34 → none_twice (route_rows l) ≡ true
unfolding none_twice rows
twice_end l p = let e : length l / 34 ≡ 0 = omega arith in rw e

-- the test of each route
pub exist_all : (l : List (List ℕ)) → list_all (λ r. leb (get_or r 33 0) 7) l ≡ partitions_exist l
unfolding partitions_exist
exist_all [] = refl
exist_all (r ∷ l) = ap (λ (b : Bool). leb (get_or r 33 0) 7 && b) (exist_all l)

-- ---- question 3 answered yes
pub number_0_or_3 : (routes : List ℕ) → (routes_number routes ≡ 0) ⊎ (routes_number routes ≡ 3)
unfolding routes_number
number_0_or_3 routes = go (eqb (length routes % 34) 0 && sound_routes (route_rows routes))
  where
    go : (b : Bool) → (pick {A = ℕ} b 0 3 ≡ 0) ⊎ (pick {A = ℕ} b 0 3 ≡ 3)
    go true = inl refl
    go false = inr refl

pub record Sound (l : List (List ℕ)) : Type 0 where
  pub few : length l ≤ max_routes
  pub distinct : none_twice l ≡ true
  pub exist : partitions_exist l ≡ true

pub sound_routes_lem : (routes : List ℕ) → routes_number routes ≡ 0 → Sound (route_rows routes)
unfolding routes_number sound_routes
sound_routes_lem routes e = go (eqb (length routes % 34) 0) (leb (length (route_rows routes)) max_routes) refl (none_twice (route_rows routes)) refl (partitions_exist (route_rows routes)) refl e
  where
    go : (a b : Bool) → leb (length (route_rows routes)) max_routes ≡ b → (c : Bool) → none_twice (route_rows routes) ≡ c → (d : Bool) → partitions_exist (route_rows routes) ≡ d → pick {A = ℕ} (a && (b && (c && d))) 0 3 ≡ 0 → Sound (route_rows routes)
    go true true p true q true r e = record { few = leb-true _ _ p; distinct = q; exist = r }
    go true true p true q false r e = absurd (omega arith)
    go true true p false q d r e = absurd (omega arith)
    go true false p c q d r e = absurd (omega arith)
    go false b p c q d r e = absurd (omega arith)

-- ---- one row more behind the others
same_either_way : (a b : List ℕ) → same_bytes a b ≡ same_bytes b a
same_either_way a b = go (same_bytes a b) refl (same_bytes b a) refl
  where
    go : (x : Bool) → same_bytes a b ≡ x → (y : Bool) → same_bytes b a ≡ y → x ≡ y
    go true e true f = refl
    go true e false f = sym (same_refl b) ∙ (rw (same_true a b e) at f)
    go false e true f = sym (sym (same_refl a) ∙ (rw (same_true b a f) at e))
    go false e false f = refl

listed_behind : (a : List ℕ) (l : List (List ℕ)) (p : List ℕ) → listed a (l ++ (p ∷ [])) ≡ (listed a l || same_bytes (address_of p) a)
unfolding listed
listed_behind a [] p = go (same_bytes (take 33 p) a)
  where
    go : (x : Bool) → (x || false) ≡ x
    go true = refl
    go false = refl
listed_behind a (r ∷ l) p = rw (listed_behind a l p) (go (same_bytes (take 33 r) a))
  where
    go : (x : Bool) → (x || (listed a l || same_bytes (take 33 p) a)) ≡ ((x || listed a l) || same_bytes (take 33 p) a)
    go true = refl
    go false = refl

none_twice_behind : (l : List (List ℕ)) (p : List ℕ) → none_twice l ≡ true → none_twice (l ++ (p ∷ [])) ≡ not (listed (address_of p) l)
unfolding none_twice listed
none_twice_behind [] p e = refl
none_twice_behind (r ∷ l) p e =
    let h = and_parts (not (listed (take 33 r) l)) (none_twice l) e in
    rw (none_twice_behind l p h.1, listed_behind (take 33 r) l p, same_either_way (take 33 r) (take 33 p)) (go (listed (take 33 r) l) h.0 (same_bytes (take 33 p) (take 33 r)) (listed (take 33 p) l))
  where
    go : (a : Bool) → not a ≡ true → (s b : Bool) → (not (a || s) && not b) ≡ not (s || b)
    go false f true b = refl
    go false f false b = refl
    go true f s b = absurd (let z : ◌≡◌ {A = ℕ} 0 1 = cc in omega arith)

partitions_behind : (l : List (List ℕ)) (p : List ℕ) → partitions_exist l ≡ true → partitions_exist (l ++ (p ∷ [])) ≡ leb (route_partition_of p) 7
unfolding partitions_exist
partitions_behind [] p e = go (leb (get_or p 33 0) 7)
  where
    go : (x : Bool) → (x && true) ≡ x
    go true = refl
    go false = refl
partitions_behind (r ∷ l) p e = let h = and_parts (leb (get_or r 33 0) 7) (partitions_exist l) e in rw h.0 (partitions_behind l p h.1)

one_more_fits : (n : ℕ) → leb (n + 1) max_routes ≡ ltb n max_routes
one_more_fits n = go (leb (n + 1) max_routes) refl
  where
    go : (b : Bool) → leb (n + 1) max_routes ≡ b → b ≡ ltb n max_routes
    go true e = let h = leb-true (n + 1) max_routes e in sym (lt-ltb n max_routes (omega arith))
    go false e = let h = leb-false (n + 1) max_routes e in sym (le-ltb n max_routes (omega arith))

-- Behind rows that pass question 3 one more passes it where it has a place, its partition is at most 7 and none before
-- it has its address.
pub question_3_of_one_row_more : (l : List (List ℕ)) (p : List ℕ) → sound_routes l ≡ true → sound_routes (l ++ (p ∷ [])) ≡ (ltb (length l) max_routes && (leb (route_partition_of p) 7 && not (listed (address_of p) l)))
unfolding sound_routes
question_3_of_one_row_more l p e =
    let h = and_parts (none_twice l) (partitions_exist l) (and_parts (leb (length l) max_routes) _ e).1 in
    rw (length-append l (p ∷ []), one_more_fits (length l), none_twice_behind l p h.0, partitions_behind l p h.1) (ap (λ (b : Bool). ltb (length l) max_routes && b) (go (not (listed (address_of p) l)) (leb (route_partition_of p) 7)))
  where
    go : (a b : Bool) → (a && b) ≡ (b && a)
    go true true = refl
    go true false = refl
    go false true = refl
    go false false = refl

-- ---- the first rows
listed_among_more : (a : List ℕ) (l m : List (List ℕ)) → not (listed a (l ++ m)) ≡ true → not (listed a l) ≡ true
unfolding listed
listed_among_more a [] m e = refl
listed_among_more a (r ∷ l) m e = go (same_bytes (take 33 r) a) (listed_among_more a l m) e
  where
    go : (b : Bool) → (not (listed a (l ++ m)) ≡ true → not (listed a l) ≡ true) → not (b || listed a (l ++ m)) ≡ true → not (b || listed a l) ≡ true
    go true h e = e
    go false h e = h e

none_twice_first : (l m : List (List ℕ)) → none_twice (l ++ m) ≡ true → none_twice l ≡ true
unfolding none_twice
none_twice_first [] m e = refl
none_twice_first (r ∷ l) m e =
    let h = and_parts (not (listed (take 33 r) (l ++ m))) (none_twice (l ++ m)) e in
    rw (listed_among_more (take 33 r) l m h.0, none_twice_first l m h.1)

partitions_first : (l m : List (List ℕ)) → partitions_exist (l ++ m) ≡ true → partitions_exist l ≡ true
unfolding partitions_exist
partitions_first [] m e = refl
partitions_first (r ∷ l) m e = let h = and_parts (leb (get_or r 33 0) 7) (partitions_exist (l ++ m)) e in rw (h.0, partitions_first l m h.1)

pub the_first_rows_of_a_table_that_passes_question_3_pass_it : (l m : List (List ℕ)) → sound_routes (l ++ m) ≡ true → sound_routes l ≡ true
unfolding sound_routes
the_first_rows_of_a_table_that_passes_question_3_pass_it l m e =
    let few = and_parts (leb (length (l ++ m)) max_routes) _ e in
    let h = and_parts (none_twice (l ++ m)) (partitions_exist (l ++ m)) few.1 in
    let n = leb-true (length (l ++ m)) max_routes few.0 in
    rw (le-leb (length l) max_routes (omega (arith, n, length-append l m)), none_twice_first l m h.0, partitions_first l m h.1)

-- ---- the number of routes
pub up_to_256_routes_only_addresses_and_partitions_are_asked : (l : List (List ℕ)) → length l ≤ 256 → sound_routes l ≡ (none_twice l && partitions_exist l)
unfolding sound_routes
up_to_256_routes_only_addresses_and_partitions_are_asked l h = rw (le-leb (length l) max_routes h)

pub two_hundred_and_fifty_seven_routes_are_refused : (l : List (List ℕ)) → 257 ≤ length l → sound_routes l ≡ false
unfolding sound_routes
two_hundred_and_fifty_seven_routes_are_refused l h = rw (lt-leb (length l) max_routes (omega arith))

-- ---- addresses and their partitions
mem_listed : (r : List ℕ) (l : List (List ℕ)) → Memᴰ r l → listed (address_of r) l ≡ true
unfolding listed
mem_listed r [] m = absurd (Memᴰ.not-nil m)
mem_listed r (x ∷ l) m = ⊎_elim here (λ (h : Memᴰ r l). go (same_bytes (take 33 x) (take 33 r)) (mem_listed r l h)) (Memᴰ.cases_cons m)
  where
    here : r ≡ x → (same_bytes (take 33 x) (take 33 r) || listed (take 33 r) l) ≡ true
    here e = rw (e, same_refl (take 33 x))

    go : (b : Bool) → listed (take 33 r) l ≡ true → (b || listed (take 33 r) l) ≡ true
    go true h = refl
    go false h = h

own_partition : (r : List ℕ) (l : List (List ℕ)) → none_twice l ≡ true → Memᴰ r l → first_partition (address_of r) l ≡ route_partition_of r
unfolding first_partition none_twice
own_partition r [] d m = absurd (Memᴰ.not-nil m)
own_partition r (x ∷ l) d m = ⊎_elim here (λ (h : Memᴰ r l). behind h (own_partition r l)) (Memᴰ.cases_cons m)
  where
    here : r ≡ x → pick (same_bytes (take 33 x) (take 33 r)) (route_partition_of x) (first_partition (take 33 r) l) ≡ route_partition_of r
    here e = rw (e, same_refl (take 33 x))

    behind : Memᴰ r l → (none_twice l ≡ true → Memᴰ r l → first_partition (take 33 r) l ≡ route_partition_of r) → pick (same_bytes (take 33 x) (take 33 r)) (route_partition_of x) (first_partition (take 33 r) l) ≡ route_partition_of r
    behind h next = go (same_bytes (take 33 x) (take 33 r)) refl
      where
        go : (b : Bool) → same_bytes (take 33 x) (take 33 r) ≡ b → pick b (route_partition_of x) (first_partition (take 33 r) l) ≡ route_partition_of r
        go true e =
            let t = and_parts (not (listed (take 33 x) l)) (none_twice l) d in
            let y : listed (take 33 x) l ≡ true = rw (same_true (take 33 x) (take 33 r) e) (mem_listed r l h) in
            let n : not true ≡ true = rw y at t.0 in
            absurd (let z : ◌≡◌ {A = ℕ} 0 1 = cc in omega arith)
        go false e = next (and_parts (not (listed (take 33 x) l)) (none_twice l) d).1 h

-- With question 3 answered yes a listed address gets its own partition, wherever its route stands.
pub a_listed_address_gets_its_own_partition : (routes r : List ℕ) → routes_number routes ≡ 0 → Memᴰ r (route_rows routes) → partition_of routes (address_of r) ≡ route_partition_of r
unfolding partition_of
a_listed_address_gets_its_own_partition routes r e m = own_partition r (route_rows routes) (sound_routes_lem routes e).distinct m

first_unlisted : (m : List ℕ) (l : List (List ℕ)) → ((r : List ℕ) → Memᴰ r l → address_of r ≡ m → ⊥) → first_partition m l ≡ 0
unfolding first_partition
first_unlisted m [] p = refl
first_unlisted m (x ∷ l) p = go (same_bytes (take 33 x) m) refl (first_unlisted m l (λ r h. p r (Memᴰ.tail h)))
  where
    go : (b : Bool) → same_bytes (take 33 x) m ≡ b → first_partition m l ≡ 0 → pick b (route_partition_of x) (first_partition m l) ≡ 0
    go true e h = absurd (p x (Memᴰ.head refl) (same_true (take 33 x) m e))
    go false e h = h

pub an_unlisted_address_gets_0 : (routes m : List ℕ) → ((r : List ℕ) → Memᴰ r (route_rows routes) → address_of r ≡ m → ⊥) → partition_of routes m ≡ 0
unfolding partition_of
an_unlisted_address_gets_0 routes m p = first_unlisted m (route_rows routes) p

first_exists : (m : List ℕ) (l : List (List ℕ)) → partitions_exist l ≡ true → first_partition m l ≤ 7
unfolding first_partition partitions_exist
first_exists m [] e = omega arith
first_exists m (x ∷ l) e = go (same_bytes (take 33 x) m) (and_parts (leb (route_partition_of x) 7) (partitions_exist l) e) (first_exists m l)
  where
    go : (b : Bool) → (leb (route_partition_of x) 7 ≡ true) × (partitions_exist l ≡ true) → (partitions_exist l ≡ true → first_partition m l ≤ 7) → pick b (route_partition_of x) (first_partition m l) ≤ 7
    go true t h = leb-true _ _ t.0
    go false t h = h t.1

pub a_partition_is_at_most_7 : (routes m : List ℕ) → routes_number routes ≡ 0 → partition_of routes m ≤ 7
unfolding partition_of
a_partition_is_at_most_7 routes m e = first_exists m (route_rows routes) (sound_routes_lem routes e).exist

-- a message's route, where it has one
record Route (m : List ℕ) (l : List (List ℕ)) : Type 0 where
  row : List ℕ
  inside : Memᴰ row l
  same : address_of row ≡ m

route_or_none : (m : List ℕ) (l : List (List ℕ)) → Route m l ⊎ ((r : List ℕ) → Memᴰ r l → address_of r ≡ m → ⊥)
route_or_none m [] = inr (λ r h e. Memᴰ.not-nil h)
route_or_none m (x ∷ l) = go (same_bytes (take 33 x) m) refl (route_or_none m l)
  where
    go : (b : Bool) → same_bytes (take 33 x) m ≡ b → Route m l ⊎ ((r : List ℕ) → Memᴰ r l → address_of r ≡ m → ⊥) → Route m (x ∷ l) ⊎ ((r : List ℕ) → Memᴰ r (x ∷ l) → address_of r ≡ m → ⊥)
    go true e t = inl (record { row = x; inside = Memᴰ.head refl; same = same_true (take 33 x) m e })
    go false e (inl t) = inl (record { row = t.row; inside = Memᴰ.tail t.inside; same = t.same })
    go false e (inr t) = inr (λ r h s. ⊎_elim (λ (k : r ≡ x). let w : same_bytes (take 33 x) m ≡ true = rw (sym k, s) (same_refl m) in let z : ◌≡◌ {A = ℕ} 0 1 = cc in omega arith) (λ (k : Memᴰ r l). t r k s) (Memᴰ.cases_cons h))

-- The order of the routes does not matter: with question 3 answered yes the same routes give the same partition.
pub the_order_of_the_routes_does_not_matter : (a b m : List ℕ) → routes_number a ≡ 0 → routes_number b ≡ 0
    → ((r : List ℕ) → Memᴰ r (route_rows a) → Memᴰ r (route_rows b)) → ((r : List ℕ) → Memᴰ r (route_rows b) → Memᴰ r (route_rows a))
    → partition_of a m ≡ partition_of b m
the_order_of_the_routes_does_not_matter a b m p q f g = ⊎_elim one none (route_or_none m (route_rows a))
  where
    one : Route m (route_rows a) → partition_of a m ≡ partition_of b m
    one t = rw (sym t.same) (a_listed_address_gets_its_own_partition a t.row p t.inside ∙ sym (a_listed_address_gets_its_own_partition b t.row q (f t.row t.inside)))

    none : ((r : List ℕ) → Memᴰ r (route_rows a) → address_of r ≡ m → ⊥) → partition_of a m ≡ partition_of b m
    none t = an_unlisted_address_gets_0 a m t ∙ sym (an_unlisted_address_gets_0 b m (λ r h e. t r (g r h) e))

-- ---- the call
pub refused_by_3 : (routes m : List ℕ) → (routes_number routes ≡ 0 → ⊥) → get_partition routes m ≡ answer_of (Err RoutesUnsound)
unfolding get_partition unless_refused
refused_by_3 routes m p = ⊎_elim (λ (e : routes_number routes ≡ 0). absurd (p e)) (λ (e : routes_number routes ≡ 3). rw e) (number_0_or_3 routes)

-- what `check_routes` answered is handed on
pub refused_on : (q : Result ℕ Refusal) (r : Refusal) (routes m : List ℕ) → IsErr q × IsErrAnd q (λ x. x ≡ r) → number_of r ≡ routes_number routes → answer_of q ≡ get_partition routes m
refused_on q r routes m h e =
    let three = ⊎_elim (λ (z : routes_number routes ≡ 0). absurd (refused_is_not_done r (e ∙ z))) (λ (z : routes_number routes ≡ 3). e ∙ z) (number_0_or_3 routes) in
    ap answer_of (handed_on q r h) ∙ (ap (λ (n : ℕ). record_of n) three ∙ sym (refused_by_3 routes m (λ z. refused_is_not_done r (e ∙ z))))
  where
    record_of : ℕ → Answer
    record_of n = record { number = n; value = 0 }

pub answered : (routes m : List ℕ) → routes_number routes ≡ 0 → get_partition routes m ≡ answer_of (Ok (partition_of routes m))
unfolding get_partition unless_refused
answered routes m e = rw e
