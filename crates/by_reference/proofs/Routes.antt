-- Laws of the search in route records, and that it answers as the router does on rows of 34 bytes.
use Prim.Native.Nat.{ℕ, zero, suc, ◌+◌, ◌-◌, ◌*◌, ◌/◌, ◌%◌, ◌<◌, ◌≤◌}
use mathlib.Core.Path.{◌≡◌, refl, sym, ◌∙◌, ap, subst}
use mathlib.Core.Bool.{Bool, true, false, cond, ◌&&◌, ◌||◌}
use mathlib.Core.List.{List, [], ◌∷◌, ◌++◌, map, append_assoc, append-nil}
use native.Mathlib.Omega.{arith}
use native.Mathlib.Numerals.{add-one}
use Rattle.std.specs.List.{list_any, find}
use Rattle.std.specs.Option.{MatchOption, option_map}
use lib.Dec.{eqb, ltb}
use lib.Pointwise.{pointwise}
use lib.IntN.{ℤ, pos, negsuc}
use lib.ListN.{length, get_or, take, drop, set, replicate, length-set, length-drop, length-append, length-map, drop_of_length-le}
use lib.Seq.{take-length, set-append_seam, drop-cons, get_or-drop, length-take-le, take-suc, take-suc-set, take_at, drop_at, get_or_at}
use mir.Syntax.{w8}
use mir.Val.{SFits}
use borrow.Author.Tests.{ltb-true, lt-ltb, le-ltb}
use Rattle.std.proofs.lemmas.List.{map-append}
use Rattle.rows.specs.Rows.{pick, same_bytes, starts_with, rows}
use Rattle.rows.proofs.Laws.{pick_yes, pick_no, never}
use Rattle.shard_ident.specs.Shard.{signed_byte, equalℤ}
use Rattle.shard_ident.proofs.Signed.{equal_self, equal_differ, same_signed}
use Rattle.router.proofs.Laws.{question_3_of_one_row_more, the_first_rows_of_a_table_that_passes_question_3_pass_it}
use Rattle.router.specs.Router.{answer_of, max_routes, address_of, route_partition_of, listed, none_twice, partitions_exist, sound_routes, routes_number, first_partition, unless_refused, get_partition, partition_of as rows_partition}
use Rattle.std.specs.Prelude.{Option, Some, None, Result}
use Rattle.std.specs.Result.{IsErr, IsErrAnd}
use Rattle.refusals.specs.declared.Refusal.{Refusal}
use Rattle.refusals.specs.Refusals.{number_of}
use Rattle.refusals.proofs.Laws.{refused_is_not_done, handed_on}
use Rattle.by_reference.specs.Search.{Walk, same_route, first_partition_in, listed_in, takes_one, takes_all, records_number, get_partition_in, nothing_walked, takes_route, with_route, refused_walk, walked_on, walked_over, walk_answer, route_of, routes_of, byte_of, route_row, rows_of}
use Rattle.by_reference.specs.declared.Route.{Route}

-- what stands past the end of a list
abbrev pub no_route : Route
no_route = record { workchain = pos 0; account = []; partition = 0 }

pub walk_step : (w : ℤ) (a : List ℕ) (s : Walk) (l : List Route) (i : ℕ) → i < length l → walked_over w a s (drop i l) ≡ walked_over w a (walked_on w a s (get_or l i no_route)) (drop (suc i) l)
walk_step w a s l i h = ap (walked_over w a s) (drop-cons l i no_route h)

-- ---- among the first records
pub any_listed : (w : ℤ) (a : List ℕ) (l : List Route) → list_any (λ q. same_route q w a) l ≡ listed_in w a l
unfolding listed_in
any_listed w a [] = refl
any_listed w a (r ∷ l) = go (same_route r w a) (any_listed w a l)
  where
    go : (b : Bool) → list_any (λ q. same_route q w a) l ≡ listed_in w a l → (b || list_any (λ q. same_route q w a) l) ≡ pick b true (listed_in w a l)
    go true e = refl
    go false e = e

-- ---- question 3, record by record
module _ (l : List Route) (i : ℕ) where
  pub one_more : i < length l → takes_all (take i l) (drop i l) ≡ (takes_one (take i l) (get_or l i no_route) && takes_all (take (i + 1) l) (drop (i + 1) l))
  unfolding takes_all
  one_more h =
      ap (takes_all (take i l)) (drop-cons l i no_route h)
      ∙ rw (add-one i, take-suc l i no_route h)

  pub takes_more : i < length l → takes_one (take i l) (get_or l i no_route) ≡ true → takes_all (take i l) (drop i l) ≡ takes_all [] l → takes_all (take (i + 1) l) (drop (i + 1) l) ≡ takes_all [] l
  takes_more h e so_far = sym (ap (λ (b : Bool). b && takes_all (take (i + 1) l) (drop (i + 1) l)) e) ∙ sym (one_more h) ∙ so_far

  pub refused_at : i < length l → takes_one (take i l) (get_or l i no_route) ≡ false → takes_all (take i l) (drop i l) ≡ takes_all [] l → 3 ≡ records_number l
  unfolding records_number
  refused_at h e so_far = ap (λ (b : Bool). pick b 0 3) (sym (ap (λ (b : Bool). b && takes_all (take (i + 1) l) (drop (i + 1) l)) e) ∙ sym (one_more h) ∙ so_far)

  pub none_refused : length l ≤ i → takes_all (take i l) (drop i l) ≡ takes_all [] l → 0 ≡ records_number l
  unfolding records_number takes_all
  none_refused h so_far = ap (λ (b : Bool). pick b 0 3) (ap (takes_all (take i l)) (sym (drop_of_length-le l {i = i} h)) ∙ so_far)

-- a record more, one that is refused, and none
pub ruleset question_3 = (takes_more, refused_at, none_refused)

-- ---- the call
-- a refusal gives only its number
alone : (n p : ℕ) → (n ≡ 0 → ⊥) → unless_refused n p ≡ record { number = n; value = 0 }
unfolding unless_refused
alone zero p h = absurd (h refl)
alone (suc k) p h = refl

module _ (l : List Route) (z : ℤ) (a : List ℕ) where
  -- what `check_routes` answered is handed on
  pub refused_on : (q : Result ℕ Refusal) (r : Refusal) → IsErr q × IsErrAnd q (λ x. x ≡ r) → number_of r ≡ records_number l → answer_of q ≡ get_partition_in l z a
  unfolding get_partition_in
  refused_on q r h e = ap answer_of (handed_on q r h) ∙ sym (alone (number_of r) (first_partition_in l z a) (refused_is_not_done r)) ∙ ap (λ (n : ℕ). unless_refused n (first_partition_in l z a)) e

  pub answered : (p : ℕ) → p ≡ first_partition_in l z a → 0 ≡ records_number l → record { number = 0; value = p } ≡ get_partition_in l z a
  unfolding get_partition_in unless_refused
  answered p e passed = ap (λ (v : ℕ). record { number = 0; value = v }) e ∙ ap (λ (n : ℕ). unless_refused n (first_partition_in l z a)) passed

-- ---- the first record for the workchain and the account
abbrev first_of : Option Route → ℕ
first_of None = 0
first_of (Some r) = r.partition

first_found : (l : List Route) (z : ℤ) (a : List ℕ) → first_of (find (λ q. same_route q z a) l) ≡ first_partition_in l z a
first_found [] z a = refl
first_found (r ∷ l) z a = go (same_route r z a) (first_found l z a)
  where
    go : (b : Bool) → first_of (find (λ q. same_route q z a) l) ≡ first_partition_in l z a → first_of (cond b (Some r) (find (λ q. same_route q z a) l)) ≡ pick b r.partition (first_partition_in l z a)
    go true e = refl
    go false e = e

-- its partition, or 0 where none is found
pub partition_of_found : {A : Type 0} (v : A → Route) (found : Option A) (p : ℕ) (Q : A → Type 0) (l : List Route) (z : ℤ) (a : List ℕ) → ((x : A) → Q x → p ≡ (v x).partition) → MatchOption found (p ≡ 0) Q → option_map v found ≡ find (λ q. same_route q z a) l → p ≡ first_partition_in l z a
partition_of_found v None p Q l z a k h e = h ∙ ap first_of e ∙ first_found l z a
partition_of_found v (Some x) p Q l z a k h e = k x h ∙ ap first_of e ∙ first_found l z a

-- ---- one record more
not_sound : (w : Walk) (r : Route) → w.sound ≡ false → false ≡ takes_route w r
unfolding takes_route
not_sound w r e = rw e

module _ (z : ℤ) (a : List ℕ) (w : Walk) (r : Route) where
  pub is_not_taken : takes_route w r ≡ false → refused_walk w ≡ walked_on z a w r
  unfolding walked_on
  is_not_taken e = rw e

  module _ (taken : takes_route w r ≡ true) where
    pub was_found : w.found ≡ true → with_route w r true w.partition ≡ walked_on z a w r
    unfolding walked_on
    was_found e = rw (taken, e)

    pub is_the_first : w.found ≡ false → same_route r z a ≡ true → with_route w r true r.partition ≡ walked_on z a w r
    unfolding walked_on
    is_the_first e h = rw (taken, e) (sym (pick_yes _ _ _ h))

    pub is_another : w.found ≡ false → same_route r z a ≡ false → with_route w r false w.partition ≡ walked_on z a w r
    unfolding walked_on
    is_another e h = rw (taken, e) (sym (pick_no _ _ _ h))

pub few_so_far : (w : Walk) (r : Route) → takes_route w r ≡ true → w.len < max_routes
unfolding takes_route
few_so_far w r e = ltb-true w.len max_routes (go w.sound (ltb w.len max_routes) _ e)
  where
    go : (x y k : Bool) → (x && (y && k)) ≡ true → y ≡ true
    go true true k h = refl
    go true false k h = h
    go false y k h = never (sym h)

-- ---- the whole walk
module _ (z : ℤ) (a : List ℕ) where
  -- a record more is one of four cases
  walk_cases : (P : Walk → Type 0) (w : Walk) (r : Route) → (takes_route w r ≡ false → P (refused_walk w)) → (takes_route w r ≡ true → w.found ≡ true → P (with_route w r true w.partition))
      → (takes_route w r ≡ true → w.found ≡ false → same_route r z a ≡ true → P (with_route w r true r.partition)) → (takes_route w r ≡ true → w.found ≡ false → same_route r z a ≡ false → P (with_route w r false w.partition))
      → P (walked_on z a w r)
  walk_cases P w r none found one other = go (takes_route w r) w.found (same_route r z a) refl refl refl
    where
      go : (t f e : Bool) → takes_route w r ≡ t → w.found ≡ f → same_route r z a ≡ e → P (walked_on z a w r)
      go false f e x y k = subst P (is_not_taken z a w r x) (none x)
      go true true e x y k = subst P (was_found z a w r x y) (found x y)
      go true false true x y k = subst P (is_the_first z a w r x y k) (one x y k)
      go true false false x y k = subst P (is_another z a w r x y k) (other x y k)

  stays_refused : (w : Walk) (l : List Route) → w.sound ≡ false → (walked_over z a w l).sound ≡ false
  stays_refused w [] e = e
  stays_refused w (r ∷ l) e = subst (λ (v : Walk). (walked_over z a v l).sound ≡ false) (is_not_taken z a w r (sym (not_sound w r e))) (stays_refused (refused_walk w) l refl)

  takes_one_lem : (w : Walk) (r : Route) (before : List Route) → take w.len w.routes ≡ before → length before ≡ w.len → w.sound ≡ true → takes_route w r ≡ takes_one before r
  unfolding takes_route takes_one
  takes_one_lem w r before e n s = rw (s, e, n)

  -- the walk takes all records exactly if question 3 does
  sound_over : (w : Walk) (before l : List Route) → take w.len w.routes ≡ before → length w.routes ≡ max_routes → w.len ≤ max_routes → w.sound ≡ true → (walked_over z a w l).sound ≡ takes_all before l
  unfolding takes_all
  sound_over w before [] e n h s = s
  sound_over w before (r ∷ l) e n h s =
      walk_cases (λ (v : Walk). (walked_over z a v l).sound ≡ (takes_one before r && takes_all (before ++ (r ∷ [])) l)) w r
      (λ x. stays_refused (refused_walk w) l refl ∙ sym (ap (λ (b : Bool). b && takes_all (before ++ (r ∷ [])) l) (sym one ∙ x)))
      (λ x y. sound_over (with_route w r true w.partition) (before ++ (r ∷ [])) l (kept x) full (room x) refl ∙ next x)
      (λ x y k. sound_over (with_route w r true r.partition) (before ++ (r ∷ [])) l (kept x) full (room x) refl ∙ next x)
      (λ x y k. sound_over (with_route w r false w.partition) (before ++ (r ∷ [])) l (kept x) full (room x) refl ∙ next x)
    where
      long : length before ≡ w.len
      long = sym (ap length e) ∙ length-take-le w.len w.routes (omega (arith, n, h))

      one : takes_route w r ≡ takes_one before r
      one = takes_one_lem w r before e long s

      full : length (set w.routes w.len r) ≡ max_routes
      full = length-set w.routes w.len r ∙ n

      room : takes_route w r ≡ true → w.len + 1 ≤ max_routes
      room x = omega (arith, few_so_far w r x)

      kept : takes_route w r ≡ true → take (w.len + 1) (set w.routes w.len r) ≡ before ++ (r ∷ [])
      kept x =
          ap (λ (j : ℕ). take j (set w.routes w.len r)) (add-one w.len)
          ∙ (take-suc-set w.routes w.len r (omega (arith, n, few_so_far w r x)) ∙ ap (λ (k : List Route). k ++ (r ∷ [])) e)

      next : takes_route w r ≡ true → takes_all (before ++ (r ∷ [])) l ≡ (takes_one before r && takes_all (before ++ (r ∷ [])) l)
      next x = sym (ap (λ (b : Bool). b && takes_all (before ++ (r ∷ [])) l) (sym one ∙ x))

  -- and its partition is the first record's
  partition_over : (w : Walk) (l : List Route) → (w.found ≡ false → w.partition ≡ 0) → (walked_over z a w l).sound ≡ true → (walked_over z a w l).partition ≡ pick w.found w.partition (first_partition_in l z a)
  partition_over w [] zero-yet s = go w.found refl
    where
      go : (f : Bool) → w.found ≡ f → w.partition ≡ pick f w.partition 0
      go true e = refl
      go false e = zero-yet e
  partition_over w (r ∷ l) zero-yet sound =
      walk_cases (λ (v : Walk). (walked_over z a v l).sound ≡ true → (walked_over z a v l).partition ≡ pick w.found w.partition (first_partition_in (r ∷ l) z a)) w r
      (λ x s. never (sym s ∙ stays_refused (refused_walk w) l refl))
      (λ x y s. partition_over (with_route w r true w.partition) l (λ n. never n) s ∙ sym (pick_yes _ _ _ y))
      (λ x y k s. partition_over (with_route w r true r.partition) l (λ n. never n) s ∙ sym (pick_no _ _ _ y ∙ pick_yes _ _ _ k))
      (λ x y k s. partition_over (with_route w r false w.partition) l (λ n. zero-yet y) s ∙ sym (pick_no _ _ _ y ∙ pick_no _ _ _ k))
      sound

  -- The walk over records answers as the router's rule over them.
  pub the_walk_answers_as_the_rule : (l : List Route) → walk_answer (walked_over z a nothing_walked l) ≡ get_partition_in l z a
  unfolding get_partition_in records_number unless_refused nothing_walked
  the_walk_answers_as_the_rule l = go (takes_all [] l) (sound_over nothing_walked [] l refl refl (omega arith) refl)
    where
      go : (b : Bool) → (walked_over z a nothing_walked l).sound ≡ b → walk_answer (walked_over z a nothing_walked l) ≡ unless_refused (pick b 0 3) (first_partition_in l z a)
      go true e = ap (λ (b : Bool). pick b (record { number = 0; value = (walked_over z a nothing_walked l).partition }) (record { number = 3; value = 0 })) e ∙ ap (λ (p : ℕ). record { number = 0; value = p }) (partition_over nothing_walked l (λ n. refl) e)
      go false e = ap (λ (b : Bool). pick b (record { number = 0; value = (walked_over z a nothing_walked l).partition }) (record { number = 3; value = 0 })) e

-- ---- what the walk comes to, whole
-- the records that question 3 takes behind those before them, up to the first that it refuses
abbrev pub taken_of : List Route → List Route → List Route
taken_of before [] = []
taken_of before (r ∷ l) = pick (takes_one before r) (r ∷ taken_of (before ++ (r ∷ [])) l) []

-- a walk that holds these records and zeros behind them
abbrev pub walk_of : ℤ → List ℕ → List Route → Bool → Walk
walk_of z a taken sound =
    record {
      routes = taken ++ replicate (max_routes - length taken) (record { workchain = pos 0; account = replicate 32 0; partition = 0 });
      len = length taken;
      sound = sound;
      found = listed_in z a taken;
      partition = first_partition_in taken z a;
    }

listed_more : (z : ℤ) (a : List ℕ) (l : List Route) (r : Route) → listed_in z a (l ++ (r ∷ [])) ≡ pick (listed_in z a l) true (same_route r z a)
unfolding listed_in
listed_more z a [] r = go (same_route r z a)
  where
    go : (b : Bool) → pick b true false ≡ b
    go true = refl
    go false = refl
listed_more z a (q ∷ l) r = go (same_route q z a) (listed_more z a l r)
  where
    go : (b : Bool) → listed_in z a (l ++ (r ∷ [])) ≡ pick (listed_in z a l) true (same_route r z a) → pick b true (listed_in z a (l ++ (r ∷ []))) ≡ pick (pick b true (listed_in z a l)) true (same_route r z a)
    go true e = refl
    go false e = e

first_more : (z : ℤ) (a : List ℕ) (l : List Route) (r : Route) → first_partition_in (l ++ (r ∷ [])) z a ≡ pick (listed_in z a l) (first_partition_in l z a) (pick (same_route r z a) r.partition 0)
unfolding listed_in
first_more z a [] r = refl
first_more z a (q ∷ l) r = go (same_route q z a) (first_more z a l r)
  where
    go : (b : Bool) → first_partition_in (l ++ (r ∷ [])) z a ≡ pick (listed_in z a l) (first_partition_in l z a) (pick (same_route r z a) r.partition 0)
        → pick b q.partition (first_partition_in (l ++ (r ∷ [])) z a) ≡ pick (pick b true (listed_in z a l)) (pick b q.partition (first_partition_in l z a)) (pick (same_route r z a) r.partition 0)
    go true e = refl
    go false e = e

none_yet : (z : ℤ) (a : List ℕ) (l : List Route) → listed_in z a l ≡ false → first_partition_in l z a ≡ 0
unfolding listed_in
none_yet z a [] e = refl
none_yet z a (r ∷ l) e = go (same_route r z a) e (none_yet z a l)
  where
    go : (b : Bool) → pick b true (listed_in z a l) ≡ false → (listed_in z a l ≡ false → first_partition_in l z a ≡ 0) → pick b r.partition (first_partition_in l z a) ≡ 0
    go true h next = never h
    go false h next = next h

module _ (z : ℤ) (a : List ℕ) where
  -- a refused walk stays as it is, whole
  refused_stays : (w : Walk) (l : List Route) → walked_over z a (refused_walk w) l ≡ refused_walk w
  refused_stays w [] = refl
  refused_stays w (r ∷ l) = ap (λ (v : Walk). walked_over z a v l) (sym (is_not_taken z a (refused_walk w) r (sym (not_sound (refused_walk w) r refl)))) ∙ refused_stays w l

  -- a record that question 3 takes is held behind the others
  module _ (before : List Route) (r : Route) (few : length before < max_routes) where
    one_held : (found : Bool) (partition : ℕ) → found ≡ listed_in z a (before ++ (r ∷ [])) → partition ≡ first_partition_in (before ++ (r ∷ [])) z a
        → with_route (walk_of z a before true) r found partition ≡ walk_of z a (before ++ (r ∷ [])) true
    one_held found partition f p =
        let zero_route : Route = record { workchain = pos 0; account = replicate 32 0; partition = 0 } in
        let n : length (before ++ (r ∷ [])) ≡ length before + 1 = length-append before (r ∷ []) in
        let room : max_routes - length before ≡ suc (max_routes - (length before + 1)) = omega (arith, few) in
        let rows : set (before ++ replicate (max_routes - length before) zero_route) (length before) r ≡ (before ++ (r ∷ [])) ++ replicate (max_routes - (length before + 1)) zero_route =
        ap (λ (k : ℕ). set (before ++ replicate k zero_route) (length before) r) room
        ∙ set-append_seam before zero_route (replicate (max_routes - (length before + 1)) zero_route) r
        ∙ sym (append_assoc before (r ∷ []) (replicate (max_routes - (length before + 1)) zero_route)) in
        rw (n, f, p, rows) refl

    one_walked : takes_route (walk_of z a before true) r ≡ true → walked_on z a (walk_of z a before true) r ≡ walk_of z a (before ++ (r ∷ [])) true
    one_walked taken =
        walk_cases z a (λ v. v ≡ walk_of z a (before ++ (r ∷ [])) true) (walk_of z a before true) r
        (λ x. never (sym taken ∙ x))
        (λ x y. one_held true _ (sym (listed_more z a before r ∙ pick_yes _ _ _ y)) (sym (first_more z a before r ∙ pick_yes _ _ _ y)))
        (λ x y k. one_held true _ (sym (listed_more z a before r ∙ pick_no _ _ _ y ∙ k)) (sym (first_more z a before r ∙ pick_no _ _ _ y ∙ pick_yes _ _ _ k)))
        (λ x y k. one_held false _ (sym (listed_more z a before r ∙ pick_no _ _ _ y ∙ k)) (none_yet z a before y ∙ sym (first_more z a before r ∙ pick_no _ _ _ y ∙ pick_no _ _ _ k)))

  walk_from : (before l : List Route) → length before ≤ max_routes → walked_over z a (walk_of z a before true) l ≡ walk_of z a (before ++ taken_of before l) (takes_all before l)
  unfolding takes_all
  walk_from before [] few = ap (λ (k : List Route). walk_of z a k true) (sym (append-nil before))
  walk_from before (r ∷ l) few = go (takes_one before r) refl (walk_from (before ++ (r ∷ [])) l)
    where
      more : List Route
      more = before ++ (r ∷ [])

      w : Walk
      w = walk_of z a before true

      one : takes_route w r ≡ takes_one before r
      one = takes_one_lem z a w r before (take_at before _ (length before) refl) refl refl

      go : (b : Bool) → takes_one before r ≡ b → (length more ≤ max_routes → walked_over z a (walk_of z a more true) l ≡ walk_of z a (more ++ taken_of more l) (takes_all more l))
          → walked_over z a (walked_on z a w r) l ≡ walk_of z a (before ++ pick b (r ∷ taken_of more l) []) (b && takes_all more l)
      go true e next =
          let room = few_so_far w r (one ∙ e) in
          ap (λ (v : Walk). walked_over z a v l) (one_walked before r room (one ∙ e))
          ∙ next (omega (arith, room, length-append before (r ∷ [])))
          ∙ ap (λ (k : List Route). walk_of z a k (takes_all more l)) (append_assoc before (r ∷ []) (taken_of more l))
      go false e next =
          ap (λ (v : Walk). walked_over z a v l) (sym (is_not_taken z a w r (one ∙ e)))
          ∙ refused_stays w l
          ∙ ap (λ (k : List Route). walk_of z a k false) (sym (append-nil before))

  -- The walk holds the records up to the first that question 3 refuses and zeros behind them, and of these it has
  -- found the first for the workchain and the account: a refused record leaves all but the mark.
  pub the_walk_holds_the_records_that_question_3_takes : (l : List Route) → walked_over z a nothing_walked l ≡ walk_of z a (taken_of [] l) (takes_all [] l)
  unfolding nothing_walked listed_in
  the_walk_holds_the_records_that_question_3_takes l = walk_from [] l (omega arith)

-- ---- one route
pub other_workchain : (r : Route) (w : ℤ) (a : List ℕ) → (r.workchain ≡ w → ⊥) → false ≡ same_route r w a
other_workchain r w a n = sym (pick_no (equalℤ r.workchain w) (same_bytes r.account a) false (equal_differ r.workchain w n))

-- the library's comparison of two accounts is ours
same_account : (a b : List ℕ) → pointwise eqb a b ≡ same_bytes a b
unfolding same_bytes
same_account [] [] = refl
same_account [] (y ∷ b) = refl
same_account (x ∷ a) [] = refl
same_account (x ∷ a) (y ∷ b) = rw (same_account a b) (go (eqb x y) (same_bytes a b))
  where
    go : (t k : Bool) → (t && k) ≡ pick t k false
    go true k = refl
    go false k = refl

pub this_route : (r : Route) (w : ℤ) (a : List ℕ) → r.workchain ≡ w → pointwise eqb r.account a ≡ same_route r w a
this_route r w a e = same_account r.account a ∙ sym (pick_yes (equalℤ r.workchain w) (same_bytes r.account a) false (subst (λ (z : ℤ). equalℤ r.workchain z ≡ true) e (equal_self r.workchain)))

pub this_workchain : (r : Route) (w : ℤ) (a : List ℕ) → r.workchain ≡ w → length a ≡ length r.account → starts_with a r.account ≡ same_route r w a
this_workchain r w a e same =
    ap (λ (n : ℕ). same_bytes (take n r.account) a) same ∙ ap (λ (l : List ℕ). same_bytes l a) (take-length r.account)
    ∙ sym (pick_yes (equalℤ r.workchain w) (same_bytes r.account a) false (subst (λ (z : ℤ). equalℤ r.workchain z ≡ true) e (equal_self r.workchain)))

-- ---- rows, read as records
-- n rows, searched as rows and as the records they hold
rows_agree : (n : ℕ) (bytes : List ℕ) (byte : ℕ) (account : List ℕ) → ((i : ℕ) → get_or bytes i 0 < 256) → byte < 256 → 34 * n ≤ length bytes
    → first_partition (byte ∷ account) (rows 34 n bytes) ≡ first_partition_in (map route_of (rows 34 n bytes)) (signed_byte byte) account
unfolding rows first_partition same_bytes
rows_agree zero bytes byte account small hb long = refl
rows_agree (suc n) [] byte account small hb long = absurd (omega (arith, long))
rows_agree (suc n) (x ∷ bytes) byte account small hb long =
    ap (λ (t : Bool). pick (pick t (same_bytes (take 32 (take 33 bytes)) account) false) (route_partition_of (x ∷ take 33 bytes)) (first_partition (byte ∷ account) (rows 34 n (drop 33 bytes)))) (same_signed x byte (small 0) hb)
    ∙ ap (λ (p : ℕ). pick (same_route (route_of (x ∷ take 33 bytes)) (signed_byte byte) account) (route_partition_of (x ∷ take 33 bytes)) p) (rows_agree n (drop 33 bytes) byte account (λ i. subst (λ (b : ℕ). b < 256) (sym (get_or-drop 34 (x ∷ bytes) i 0)) (small (34 + i))) hb (omega (arith, long, length-drop 33 bytes)))

-- A message is a workchain's byte and an account. On every table of rows the router answers what the search in their
-- records answers, unless question 3 refuses the table.
pub the_records_router_is_the_rows_router : (bytes : List ℕ) (byte : ℕ) (account : List ℕ) → ((i : ℕ) → get_or bytes i 0 < 256) → byte < 256
    → get_partition bytes (byte ∷ account) ≡ unless_refused (routes_number bytes) (first_partition_in (routes_of bytes) (signed_byte byte) account)
unfolding get_partition rows_partition
the_records_router_is_the_rows_router bytes byte account small hb = ap (unless_refused (routes_number bytes)) (rows_agree (length bytes / 34) bytes byte account small hb (omega arith))

-- ---- records, written down as rows
signed_back : (z : ℤ) → SFits w8 z → (signed_byte (byte_of z) ≡ z) × (byte_of z < 256)
signed_back (pos n) f = (pick_yes (ltb n 128) (pos n) (negsuc (255 - n)) (lt-ltb n 128 f.sfits), omega (arith, f.sfits))
signed_back (negsuc n) f =
    (pick_no (ltb (255 - n) 128) (pos (255 - n)) (negsuc (255 - (255 - n))) (le-ltb (255 - n) 128 (omega (arith, f.sfits))) ∙ ap negsuc (omega (arith, f.sfits)), omega arith)

same_workchain_lem : (a b : ℤ) → SFits w8 a → SFits w8 b → eqb (byte_of a) (byte_of b) ≡ equalℤ a b
same_workchain_lem a b fa fb =
    same_signed (byte_of a) (byte_of b) (signed_back a fa).1 (signed_back b fb).1 ∙ ap (λ (z : ℤ). equalℤ z (signed_byte (byte_of b))) (signed_back a fa).0 ∙ ap (equalℤ a) (signed_back b fb).0

-- what is known of every `Route` that the code holds
abbrev pub AreRoutes : List Route → Type 0
AreRoutes [] = Unit {0}
AreRoutes (r ∷ l) = (SFits w8 r.workchain × (length r.account ≡ 32)) × AreRoutes l

row_length : (r : Route) → length r.account ≡ 32 → length (route_row r) ≡ 34
row_length r e = omega (arith, e, length-append r.account (r.partition ∷ []))

rows_length : (l : List Route) → AreRoutes l → length (rows_of l) ≡ 34 * length l
unfolding rows_of
rows_length [] are = refl
rows_length (r ∷ l) are = omega (arith, length-append (route_row r) (rows_of l), row_length r are.0.1, rows_length l are.1)

rows_are : (l : List Route) → AreRoutes l → rows 34 (length l) (rows_of l) ≡ map route_row l
unfolding rows rows_of
rows_are [] are = refl
rows_are (r ∷ l) are =
    ap (λ (k : List ℕ). k ∷ rows 34 (length l) (drop 34 (route_row r ++ rows_of l))) (take_at (route_row r) (rows_of l) 34 (row_length r are.0.1))
    ∙ ap (λ (k : List ℕ). route_row r ∷ rows 34 (length l) k) (drop_at (route_row r) (rows_of l) 34 (row_length r are.0.1))
    ∙ ap (λ (k : List (List ℕ)). route_row r ∷ k) (rows_are l are.1)

written_agree : (l : List Route) (w : ℤ) (account : List ℕ) → AreRoutes l → SFits w8 w → first_partition (byte_of w ∷ account) (map route_row l) ≡ first_partition_in l w account
unfolding first_partition same_bytes
written_agree [] w account are fw = refl
written_agree (r ∷ l) w account are fw =
    rw (same_workchain_lem r.workchain w are.0.0 fw, take_at r.account (r.partition ∷ []) 32 are.0.1, get_or_at r.account r.partition [] 0 32 are.0.1, written_agree l w account are.1 fw)

-- ---- question 3 of records and of their rows
row_address : (r : Route) → length r.account ≡ 32 → address_of (route_row r) ≡ byte_of r.workchain ∷ r.account
row_address r e = ap (λ (k : List ℕ). byte_of r.workchain ∷ k) (take_at r.account (r.partition ∷ []) 32 e)

listed_agree : (l : List Route) (w : ℤ) (account : List ℕ) → AreRoutes l → SFits w8 w → listed (byte_of w ∷ account) (map route_row l) ≡ listed_in w account l
unfolding listed listed_in same_bytes
listed_agree [] w account are fw = refl
listed_agree (r ∷ l) w account are fw =
    rw (same_workchain_lem r.workchain w are.0.0 fw, take_at r.account (r.partition ∷ []) 32 are.0.1, listed_agree l w account are.1 fw) (go (same_route r w account) (listed_in w account l))
  where
    go : (b c : Bool) → (b || c) ≡ pick b true c
    go true c = refl
    go false c = refl

are_behind : (l : List Route) (r : Route) → AreRoutes l → AreRoutes (r ∷ []) → AreRoutes (l ++ (r ∷ []))
are_behind [] r are one = one
are_behind (x ∷ l) r are one = (are.0, are_behind l r are.1 one)

one_taken : (before : List Route) (r : Route) → AreRoutes before → AreRoutes (r ∷ []) → sound_routes (map route_row before) ≡ true → sound_routes (map route_row before ++ (route_row r ∷ [])) ≡ takes_one before r
unfolding takes_one
one_taken before r are one e =
    question_3_of_one_row_more (map route_row before) (route_row r) e
    ∙ rw (length-map before route_row, get_or_at r.account r.partition [] 0 32 one.0.1, row_address r one.0.1, listed_agree before r.workchain r.account are one.0.0)

all_taken : (before l : List Route) → AreRoutes before → AreRoutes l → sound_routes (map route_row before) ≡ true → takes_all before l ≡ sound_routes (map route_row before ++ map route_row l)
unfolding takes_all
all_taken before [] are more e = sym (ap sound_routes (append-nil (map route_row before)) ∙ e)
all_taken before (r ∷ l) are more e =
    go (takes_one before r) (one_taken before r are (more.0, tt) e) (λ h. all_taken (before ++ (r ∷ [])) l (are_behind before r are (more.0, tt)) more.1 (ap sound_routes (map-append route_row before (r ∷ [])) ∙ h))
  where
    first : List (List ℕ)
    first = map route_row before ++ (route_row r ∷ [])

    rest : List (List ℕ)
    rest = map route_row l

    together : sound_routes (first ++ rest) ≡ sound_routes (map route_row before ++ (route_row r ∷ rest))
    together = ap sound_routes (append_assoc (map route_row before) (route_row r ∷ []) rest)

    refused : (b : Bool) → sound_routes (first ++ rest) ≡ b → sound_routes first ≡ false → false ≡ b
    refused true q h = never (sym (the_first_rows_of_a_table_that_passes_question_3_pass_it first rest q) ∙ h)
    refused false q h = refl

    go : (b : Bool) → sound_routes first ≡ b → (sound_routes first ≡ true → takes_all (before ++ (r ∷ [])) l ≡ sound_routes (map route_row (before ++ (r ∷ [])) ++ rest))
        → (b && takes_all (before ++ (r ∷ [])) l) ≡ sound_routes (map route_row before ++ (route_row r ∷ rest))
    go true h next = next h ∙ ap (λ (k : List (List ℕ)). sound_routes (k ++ rest)) (map-append route_row before (r ∷ [])) ∙ together
    go false h next = refused (sound_routes (first ++ rest)) refl h ∙ together

-- Records pass question 3 exactly if their rows do.
pub question_3_of_the_records_is_that_of_their_rows : (l : List Route) → AreRoutes l → records_number l ≡ routes_number (rows_of l)
unfolding records_number routes_number sound_routes none_twice partitions_exist
question_3_of_the_records_is_that_of_their_rows l are =
    let n : length (rows_of l) / 34 ≡ length l = omega (arith, rows_length l are) in
    let z : length (rows_of l) % 34 ≡ 0 = omega (arith, rows_length l are) in
    rw (n, z, rows_are l are, all_taken [] l tt are refl)

-- The same from the records on: the router on their rows answers what the search in them answers.
pub the_rows_router_is_the_records_router : (l : List Route) (w : ℤ) (account : List ℕ) → AreRoutes l → SFits w8 w → get_partition (rows_of l) (byte_of w ∷ account) ≡ get_partition_in l w account
unfolding get_partition get_partition_in rows_partition
the_rows_router_is_the_records_router l w account are fw =
    ap (λ (n : ℕ). unless_refused (routes_number (rows_of l)) (first_partition (byte_of w ∷ account) (rows 34 n (rows_of l)))) {x = length (rows_of l) / 34} {y = length l} (omega (arith, rows_length l are))
    ∙ ap (λ (k : List (List ℕ)). unless_refused (routes_number (rows_of l)) (first_partition (byte_of w ∷ account) k)) (rows_are l are)
    ∙ ap (unless_refused (routes_number (rows_of l))) (written_agree l w account are fw)
    ∙ ap (λ (n : ℕ). unless_refused n (first_partition_in l w account)) (sym (question_3_of_the_records_is_that_of_their_rows l are))
