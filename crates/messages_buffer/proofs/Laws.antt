-- Laws of tables by index, of the questions about them, and of what a changed record keeps.
use Rattle.std.proofs.lemmas.Bool.{and_parts, or_right}
use Prim.Native.Nat.{ℕ, suc, zero, ◌≤◌, ◌<◌}
use mathlib.Core.Path.{◌≡◌, refl, sym, ap, ◌∙◌}
use mathlib.Core.Bool.{Bool, true, false, not, ◌&&◌, ◌||◌}
use mathlib.Core.List.{List, [], ◌∷◌}
use native.Mathlib.Omega.{arith}
use lib.Dec.{eqb, leb}
use lib.ListN.{length, get_or, set}
use denote.Ref.{Bor}
use denote.Param.Members.{Mut}
use Rattle.std.specs.List.{list_all, zip, FoldsTo}
use Rattle.std.specs.Option.{MatchOption}
use Rattle.std.specs.Prelude.{Option}
use Rattle.std.specs.Fn.{Called}
use Rattle.std.specs.Iterator.{YieldsThen}
use Rattle.std.proofs.lemmas.Fn.{fronts}
use Rattle.std.specs.Slice.Iter.{iter_rest}
use Rattle.std.specs.declared.slice.Iter.{Iter}
use Rattle.std.proofs.lemmas.Iterator.{YieldsList-from_slice}
use Rattle.std.proofs.lemmas.Iterator.Search.{all_from_yields_List}
use Rattle.refusals.specs.declared.Refusal.{Refusal}
use Rattle.refusals.specs.Refusals.{number_of}
use Rattle.refusals.proofs.Laws.{refused_is_not_done}
use borrow.Author.Tests.{not-true, leb-true, le-leb}
use Rattle.rows.specs.Rows.{pick}
use Rattle.rows.proofs.Laws.{pick_yes, pick_no, yes_later}
use Rattle.messages_buffer.specs.declared.ExternalsPartitionRangeReaderState.{ExternalsPartitionRangeReaderState}
use Rattle.messages_buffer.specs.Fullness.{buffer_cap, no_limit, no_partition, no_buffer, limit_fits, count_fits, has_limit, every, Buffer, buffers, limited, range_free, limits_number, partitions_number, limited_number, first_no, fill_number, fill_state, all_limited}

-- ---- one test of each element of a table
pub all_is_every : {A : Type 0} (f : A → Bool) (l : List A) → list_all f l ≡ every f l
unfolding every
all_is_every f [] = refl
all_is_every f (x ∷ l) = ap (λ (b : Bool). f x && b) (all_is_every f l)

-- the number of a question that asks the test of each, by what the library says of the walk over a lent table
module _ {A F : Type 0} {g : Mut F (Bor A × Unit {0}) Bool} {s u : Iter A} {h : F} (f : A → Bool) (l : List A) (n : ℕ) (b : Bool)
    (ran : (xs : List (Bor A)) × (o : Option (Bor A)) × (j : F) × YieldsThen fronts s xs o u × FoldsTo (λ p x q. Called g p (x, tt) true q) h xs j × MatchOption o (b ≡ true) (λ x. (b ≡ false) × ((k : F) × Called g j (x, tt) false k)))
    (lent : iter_rest s ≡ l) (tested : (x : Bor A) (t : Bool) (q : F) → Called g h (x, tt) t q → (q ≡ h) × (t ≡ f x.now)) where
  is_every : b ≡ every f l
  is_every = all_from_yields_List f u h b ran (YieldsList-from_slice l lent) tested ∙ all_is_every f l

  pub passed : b ≡ true → 0 ≡ pick (every f l) 0 n
  passed e = sym (pick_yes _ _ _ (sym is_every ∙ e))

  pub failed : b ≡ false → n ≡ pick (every f l) 0 n
  failed e = sym (pick_no _ _ _ (sym is_every ∙ e))

every_each : {A : Type 0} (f : A → Bool) (d : A) (l : List A) → every f l ≡ true → (i : ℕ) → i < length l → f (get_or l i d) ≡ true
unfolding every
every_each f d [] e i h = absurd (omega arith)
every_each f d (x ∷ l) e zero h = (and_parts (f x) (every f l) e).0
every_each f d (x ∷ l) e (suc i) h = every_each f d l (and_parts (f x) (every f l) e).1 i (omega arith)

-- where every element passed, the one that is put in decides
every_set : {A : Type 0} (f : A → Bool) (l : List A) (i : ℕ) (x : A) → every f l ≡ true → i < length l → every f (set l i x) ≡ f x
unfolding every
every_set f [] i x e h = absurd (omega arith)
every_set f (y ∷ l) zero x e h = rw (and_parts (f y) (every f l) e).1 (sym (yes_later (f x) true refl))
every_set f (y ∷ l) (suc i) x e h = rw (and_parts (f y) (every f l) e).0 (every_set f l i x (and_parts (f y) (every f l) e).1 (omega arith))

-- ---- limits beside records
pub buffers_at : (ls : List ℕ) (ps : List ExternalsPartitionRangeReaderState) (i : ℕ) (d : Buffer) → i < length ls → i < length ps → get_or (buffers ls ps) i d ≡ record { limit = get_or ls i 0; partition = get_or ps i no_partition }
unfolding buffers
buffers_at [] ps i d h g = absurd (omega arith)
buffers_at (l ∷ ls) [] i d h g = absurd (omega arith)
buffers_at (l ∷ ls) (p ∷ ps) zero d h g = refl
buffers_at (l ∷ ls) (p ∷ ps) (suc i) d h g = buffers_at ls ps i d (omega arith) (omega arith)

pub buffers_length : (ls : List ℕ) (ps : List ExternalsPartitionRangeReaderState) → length ls ≡ length ps → length (buffers ls ps) ≡ length ls
unfolding buffers
buffers_length [] ps h = refl
buffers_length (l ∷ ls) [] h = absurd (omega arith)
buffers_length (l ∷ ls) (p ∷ ps) h = ap suc (buffers_length ls ps (omega arith))

buffers_set : (ls : List ℕ) (ps : List ExternalsPartitionRangeReaderState) (i : ℕ) (r : ExternalsPartitionRangeReaderState) → i < length ls → buffers ls (set ps i r) ≡ set (buffers ls ps) i (record { limit = get_or ls i 0; partition = r })
unfolding buffers
buffers_set [] ps i r h = absurd (omega arith)
buffers_set (l ∷ ls) [] i r h = refl
buffers_set (l ∷ ls) (p ∷ ps) zero r h = refl
buffers_set (l ∷ ls) (p ∷ ps) (suc i) r h = ap (λ (m : List Buffer). record { limit = l; partition = p } ∷ m) (buffers_set ls ps i r (omega arith))

abbrev pub beside : ℕ × ExternalsPartitionRangeReaderState → Buffer
beside q = record { limit = q.0; partition = q.1 }

-- the two tables zipped
pub all_buffers : (f : Buffer → Bool) (ls : List ℕ) (ps : List ExternalsPartitionRangeReaderState) → list_all (λ q. f (beside q)) (zip ls ps) ≡ every f (buffers ls ps)
unfolding buffers every
all_buffers f [] ps = refl
all_buffers f (l ∷ ls) [] = refl
all_buffers f (l ∷ ls) (p ∷ ps) = ap (λ (b : Bool). f (beside (l, p)) && b) (all_buffers f ls ps)

module _ (f : Buffer → Bool) (ls : List ℕ) (ps : List ExternalsPartitionRangeReaderState) (same : length ls ≡ length ps) where
  test_at : (i : ℕ) → i < length ls → f (get_or (buffers ls ps) i no_buffer) ≡ f (record { limit = get_or ls i 0; partition = get_or ps i no_partition })
  test_at i h = ap f (buffers_at ls ps i no_buffer h (omega arith))

  inside : (i : ℕ) → i < length ls → i < length (buffers ls ps)
  inside i h = rw (buffers_length ls ps same) h

  buffers_each : every f (buffers ls ps) ≡ true → (i : ℕ) → i < length ls → f (record { limit = get_or ls i 0; partition = get_or ps i no_partition }) ≡ true
  buffers_each e i h = sym (test_at i h) ∙ every_each f no_buffer (buffers ls ps) e i (inside i h)

  buffers_put : every f (buffers ls ps) ≡ true → (i : ℕ) (r : ExternalsPartitionRangeReaderState) → i < length ls → every f (buffers ls (set ps i r)) ≡ f (record { limit = get_or ls i 0; partition = r })
  buffers_put e i r h = rw (buffers_set ls ps i r h) (every_set f (buffers ls ps) i (record { limit = get_or ls i 0; partition = r }) e (inside i h))

-- ---- the first "no"
pub first_no_lem : (n : ℕ) (l : List ℕ) → (n ≡ 0 → ⊥) → first_no (n ∷ l) ≡ n
unfolding first_no
first_no_lem zero l h = absurd (h refl)
first_no_lem (suc n) l h = refl

pub first_yes : (n : ℕ) (l : List ℕ) → n ≡ 0 → first_no (n ∷ l) ≡ first_no l
unfolding first_no
first_yes zero l h = refl
first_yes (suc n) l h = absurd (omega arith)

pub first_zero : (n : ℕ) (l : List ℕ) → first_no (n ∷ l) ≡ 0 → (n ≡ 0) × (first_no l ≡ 0)
unfolding first_no
first_zero zero l e = (refl, e)
first_zero (suc n) l e = absurd (omega arith)

pub first_alone : (n : ℕ) → first_no (n ∷ []) ≡ n
unfolding first_no
first_alone zero = refl
first_alone (suc n) = refl

module _ (ls : List ℕ) (ps : List ExternalsPartitionRangeReaderState) where
  pub fill_number_4 : (r : Refusal) → number_of r ≡ limits_number ls → number_of r ≡ fill_number ls ps
  unfolding fill_number
  fill_number_4 r e = rw (sym e) (sym (first_no_lem (number_of r) _ (refused_is_not_done r)))

  module _ (limits_fit : 0 ≡ limits_number ls) where
    pub fill_number_5 : (r : Refusal) → number_of r ≡ partitions_number ps → number_of r ≡ fill_number ls ps
    unfolding fill_number
    fill_number_5 r e = sym (first_yes _ _ (sym limits_fit) ∙ rw (sym e) (first_no_lem (number_of r) _ (refused_is_not_done r)))

    module _ (counts_fit : 0 ≡ partitions_number ps) where
      last_question : fill_number ls ps ≡ pick (all_limited ls ps) 0 10
      unfolding fill_number limited_number
      last_question = first_yes _ _ (sym limits_fit) ∙ (first_yes _ _ (sym counts_fit) ∙ first_alone (pick (all_limited ls ps) 0 10))

      pub refused_without_limit : all_limited ls ps ≡ false → record { number = 10; free = 0 } ≡ fill_state ls ps
      unfolding fill_state
      refused_without_limit e = rw (last_question ∙ pick_no (all_limited ls ps) 0 10 e)

      pub answered : all_limited ls ps ≡ true → record { number = 0; free = range_free ls ps } ≡ fill_state ls ps
      unfolding fill_state
      answered e = rw (last_question ∙ pick_yes (all_limited ls ps) 0 10 e)

-- ---- what the questions give, and what a changed record keeps
-- questions 4, 5 and 10 are answered "yes"
pub record Passed (ls : List ℕ) (ps : List ExternalsPartitionRangeReaderState) : Type 0 where
  pub limits_fit : limits_number ls ≡ 0
  pub counts_fit : partitions_number ps ≡ 0
  pub limited : all_limited ls ps ≡ true

pub number_zero : (b : Bool) (n : ℕ) → 0 < n → pick b 0 n ≡ 0 → b ≡ true
number_zero true n h e = refl
number_zero false n h e = absurd (omega arith)

pub all_passed : (ls : List ℕ) (ps : List ExternalsPartitionRangeReaderState) → fill_number ls ps ≡ 0 → Passed ls ps
unfolding fill_number limited_number
all_passed ls ps e =
    let x = first_zero _ _ e in
    let y = first_zero _ _ x.1 in
    record { limits_fit = x.0; counts_fit = y.0; limited = number_zero (all_limited ls ps) 10 (omega arith) (sym (first_alone (pick (all_limited ls ps) 0 10)) ∙ y.1) }

or_left : (a b : Bool) → (a || b) ≡ true → a ≡ false → b ≡ true
or_left true b e h = absurd (let z : ◌≡◌ {A = ℕ} 0 1 = cc in omega arith)
or_left false b e h = e

module _ (ps : List ExternalsPartitionRangeReaderState) (e : partitions_number ps ≡ 0) (i : ℕ) (h : i < length ps) where
  counts : every count_fits ps ≡ true
  unfolding partitions_number
  counts = number_zero (every count_fits ps) 5 (omega arith) e

  pub count_within : (get_or ps i no_partition).present ≡ true → (get_or ps i no_partition).count ≤ buffer_cap
  count_within p = leb-true _ _ (or_left (not (get_or ps i no_partition).present) (leb (get_or ps i no_partition).count buffer_cap) (every_each count_fits no_partition ps counts i h) (ap not p))

  pub counts_kept : (r : ExternalsPartitionRangeReaderState) → r.count ≤ buffer_cap → partitions_number (set ps i r) ≡ 0
  unfolding partitions_number
  counts_kept r g = pick_yes _ _ _ (every_set count_fits ps i r counts h ∙ rw (le-leb r.count buffer_cap g) (or_right (not r.present) true refl))

module _ (ls : List ℕ) (ps : List ExternalsPartitionRangeReaderState) (same : length ls ≡ length ps) (e : all_limited ls ps ≡ true) (i : ℕ) (h : i < length ls) where
  limited_at : has_limit (get_or ls i 0) (get_or ps i no_partition) ≡ true
  unfolding all_limited
  limited_at = buffers_each limited ls ps same e i h

  pub limit_within : limits_number ls ≡ 0 → (get_or ps i no_partition).present ≡ true → get_or ls i 0 ≤ buffer_cap
  unfolding limits_number
  limit_within f p =
      let l = or_left (not (get_or ps i no_partition).present) (not (eqb (get_or ls i 0) no_limit)) limited_at (ap not p) in
      leb-true _ _ (or_left (eqb (get_or ls i 0) no_limit) (leb (get_or ls i 0) buffer_cap) (every_each limit_fits 0 ls (number_zero (every limit_fits ls) 4 (omega arith) f) i h) (not-true _ l))

  pub limited_kept : (r : ExternalsPartitionRangeReaderState) → r.present ≡ (get_or ps i no_partition).present → all_limited ls (set ps i r) ≡ true
  unfolding all_limited
  limited_kept r p = buffers_put limited ls ps same e i r h ∙ (ap (λ (b : Bool). not b || not (eqb (get_or ls i 0) no_limit)) p ∙ limited_at)
