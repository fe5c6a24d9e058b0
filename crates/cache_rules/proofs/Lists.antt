-- Laws of the rules on lists: what a pop and a trim leave, and the last of a list.
use Prim.Native.Nat.{ℕ, ◌≤◌, ◌<◌}
use mathlib.Core.Path.{◌≡◌, refl, sym, ap, ◌∙◌}
use mathlib.Core.Bool.{Bool, true, false}
use mathlib.Core.List.{List, [], ◌∷◌, ◌++◌}
use mathlib.Core.Option.{Option, none, some}
use native.Mathlib.Omega.{arith}
use lib.Dec.{ltb, leb}
use lib.ListN.{length, take}
use borrow.Author.Tests.{lt-ltb, le-ltb, leb-true, leb-false}
use Rattle.rows.specs.Rows.{pick}
use Rattle.cache_rules.specs.Rules.{Info, Cache, add_info, drop_stale, keep_front, trim_back, trim_history, info_time, last_of, last_not_above, info_at_ct, or_else, Anchor, add_anchor, row_of}
use Rattle.cache_rules.proofs.ByCall.{trim_snoc}

-- ---- history from the front
pub stale_le : (ct : ℕ) (l : List Info) → length (drop_stale ct l) ≤ length l
unfolding drop_stale
stale_le ct [] = omega arith
stale_le ct (x ∷ []) = omega arith
stale_le ct (x ∷ y ∷ l) =
    elim (ltb x.time ct) as (λ b. length (pick b (drop_stale ct (y ∷ l)) (x ∷ y ∷ l)) ≤ length (x ∷ y ∷ l)) [
      | true ↦ omega (arith, stale_le ct (y ∷ l))
      | false ↦ omega arith
    ]

-- ---- trimming from the back
module _ {A : Type 0} (time : A → ℕ) (ct : ℕ) where
  pub trim_le : (l : List A) → length (trim_back time ct l) ≤ length l
  unfolding trim_back
  trim_le [] = omega arith
  trim_le (x ∷ l) = go (trim_back time ct l) (trim_le l)
    where
      one : (b : Bool) → length (pick b [] (x ∷ [])) ≤ length (x ∷ l)
      one true = omega arith
      one false = omega arith

      go : (m : List A) → length m ≤ length l → length (keep_front time ct x m) ≤ length (x ∷ l)
      go [] p = one (ltb ct (time x))
      go (y ∷ m) p = omega arith

  -- what stays is the beginning of the list
  pub trim_prefix : (l : List A) → take (length (trim_back time ct l)) l ≡ trim_back time ct l
  unfolding trim_back
  trim_prefix [] = refl
  trim_prefix (x ∷ l) = go (trim_back time ct l) (trim_prefix l)
    where
      one : (b : Bool) → take (length (pick b [] (x ∷ []))) (x ∷ l) ≡ pick b [] (x ∷ [])
      one true = refl
      one false = refl

      go : (m : List A) → take (length m) l ≡ m → take (length (keep_front time ct x m)) (x ∷ l) ≡ keep_front time ct x m
      go [] p = one (ltb ct (time x))
      go (y ∷ m) p = ap (λ (k : List A). x ∷ k) p

-- the history, whose front stays
module _ (ct : ℕ) where
  cons_pick : (b : Bool) (y x : Info) (l : List Info) → y ∷ pick b (trim_back info_time ct l) (l ++ (x ∷ [])) ≡ pick b (trim_history ct (y ∷ l)) (y ∷ (l ++ (x ∷ [])))
  unfolding trim_history
  cons_pick true y x l = refl
  cons_pick false y x l = refl

  pub history_snoc : (l : List Info) (x : Info) → 0 < length l → trim_history ct (l ++ (x ∷ [])) ≡ pick (ltb ct (info_time x)) (trim_history ct l) (l ++ (x ∷ []))
  unfolding trim_history
  history_snoc [] x p = absurd (omega arith)
  history_snoc (y ∷ l) x p = ap (λ (m : List Info). y ∷ m) (trim_snoc info_time ct l x) ∙ cons_pick (ltb ct (info_time x)) y x l

  pub history_le : (l : List Info) → length (trim_history ct l) ≤ length l
  unfolding trim_history
  history_le [] = omega arith
  history_le (x ∷ l) = omega (arith, trim_le info_time ct l)

pub history_prefix : (ct : ℕ) (l : List Info) → take (length (trim_history ct l)) l ≡ trim_history ct l
unfolding trim_history
history_prefix ct [] = refl
history_prefix ct (x ∷ l) = ap (λ (m : List Info). x ∷ m) (trim_prefix info_time ct l)

-- ---- the last of a list
pub last_snoc : {A : Type 0} (l : List A) (x : A) → last_of (l ++ (x ∷ [])) ≡ some x
unfolding last_of
last_snoc [] x = refl
last_snoc (y ∷ []) x = refl
last_snoc (y ∷ z ∷ l) x = last_snoc (z ∷ l) x

pub an_added_entry_is_the_last_imported : (i : Info) (v : Cache) → last_of (add_info i v).history ≡ some i
unfolding add_info
an_added_entry_is_the_last_imported i v = last_snoc v.history i

-- the message count, not ours, stands for all
pub the_last_history_entry_after_an_add_is_the_anchor's_row : (a : Anchor) (v : Cache)
    → last_of (add_anchor a v).history ≡ some (record { id = (row_of a).id; time = (row_of a).time; all = (row_of a).count; ours = (row_of a).ours; author = (row_of a).author })
unfolding add_anchor
the_last_history_entry_after_an_add_is_the_anchor's_row a v = last_snoc v.history _

-- the entry that `last_imported_anchor_info_at_ct` answers is the last that a trim leaves
pub last_some : {A : Type 0} (y : A) (l : List A) (o : Option A) → or_else (last_of (y ∷ l)) o ≡ last_of (y ∷ l)
unfolding last_of
last_some y [] o = refl
last_some y (z ∷ l) o = last_some z l o

module _ (ct : ℕ) where
  not_above : {A : Type 0} (t : ℕ) (x y : A) → pick (ltb ct t) y x ≡ pick (leb t ct) x y
  not_above t x y = go (leb t ct) refl
    where
      go : (b : Bool) → leb t ct ≡ b → pick (ltb ct t) y x ≡ pick b x y
      go true e = rw (le-ltb ct t (leb-true t ct e))
      go false e = rw (lt-ltb ct t (leb-false t ct e))

  last_kept : (l : List Info) → last_not_above ct l ≡ last_of (trim_back info_time ct l)
  unfolding last_not_above trim_back last_of
  last_kept [] = refl
  last_kept (x ∷ l) = ap (λ (o : Option Info). or_else o (pick (leb x.time ct) (some x) none)) (last_kept l) ∙ go (trim_back info_time ct l)
    where
      one : (b : Bool) → pick {A = Option Info} b none (some x) ≡ last_of (pick b [] (x ∷ []))
      one true = refl
      one false = refl

      go : (m : List Info) → or_else (last_of m) (pick (leb x.time ct) (some x) none) ≡ last_of (keep_front info_time ct x m)
      go [] = sym (not_above x.time (some x) none) ∙ one (ltb ct x.time)
      go (y ∷ m) = last_some y m _

  pub at_ct : (l : List Info) → last_of (trim_history ct l) ≡ info_at_ct ct l
  unfolding trim_history info_at_ct last_not_above last_of
  at_ct [] = refl
  at_ct (x ∷ l) = go (trim_back info_time ct l) ∙ ap (λ (o : Option Info). or_else (or_else o (pick (leb x.time ct) (some x) none)) (some x)) (sym (last_kept l))
    where
      one : (b : Bool) → some x ≡ or_else (pick b (some x) none) (some x)
      one true = refl
      one false = refl

      go : (m : List Info) → last_of (x ∷ m) ≡ or_else (or_else (last_of m) (pick (leb x.time ct) (some x) none)) (some x)
      go [] = one (leb x.time ct)
      go (y ∷ m) = rw (last_some y m (pick (leb x.time ct) (some x) none), last_some y m (some x))
