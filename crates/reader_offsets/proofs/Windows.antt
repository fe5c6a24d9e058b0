-- Chains over the partitions and over ranges, as the definitions say them, and the loop of a tally.
use Prim.Native.Nat.{ℕ, suc, zero, ◌+◌, ◌≤◌, ◌<◌}
use mathlib.Core.Path.{◌≡◌, refl, sym, ap, ◌∙◌}
use mathlib.Core.Bool.{Bool, true, false, cond, ◌&&◌}
use mathlib.Core.List.{List, [], ◌∷◌}
use native.Mathlib.Omega.{arith}
use native.Mathlib.Numerals.{add-one}
use lib.Dec.{eqb, ltb}
use Rattle.std.specs.Bool.{then_some}
use Rattle.std.specs.Prelude.{Some, None}
use Rattle.rows.specs.Rows.{pick}
use lib.ListN.{length, get_or, drop, drop_of_length-le}
use lib.Seq.{drop-cons}
use Rattle.std.specs.List.{zip, list_all, position_or_len}
use Rattle.std.proofs.lemmas.List.Recursion.{is_position_or_len}
use Rattle.range_rules.specs.declared.ExternalsRangeReaderState.{ExternalsRangeReaderState}
use Rattle.reader_rules.specs.State.{no_range}
use Rattle.reader_rules.specs.declared.Tally.{Tally}
use Rattle.reader_offsets.specs.Answers.{place_there}
use Rattle.reader_rules.specs.Offsets.{all_below, record_of, tallied, tally_from, place_of}

-- ---- 0, 1, .. below n, from the front
below_front : (n : ℕ) (f : ℕ → Bool) → all_below (suc n) f ≡ (f 0 && all_below n (λ i. f (suc i)))
unfolding all_below
below_front zero f = go (f 0)
  where
    go : (b : Bool) → b ≡ (b && true)
    go true = refl
    go false = refl
below_front (suc n) f = rw (below_front n f) (go (f 0) (all_below n (λ i. f (suc i))) (f (suc n)))
  where
    go : (a b d : Bool) → ((a && b) && d) ≡ (a && (b && d))
    go true b d = refl
    go false b d = refl

pub below_listed : {A B : Type 0} (g : A → B → Bool) (a : A) (b : B) (l : List A) (m : List B) → length m ≡ length l → list_all (λ p. g p.0 p.1) (zip l m) ≡ all_below (length l) (λ i. g (get_or l i a) (get_or m i b))
unfolding all_below
below_listed g a b [] m e = refl
below_listed g a b (x ∷ l) [] e = absurd (omega arith)
below_listed g a b (x ∷ l) (y ∷ m) e =
    ap (λ (z : Bool). g x y && z) (below_listed g a b l m (omega arith)) ∙ sym (below_front (length l) (λ i. g (get_or (x ∷ l) i a) (get_or (y ∷ m) i b)))

-- ---- the place of a seqno
place_listed : (seqno : ℕ) (l : List ExternalsRangeReaderState) → position_or_len (λ r. eqb r.seqno seqno) l ≡ place_of seqno l
unfolding place_of
place_listed seqno l =
    sym (is_position_or_len (place_of seqno) (λ r. eqb r.seqno seqno) refl (λ r m. go (eqb r.seqno seqno) (place_of seqno m)) l)
  where
    go : (b : Bool) (n : ℕ) → pick b 0 (suc n) ≡ cond b 0 (1 + n)
    go true n = refl
    go false n = omega arith

pub place_found : (seqno : ℕ) (l : List ExternalsRangeReaderState) → cond (ltb (position_or_len (λ r. eqb r.seqno seqno) l) (length l)) (Some (position_or_len (λ r. eqb r.seqno seqno) l)) None ≡ place_there seqno l
place_found seqno l = rw (place_listed seqno l) (go (ltb (place_of seqno l) (length l)))
  where
    go : (b : Bool) → cond b (Some (place_of seqno l)) None ≡ then_some b (place_of seqno l)
    go true = refl
    go false = refl

-- ---- what ranges hold of a partition: a turn, and the end
module _ (xs : List ExternalsRangeReaderState) (at i : ℕ) (t : Tally) where
  pub tally_next : at < length xs → tally_from i t (drop at xs) ≡ tally_from i (tallied t (record_of i (get_or xs at no_range))) (drop (at + 1) xs)
  unfolding tally_from
  tally_next h = rw (add-one at, drop-cons xs at no_range h)

  pub tally_end : length xs ≤ at → tally_from i t (drop at xs) ≡ t
  unfolding tally_from
  tally_end h = rw (drop_of_length-le xs h)
