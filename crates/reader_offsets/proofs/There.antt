-- What the code learns of a record, a place or a range that may not be there.
use Prim.Native.Nat.{ℕ, ◌-◌}
use mathlib.Core.Path.{◌≡◌, refl, sym, ◌∙◌}
use mathlib.Core.Bool.{Bool, true, false}
use mathlib.Core.List.{List, [], ◌∷◌}
use native.Mathlib.Omega.{arith}
use lib.Dec.{ltb}
use lib.ListN.{length, get_or-eq_default}
use borrow.Author.Tests.{lt-ltb, ltb-false}
use Rattle.std.specs.Prelude.{Option, Some, None, Ok, ok_or}
use Rattle.std.specs.Bool.{then_some}
use Rattle.std.specs.List.{slice_get}
use Rattle.std.proofs.lemmas.Option.{slice_get-get_or}
use Rattle.refusals.specs.declared.Refusal.TheVariants.{NotThere}
use Rattle.range_rules.specs.declared.ExternalsRangeReaderState.{ExternalsRangeReaderState}
use Rattle.reader_rules.specs.State.{no_range}
use Rattle.reader_rules.specs.Offsets.{record_of, range_at, place_of}
use Rattle.externals_reader.proofs.Refused.{change_refused}
use Rattle.reader_offsets.specs.Answers.{last_there}
use Rattle.reader_offsets.proofs.Numbers.{number_5, refused_15, refused_16}

-- what is there only where a mark says so
module _ {A : Type 0} (b : Bool) (p : A) (o : Option A) (is : o ≡ then_some b p) where
  pub is_some : (q : A) → o ≡ Some q → (b ≡ true) × (q ≡ p)
  is_some q e = go b (sym is ∙ e)
    where
      go : (d : Bool) → then_some d p ≡ Some q → (d ≡ true) × (q ≡ p)
      go true z = (refl, cc)
      go false z = absurd (let w : ◌≡◌ {A = ℕ} 0 1 = cc in omega arith)

  pub is_none : o ≡ None → b ≡ false
  is_none e = go b (sym is ∙ e)
    where
      go : (d : Bool) → then_some d p ≡ None → d ≡ false
      go true z = absurd (let w : ◌≡◌ {A = ℕ} 0 1 = cc in omega arith)
      go false z = refl

  pub present : (q : A) → Ok q ≡ ok_or o NotThere → (b ≡ true) × (q ≡ p)
  present q e = is_some q (some_or o e)
    where
      some_or : (x : Option A) → Ok q ≡ ok_or x NotThere → x ≡ Some q
      some_or (Some y) z = cc
      some_or None z = absurd (let w : ◌≡◌ {A = ℕ} 0 1 = cc in omega arith)

-- the last range
pub last_get : (l : List ExternalsRangeReaderState) → slice_get l (length l - 1) ≡ last_there l
last_get [] = refl
last_get (r ∷ l) = rw (lt-ltb 0 (length (r ∷ l)) (omega arith)) (slice_get-get_or (r ∷ l) (length (r ∷ l) - 1) no_range (omega arith))

-- at a place past the end no partition is there
pub no_place : (seqno i : ℕ) (l : List ExternalsRangeReaderState) → ltb (place_of seqno l) (length l) ≡ false → (record_of i (range_at (place_of seqno l) l)).present ≡ false
no_place seqno i l e = rw (get_or-eq_default l no_range (ltb-false _ _ e))

-- what a call that changes the reader answers where a question refuses it
pub ruleset changes = (change_refused, number_5, refused_15, refused_16, no_place)
