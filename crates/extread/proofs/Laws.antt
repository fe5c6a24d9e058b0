-- What the next record says of the input that is at hand.
use Prim.Native.Nat.{ℕ, ◌+◌, ◌≤◌}
use mathlib.Core.Path.{◌≡◌}
use mathlib.Core.List.{List}
use native.Mathlib.Omega.{arith}
use Rattle.std.proofs.lemmas.Bool.Decides.{nat_tests}
use Rattle.records.specs.declared.Next.TheVariants.{Whole, Long}
use Rattle.records.specs.Records.{next_record}

module _ (input : List ℕ) (from end : ℕ) where
  -- a whole record ends where the input does, or before
  pub whole_ends : (start n : ℕ) → Whole start n ≡ next_record input from end → start + n ≤ end
  unfolding next_record
  whole_ends start n e = grind (arith, nat_tests)

  -- of one that is too long the head is at hand
  pub long_ends : (n : ℕ) → Long n ≡ next_record input from end → from + 56 ≤ end
  unfolding next_record
  long_ends n e = grind (arith, nat_tests)
