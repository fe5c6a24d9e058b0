-- The derived comparisons of keys, as `>` and `==` use them, are the order of keys.
use Prim.Native.Nat.{ℕ}
use mathlib.Core.Path.{◌≡◌, refl, ap, ◌∙◌}
use mathlib.Core.Bool.{Bool, true, false, not, ◌||◌, ◌&&◌}
use native.Mathlib.Omega.{arith}
use lib.Dec.{ltb, eqb}
use borrow.Author.Tests.{ltb-true, eqb-true, eqb-false, ltb-false, lt-ltb, le-ltb, ne_eqb}
use Rattle.std.specs.Prelude.{Some}
use Rattle.std.proofs.Common.{Ordering, Less, Equal, Greater}
use Rattle.std.specs.Ordering.{is_le, partial_le, nat_cmp, is_gt, is_some_and, partial_ordering_then, partial_gt}
use Rattle.ext_types.specs.contracts.ExternalKeyPartialEq.TheImpl as derived-eq
use Rattle.ext_types.specs.contracts.ExternalKeyPartialOrd.TheImpl as derived
use Rattle.ext_types.specs.declared.ExternalKey.{ExternalKey}
use Rattle.ext_types.specs.Keys.{key_above, key_equal}

by_numbers : (i j m n : ℕ) → is_some_and is_gt (partial_ordering_then (Some (nat_cmp i j)) (Some (nat_cmp m n))) ≡ (ltb j i || (eqb i j && ltb n m))
by_numbers i j m n = go (ltb i j) refl (eqb i j) refl (ltb m n) refl (eqb m n) refl
  where
    go : (x : Bool) → ltb i j ≡ x → (y : Bool) → eqb i j ≡ y → (z : Bool) → ltb m n ≡ z → (w : Bool) → eqb m n ≡ w
        → is_some_and is_gt (partial_ordering_then (Some (nat_cmp i j)) (Some (nat_cmp m n))) ≡ (ltb j i || (eqb i j && ltb n m))
    go true p y q z r w s = let l = ltb-true i j p in rw (p, le-ltb j i (omega arith), ne_eqb i j (λ e. omega arith))
    go false p true q true r w s = let l = ltb-true m n r in rw (p, q, r, le-ltb j i (omega (arith, eqb-true i j q)), le-ltb n m (omega arith))
    go false p true q false r true s = rw (p, q, r, s, le-ltb j i (omega (arith, eqb-true i j q)), le-ltb n m (omega (arith, eqb-true m n s)))
    go false p true q false r false s =
        let d = eqb-false m n s in
        rw (p, q, r, s, le-ltb j i (omega (arith, eqb-true i j q)), lt-ltb n m (omega (arith, ltb-false m n r)))
    go false p false q z r w s = let d = eqb-false i j q in rw (p, q, lt-ltb j i (omega (arith, ltb-false i j p)))

pub greater_is_above : (a b : ExternalKey) → partial_gt derived.partial_cmp-value.it a b ≡ key_above a b
unfolding key_above
greater_is_above a b = by_numbers a.anchor_id b.anchor_id a.msgs_offset b.msgs_offset

-- any two keys compare
not_greater : (o p : Ordering) → is_some_and is_le (partial_ordering_then (Some o) (Some p)) ≡ not (is_some_and is_gt (partial_ordering_then (Some o) (Some p)))
not_greater Less p = refl
not_greater Equal Less = refl
not_greater Equal Equal = refl
not_greater Equal Greater = refl
not_greater Greater p = refl

pub at_most_is_not_above : (a b : ExternalKey) → partial_le derived.partial_cmp-value.it a b ≡ not (key_above a b)
at_most_is_not_above a b = not_greater (nat_cmp a.anchor_id b.anchor_id) (nat_cmp a.msgs_offset b.msgs_offset) ∙ ap not (greater_is_above a b)

pub same_is_equal : (a b : ExternalKey) → derived-eq.eq-value.it a b ≡ key_equal a b
unfolding key_equal
same_is_equal a b = refl
