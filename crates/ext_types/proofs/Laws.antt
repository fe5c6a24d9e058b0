-- Laws of the order of keys.
use Rattle.std.proofs.lemmas.Bool.{and_parts}
use Prim.Native.Nat.{ℕ, ◌<◌}
use mathlib.Core.Path.{◌≡◌, refl, sym, ap, ◌∙◌}
use mathlib.Core.Bool.{Bool, true, false, ◌||◌, ◌&&◌}
use mathlib.Core.Logic.{◌⊎◌, inl, inr}
use native.Mathlib.Omega.{arith}
use lib.Dec.{ltb, eqb}
use borrow.Author.Tests.{ltb-true, ltb-false, eqb-true, lt-ltb, le-ltb, eq-eqb}
use Rattle.ext_types.specs.declared.ExternalKey.{ExternalKey}
use Rattle.ext_types.specs.Keys.{key_above, key_equal}

-- a > b as a fact of numbers
abbrev pub Above : ExternalKey → ExternalKey → Type 0
Above a b = (b.anchor_id < a.anchor_id) ⊎ ((a.anchor_id ≡ b.anchor_id) × (b.msgs_offset < a.msgs_offset))

pub above_fact : (a b : ExternalKey) → key_above a b ≡ true → Above a b
unfolding key_above
above_fact a b = go (ltb b.anchor_id a.anchor_id) refl (eqb a.anchor_id b.anchor_id) refl
  where
    go : (x : Bool) → ltb b.anchor_id a.anchor_id ≡ x → (y : Bool) → eqb a.anchor_id b.anchor_id ≡ y → (x || (y && ltb b.msgs_offset a.msgs_offset)) ≡ true → Above a b
    go true p y q h = inl (ltb-true _ _ p)
    go false p true q h = inr (eqb-true _ _ q, ltb-true _ _ h)
    go false p false q h = absurd (let z : ◌≡◌ {A = ℕ} 0 1 = cc in omega arith)

pub fact_above : (a b : ExternalKey) → Above a b → key_above a b ≡ true
unfolding key_above
fact_above a b (inl p) = rw (lt-ltb b.anchor_id a.anchor_id p)
fact_above a b (inr p) =
    rw (le-ltb b.anchor_id a.anchor_id (omega arith), eq-eqb a.anchor_id b.anchor_id p.0, lt-ltb b.msgs_offset a.msgs_offset p.1)

same_parts : (a b : ExternalKey) → a.anchor_id ≡ b.anchor_id → a.msgs_offset ≡ b.msgs_offset → a ≡ b
same_parts a b p q = ap (λ (n : ℕ). key n a.msgs_offset) p ∙ ap (key b.anchor_id) q
  where
    key : ℕ → ℕ → ExternalKey
    key id offset = record { anchor_id = id; msgs_offset = offset }

-- the order is strict
pub above_irreflexive : (a : ExternalKey) → key_above a a ≡ false
unfolding key_above
above_irreflexive a =
    rw (le-ltb a.anchor_id a.anchor_id (omega arith), eq-eqb a.anchor_id a.anchor_id refl, le-ltb a.msgs_offset a.msgs_offset (omega arith))

pub above_transitive : (a b c : ExternalKey) → key_above a b ≡ true → key_above b c ≡ true → key_above a c ≡ true
above_transitive a b c p q = fact_above a c (go (above_fact a b p) (above_fact b c q))
  where
    go : Above a b → Above b c → Above a c
    go (inl x) (inl y) = inl (omega arith)
    go (inl x) (inr y) = inl (omega arith)
    go (inr x) (inl y) = inl (omega arith)
    go (inr x) (inr y) = inr (omega arith, omega arith)

pub above_asymmetric : (a b : ExternalKey) → key_above a b ≡ true → key_above b a ≡ false
above_asymmetric a b p = go (key_above b a) refl
  where
    go : (x : Bool) → key_above b a ≡ x → x ≡ false
    go true q = sym (above_transitive a b a p q) ∙ above_irreflexive a
    go false q = refl

-- equal as keys is equal
pub equal_same : (a b : ExternalKey) → key_equal a b ≡ true → a ≡ b
unfolding key_equal
equal_same a b h =
    let both = and_parts (eqb a.anchor_id b.anchor_id) (eqb a.msgs_offset b.msgs_offset) h in
    same_parts a b (eqb-true _ _ both.0) (eqb-true _ _ both.1)

pub same_equal : (a b : ExternalKey) → a ≡ b → key_equal a b ≡ true
unfolding key_equal
same_equal a b e = rw (eq-eqb a.anchor_id b.anchor_id (ap (λ (k : ExternalKey). k.anchor_id) e), eq-eqb a.msgs_offset b.msgs_offset (ap (λ (k : ExternalKey). k.msgs_offset) e))

-- the order is total
pub above_total : (a b : ExternalKey) → (key_above a b ≡ true) ⊎ ((a ≡ b) ⊎ (key_above b a ≡ true))
above_total a b = go (ltb b.anchor_id a.anchor_id) refl (ltb a.anchor_id b.anchor_id) refl (ltb b.msgs_offset a.msgs_offset) refl (ltb a.msgs_offset b.msgs_offset) refl
  where
    go : (x : Bool) → ltb b.anchor_id a.anchor_id ≡ x → (y : Bool) → ltb a.anchor_id b.anchor_id ≡ y
        → (z : Bool) → ltb b.msgs_offset a.msgs_offset ≡ z → (w : Bool) → ltb a.msgs_offset b.msgs_offset ≡ w
        → (key_above a b ≡ true) ⊎ ((a ≡ b) ⊎ (key_above b a ≡ true))
    go true p y q z r w s = inl (fact_above a b (inl (ltb-true _ _ p)))
    go false p true q z r w s = inr (inr (fact_above b a (inl (ltb-true _ _ q))))
    go false p false q true r w s = inl (fact_above a b (inr (omega (arith, ltb-false), ltb-true _ _ r)))
    go false p false q false r true s = inr (inr (fact_above b a (inr (omega (arith, ltb-false), ltb-true _ _ s))))
    go false p false q false r false s = inr (inl (same_parts a b (omega (arith, ltb-false)) (omega (arith, ltb-false))))
