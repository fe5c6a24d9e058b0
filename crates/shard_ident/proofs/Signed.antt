-- Signed numbers compared: as such, as bytes, and a byte against 32 bits by the machine's bits.
use Prim.Native.Nat.{ℕ, suc, ◌-◌, ◌^◌, ◌<◌}
use mathlib.Core.Path.{◌≡◌, refl, ap}
use mathlib.Core.Bool.{Bool, true, false}
use native.Mathlib.Omega.{arith}
use lib.Dec.{eqb, ltb}
use lib.IntN.{ℤ, pos, negsuc}
use mir.Syntax.{w8, w32}
use mir.Val.{SFits, of_z, to_z, sel}
use borrow.Author.Tests.{eq-eqb, ne_eqb, eqb-true, eqb-false, ltb-true, ltb-false}
use Rattle.rows.specs.Rows.{pick}
use Rattle.shard_ident.specs.Shard.{signed_byte, equalℤ}

pub equal_self : (a : ℤ) → equalℤ a a ≡ true
equal_self (pos a) = eq-eqb a a refl
equal_self (negsuc a) = eq-eqb a a refl

pub equal_differ : (a b : ℤ) → (a ≡ b → ⊥) → equalℤ a b ≡ false
equal_differ (pos a) (pos b) n = ne_eqb a b (λ e. n (ap pos e))
equal_differ (pos a) (negsuc b) n = refl
equal_differ (negsuc a) (pos b) n = refl
equal_differ (negsuc a) (negsuc b) n = ne_eqb a b (λ e. n (ap negsuc e))

-- two bytes are the same exactly if they are the same signed
pub same_signed : (a b : ℕ) → a < 256 → b < 256 → eqb a b ≡ equalℤ (signed_byte a) (signed_byte b)
same_signed a b ha hb = go (ltb a 128) (ltb b 128) refl refl
  where
    high : (x : Bool) → eqb (255 - a) (255 - b) ≡ x → eqb a b ≡ x
    high true e = eq-eqb a b (omega (arith, eqb-true (255 - a) (255 - b) e))
    high false e = ne_eqb a b (λ q. eqb-false (255 - a) (255 - b) e (ap (λ (n : ℕ). 255 - n) q))

    go : (x y : Bool) → ltb a 128 ≡ x → ltb b 128 ≡ y → eqb a b ≡ equalℤ (pick x (pos a) (negsuc (255 - a))) (pick y (pos b) (negsuc (255 - b)))
    go true true p q = refl
    go true false p q = ne_eqb a b (λ e. omega (arith, e, ltb-true a 128 p, ltb-false b 128 q))
    go false true p q = ne_eqb a b (λ e. omega (arith, e, ltb-false a 128 p, ltb-true b 128 q))
    go false false p q = high (eqb (255 - a) (255 - b)) refl

pub same_pos : (b : ℕ) (z : ℤ) → b < 128 → SFits w32 z → eqb b (of_z w32 z) ≡ equalℤ (pos b) z
same_pos b (pos n) h f = refl
same_pos b (negsuc n) h f = ne_eqb b (2 ^ 32 - suc n) (λ e. omega (arith, f.sfits))

both : (k n : ℕ) → k < 128 → n < 2 ^ 31 → eqb (2 ^ 32 - suc k) (2 ^ 32 - suc n) ≡ eqb k n
both k n h f = go (eqb k n) refl
  where
    go : (b : Bool) → eqb k n ≡ b → eqb (2 ^ 32 - suc k) (2 ^ 32 - suc n) ≡ b
    go true e = eq-eqb _ _ (ap (λ (j : ℕ). 2 ^ 32 - suc j) (eqb-true k n e))
    go false e = ne_eqb (2 ^ 32 - suc k) (2 ^ 32 - suc n) (λ q. eqb-false k n e (omega arith))

pub same_neg : (k : ℕ) (z : ℤ) → k < 128 → SFits w32 z → eqb (of_z w32 (negsuc k)) (of_z w32 z) ≡ equalℤ (negsuc k) z
same_neg k (pos n) h f = ne_eqb (2 ^ 32 - suc k) n (λ e. omega (arith, f.sfits))
same_neg k (negsuc n) h f = both k n h f.sfits

-- a byte taken as `i8`
pub taken_signed : (b : ℕ) → b < 256 → to_z w8 b ≡ signed_byte b
taken_signed b h = let e : 256 - suc b ≡ 255 - b = omega arith in go (ltb b 128) e
  where
    go : (t : Bool) → 256 - suc b ≡ 255 - b → sel t (pos b) (negsuc (256 - suc b)) ≡ pick t (pos b) (negsuc (255 - b))
    go true e = refl
    go false e = ap negsuc e

-- and compared, by the machine's bits, with 32 signed bits
pub same_byte : (b : ℕ) (z : ℤ) → b < 256 → SFits w32 z → eqb (of_z w32 (to_z w8 b)) (of_z w32 z) ≡ equalℤ (signed_byte b) z
same_byte b z h f = rw (taken_signed b h) (go (ltb b 128) refl)
  where
    go : (t : Bool) → ltb b 128 ≡ t → eqb (of_z w32 (pick t (pos b) (negsuc (255 - b)))) (of_z w32 z) ≡ equalℤ (pick t (pos b) (negsuc (255 - b))) z
    go true e = same_pos b z (ltb-true b 128 e) f
    go false e = let g = ltb-false b 128 e in same_neg (255 - b) z (omega arith) f
