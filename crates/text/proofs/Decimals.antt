-- The decimal of a number: its fewest digits, from which the number is read back.
use Prim.Native.Nat.{ℕ, zero, suc, ◌+◌, ◌-◌, ◌*◌, ◌/◌, ◌%◌, ◌^◌, ◌≤◌, ◌<◌}
use mathlib.Core.Path.{◌≡◌, refl, sym, ap, ◌∙◌}
use mathlib.Core.Bool.{Bool, true, false}
use mathlib.Core.List.{List, [], ◌∷◌, ◌++◌}
use native.Mathlib.Omega.{arith}
use native.Mathlib.Nat.{pow-suc, div-lt_iff_lt-mul, le-div_iff_mul-le, one-le-pow}
use lib.Dec.{ltb}
use lib.ListN.{length, length-append}
use borrow.Author.Tests.{lt-ltb, ltb-true, ltb-false}
use Rattle.io.specs.Digits.{hex_digit_ascii, last_digits, IsDigitCount}
use Rattle.rows.specs.Rows.{pick}
use Rattle.text.specs.Shown.{places, decimal}

-- ---- `places` counts the fewest digits
one_place : (n k : ℕ) → n < 10 → IsDigitCount 10 1 n k → k ≡ 1
one_place n zero p f = absurd (omega (arith, f.0))
one_place n (suc zero) p f = refl
one_place n (suc (suc j)) p f =
    let e : suc (suc j) - 1 ≡ suc j = omega arith in
    let h : 10 ^ suc j ≤ n = rw e at (f.2 (omega arith)) in
    let q = pow-suc 10 j in
    let o : 1 ≤ 10 ^ j = one-le-pow j 10 (omega arith) in
    absurd (omega arith)

fewest_rest : (n k : ℕ) → 10 ≤ n → IsDigitCount 10 1 n (suc k) → IsDigitCount 10 1 (n / 10) k
fewest_rest n zero p f = absurd (let e : 10 ^ 1 ≡ 10 = refl in omega (arith, f.1))
fewest_rest n (suc j) p f =
    let a : n < 10 ^ suc j * 10 = rw (pow-suc 10 (suc j)) at f.1 in
    let e : suc (suc j) - 1 ≡ suc j = omega arith in
    let h : 10 ^ suc j ≤ n = rw e at (f.2 (omega arith)) in
    let g : suc j - 1 ≡ j = omega arith in
    let b : 10 ^ j * 10 ≤ n = rw (pow-suc 10 j) at h in
    (omega arith, (div-lt_iff_lt-mul {k = 10} (omega arith)).1 a, λ _. rw g ((le-div_iff_mul-le {k = 10} (omega arith)).1 b))

fewest_places : (fuel n k : ℕ) → n < 10 ^ suc fuel → IsDigitCount 10 1 n k → k ≡ places fuel n
unfolding places
fewest_places zero n k p f = one_place n k (let e : 10 ^ 1 ≡ 10 = refl in omega arith) f
fewest_places (suc fuel) n k p f =
    let q : n < 10 ^ suc fuel * 10 = rw (pow-suc 10 (suc fuel)) at p in
    go (ltb n 10) refl k f (λ j. fewest_places fuel (n / 10) j ((div-lt_iff_lt-mul {k = 10} (omega arith)).1 q))
  where
    go : (b : Bool) → ltb n 10 ≡ b → (k : ℕ) → IsDigitCount 10 1 n k → ((j : ℕ) → IsDigitCount 10 1 (n / 10) j → j ≡ places fuel (n / 10)) → k ≡ pick b 1 (suc (places fuel (n / 10)))
    go true e k f rest = one_place n k (ltb-true _ _ e) f
    go false e zero f rest = absurd (omega (arith, f.0))
    go false e (suc j) f rest = ap suc (rest j (fewest_rest n j (ltb-false _ _ e) f))

below_ten_to_20 : (n : ℕ) → n < 18446744073709551616 → n < 10 ^ 20
below_ten_to_20 n p = let e : 10 ^ 20 ≡ 100000000000000000000 = refl in omega arith

-- the fewest digits of a number below 2 ^ 64 are its decimal
pub digits_decimal : (n k : ℕ) → n < 18446744073709551616 → IsDigitCount 10 1 n k → last_digits 10 k n ≡ decimal n
unfolding decimal
digits_decimal n k p f = ap (λ (m : ℕ). last_digits 10 m n) (fewest_places 19 n k (below_ten_to_20 n p) f)

places_first : (n k : ℕ) → 10 ≤ n → IsDigitCount 10 1 (n / 10) k → IsDigitCount 10 1 n (suc k)
places_first n zero p f = absurd (omega (arith, f.0))
places_first n (suc j) p f =
    let g : suc j - 1 ≡ j = omega arith in
    let e : suc (suc j) - 1 ≡ suc j = omega arith in
    (omega arith, rw (pow-suc 10 (suc j)) ((div-lt_iff_lt-mul {k = 10} (omega arith)).0 f.1), λ _. rw e (least j f))
  where
    least : (j : ℕ) → IsDigitCount 10 1 (n / 10) (suc j) → 10 ^ suc j ≤ n
    least zero f = let e : 10 ^ 1 ≡ 10 = refl in omega arith
    least (suc i) f =
        let e : suc (suc i) - 1 ≡ suc i = omega arith in
        let h : 10 ^ suc i ≤ n / 10 = rw e at (f.2 (omega arith)) in
        rw (pow-suc 10 (suc i)) ((le-div_iff_mul-le {k = 10} (omega arith)).0 h)

places_fewest : (fuel n : ℕ) → n < 10 ^ suc fuel → IsDigitCount 10 1 n (places fuel n)
unfolding places
places_fewest zero n p = (omega arith, p, λ h. absurd (omega arith))
places_fewest (suc fuel) n p =
    let q : n < 10 ^ suc fuel * 10 = rw (pow-suc 10 (suc fuel)) at p in
    go (ltb n 10) refl (places_fewest fuel (n / 10) ((div-lt_iff_lt-mul {k = 10} (omega arith)).1 q))
  where
    go : (b : Bool) → ltb n 10 ≡ b → IsDigitCount 10 1 (n / 10) (places fuel (n / 10)) → IsDigitCount 10 1 n (pick b 1 (suc (places fuel (n / 10))))
    go true e f =
        let h : n < 10 = ltb-true _ _ e in
        let t : 10 ^ 1 ≡ 10 = refl in
        (omega arith, omega arith, λ k. absurd (omega arith))
    go false e f = places_first n (places fuel (n / 10)) (ltb-false _ _ e) f

-- ---- how many digits there are
length_digits : (b k n : ℕ) → length (last_digits b k n) ≡ k
length_digits b zero n = refl
length_digits b (suc k) n = length-append (last_digits b k (n / b)) (hex_digit_ascii (n % b) ∷ []) ∙ (let h = length_digits b k (n / b) in omega arith)

places_bounds : (fuel n : ℕ) → (1 ≤ places fuel n) × (places fuel n ≤ suc fuel)
unfolding places
places_bounds zero n = (omega arith, omega arith)
places_bounds (suc fuel) n = go (ltb n 10) (places_bounds fuel (n / 10))
  where
    go : (b : Bool) → (1 ≤ places fuel (n / 10)) × (places fuel (n / 10) ≤ suc fuel)
        → (1 ≤ pick b 1 (suc (places fuel (n / 10)))) × (pick b 1 (suc (places fuel (n / 10))) ≤ suc (suc fuel))
    go true h = (omega arith, omega arith)
    go false h = (omega arith, omega (arith, h.1))

pub a_decimal_has_1_to_20_digits : (n : ℕ) → (1 ≤ length (decimal n)) × (length (decimal n) ≤ 20)
unfolding decimal
a_decimal_has_1_to_20_digits n = rw (length_digits 10 (places 19 n) n) (places_bounds 19 n)

-- ---- reading
-- what a reader makes of digits after those that gave v
unfoldable pub read_from : ℕ → List ℕ → ℕ
read_from v [] = v
read_from v (c ∷ l) = read_from (v * 10 + (c - 48)) l

read_snoc : (v : ℕ) (l : List ℕ) (c : ℕ) → read_from v (l ++ (c ∷ [])) ≡ read_from v l * 10 + (c - 48)
unfolding read_from
read_snoc v [] c = refl
read_snoc v (d ∷ l) c = read_snoc (v * 10 + (d - 48)) l c

read_digits : (k n : ℕ) → n < 10 ^ k → read_from 0 (last_digits 10 k n) ≡ n
unfolding read_from
read_digits zero n p = let e : 10 ^ 0 ≡ 1 = refl in omega arith
read_digits (suc k) n p =
    let q : n < 10 ^ k * 10 = rw (pow-suc 10 k) at p in
    let h = read_digits k (n / 10) ((div-lt_iff_lt-mul {k = 10} (omega arith)).1 q) in
    let d : n % 10 < 10 = omega arith in
    read_snoc 0 (last_digits 10 k (n / 10)) (hex_digit_ascii (n % 10)) ∙ rw (h, lt-ltb _ _ d) (omega arith)

pub a_decimal_reads_back : (n : ℕ) → n < 18446744073709551616 → read_from 0 (decimal n) ≡ n
unfolding decimal
a_decimal_reads_back n p = read_digits (places 19 n) n (places_fewest 19 n (below_ten_to_20 n p)).1

-- no number has a zero in front: with one digit fewer it could not be written
pub a_decimal_is_the_shortest : (n : ℕ) → n < 18446744073709551616 → IsDigitCount 10 1 n (length (decimal n))
unfolding decimal
a_decimal_is_the_shortest n p = rw (length_digits 10 (places 19 n) n) (places_fewest 19 n (below_ten_to_20 n p))

pub equal_decimals_are_equal_numbers : (m n : ℕ) → m < 18446744073709551616 → n < 18446744073709551616 → decimal m ≡ decimal n → m ≡ n
equal_decimals_are_equal_numbers m n p q e = sym (a_decimal_reads_back m p) ∙ (ap (read_from 0) e ∙ a_decimal_reads_back n q)
