-- How long numbers and lines are, and what a text leaves as it is.
use Prim.Native.Nat.{ℕ, ◌+◌, ◌-◌, ◌*◌, ◌≤◌}
use mathlib.Core.Path.{◌≡◌}
use mathlib.Core.List.{List, [], ◌∷◌, ◌++◌}
use native.Mathlib.Omega.{arith}
use lib.ListN.{length, take, length-append, length-take}
use lib.Seq.{sets, length-sets, take_all}
use Rattle.text.specs.Shown.{Text, show, decimal, marked, spaced, line}
use Rattle.text.proofs.Decimals.{a_decimal_has_1_to_20_digits}

pub spaced_numbers_length : (l : List ℕ) → length (spaced l) ≤ 21 * length l
unfolding marked
spaced_numbers_length [] = omega arith
spaced_numbers_length (n ∷ l) =
    let d = (a_decimal_has_1_to_20_digits n).1 in
    let h = spaced_numbers_length l in
    rw (length-append (decimal n) (spaced l)) (omega arith)

pub line_length : (name numbers : List ℕ) → length (line name numbers) ≤ length name + 21 * length numbers + 1
unfolding line
line_length name numbers =
    let h = spaced_numbers_length numbers in
    rw (length-append name (spaced numbers ++ (10 ∷ [])), length-append (spaced numbers) (10 ∷ [])) (omega arith)

-- ---- what is shown
pub a_text_that_fits_is_shown_whole : (text : List ℕ) (p : Text) → p.at + length text ≤ length p.bytes
    → show text p ≡ record { at = p.at + length text; bytes = sets p.bytes p.at text }
unfolding show
a_text_that_fits_is_shown_whole text p h = rw (take_all (length p.bytes - p.at) text (omega arith))

pub show_keeps_the_length : (text : List ℕ) (p : Text) → length (show text p).bytes ≡ length p.bytes
unfolding show
show_keeps_the_length text p = length-sets p.bytes p.at (take (length p.bytes - p.at) text)

pub show_stays_within : (text : List ℕ) (p : Text) → p.at ≤ length p.bytes → (show text p).at ≤ length p.bytes
unfolding show
show_stays_within text p h = let e = length-take (length p.bytes - p.at) text in omega arith
