-- Document 01's first line, and the least and the greatest number.
use mathlib.Core.Path.{◌≡◌, refl}
use mathlib.Core.List.{[], ◌∷◌}
use Rattle.text.specs.Shown.{places, decimal, marked, line}

-- open 0
pub open_line : line (111 ∷ 112 ∷ 101 ∷ 110 ∷ []) (0 ∷ []) ≡ 111 ∷ 112 ∷ 101 ∷ 110 ∷ 32 ∷ 48 ∷ 10 ∷ []
unfolding line marked decimal places
open_line = refl

pub least_decimal : decimal 0 ≡ 48 ∷ []
unfolding decimal places
least_decimal = refl

pub greatest_decimal : decimal 18446744073709551615
    ≡ 49 ∷ 56 ∷ 52 ∷ 52 ∷ 54 ∷ 55 ∷ 52 ∷ 52 ∷ 48 ∷ 55 ∷ 51 ∷ 55 ∷ 48 ∷ 57 ∷ 53 ∷ 53 ∷ 49 ∷ 54 ∷ 49 ∷ 53 ∷ []
unfolding decimal places
greatest_decimal = refl
