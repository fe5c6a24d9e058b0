-- What lent bytes hold after a text is put there, and the text of numbers and lines.
use Rattle.std.specs.Prelude.{ℕ, zero, suc, ◌+◌, ◌-◌, ◌/◌, ◌≡◌, List, [], ◌∷◌, ◌++◌, ltb, length, take}
use Rattle.std.proofs.lemmas.List.Edits.{sets}
use Rattle.io.specs.Digits.{last_digits}
use Rattle.rows.specs.Rows.{pick}

-- lent bytes, and the place where the next text goes
pub record Text : Type 0 where
  pub at : ℕ
  pub bytes : List ℕ

-- a text put there; what does not fit is left out
unfoldable pub show : List ℕ → Text → Text
show text p =
    let fitting = take (length p.bytes - p.at) text in
    record { at = p.at + length fitting; bytes = sets p.bytes p.at fitting }

-- a function that puts a text in bytes from a place on: it answers the place behind it, and leaves the bytes with it
abbrev pub Shows : List ℕ → ℕ → List ℕ → ℕ → List ℕ → Type 0
Shows text at old result new = record { at = result; bytes = new } ≡ show text (record { at = at; bytes = old })

-- how many decimal digits a number below 10 ^ (fuel + 1) has
unfoldable pub places : ℕ → ℕ → ℕ
places zero n = 1
places (suc fuel) n = pick (ltb n 10) 1 (suc (places fuel (n / 10)))

-- a number below 2 ^ 64 in decimal
unfoldable pub decimal : ℕ → List ℕ
decimal n = last_digits 10 (places 19 n) n

-- numbers, each behind a mark
unfoldable pub marked : ℕ → List ℕ → List ℕ
marked mark [] = []
marked mark (n ∷ l) = mark ∷ (decimal n ++ marked mark l)

-- numbers, each behind a space
abbrev pub spaced : List ℕ → List ℕ
spaced l = marked 32 l

-- a number behind a space, then numbers, each behind a colon
unfoldable pub joined : ℕ → List ℕ → List ℕ
joined first rest = spaced (first ∷ []) ++ marked 58 rest

-- a line: a name, then numbers
unfoldable pub line : List ℕ → List ℕ → List ℕ
line name numbers = name ++ (spaced numbers ++ (10 ∷ []))

-- q is p with some text put there: no byte in front of it or behind it is another
abbrev pub Puts : Text → Text → Type 0
Puts p q = (text : List ℕ) × (q ≡ show text p)
