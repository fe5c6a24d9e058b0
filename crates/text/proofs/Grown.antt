-- What each loop that puts text keeps: of the bytes as they were, those from a place up to where it is now are text.
-- `puts_on` stands in each answer: by `using` on the functions, `grind` doesn't find the text in between (tried).
use Rattle.std.specs.Prelude.{ℕ, List}
use Rattle.text.specs.Shown.{Puts}

abbrev pub Grown : ℕ → List ℕ → ℕ → List ℕ → Type 0
Grown at bytes to out = Puts (record { at = at; bytes = bytes }) (record { at = to; bytes = out })
