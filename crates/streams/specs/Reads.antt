-- What the contracts cite.
use Rattle.std.specs.Prelude.{ℕ, ◌≤◌, ◌<◌, List, length, take, Option, None, Some, Result, Ok, Err}
use Rattle.std.specs.Io.KnownBytes.{Appends, Consumes, Keeps, IsAtEnd}
use Rattle.streams.specs.declared.Cut.{Cut}

-- a read of n lent bytes fills one of them at least, and none beyond
abbrev pub Within : {E : Type 0} → ℕ → Result (Option ℕ) E → Type 0
Within n (Ok (Some k)) = (0 < k) × (k ≤ n)
Within n (Ok None) = Unit
Within n (Err e) = Unit

-- what a read into lent bytes took of those that its reader has left, where they are known: the ones that now stand in
-- front; none at the end, where none is left, if a byte at least is lent; and none where it failed
abbrev pub Takes : {E : Type 0} → Option (List ℕ) → Option (List ℕ) → Result (Option ℕ) E → List ℕ → Type 0
Takes old new (Ok (Some k)) lent = Consumes old new (take k lent)
Takes old new (Ok None) lent = Keeps old new × (0 < length lent → IsAtEnd new)
Takes old new (Err e) lent = Keeps old new

-- how many bytes came, also where a read failed behind them
abbrev pub came : Result ℕ Cut → ℕ
came (Ok n) = n
came (Err cut) = cut.n

-- of the first n bytes no more than a front was written, where what the writer holds is known
abbrev pub AppendsFront : Option (List ℕ) → Option (List ℕ) → ℕ → List ℕ → Type 0
AppendsFront old new n bytes = (k : ℕ) × (k ≤ n) × Appends old new (take k bytes)
