-- The undo log of a transaction: what a rollback restores, and the two marks.
use Rattle.std.specs.Prelude.{ℕ, ◌+◌, List, [], ◌∷◌}
use mir.Syntax.{Ty}
use prog.Memory.{size}

-- the most that the log may take, whatever the cache holds
abbrev pub log_bytes : ℕ
log_bytes = 64

-- the bytes that a value of each of these types takes, by the machine's layout
unfoldable pub size_of : List Ty → ℕ
size_of [] = 0
size_of (t ∷ l) = size t + size_of l
