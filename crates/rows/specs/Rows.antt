-- Bytes of a lent table: parts, numbers of k bytes with the lowest first, stores, and rows of one width.
use Rattle.std.specs.Prelude.{ℕ, zero, suc, ◌+◌, ◌*◌, ◌/◌, ◌%◌, List, [], ◌∷◌, Bool, true, false, ◌&&◌, leb, eqb, length, take, drop, Option, Some, None}
use Rattle.std.proofs.lemmas.List.Edits.{sets}
use Rattle.rows.specs.declared.Appended.{Appended}
use Rattle.rows.specs.declared.Appended.TheVariants.{Behind, Moved, NoRoom}

abbrev pub pick : {A : Type 0} → Bool → A → A → A
pick true a b = a
pick false a b = b

-- n bytes from a place
abbrev pub part : {A : Type 0} → ℕ → ℕ → List A → List A
part at n l = take n (drop at l)

-- the low k bytes of v, the lowest first
unfoldable pub le : ℕ → ℕ → List ℕ
le zero v = []
le (suc k) v = v % 256 ∷ le k (v / 256)

-- the number that bytes stand for, the lowest first
unfoldable pub word : List ℕ → ℕ
word [] = 0
word (b ∷ l) = b + 256 * word l

-- n rows of w bytes
unfoldable pub rows : ℕ → ℕ → List ℕ → List (List ℕ)
rows w zero bytes = []
rows w (suc n) bytes = take w bytes ∷ rows w n (drop w bytes)

-- a table of cap bytes from start, in which n bytes stand at from: whether k more have room behind them
abbrev pub stays : ℕ → ℕ → ℕ → ℕ → Bool
stays from n k cap = leb (from + n + k) cap

-- the table with new bytes behind those that stand in it, which go down to its start where there is no room behind them
unfoldable pub appended : ℕ → ℕ → ℕ → ℕ → List ℕ → List ℕ → List ℕ
appended start from n cap new l =
    pick (stays from n (length new) cap) (sets l (start + from + n) new) (sets (sets l start (part (start + from) n l)) (start + n) new)

-- ---- what the public functions answer for every argument
-- the number of k bytes at a place; one that reaches past the end is 0
unfoldable pub num_at : ℕ → ℕ → List ℕ → ℕ
num_at k at l = pick (leb (at + k) (length l)) (word (part at k l)) 0

-- bytes stored from a place on; where they would reach past the end nothing is stored
unfoldable pub written : ℕ → List ℕ → List ℕ → List ℕ
written at vs l = pick (leb (at + length vs) (length l)) (sets l at vs) l

-- n bytes stored at a place that is not above theirs; where they reach past the end nothing is stored
unfoldable pub moved_down : ℕ → ℕ → ℕ → List ℕ → List ℕ
moved_down from to n l = pick (leb to from && leb (from + n) (length l)) (sets l to (part from n l)) l

-- the table lies in len bytes, the n bytes at from lie in the table, and k more have room beside them
unfoldable pub fits : ℕ → ℕ → ℕ → ℕ → ℕ → ℕ → Bool
fits start from n k cap len = leb (start + cap) len && (leb (from + n) cap && leb (n + k) cap)

unfoldable pub append_answer : ℕ → ℕ → ℕ → ℕ → ℕ → ℕ → Appended
append_answer start from n k cap len = pick (fits start from n k cap len) (pick (stays from n k cap) Behind Moved) NoRoom

unfoldable pub appended_if_fits : ℕ → ℕ → ℕ → ℕ → List ℕ → List ℕ → List ℕ
appended_if_fits start from n cap new l = pick (fits start from n (length new) cap (length l)) (appended start from n cap new l) l

-- where the bytes of a table begin after an append, if they began at `first`
abbrev pub placed_at : Appended → ℕ → ℕ
placed_at Behind first = first
placed_at Moved first = 0
placed_at NoRoom first = first

-- ---- rows that begin with a key
unfoldable pub same_bytes : List ℕ → List ℕ → Bool
same_bytes [] [] = true
same_bytes [] (y ∷ b) = false
same_bytes (x ∷ a) [] = false
same_bytes (x ∷ a) (y ∷ b) = pick (eqb x y) (same_bytes a b) false

abbrev pub starts_with : List ℕ → List ℕ → Bool
starts_with key l = same_bytes (take (length key) l) key

-- all the whole rows of w bytes; of no bytes there are none (n / 0 is 0)
abbrev pub whole_rows : ℕ → List ℕ → List (List ℕ)
whole_rows w bytes = rows w (length bytes / w) bytes

-- an index counted from n on
abbrev pub later : ℕ → Option ℕ → Option ℕ
later n (Some i) = Some (n + i)
later n None = None

-- the index of the first row that begins with the key
unfoldable pub find_row : List ℕ → List (List ℕ) → Option ℕ
find_row key [] = None
find_row key (r ∷ l) = pick (starts_with key r) (Some 0) (later 1 (find_row key l))
