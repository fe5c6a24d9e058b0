-- Free places of buffers, and the questions that come before them.
use Rattle.std.specs.Prelude.{ℕ, zero, suc, ◌+◌, ◌-◌, Bool, true, false, not, ◌&&◌, ◌||◌, List, [], ◌∷◌, ltb, leb, eqb, Result, Ok, Err}
use Rattle.rows.specs.Rows.{pick}
use Rattle.messages_buffer.specs.declared.ExternalsPartitionRangeReaderState.{ExternalsPartitionRangeReaderState}
use Rattle.refusals.specs.declared.Refusal.{Refusal}
use Rattle.refusals.specs.Refusals.{number_of}

-- Document 02, ticket 7, free places: "limit less count, or 0 when the count is at or above the limit"
unfoldable pub free_in : ℕ → ℕ → ℕ
free_in count limit = limit - count

-- "Full now means 0 free."
unfoldable pub is_full : ℕ → ℕ → Bool
is_full count limit = eqb (free_in count limit) 0

-- the smaller of two
abbrev pub least : ℕ → ℕ → ℕ
least a b = pick (ltb b a) b a

-- Document 01, caps: "1,024 for a buffer's count or limit".
abbrev pub buffer_cap : ℕ
buffer_cap = 1024

-- a limit that says: the partition has none
abbrev pub no_limit : ℕ
no_limit = 65535

-- ---- one partition
-- Document 01, question 4: "Is each limit at most 1,024"
abbrev pub limit_fits : ℕ → Bool
limit_fits limit = eqb limit no_limit || leb limit buffer_cap

-- Document 01, question 5: "buffer counts at most 1,024"; an absent record is not looked at
abbrev pub count_fits : ExternalsPartitionRangeReaderState → Bool
count_fits p = not p.present || leb p.count buffer_cap

-- Document 01, question 10: "Has each partition of the range being begun a limit?"
abbrev pub has_limit : ℕ → ExternalsPartitionRangeReaderState → Bool
has_limit limit p = not p.present || not (eqb limit no_limit)

abbrev pub full_partition : ℕ → ExternalsPartitionRangeReaderState → Bool
full_partition limit p = p.present && is_full p.count limit

-- the fewest free places so far, with one partition more; an absent one has no buffer
abbrev pub with_free : ℕ → ExternalsPartitionRangeReaderState → ℕ → ℕ
with_free limit p free = pick p.present (least free (free_in p.count limit)) free

-- a record with one message more in its buffer
abbrev pub one_more : ExternalsPartitionRangeReaderState → ExternalsPartitionRangeReaderState
one_more p = record { count = p.count + 1; skip_offset = p.skip_offset; processed_offset = p.processed_offset; present = p.present }

-- ---- the partitions of a range
-- what is past the end of a table of records
abbrev pub no_partition : ExternalsPartitionRangeReaderState
no_partition = record { count = 0; skip_offset = 0; processed_offset = 0; present = false }

unfoldable pub every : {A : Type 0} → (A → Bool) → List A → Bool
every f [] = true
every f (x ∷ l) = f x && every f l

-- a partition's limit beside its record
pub record Buffer : Type 0 where
  pub limit : ℕ
  pub partition : ExternalsPartitionRangeReaderState

abbrev pub no_buffer : Buffer
no_buffer = record { limit = 0; partition = no_partition }

unfoldable pub buffers : List ℕ → List ExternalsPartitionRangeReaderState → List Buffer
buffers [] ps = []
buffers (l ∷ ls) [] = []
buffers (l ∷ ls) (p ∷ ps) = record { limit = l; partition = p } ∷ buffers ls ps

abbrev pub limited : Buffer → Bool
limited b = has_limit b.limit b.partition

abbrev pub has_room : Buffer → Bool
has_room b = not (full_partition b.limit b.partition)

unfoldable pub all_limited : List ℕ → List ExternalsPartitionRangeReaderState → Bool
all_limited limits partitions = every limited (buffers limits partitions)

unfoldable pub smallest : List Buffer → ℕ
smallest [] = buffer_cap
smallest (b ∷ l) = with_free b.limit b.partition (smallest l)

-- Document 02, ticket 7: "The range check answers the smallest over its partitions, or 1,024 if the range has none."
unfoldable pub range_free : List ℕ → List ExternalsPartitionRangeReaderState → ℕ
range_free limits partitions = smallest (buffers limits partitions)

-- ---- numbers
unfoldable pub limits_number : List ℕ → ℕ
limits_number limits = pick (every limit_fits limits) 0 4

unfoldable pub partitions_number : List ExternalsPartitionRangeReaderState → ℕ
partitions_number partitions = pick (every count_fits partitions) 0 5

unfoldable pub limited_number : List ℕ → List ExternalsPartitionRangeReaderState → ℕ
limited_number limits partitions = pick (all_limited limits partitions) 0 10

-- Document 01: "The first "no" gives the number; 0 means done."
unfoldable pub first_no : List ℕ → ℕ
first_no [] = 0
first_no (zero ∷ l) = first_no l
first_no (suc n ∷ l) = suc n

unfoldable pub fill_number : List ℕ → List ExternalsPartitionRangeReaderState → ℕ
fill_number limits partitions = first_no (limits_number limits ∷ partitions_number partitions ∷ limited_number limits partitions ∷ [])

-- what the range check answers: number 0 and the fewest free places, or the number of the first question answered "no"
pub record FillState : Type 0 where
  pub number : ℕ
  pub free : ℕ

abbrev pub answer_of : Result ℕ Refusal → FillState
answer_of (Ok free) = record { number = 0; free = free }
answer_of (Err r) = record { number = number_of r; free = 0 }

unfoldable pub fill_state : List ℕ → List ExternalsPartitionRangeReaderState → FillState
fill_state limits partitions = record {
  number = fill_number limits partitions;
  free = pick (eqb (fill_number limits partitions) 0) (range_free limits partitions) 0;
}
