-- The undo log copies nothing that is removed: how many bytes it takes, and the tables beside it. That it still stands
-- for the opened cache is in Corollaries.
use Prim.Native.Nat.{◌+◌, ◌≤◌}
use mathlib.Core.Path.{◌≡◌, refl}
use native.Mathlib.Omega.{arith}
use denote.Struct.Declared.{row}
use Rattle.anchors_cache.specs.contracts.AnchorsCache as cache
use Rattle.anchors_cache.specs.contracts.AnchorsCacheTransaction as transaction
use Rattle.anchors_cache.specs.Tables.{history_bytes, tables_bytes}
use Rattle.cache_laws.specs.Log.{log_bytes, size_of}

-- a window
pub what_a_rollback_restores_takes_48_bytes : size_of (row cache.the_type).mir ≡ 48
unfolding size_of
what_a_rollback_restores_takes_48_bytes = refl

-- with the two marks
pub a_transaction_takes_56_bytes_more_than_its_cache : size_of (row transaction.the_type).mir ≡ size_of (row cache.the_type).mir + 56
unfolding size_of
a_transaction_takes_56_bytes_more_than_its_cache = refl

-- by the types alone, so whatever the cache holds
pub the_log_is_within_64_bytes : (size_of (row transaction.the_type).mir ≤ size_of (row cache.the_type).mir + log_bytes) × (log_bytes ≡ 64)
unfolding size_of
the_log_is_within_64_bytes = (omega arith, refl)

-- document 01's numbers: no table is larger for it
pub the_tables_are_14912_bytes_and_the_anchors_begin_at_13312 : (tables_bytes ≡ 14912) × (history_bytes ≡ 13312)
the_tables_are_14912_bytes_and_the_anchors_begin_at_13312 = (refl, refl)
