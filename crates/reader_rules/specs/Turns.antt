-- What the turns of a read of all ranges have come to.
use Rattle.std.specs.Prelude.{ℕ, Bool, List, Option}
use Rattle.ext_types.specs.declared.ChainTime.{ChainTime}
use Rattle.range_rules.specs.declared.ExternalsRangeReaderState.{ExternalsRangeReaderState}
use Rattle.range_rules.specs.declared.ReadCounts.{ReadCounts}

-- the pops, the bytes used, whether every range so far is fully read, whether a full buffer stopped the read, and what
-- the last range read reported; `number` is that of the first question that was answered "no", 0 as long as none was
pub record SoFar : Type 0 where
  pub number : ℕ
  pub pops : ℕ
  pub used : ℕ
  pub all_read : Bool
  pub stopped : Bool
  pub free : Option ℕ
  pub last : Option ChainTime
  pub counts : ReadCounts

-- the same with the ranges as they are now
pub record RangesRead : Type 0 where
  pub so_far : SoFar
  pub ranges : List ExternalsRangeReaderState
  pub len : ℕ
