-- What one range's read has come to on its way, and what becomes of a message.
use Rattle.std.specs.Prelude.{ℕ, Bool, Option}
use Rattle.ext_types.specs.declared.ChainTime.{ChainTime}
use Rattle.range_rules.specs.declared.Place.{Place}
use Rattle.range_rules.specs.declared.Buffers.{Buffers}
use Rattle.range_rules.specs.declared.ReadCounts.{ReadCounts}

-- `number` is that of the first question that was answered "no", 0 as long as none was
pub record Walk : Type 0 where
  pub number : ℕ
  pub place : Place
  pub buffers : Buffers
  pub counts : ReadCounts

pub record RangeRead : Type 0 where
  pub walk : Walk
  pub pops : ℕ
  pub fully_read : Bool
  pub ended : Bool
  pub last : Option ChainTime

-- What becomes of a message of ours. `Keep`: it is counted as read and not buffered; `Buffer`: both; `Refuse`: the
-- question of that number was answered "no".
pub data Verdict : Type 0 where
  Keep : Verdict
  Buffer : Verdict
  Refuse : ℕ → Verdict
