-- Bounds of the counts that the walk over the messages keeps.
use Rattle.std.specs.Prelude.{ℕ, ◌-◌, ◌≤◌, ◌≡◌, get_or}
use Rattle.messages_buffer.specs.Fullness.{range_free}
use Rattle.range_rules.specs.declared.Context.{Context}
use Rattle.range_rules.specs.declared.ReadCounts.{ReadCounts}
use Rattle.range_rules.specs.Walks.{Walk}
use Rattle.cache_rules.specs.Rules.{max_messages}

-- no count is above k, and `free` is the fewest free places of a buffer
pub record Within (x : Context) (k : ℕ) (w : Walk) : Type 0 where
  pub read : (i : ℕ) → get_or w.counts.read i 0 ≤ k
  pub expired : (i : ℕ) → get_or w.counts.expired i 0 ≤ k
  pub buffered : (i : ℕ) → get_or w.counts.buffered i 0 ≤ k
  pub free : w.buffers.free ≡ range_free x.limits w.buffers.by_partitions

-- every count is at most k
pub record AtMost (k : ℕ) (c : ReadCounts) : Type 0 where
  pub read : (i : ℕ) → get_or c.read i 0 ≤ k
  pub expired : (i : ℕ) → get_or c.expired i 0 ≤ k
  pub buffered : (i : ℕ) → get_or c.buffered i 0 ≤ k

-- n more messages leave every count within the cap of cached messages
pub record Few (x : Context) (n : ℕ) (w : Walk) : Type 0 where
  pub few : n ≤ max_messages
  pub within : Within x (max_messages - n) w
