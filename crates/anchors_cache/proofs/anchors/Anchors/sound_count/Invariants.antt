use Rattle.std.proofs.Common.{◌≡◌, ◌+◌, ◌-◌, ◌*◌, ◌≤◌}
use Rattle.cache_rules.specs.Rules.{max_anchor_messages}
use Rattle.anchors_cache.specs.Tables.{anchors}
use Rattle.anchors_cache.specs.Calls.{sound_total}
use Rattle.anchors_cache.proofs.anchors.Anchors.sound_count.Given as goal

abbrev pub invariant-loop-i : goal.invariant-loop-i
invariant-loop-i l =
    (sound_total l.low l.sum (anchors l.i (l.self.first + l.self.len - l.i) l.self.tables.now) ≡ sound_total 0 0 (anchors l.self.first l.self.len l.self.tables.now))
    × (l.sum ≤ max_anchor_messages * (l.i - l.self.first))
