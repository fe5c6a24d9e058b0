use Rattle.std.proofs.Common.{◌≡◌, ◌+◌, ◌-◌, ◌*◌, ◌≤◌}
use Rattle.cache_rules.specs.Rules.{total}
use Rattle.anchors_cache.specs.Tables.{anchors}
use Rattle.anchors_cache.proofs.anchors.Anchors.count_before.Given as goal

abbrev pub invariant-loop-i : goal.invariant-loop-i
invariant-loop-i l =
    (l.sum + total (anchors l.i (l.self.first + l.n - l.i) l.self.tables.now) ≡ total (anchors l.self.first l.n l.self.tables.now))
    × (l.sum ≤ 65535 * (l.i - l.self.first))
