use Rattle.std.proofs.Common.{◌≡◌}
use Rattle.cache_rules.specs.Rules.{trim_back}
use Rattle.anchors_cache.specs.Tables.{anchors}
use Rattle.anchors_cache.specs.Windows.{row_time}
use Rattle.anchors_cache.proofs.anchors.Anchors.kept_len.Given as goal

abbrev pub invariant-loop-last : goal.invariant-loop-last
invariant-loop-last l =
    trim_back row_time l.ct.0 (anchors l.self.first l.last l.self.tables.now) ≡ trim_back row_time l.ct.0 (anchors l.self.first l.self.len l.self.tables.now)
