use Rattle.std.proofs.Common.{◌≡◌, ◌<◌}
use Rattle.cache_rules.specs.Rules.{trim_history}
use Rattle.anchors_cache.specs.Tables.{infos}
use Rattle.anchors_cache.proofs.history.History.kept_len.Given as goal

abbrev pub invariant-loop-last : goal.invariant-loop-last
invariant-loop-last l =
    (0 < l.self.len → 0 < l.last)
    × (trim_history l.ct.0 (infos l.self.first l.last l.self.tables.now) ≡ trim_history l.ct.0 (infos l.self.first l.self.len l.self.tables.now))
