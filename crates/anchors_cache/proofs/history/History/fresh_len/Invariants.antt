use Rattle.std.proofs.Common.{◌≡◌, ◌+◌, ◌-◌}
use Rattle.cache_rules.specs.Rules.{drop_stale}
use Rattle.anchors_cache.specs.Tables.{infos}
use Rattle.anchors_cache.proofs.history.History.fresh_len.Given as goal

abbrev pub invariant-loop-gone : goal.invariant-loop-gone
invariant-loop-gone l =
    drop_stale l.ct.0 (infos (l.self.first + l.gone) (l.self.len - l.gone) l.self.tables.now) ≡ drop_stale l.ct.0 (infos l.self.first l.self.len l.self.tables.now)
