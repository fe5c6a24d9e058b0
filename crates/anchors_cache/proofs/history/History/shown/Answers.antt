use Rattle.std.proofs.Common.{arith}
use Rattle.cache_rules.specs.Rules.{last_of}
use Rattle.anchors_cache.specs.Calls.{shown_info}
use Rattle.anchors_cache.proofs.Laws.{infos_none, last_info}
use Rattle.anchors_cache.proofs.history.History.shown.Goals as goal

pub returns-then-n-eq0 : goal.returns-then-n-eq0
unfolding shown_info last_of
returns-then-n-eq0 c = rw (infos_none c.args.self.first c.args.n c.args.self.tables.now (omega arith))

pub returns : goal.returns
returns c = rw (last_info c.args.self.first c.args.n c.args.self.tables.now (omega arith)) c.entry_at.ensures
