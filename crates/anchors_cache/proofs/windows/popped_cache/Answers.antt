use Rattle.std.proofs.Common.{arith, ap}
use Rattle.anchors_cache.specs.declared.CachedAnchor.{CachedAnchor}
use Rattle.anchors_cache.specs.Windows.{popped_cache}
use Rattle.anchors_cache.proofs.Laws.{anchors_none, anchors_cons, fresh_le}
use Rattle.anchors_cache.proofs.windows.popped_cache.Goals as goal

pub returns-then-cache-eq0 : goal.returns-then-cache-eq0
unfolding popped_cache
returns-then-cache-eq0 c = let e = anchors_none c.args.cache.first c.args.cache.len c.args.tables.now (omega arith) in rw e

pub overflow_sub-result-2 : goal.overflow_sub-result-2
overflow_sub-result-2 c = grind (arith, fresh_le)

pub returns : goal.returns
unfolding popped_cache
returns c =
    let a = c.args in
    let e = c.anchor_at-a.ensures.0 in
    rw (
      anchors_cons a.cache.first a.cache.len a.tables.now (omega arith),
      rw (c.of.ensures.0, c.of.ensures.1, c.of.ensures.2) at c.fresh_len-left.ensures,
      ap (λ (x : CachedAnchor). x.chain_time.0) e,
      ap (λ (x : CachedAnchor). x.count) e,
    )
