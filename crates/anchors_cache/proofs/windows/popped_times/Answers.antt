use Rattle.std.proofs.Common.{arith}
use Rattle.anchors_cache.proofs.Laws.{popped_lies, popped_len, times_more, times_none, times_empty}
use Rattle.anchors_cache.proofs.windows.popped_times.Goals as goal

pub loop-preserved : goal.loop-preserved
loop-preserved c =
    let p = popped_lies c.args.tables.now c.loop.c c.loop.invariant.0 in
    (rw c.popped_cache-c.ensures p, grind (arith, popped_len), grind (arith, times_more))

pub returns : goal.returns
returns c = grind (arith, times_none, times_empty)
