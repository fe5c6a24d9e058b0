use Rattle.std.proofs.Common.{◌≡◌, ◌+◌, ◌-◌}
use Rattle.anchors_cache.specs.Windows.{Lies, popped_times}
use Rattle.anchors_cache.proofs.windows.popped_times.Given as goal

abbrev pub invariant-loop : goal.invariant-loop
invariant-loop l =
    Lies l.tables l.c
    × (l.c.len + l.counter ≡ l.initial.c.len)
    × (popped_times (l.count - l.counter) l.tables l.c ≡ popped_times l.count l.tables l.initial.c)
