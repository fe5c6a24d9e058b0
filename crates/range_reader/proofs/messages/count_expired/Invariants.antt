-- The invariant says that the count of what is left comes to the whole count.
use lib.ListN.{length}
use mathlib.Core.Path.{◌≡◌}
use Rattle.range_reader.proofs.MessageLaws.{Counted}
use Rattle.range_reader.proofs.messages.count_expired.Given as goal

abbrev pub invariant-loop-m : goal.invariant-loop-m
invariant-loop-m l = (l.m-iterator.size ≡ 33) × (length l.counts ≡ 8) × Counted l.shard l.routes l.rest l.initial.counts l.counts l.m-iterator.rest.now
