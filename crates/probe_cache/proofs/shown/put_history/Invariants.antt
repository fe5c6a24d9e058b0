use Rattle.text.proofs.Grown.{Grown}
use Rattle.probe_cache.proofs.shown.put_history.Given as goal

abbrev pub invariant-loop-found : goal.invariant-loop-found
invariant-loop-found l = Grown l.at l.initial.out l.to l.out
