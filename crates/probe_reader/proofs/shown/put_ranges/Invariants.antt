use Rattle.text.proofs.Grown.{Grown}
use Rattle.probe_reader.proofs.shown.put_ranges.Given as goal

abbrev pub invariant-loop-range : goal.invariant-loop-range
invariant-loop-range l = Grown l.at l.initial.out l.to l.out
