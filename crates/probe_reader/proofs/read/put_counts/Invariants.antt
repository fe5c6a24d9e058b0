use Rattle.text.proofs.Grown.{Grown}
use Rattle.probe_reader.proofs.read.put_counts.Given as goal

abbrev pub invariant-loop-i : goal.invariant-loop-i
invariant-loop-i l = Grown l.at l.initial.out l.to l.out
