use Rattle.text.proofs.Grown.{Grown}
use Rattle.probe_reader.proofs.shown.put_reader_partitions.Given as goal

abbrev pub invariant-loop-i : goal.invariant-loop-i
invariant-loop-i l = Grown l.at l.initial.out l.to l.out
