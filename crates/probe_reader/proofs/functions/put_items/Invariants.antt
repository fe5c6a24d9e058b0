use Rattle.text.proofs.Grown.{Grown}
use Rattle.probe_reader.proofs.functions.put_items.Given as goal

abbrev pub invariant-loop-i : goal.invariant-loop-i
invariant-loop-i g l = Grown l.initial.to l.initial.out l.to l.out
