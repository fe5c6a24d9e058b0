-- Invariant: the numbers left, shown behind what is shown so far, are all the numbers shown from the start.
use mathlib.Core.Path.{◌≡◌}
use lib.ListN.{length, drop}
use Rattle.text.specs.Shown.{show, marked}
use Rattle.text.proofs.put_numbers.Given as goal

abbrev pub invariant-loop-n : goal.invariant-loop-n
invariant-loop-n l =
    (length l.out ≡ length l.initial.out)
    × (show (marked l.mark (drop l.n-index l.numbers)) (record { at = l.to; bytes = l.out }) ≡ show (marked l.mark l.numbers) (record { at = l.at; bytes = l.initial.out }))
