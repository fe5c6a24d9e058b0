use Rattle.externals_reader.proofs.TurnLaws.{window_fits, PartTurning}
use Rattle.externals_reader.specs.Ready.{so_far_told}
use Rattle.externals_reader.specs.Calls.{window_read}
use Rattle.externals_reader.proofs.turns.turns_taken.Given as goal

abbrev pub invariant-loop-range : goal.invariant-loop-range
invariant-loop-range l =
    PartTurning (window_read l.lent.tables.now l.lent.area.now l.t l.lent.routes.now l.x) (window_fits l.lent.tables.now l.lent.area.now l.t l.lent.routes.now l.x) l.x l.write l.initial.range-items l.initial.out (so_far_told l.s) l.range-items l.range-index l.out
