use Rattle.std.proofs.Common.{arith}
use Rattle.reader_rules.specs.State.{no_range}
use Rattle.std.proofs.lemmas.List.{set-get_or}
use Rattle.refusals.proofs.Laws.{handed_on}
use Rattle.externals_reader.proofs.TurnLaws.{part_ready, part_next, part_refused, part_ended}
use Rattle.externals_reader.proofs.turns.turns_taken.Goals as goal

pub turn-requires : goal.turn-requires
turn-requires c = let l = c.loop-range in part_ready _ _ _ _ _ _ _ l.range-items l.range-index l.out l.invariant c.requires

pub returns-in_err-done : goal.returns-in_err-done
returns-in_err-done c =
    let l = c.loop-range in
    λ rest. part_refused _ _ _ _ _ _ _ l.range-items l.range-index l.out l.invariant c.loop-range-test.true c.if-s.false _ _ c.in_err-done.ensures rest _ _ (handed_on _ _ c.from_residual.ensures)

pub loop-range-preserved : goal.loop-range-preserved
loop-range-preserved c =
    let l = c.loop-range in
    part_next _ _ _ _ _ _ _ l.range-items l.range-index l.out l.invariant c.loop-range-test.true c.if-s.false _ _ c.in_ok-done.ensures

pub returns-then-s : goal.returns-then-s
returns-then-s c =
    let l = c.loop-range in
    rw (set-get_or l.range-items l.range-index no_range) (part_ended _ _ _ _ _ _ l.s l.range-items l.range-index l.out l.invariant (λ p. c.if-s.true))

pub returns-after-loop-range : goal.returns-after-loop-range
returns-after-loop-range c =
    let l = c.loop-range in
    part_ended _ _ _ _ _ _ l.s l.range-items l.range-index l.out l.invariant (λ p. absurd (omega arith))
