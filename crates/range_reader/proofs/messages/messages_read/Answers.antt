-- Each step reads the next message, another's or one of ours, that is taken or refused; where the offset has come to
-- its end the walk is at its end.
use Prim.Native.Nat.{◌/◌}
use mathlib.Core.Path.{sym, ◌∙◌}
use native.Mathlib.Omega.{arith}
use lib.ListN.{length}
use Rattle.refusals.proofs.Laws.{handed_on}
use Rattle.range_reader.proofs.LocalLaws.{locals_start, locals_set, locals_end, locals_full, locals_counts, locals_other, locals_room, locals_ours, locals_refused, locals_bytes, locals_near, taken_once, one_message}
use Rattle.range_reader.proofs.messages.messages_read.Goals.{else-loop-offset-test, then-loop-offset-test+then-b-eq0}
use Rattle.range_reader.proofs.messages.messages_read.Goals as goal

pub loop-offset-init : goal.loop-offset-init
loop-offset-init c =
    let a = c.args in
    let r = c.requires in
    locals_start a.x a.routes.now a.time a.rest.now (length a.rest.now / 33) a.write a.out.now a.w.now (omega arith) r.1 r.2 r.3 _ c.from-b.ensures

pub overflow_add-m : goal.overflow_add-m
overflow_add-m c = omega (arith, locals_near c.loop-offset.invariant c.requires.4 c.walk_end-end.ensures c.loop-offset-test.true)

pub slice_bounds-m-end : goal.slice_bounds-m-end
slice_bounds-m-end c = locals_bytes c.loop-offset.invariant c.requires.4 c.walk_end-end.ensures c.loop-offset-test.true

pub our_read-requires : goal.our_read-requires
our_read-requires c =
    let v = c.loop-offset.invariant in
    let p = c.partition_of-p in
    let m = one_message c.loop-offset.at in (
      v.turn.long ∙ c.requires.0.room,
      locals_room v c.requires.4 c.walk_end-end.ensures c.loop-offset-test.true c.if-b-eq0.false p.result (rw m at (sym c.is_ours.ensures ∙ c.if-is_ours.true)) (rw m at p.ensures.0) p.ensures.1 (omega arith),
    )

pub returns-in_err-t : goal.returns-in_err-t
returns-in_err-t c =
    let v = c.loop-offset.invariant in
    let p = c.partition_of-p in
    let m = one_message c.loop-offset.at in
    rw (handed_on _ _ c.from_residual.ensures)
    (locals_refused v c.requires.4 c.walk_end-end.ensures c.loop-offset-test.true c.if-b-eq0.false p.result (rw m at (sym c.is_ours.ensures ∙ c.if-is_ours.true)) (rw m at p.ensures.0) p.ensures.1 (omega arith) _ _ _ c.entry_at-e.ensures c.in_err-t.ensures)

pub overflow_add-read : goal.overflow_add-read
overflow_add-read c = omega (arith, (locals_counts c.loop-offset.invariant c.requires.4 c.walk_end-end.ensures c.loop-offset-test.true c.partition_of-p.result).0)

pub overflow_add-buffered : goal.overflow_add-buffered
overflow_add-buffered c =
    omega (arith, (locals_counts c.loop-offset.invariant c.requires.4 c.walk_end-end.ensures c.loop-offset-test.true c.partition_of-p.result).1, taken_once _ _ _ _ _ c.in_ok-t.ensures.0)

pub loop-offset-preserved-then-is_ours : goal.loop-offset-preserved-then-is_ours
loop-offset-preserved-then-is_ours c =
    let v = c.loop-offset.invariant in
    let p = c.partition_of-p in
    let m = one_message c.loop-offset.at in
    locals_ours v c.requires.4 c.walk_end-end.ensures c.loop-offset-test.true c.if-b-eq0.false p.result (rw m at (sym c.is_ours.ensures ∙ c.if-is_ours.true)) (rw m at p.ensures.0) p.ensures.1 (omega arith) _ _ _ c.entry_at-e.ensures c.in_ok-t.ensures

pub loop-offset-preserved : goal.loop-offset-preserved
loop-offset-preserved c =
    locals_other c.loop-offset.invariant c.requires.4 c.walk_end-end.ensures c.loop-offset-test.true c.if-b-eq0.false (rw (one_message c.loop-offset.at) at (sym c.is_ours.ensures ∙ c.if-is_ours.false))

pub returns : goal.returns
returns c =
    let h = c.loop-offset.invariant in
    let r = c.requires.4 in
    let e = c.walk_end-end.ensures in
    let k = c.place_at-w in
    elim c.loop-offset-test.branch [
      | else-loop-offset-test w ↦ locals_set h r e c.loop-offset-test.w k.result w.w-is k.ensures (locals_end h r e (omega (arith, w.loop-offset-test.false)))
      | then-loop-offset-test+then-b-eq0 w ↦ locals_set h r e c.loop-offset-test.w k.result w.w-is k.ensures (locals_full h r e w.loop-offset-test.true w.if-b-eq0.true)
    ]
