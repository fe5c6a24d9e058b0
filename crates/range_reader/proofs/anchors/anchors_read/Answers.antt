use Prim.Native.Nat.{◌<◌}
use mathlib.Core.Path.{◌≡◌, refl, sym, ◌∙◌}
use Rattle.anchors_cache.specs.Calls.{cached_anchor}
use Rattle.anchors_cache.specs.Tables.{anchor_at}
use native.Mathlib.Omega.{arith}
use Rattle.refusals.proofs.Laws.{handed_on}
use Rattle.range_reader.specs.Ready.{range_told}
use Rattle.range_reader.proofs.AnchorLaws.{range_start, range_none, range_refused, range_ended, range_next, anchor_fits, front_some, front_none}
use Rattle.range_reader.proofs.anchors.anchors_read.Goals.{In-Some}
use Rattle.range_reader.proofs.anchors.anchors_read.Goals as goal

-- the front anchor of those that are left
front : (c : In-Some) → (0 < c.loop-a.left) × (c.in-Some.a ≡ cached_anchor c.loop-a.place (anchor_at c.loop-a.at c.args.lent.tables.now))
front c =
    let l = c.loop-a in
    front_some l.place l.at l.left c.args.lent.tables.now _ (sym c.front_anchor.ensures ∙ c.in-Some.is)

pub loop-a-init : goal.loop-a-init
loop-a-init c =
    let a = c.args in
    range_start a.x a.lent.routes.now a.lent.tables.now a.lent.area.now a.write a.out.now a.c a.r.now c.requires (omega arith)

pub returns-in_default : goal.returns-in_default
returns-in_default c =
    let l = c.loop-a in
    range_none _ _ _ _ _ _ _ _ l.out (range_told l.r) l.at l.left l.place l.invariant _ (front_none l.place l.at l.left c.args.lent.tables.now (sym c.front_anchor.ensures ∙ c.in_default.is)) refl

pub anchor_read-requires : goal.anchor_read-requires
anchor_read-requires c =
    let p = c.requires in
    let l = c.loop-a in
    let g = front (goal.at.anchor_read-requires c).In-Some in
    let f = anchor_fits _ _ _ _ _ _ _ _ l.out (range_told l.r) l.at l.left l.place l.invariant _ g.0 g.1 in
    record {
      fixed = record { shard_sound = p.fixed.shard_sound; routes_sound = p.fixed.routes_sound; room = l.invariant.long ∙ p.fixed.room };
      placed = f.0;
      few = f.1.1;
      eight = l.invariant.eight;
      pops = omega (arith, g.0, l.invariant.few_pops);
    }

pub returns-in_err-anchor_read : goal.returns-in_err-anchor_read
returns-in_err-anchor_read c =
    let l = c.loop-a in
    let g = front (goal.at.returns-in_err-anchor_read c).In-Some in
    rw (handed_on _ _ c.from_residual.ensures)
    (range_refused _ _ _ _ _ _ _ _ l.out (range_told l.r) l.at l.left l.place l.invariant _ g.0 g.1 _ _ c.in_err-anchor_read.ensures)

pub returns-then-r : goal.returns-then-r
returns-then-r c =
    let l = c.loop-a in
    let g = front (goal.at.returns-then-r c).In-Some in
    range_ended _ _ _ _ _ _ _ _ l.out (range_told l.r) l.at l.left l.place l.invariant _ g.0 g.1 _ _ c.in_ok-anchor_read.ensures c.if-r.true

pub overflow_sub-left : goal.overflow_sub-left
overflow_sub-left c =
    (front (goal.at.overflow_sub-left c).In-Some).0

pub overflow_add-place : goal.overflow_add-place
overflow_add-place c =
    let l = c.loop-a in
    let g = front (goal.at.overflow_add-place c).In-Some in
    omega (arith, (anchor_fits _ _ _ _ _ _ _ _ l.out (range_told l.r) l.at l.left l.place l.invariant _ g.0 g.1).1.0)

pub loop-a-smaller : goal.loop-a-smaller
loop-a-smaller c =
    let l = c.loop-a in
    omega (arith, (front (goal.at.loop-a-smaller c).In-Some).0)

pub loop-a-preserved : goal.loop-a-preserved
loop-a-preserved c =
    let l = c.loop-a in
    let g = front (goal.at.loop-a-preserved c).In-Some in
    range_next _ _ _ _ _ _ _ _ l.out (range_told l.r) l.at l.left l.place l.invariant _ g.0 g.1 _ _ c.in_ok-anchor_read.ensures c.if-r.false
