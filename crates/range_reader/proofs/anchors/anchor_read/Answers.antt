-- Each return is one case of a look at an anchor; the rest of its messages is a part of the area within its bounds.
use Prim.Native.Nat.{◌-◌}
use mathlib.Core.Path.{refl, sym, subst, ◌∙◌}
use native.Mathlib.Omega.{arith}
use Rattle.cache_rules.specs.Rules.{max_messages}
use Rattle.refusals.proofs.Laws.{handed_on}
use Rattle.range_rules.specs.Rules.{expired, finished}
use Rattle.range_rules.specs.Bounds.{Within}
use Rattle.range_rules.proofs.Counts.{weaker, within_up}
use Rattle.range_reader.specs.declared.RangeRead.{RangeRead}
use Rattle.range_reader.specs.Ready.{Eight, walk_told, range_told, range_tells, left_by}
use Rattle.range_reader.proofs.Eight.{eight_looked}
use Rattle.range_reader.proofs.AnchorLaws.{rest_count, anchor_popped, anchor_expired, past_tells, anchor_walked, anchor_refused, within_looked, looked_reached}
use Rattle.range_reader.proofs.anchors.anchor_read.Goals.{then-offset-a+in_ok-messages_read, else-offset-a}
use Rattle.range_reader.proofs.anchors.anchor_read.Goals as goal

pub returns-then-a-x : goal.returns-then-a-x
returns-then-a-x c =
    let a = c.args in
    anchor_popped a.x a.lent.routes.now a.lent.area.now a.a.id a.a.chain_time a.a.place a.a.count (range_told a.r.now) a.write a.out.now _ _ c.if-a-x.true refl

pub count_expired-requires : goal.count_expired-requires
count_expired-requires c =
    let a = c.args in
    let r = c.requires in
    let f = c.first_unread-from in
    let n = rest_count a.lent.area.now a.a.place a.a.count _ f.result f.ensures.0 f.ensures.1 r.placed in
    (r.fixed.shard_sound, r.fixed.routes_sound, omega (arith, n, r.few.few), rw n (weaker _ (max_messages - a.a.count) (max_messages - (a.a.count - f.result)) (omega arith) (subst (Within a.x (max_messages - a.a.count)) (sym c.look.ensures) (within_looked a.x (max_messages - a.a.count) a.a.id (walk_told a.r.now.walk) r.few.within)).expired))

pub returns-then-is_expired : goal.returns-then-is_expired
unfolding expired
returns-then-is_expired c =
    let a = c.args in
    let w = c.look in
    let f = c.first_unread-from in
    anchor_expired a.x a.lent.routes.now a.lent.area.now a.a.id a.a.chain_time a.a.place a.a.count (range_told a.r.now) a.write a.out.now (walk_told w.new.w) f.result c.if-a-x.false w.ensures f.ensures.0 f.ensures.1 c.requires.placed _ _ _ (sym c.is_expired.ensures ∙ c.if-is_expired.true) c.count_expired.ensures c.expire.ensures

pub messages_read-requires : goal.messages_read-requires
messages_read-requires c =
    let a = c.args in
    let r = c.requires in
    let f = c.first_unread-from in
    let w = c.look in
    let n = rest_count a.lent.area.now a.a.place a.a.count _ f.result f.ensures.0 f.ensures.1 r.placed in
    (r.fixed, omega (arith, n, r.few.few, f.ensures.2 (omega (arith, c.if-offset-a.true))), rw n (record { few = omega (arith, r.few.few); within = within_up a.x (max_messages - a.a.count) _ (subst (Within a.x (max_messages - a.a.count)) (sym w.ensures) (within_looked a.x _ a.a.id (walk_told a.r.now.walk) r.few.within)) _ (omega arith) }), subst Eight (sym w.ensures) (eight_looked (walk_told a.r.now.walk) r.eight a.x a.a.id), looked_reached a.x a.a.id (walk_told a.r.now.walk) (walk_told w.new.w) w.ensures)

pub returns-in_err-messages_read : goal.returns-in_err-messages_read
returns-in_err-messages_read c =
    let a = c.args in
    let w = c.look in
    let f = c.first_unread-from in
    rw (handed_on _ _ c.from_residual.ensures)
    (anchor_refused a.x a.lent.routes.now a.lent.area.now a.a.id a.a.chain_time a.a.place a.a.count (range_told a.r.now) a.write a.out.now (walk_told w.new.w) f.result c.if-a-x.false w.ensures f.ensures.0 f.ensures.1 c.requires.placed (sym c.is_expired.ensures ∙ c.if-is_expired.false) _ _ c.in_err-messages_read.ensures)

pub returns : goal.returns
unfolding finished
returns c =
    let a = c.args in
    let w = c.look in
    let f = c.first_unread-from in
    let e = sym c.is_expired.ensures ∙ c.if-is_expired.false in
    let q = left_by c.finish.result c.finish.new.r in
    let says = λ (s : RangeRead). range_tells q (finished a.x a.a.chain_time a.a.count (walk_told s.walk) (range_told s)) in
    elim c.if-offset-a.branch [
      | then-offset-a+in_ok-messages_read v ↦ rw v.out-is (anchor_walked a.x a.lent.routes.now a.lent.area.now a.a.id a.a.chain_time a.a.place a.a.count (range_told a.r.now) a.write a.out.now (walk_told w.new.w) f.result c.if-a-x.false w.ensures f.ensures.0 f.ensures.1 c.requires.placed e _ _ q v.in_ok-messages_read.ensures (subst says v.r-is c.finish.ensures))
      | else-offset-a v ↦ rw v.out-is (past_tells a.x a.lent.routes.now a.lent.area.now a.a.id a.a.chain_time a.a.place a.a.count (range_told a.r.now) a.write a.out.now (walk_told w.new.w) f.result c.if-a-x.false w.ensures f.ensures.0 f.ensures.1 c.requires.placed e q (omega (arith, v.if-offset-a.false)) (subst says v.r-is c.finish.ensures))
    ]
