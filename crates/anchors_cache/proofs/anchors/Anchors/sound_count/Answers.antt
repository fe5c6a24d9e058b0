use Rattle.std.proofs.Common.{◌+◌, ◌-◌, arith, sym, ◌∙◌}
use Rattle.anchors_cache.proofs.Asked.{sound_next, sound_stop, sound_end}
use Rattle.anchors_cache.proofs.anchors.Anchors.sound_count.Goals as goal

pub returns-then-not-is_sound : goal.returns-then-not-is_sound
returns-then-not-is_sound c =
    let s = c.loop-i in
    let a = c.args.self in
    sym (sound_stop s.i (a.first + a.len - s.i) s.low s.sum a.tables.now _ c.anchor_at-a.ensures.0 (omega arith) (sym c.is_sound.ensures ∙ c.if-not-is_sound.true)) ∙ s.invariant.0

pub loop-i-preserved : goal.loop-i-preserved
loop-i-preserved c =
    let s = c.loop-i in
    let a = c.args.self in
    let t = sound_next s.i (a.first + a.len - s.i) s.low s.sum a.tables.now _ c.anchor_at-a.ensures.0 (omega arith) (sym c.is_sound.ensures ∙ c.if-not-is_sound.false) in
    grind arith

pub returns : goal.returns
returns c = grind (arith, sound_end)
