use Rattle.std.proofs.Common.{◌∙◌, sym, arith, ltb}
use Rattle.std.proofs.lemmas.Bool.Decides.{nat_tests}
use Rattle.anchors_cache.specs.Calls.{valid_cache}
use Rattle.anchors_cache.proofs.Asked.{all_sound, not_sound, same_beq}
use Rattle.anchors_cache.proofs.questions.valid_cache.Goals as goal

pub returns-then-not-lies_within : goal.returns-then-not-lies_within
unfolding valid_cache
returns-then-not-lies_within c = grind arith

pub returns-in_default : goal.returns-in_default
unfolding valid_cache
returns-in_default c = grind (arith, not_sound)

pub returns-then-sum_within : goal.returns-then-sum_within
unfolding valid_cache
returns-then-sum_within c =
    let sound = all_sound _ _ (sym (rw (c.of.ensures.0, c.of.ensures.1, c.of.ensures.2) at c.sound_count.ensures) ∙ c.in-Some.is) in
    rw (same_beq c.args.c.pending (ltb 0 c.args.c.len), sound.0, sound.1) (grind (arith, nat_tests))

pub returns-else-sum_within : goal.returns-else-sum_within
unfolding valid_cache
returns-else-sum_within c =
    let sound = all_sound _ _ (sym (rw (c.of.ensures.0, c.of.ensures.1, c.of.ensures.2) at c.sound_count.ensures) ∙ c.in-Some.is) in
    rw (sound.0, sound.1) (grind (arith, nat_tests))
