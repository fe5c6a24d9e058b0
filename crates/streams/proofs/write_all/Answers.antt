use Rattle.std.proofs.Common.{rules, subst, ap}
use Rattle.std.specs.Io.KnownBytes.{Appends}
use Rattle.std.proofs.KnownBytes.{Appends-trans, Appends-kept}
use Rattle.streams.proofs.Fronts.{rest_behind}
use Rattle.streams.proofs.write_all.Goals as goal
use Rattle.streams.proofs.write_all.Goals.{in-Ok, in-Err+in_ok-passed-in-Err}

pub loop-preserved : goal.loop-preserved
loop-preserved g c =
    let before = c.loop.invariant in
    elim c.match-write.branch [
      | in-Ok w ↦
          let rest = rest_behind w.in-Ok.n c.args.bytes.now c.loop.left.now c.match-write.left.now before.0 before.1 (search rules) (ap (λ b. b.now) w.left-is) in
          (rest.0, rest.1, subst (Appends _ _) rest.2 (Appends-trans _ _ _ _ _ before.2 w.in-Ok.ensures.bytes))
      | in-Err+in_ok-passed-in-Err w ↦ rw (ap (λ b. b.now) w.left-is) (before.0, before.1, Appends-kept _ _ _ _ before.2 w.in-Err.ensures.bytes)
    ]
