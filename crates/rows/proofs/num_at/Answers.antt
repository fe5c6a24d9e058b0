use Rattle.rows.proofs.Laws.{num_behind}
use mathlib.Core.Path.{◌∙◌}
use Rattle.std.proofs.Common.{rules}
use Rattle.rows.proofs.num_at.Goals as goal

pub returns : goal.returns
returns g c = c.of_front.ensures ∙ rw c.unwrap_or.ensures (num_behind g.N.LittleEndian.width c.args.at c.args.s.now c.get.result _ (search rules) c.get.ensures.lookup)
