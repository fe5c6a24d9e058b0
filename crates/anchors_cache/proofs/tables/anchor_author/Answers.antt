use Rattle.std.proofs.Common.{◌+◌, ◌*◌, ◌∙◌, sym, arith}
use Rattle.rows.proofs.Laws.{part_part}
use Rattle.cache_rules.specs.Rules.{author_bytes}
use Rattle.anchors_cache.specs.Tables.{history_bytes}
use Rattle.anchors_cache.proofs.tables.anchor_author.Goals as goal

pub returns : goal.returns
returns c = c.author_at.ensures ∙ sym (part_part c.args.tables.now (history_bytes + 50 * c.args.i) 50 12 author_bytes (omega arith))
