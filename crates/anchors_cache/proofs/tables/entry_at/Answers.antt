use Rattle.std.proofs.Common.{◌*◌, ◌∙◌, sym, arith}
use Rattle.rows.proofs.Laws.{part_part}
use Rattle.cache_rules.specs.Rules.{author_bytes}
use Rattle.anchors_cache.specs.Calls.{shown_info}
use Rattle.anchors_cache.proofs.tables.entry_at.Goals as goal

pub returns : goal.returns
unfolding shown_info
returns c =
    rw (c.info_at-value.ensures, c.author_at-author.ensures ∙ sym (part_part c.args.tables.now (52 * c.args.i) 52 20 author_bytes (omega arith)))
