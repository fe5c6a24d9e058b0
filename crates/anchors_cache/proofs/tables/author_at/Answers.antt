use Rattle.anchors_cache.proofs.Laws.{author_copied}
use mathlib.Core.Path.{◌∙◌}
use Rattle.anchors_cache.proofs.tables.author_at.Goals as goal

pub returns : goal.returns
returns c =
    let a = c.args in
    c.copy_in.ensures ∙ author_copied a.tables.now a.at c.requires
