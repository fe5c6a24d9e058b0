use Rattle.anchors_cache.proofs.Laws.{anchor_written}
use Rattle.anchors_cache.specs.Calls.{row_for}
use mathlib.Core.Path.{◌≡◌, refl}
use lib.ListN.{length}
use borrow.Author.Rules.{rules}
use Rattle.cache_rules.specs.Rules.{author_bytes}
use Rattle.anchors_cache.proofs.tables.anchor_row.Goals as goal

pub returns : goal.returns
returns c =
    let a = c.args in
    let full : length a.a.author ≡ author_bytes = search rules in
    rw (c.put-4.ensures, c.put-3.ensures, c.copy_in.ensures, c.put-2.ensures, c.put.ensures)
    (anchor_written (row_for a.a a.ours a.k) full _ refl)
