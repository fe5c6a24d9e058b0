use Rattle.anchors_cache.proofs.Laws.{info_written}
use Rattle.anchors_cache.specs.Calls.{info_with}
use mathlib.Core.Path.{◌≡◌, refl}
use lib.ListN.{length}
use Rattle.cache_rules.specs.Rules.{author_bytes}
use Rattle.anchors_cache.proofs.tables.info_row.Goals as goal

pub returns : goal.returns
returns c =
    let a = c.args in
    let full : length a.author ≡ author_bytes = c.well_formed.1.0.1.0.1 in
    rw (c.copy_in.ensures, c.put-4.ensures, c.put-3.ensures, c.put-2.ensures, c.put.ensures)
    (info_written (info_with a.e a.author) full _ refl)
