-- `router::partitions_exist` meets its contract: the test of each row that the chunks are.
use mathlib.Core.Path.{◌∙◌}
use native.Mathlib.Omega.{arith}
use lib.Dec.{leb}
use lib.ListN.{get_or}
use borrow.Author.Rules.{rules}
use borrow.Author.Tests.{tests}
use Rattle.std.proofs.lemmas.Iterator.Search.{all_from_yields_List}
use Rattle.router.specs.Router.{route_rows}
use Rattle.router.proofs.Laws.{exist_all}
use Rattle.rows.proofs.Chunks.{YieldsList-from_chunks_exact}
use Rattle.router.proofs.partitions_exist.Goals as goal

pub returns : goal.returns
returns c =
    let l = c.args.routes.now in
    let rows = YieldsList-from_chunks_exact 34 l (omega arith) c.chunks_exact.ensures.size c.chunks_exact.ensures.rest in
    all_from_yields_List (λ r. leb (get_or r 33 0) 7) _ _ _ c.all.ensures.ran rows (λ x b q k. search (rules, tests)) ∙ exist_all (route_rows l)
