use mathlib.Core.Path.{sym, ap, ◌∙◌}
use mathlib.Core.Bool.{Bool, ◌&&◌}
use native.Mathlib.Omega.{arith}
use borrow.Author.Rules.{rules}
use borrow.Author.Tests.{tests}
use Rattle.std.specs.List.{list_all}
use Rattle.std.proofs.lemmas.Iterator.Search.{all_from_yields_List}
use Rattle.router.specs.Router.{route_rows}
use Rattle.rows.proofs.Chunks.{YieldsList-from_chunks_exact}
use Rattle.range_rules.specs.Refusals.{route_open}
use Rattle.range_reader.proofs.RefusalLaws.{open_of_all}
use Rattle.range_reader.proofs.halfway.all_open.Goals as goal

pub returns-then-is_open : goal.returns-then-is_open
returns-then-is_open c =
    let a = c.args in
    let l = a.routes.now in
    let f = route_open a.processed.now a.partitions.now in
    let rows = YieldsList-from_chunks_exact 34 l (omega arith) c.chunks_exact.ensures.size c.chunks_exact.ensures.rest in
    all_from_yields_List f _ _ _ c.all.ensures.ran rows (λ x b q k. search (rules, tests))
    ∙ (ap (λ (b : Bool). b && list_all f (route_rows l)) (sym (sym c.is_open.ensures ∙ c.if-is_open.true)) ∙ open_of_all a.processed.now a.partitions.now l)

pub returns-else-is_open : goal.returns-else-is_open
returns-else-is_open c =
    let a = c.args in
    let l = a.routes.now in
    let f = route_open a.processed.now a.partitions.now in
    c.if-is_open.false ∙ (ap (λ (b : Bool). b && list_all f (route_rows l)) (sym (sym c.is_open.ensures ∙ c.if-is_open.false)) ∙ open_of_all a.processed.now a.partitions.now l)
