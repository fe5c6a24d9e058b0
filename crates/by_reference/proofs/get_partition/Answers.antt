use Rattle.std.proofs.Common.{◌∙◌, sym, rules, tests}
use Rattle.std.proofs.lemmas.Iterator.{YieldsList-from_slice}
use Rattle.std.proofs.lemmas.Iterator.Search.{find_from_yields_List}
use Rattle.by_reference.specs.Search.{same_route}
use Rattle.by_reference.proofs.Routes.{partition_of_found, refused_on, answered, the_walk_answers_as_the_rule}
use Rattle.by_reference.proofs.get_partition.Goals as goal

pub returns-in_err-check_routes : goal.returns-in_err-check_routes
returns-in_err-check_routes c =
    let x = c.args in
    let refused = refused_on x.routes.now x.workchain x.account _ _ c.from_residual.ensures c.in_err-check_routes.ensures in
    record { rule = refused; walked = refused ∙ sym (the_walk_answers_as_the_rule x.workchain x.account x.routes.now) }

pub returns : goal.returns
returns c =
    let x = c.args in
    let first = find_from_yields_List (λ q. same_route q x.workchain x.account) c.find-first.new.self _ c.find-first.result c.find-first.ensures.ran (YieldsList-from_slice x.routes.now cc) (λ q b p k. search (rules, tests)) in
    let partition = partition_of_found (λ q. q.now) c.find-first.result c.map_or.result _ x.routes.now x.workchain x.account (λ q h. search (rules, tests)) c.map_or.ensures first in
    let found = answered x.routes.now x.workchain x.account c.map_or.result partition c.in_ok-check_routes.ensures in
    record { rule = found; walked = found ∙ sym (the_walk_answers_as_the_rule x.workchain x.account x.routes.now) }
