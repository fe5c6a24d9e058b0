use Rattle.std.proofs.Common.{◌≡◌, rules, tests, arith, ◌∙◌}
use Rattle.std.proofs.lemmas.Bool.Decides.{nat_tests}
use Rattle.std.proofs.lemmas.Iterator.{YieldsList-from_slice}
use Rattle.std.proofs.lemmas.Iterator.Search.{any_from_yields_List}
use Rattle.by_reference.specs.Search.{same_route, listed_in, takes_one}
use Rattle.by_reference.proofs.Routes.{any_listed}
use Rattle.by_reference.proofs.takes_one.Goals as goal

pub returns-then-r-le-MAX_PARTITION : goal.returns-then-r-le-MAX_PARTITION
unfolding takes_one
returns-then-r-le-MAX_PARTITION c =
    let before = c.args.before.now in
    let r = c.args.r.now in
    let among : c.any.result ≡ listed_in r.workchain r.account before =
    any_from_yields_List (λ q. same_route q r.workchain r.account) c.any.new.self _ c.any.result c.any.ensures.ran (YieldsList-from_slice before cc) (λ q b p k. search (rules, tests))
    ∙ any_listed r.workchain r.account before in
    grind (arith, nat_tests)
