-- `router::partition_of` meets its contract: the partition of the first route that begins with the message.
use mathlib.Core.Path.{sym}
use native.Mathlib.Omega.{arith}
use borrow.Author.Rules.{rules}
use borrow.Author.Tests.{tests}
use Rattle.std.proofs.lemmas.Iterator.Search.{find_from_yields_List}
use Rattle.rows.specs.Rows.{starts_with}
use Rattle.rows.proofs.Chunks.{YieldsList-from_chunks_exact}
use Rattle.router.proofs.Laws.{partition_is_that_of_the_row_found, unlisted_where_not_33_bytes}
use Rattle.router.proofs.partition_of.Goals as goal

pub returns-then-message-ne-MESSAGE_LEN : goal.returns-then-message-ne-MESSAGE_LEN
returns-then-message-ne-MESSAGE_LEN c =
    let a = c.args in
    sym (unlisted_where_not_33_bytes a.routes.now a.message.now c.if-message-ne-MESSAGE_LEN.true)

pub returns : goal.returns
returns c =
    let a = c.args in
    let rows = YieldsList-from_chunks_exact 34 a.routes.now (omega arith) c.chunks_exact.ensures.size c.chunks_exact.ensures.rest in
    let found = find_from_yields_List (starts_with a.message.now) c.find.new.self _ c.find.result c.find.ensures.ran rows (λ x b q k. search (rules, tests)) in
    partition_is_that_of_the_row_found a.routes.now a.message.now _ c.find.result c.map_or.result c.if-message-ne-MESSAGE_LEN.false found (λ x h. search (rules, tests)) c.map_or.ensures
