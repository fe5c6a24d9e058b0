-- `rows::find_row` meets its contract: the first of the chunks that passes the test; of rows of no bytes there are none.
use mathlib.Core.Path.{◌∙◌}
use borrow.Author.Rules.{rules}
use borrow.Author.Tests.{tests}
use native.Mathlib.Nat.{div-zero}
use native.Mathlib.Omega.{arith}
use lib.ListN.{length}
use Rattle.std.proofs.lemmas.Iterator.Search.{position_from_yields_List}
use Rattle.rows.specs.Rows.{rows, starts_with, whole_rows, find_row}
use Rattle.rows.proofs.Laws.{found_first}
use Rattle.rows.proofs.Chunks.{YieldsList-from_chunks_exact}
use Rattle.rows.proofs.find_row.Goals as goal

pub returns-then-w-eq0 : goal.returns-then-w-eq0
unfolding find_row rows
returns-then-w-eq0 c = rw (c.if-w-eq0.true, div-zero (length c.args.bytes.now))

pub returns : goal.returns
returns c =
    let a = c.args in
    let rows = YieldsList-from_chunks_exact a.w a.bytes.now (omega (arith, c.if-w-eq0.false)) c.chunks_exact.ensures.size c.chunks_exact.ensures.rest in
    position_from_yields_List (starts_with a.key.now) _ _ _ c.position.ensures.ran rows (λ x b q k. search (rules, tests)) ∙ found_first a.key.now (whole_rows a.w a.bytes.now)
