-- Inside, the store; past the end nothing is stored. The k low bytes are k bytes.
use borrow.Author.Tests.{leb-true, leb-false}
use Rattle.rows.specs.Rows.{le}
use Rattle.rows.proofs.Laws.{written_in, written_past, length_le}
use Prim.Native.Nat.{◌+◌, ◌≤◌, ◌<◌}
use mathlib.Core.Path.{sym, ◌∙◌}
use native.Mathlib.Omega.{arith}
use lib.ListN.{length}
use Rattle.rows.proofs.put_le.Goals as goal

pub put_le_in-requires : goal.put_le_in-requires
put_le_in-requires c = leb-true _ _ (sym c.sum_within.ensures ∙ c.if-sum_within.true)

pub returns-then-sum_within : goal.returns-then-sum_within
returns-then-sum_within c =
    let a = c.args in
    let p : a.at + a.k ≤ length a.out.now = leb-true _ _ (sym c.sum_within.ensures ∙ c.if-sum_within.true) in
    let k = length_le a.k a.v in
    c.put_le_in.ensures ∙ sym (written_in a.at (le a.k a.v) a.out.now (omega arith))

pub returns-else-sum_within : goal.returns-else-sum_within
returns-else-sum_within c =
    let a = c.args in
    let p : length a.out.now < a.at + a.k = leb-false _ _ (sym c.sum_within.ensures ∙ c.if-sum_within.false) in
    let k = length_le a.k a.v in
    sym (written_past a.at (le a.k a.v) a.out.now (omega arith))
