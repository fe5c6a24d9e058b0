-- Inside, the store; past the end nothing is stored.
use borrow.Author.Tests.{leb-true, leb-false}
use Rattle.rows.proofs.Laws.{written_in, written_past}
use mathlib.Core.Path.{sym, ◌∙◌}
use Rattle.rows.proofs.copy_in.Goals as goal

pub copy_in_place-requires : goal.copy_in_place-requires
copy_in_place-requires c = leb-true _ _ (sym c.sum_within.ensures ∙ c.if-sum_within.true)

pub returns-then-sum_within : goal.returns-then-sum_within
returns-then-sum_within c =
    let a = c.args in
    c.copy_in_place.ensures ∙ sym (written_in a.at a.src.now a.dst.now (leb-true _ _ (sym c.sum_within.ensures ∙ c.if-sum_within.true)))

pub returns-else-sum_within : goal.returns-else-sum_within
returns-else-sum_within c =
    let a = c.args in
    sym (written_past a.at a.src.now a.dst.now (leb-false _ _ (sym c.sum_within.ensures ∙ c.if-sum_within.false)))
