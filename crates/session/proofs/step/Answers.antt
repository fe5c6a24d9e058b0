use Rattle.session_rules.specs.Said.{malformed_said}
use Rattle.session_rules.specs.Steps.{Lent, StepOutcome}
use Rattle.session_rules.proofs.LongRecords.{taken_parts}
use Rattle.std.proofs.lemmas.List.{take_rest}
use Rattle.session.proofs.Laws.{whole_same, by_outcome, not_taken, taken_step}
use mathlib.Core.Path.{refl, sym}
use Rattle.session.proofs.step.Goals as goal

pub slice_bounds-p-count : goal.slice_bounds-p-count
slice_bounds-p-count c = (taken_parts _ _ (sym c.in-Some.ensures.taken)).1

pub slice_bounds-p-start : goal.slice_bounds-p-start
slice_bounds-p-start c = (taken_parts _ _ (sym c.in-Some.ensures.taken)).1

pub returns-in_default : goal.returns-in_default
returns-in_default c =
    let a = c.args in
    let l : Lent = record { tables = a.tables.now; area = a.area.now; routes = a.routes.now; entries = a.entries.now } in
    let o : StepOutcome = record { said = malformed_said a.session; reader = a.reader; lent = l } in
    by_outcome (record { session = a.session; reader = a.reader; lent = l; text = a.text.now }) a.bytes.now _ o (whole_same l _ _ a.reader a.reader c.malformed.ensures refl) (not_taken l a.session a.reader a.bytes.now (sym (rw c.in_default.is at c.taken_kind.ensures.taken)))

pub returns : goal.returns
returns c =
    let a = c.args in
    let l : Lent = record { tables = a.tables.now; area = a.area.now; routes = a.routes.now; entries = a.entries.now } in
    let e = c.in-Some.ensures in
    by_outcome (record { session = a.session; reader = a.reader; lent = l; text = a.text.now }) a.bytes.now _ _ c.taken.ensures (taken_step l a.session _ a.reader a.bytes.now _ _ (sym e.taken) c.record_counted-next.ensures e.kind (take_rest a.bytes.now 2))
