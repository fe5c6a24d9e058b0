use Rattle.session_rules.specs.Steps.{Lent, taken_outcome, reaches_reader}
use Rattle.session.proofs.Laws.{shard_step, settings_step, plain_leaves, as_anchor, as_route, called_by}
use mathlib.Core.Path.{refl, ◌∙◌}
use Rattle.session.proofs.taken.Goals as goal

pub returns-in-Shard : goal.returns-in-Shard
unfolding taken_outcome reaches_reader
returns-in-Shard c =
    let a = c.args in
    let e = c.with_shard-done.ensures in
    rw c.in-Shard.is (shard_step _ a.session a.reader 1 a.p.now a.text.now _ _ _ c.put_in.ensures.0 refl (e.0, c.put_in.ensures.1 ∙ e.1))

pub returns-in-Settings : goal.returns-in-Settings
unfolding taken_outcome reaches_reader
returns-in-Settings c =
    let a = c.args in
    let e = c.with_settings-done.ensures in
    rw c.in-Settings.is (settings_step _ a.session a.reader 3 a.p.now a.text.now _ _ _ c.put_in-in-Settings.ensures.0 refl (e.0, c.put_in-in-Settings.ensures.1 ∙ e.1))

pub returns-in-Route : goal.returns-in-Route
unfolding taken_outcome reaches_reader
returns-in-Route c =
    let a = c.args in
    let l : Lent = record { tables = a.tables.now; area = a.area.now; routes = a.routes.now; entries = a.entries.now } in
    rw c.in-Route.is (plain_leaves l a.session a.reader 2 a.p.now a.text.now _ (as_route a.session a.tables.now a.area.now a.routes.now a.text.now 2 a.p.now _ _ refl c.route.ensures.0 c.route.ensures.1))

pub returns-in-Anchor : goal.returns-in-Anchor
unfolding taken_outcome reaches_reader
returns-in-Anchor c =
    let a = c.args in
    let l : Lent = record { tables = a.tables.now; area = a.area.now; routes = a.routes.now; entries = a.entries.now } in
    rw c.in-Anchor.is (plain_leaves l a.session a.reader 4 a.p.now a.text.now _ (as_anchor a.session a.tables.now a.area.now a.routes.now a.text.now 4 a.p.now _ refl c.anchor.ensures))

pub returns-in-Do : goal.returns-in-Do
returns-in-Do c =
    let a = c.args in
    let l : Lent = record { tables = a.tables.now; area = a.area.now; routes = a.routes.now; entries = a.entries.now } in
    rw c.in-Do.is (called_by l a.session a.reader a.p.now a.text.now _ _ c.byte_at.ensures (rw c.from-call.ensures at c.called.ensures))
