use Rattle.session_rules.specs.Steps.{Lent}
use Rattle.session_state.specs.Dos.{do_byte}
use Rattle.session.proofs.Laws.{read_taken, call_taken, plain_leaves, as_call}
use mathlib.Core.List.{[], ◌∷◌}
use mathlib.Core.Path.{refl}
use Rattle.session.proofs.called.Goals as goal

pub returns-in-Read : goal.returns-in-Read
returns-in-Read c = rw c.in-Read.is (read_taken _ _ _ _ c.in-Read.mode _ c.read_listed.ensures)

pub returns-in_default : goal.returns-in_default
returns-in_default c =
    let a = c.args in
    let l : Lent = record { tables = a.lent.tables.now; area = a.lent.area.now; routes = a.lent.routes.now; entries = a.entries.now } in
    let p = do_byte a.call ∷ [] in
    call_taken l a.session a.reader a.text.now a.call _ c.in_default.not-Read
    (plain_leaves l a.session a.reader 5 p a.text.now _ (as_call a.session l.tables l.area l.routes a.text.now 5 p _ refl c.cache_call.ensures))
