-- What fits is as much as there is room for.
use Rattle.std.proofs.lemmas.List.{take_min}
use Rattle.text.proofs.Laws.{show_fitting}
use Rattle.text.proofs.put.Goals as goal

pub returns : goal.returns
returns c =
    let a = c.args in
    show_fitting a.text.now _ a.at a.out.now _ (rw (c.min.ensures, c.saturating_sub-room.ensures) (take_min _ a.text.now)) c.copy_in.ensures
