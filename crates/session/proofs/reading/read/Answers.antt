use Rattle.session.proofs.Laws.{name_read, read_no, read_yes}
use Rattle.session.proofs.reading.read.Goals as goal

pub returns-in-Ok : goal.returns-in-Ok
returns-in-Ok c =
    let a = c.args in
    read_yes a.session a.reader _ _ a.text.now c.in-Ok.answer (rw (c.in-Ok.is) at c.read_into_buffers-done.ensures) _ (rw (c.number.ensures, c.in-Ok.is, name_read a.mode) at c.put-to.ensures) _ c.put_answer.ensures

pub returns-in-Err : goal.returns-in-Err
returns-in-Err c =
    let a = c.args in
    read_no a.session a.reader _ _ a.text.now c.in-Err.field-0 (rw (c.in-Err.is) at c.read_into_buffers-done.ensures) _ (rw (c.number.ensures, c.in-Err.is, name_read a.mode) at c.put-to.ensures)
