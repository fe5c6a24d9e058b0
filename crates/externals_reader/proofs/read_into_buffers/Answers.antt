use Rattle.refusals.proofs.Laws.{handed_on}
use Rattle.externals_reader.proofs.CallLaws.{call_refused, call_idle, call_history, call_start, call_stopped, call_unrefused, call_done, call_silent, call_again}
use mathlib.Core.Path.{sym}
use Rattle.externals_reader.proofs.read_into_buffers.Goals as goal

pub returns-in_err-check_read : goal.returns-in_err-check_read
returns-in_err-check_read c =
    let a = c.args in
    call_refused a.lent.tables.now a.lent.area.now a.t a.lent.routes.now a.reader a.mode a.out.now _ c.in_err-check_read.ensures _ (handed_on _ _ c.from_residual.ensures)

pub returns-then-reader : goal.returns-then-reader
returns-then-reader c =
    let a = c.args in
    call_idle a.lent.tables.now a.lent.area.now a.t a.lent.routes.now a.reader a.mode a.out.now (sym c.in_ok-check_read.ensures) c.if-reader.true _ c.unread.ensures

pub fixed_at_entry-x-requires : goal.fixed_at_entry-x-requires
fixed_at_entry-x-requires c =
    let a = c.args in
    call_history a.lent.tables.now a.lent.area.now a.t a.lent.routes.now a.reader a.mode a.out.now (sym c.in_ok-check_read.ensures)

pub ranges_read-requires : goal.ranges_read-requires
ranges_read-requires c =
    let a = c.args in
    call_start a.lent.tables.now a.lent.area.now a.t a.lent.routes.now a.reader a.mode a.out.now (sym c.in_ok-check_read.ensures) c.if-reader.false _ c.fixed_at_entry-x.ensures.0 c.fixed_at_entry-x.ensures.1

pub returns-in_err-checked : goal.returns-in_err-checked
returns-in_err-checked c =
    let a = c.args in
    call_stopped a.lent.tables.now a.lent.area.now a.t a.lent.routes.now a.reader a.mode a.out.now (sym c.in_ok-check_read.ensures) c.if-reader.false _ c.fixed_at_entry-x.ensures.0 _ _ c.in_err-checked.ensures _ (handed_on _ _ c.from_residual-in_err-checked.ensures)

pub returns-then-checked-eq0 : goal.returns-then-checked-eq0
returns-then-checked-eq0 c =
    let a = c.args in
    call_silent a.lent.tables.now a.lent.area.now a.t a.lent.routes.now a.reader a.mode a.out.now (sym c.in_ok-check_read.ensures) c.if-reader.false _ c.fixed_at_entry-x.ensures.0 _ _ c.in_ok-checked.ensures c.fixed_at_entry-x.ensures.1 c.if-checked-eq0.true _ c.answer_of.ensures

pub ranges_read-requires-2 : goal.ranges_read-requires-2
ranges_read-requires-2 c =
    let a = c.args in
    call_again a.lent.tables.now a.lent.area.now a.t a.lent.routes.now a.reader a.mode a.out.now (sym c.in_ok-check_read.ensures) c.if-reader.false _ c.fixed_at_entry-x.ensures.0 _ _ c.in_ok-checked.ensures c.fixed_at_entry-x.ensures.1

pub returns-in_err-r : goal.returns-in_err-r
returns-in_err-r c =
    let a = c.args in
    absurd (call_unrefused a.lent.tables.now a.lent.area.now a.t a.lent.routes.now a.reader a.mode a.out.now (sym c.in_ok-check_read.ensures) c.if-reader.false _ c.fixed_at_entry-x.ensures.0 _ _ c.in_ok-checked.ensures _ _ c.in_err-r.ensures)

pub returns : goal.returns
returns c =
    let a = c.args in
    call_done a.lent.tables.now a.lent.area.now a.t a.lent.routes.now a.reader a.mode a.out.now (sym c.in_ok-check_read.ensures) c.if-reader.false _ c.fixed_at_entry-x.ensures.0 _ _ c.in_ok-checked.ensures _ _ c.in_ok-r.ensures _ c.answer_of-2.ensures
