-- Refused by a question, refused on the way, or done.
use mathlib.Core.Path.{refl}
use native.Mathlib.Omega.{arith}
use Rattle.refusals.proofs.Laws.{handed_on, refused_is_not_done}
use Rattle.range_reader.proofs.CallLaws.{call_asked, call_ready, call_refused, call_done, pops_pass}
use Rattle.range_reader.proofs.read_or_check.Goals as goal

pub returns-in_err-free : goal.returns-in_err-free
returns-in_err-free c =
    let a = c.args in
    let s = a.settings in
    rw (handed_on _ _ c.from_residual.ensures)
    (call_asked a.lent.tables.now a.lent.area.now a.t s.shard a.lent.routes.now s.limits a.range _ c.in_err-free.ensures s.processed s.timeout s.mode a.write a.out.now _ refl)

pub read_or_refuse-requires : goal.read_or_refuse-requires
read_or_refuse-requires c =
    let a = c.args in
    let s = a.settings in
    call_ready a.lent.tables.now a.lent.area.now a.t s.shard a.lent.routes.now s.limits a.range _ c.in_ok-free.ensures s.processed s.timeout s.mode a.write a.out.now refl c.context_of-x.result c.at_entry-start.result c.context_of-x.ensures c.at_entry-start.ensures (record { partitions = omega arith; read = omega arith; expired = omega arith; buffered = omega arith })

pub returns-in_err-r : goal.returns-in_err-r
returns-in_err-r c =
    let a = c.args in
    let s = a.settings in
    let e = c.in_err-r.ensures in
    rw (handed_on _ _ c.from_residual-in_err-r.ensures)
    (call_refused a.lent.tables.now a.lent.area.now a.t s.shard a.lent.routes.now s.limits a.range _ c.in_ok-free.ensures s.processed s.timeout s.mode a.write a.out.now refl c.context_of-x.result c.at_entry-start.result c.context_of-x.ensures c.at_entry-start.ensures _ _ e.0 e.1)

pub returns-in_err-state : goal.returns-in_err-state
returns-in_err-state c =
    let a = c.args in
    let s = a.settings in
    absurd (refused_is_not_done _ (pops_pass a.lent.tables.now a.lent.area.now a.t s.shard a.lent.routes.now s.limits a.range _ c.in_ok-free.ensures s.processed s.timeout s.mode a.write a.out.now refl c.context_of-x.result c.at_entry-start.result c.context_of-x.ensures c.at_entry-start.ensures _ _ c.in_err-state.ensures))

pub returns : goal.returns
returns c =
    let a = c.args in
    let s = a.settings in
    let e = c.in_ok-r.ensures in
    call_done a.lent.tables.now a.lent.area.now a.t s.shard a.lent.routes.now s.limits a.range _ c.in_ok-free.ensures s.processed s.timeout s.mode a.write a.out.now refl c.context_of-x.result c.at_entry-start.result c.context_of-x.ensures c.at_entry-start.ensures _ _ _ _ e.0 e.1 c.in_ok-state.ensures c.done_answer.ensures
