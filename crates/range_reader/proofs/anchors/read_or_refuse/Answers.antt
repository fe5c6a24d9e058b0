-- Each run comes to the same outcome; the last one writes it.
use Rattle.std.proofs.lemmas.Bool.{and_parts}
use Prim.Native.Nat.{◌*◌}
use mathlib.Core.Path.{refl, sym, ◌∙◌}
use lib.ListN.{drop}
use Rattle.std.specs.Prelude.{Ok, Err}
use Rattle.refusals.proofs.Laws.{handed_on}
use Rattle.anchors_cache.specs.Tables.{anchors_of}
use Rattle.range_reader.specs.Ready.{range_told}
use Rattle.range_reader.proofs.AnchorLaws.{refused_run, checked_run, written_run, done_run}
use Rattle.range_reader.proofs.RefusalLaws.{no_refusal_on_the_window}
use Rattle.range_reader.proofs.anchors.read_or_refuse.Goals as goal

pub returns-in_err-anchors_read : goal.returns-in_err-anchors_read
returns-in_err-anchors_read c =
    let a = c.args in
    let t = and_parts a.write _ (sym c.writes_at_once.ensures ∙ c.if-writes_at_once.true) in
    rw (handed_on _ _ c.from_residual.ensures)
    (written_run a.write a.out.now a.begin.walk.buffers.used _ (no_refusal_on_the_window a.x a.lent.routes.now (drop (33 * a.c.base) a.lent.area.now) (anchors_of a.lent.tables.now a.c) (range_told a.begin) refl c.requires.used t.1) _ (Err _) t.0 c.in_err-anchors_read.ensures)

pub returns-then-writes_at_once : goal.returns-then-writes_at_once
returns-then-writes_at_once c =
    let a = c.args in
    let t = and_parts a.write _ (sym c.writes_at_once.ensures ∙ c.if-writes_at_once.true) in
    written_run a.write a.out.now a.begin.walk.buffers.used _ (no_refusal_on_the_window a.x a.lent.routes.now (drop (33 * a.c.base) a.lent.area.now) (anchors_of a.lent.tables.now a.c) (range_told a.begin) refl c.requires.used t.1) _ (Ok _) t.0 c.in_ok-anchors_read.ensures

pub returns-in_err-anchors_read-2 : goal.returns-in_err-anchors_read-2
returns-in_err-anchors_read-2 c =
    let a = c.args in
    rw (handed_on _ _ c.from_residual-in_err-anchors_read-2.ensures) (refused_run a.write a.out.now a.begin.walk.buffers.used _ _ _ c.in_err-anchors_read-2.ensures)

pub returns-in_ok-anchors_read-3 : goal.returns-in_ok-anchors_read-3
returns-in_ok-anchors_read-3 c =
    let a = c.args in
    done_run a.write a.out.now a.begin.walk.buffers.used _ _ _ c.in_ok-anchors_read-2.ensures _ (Ok _) c.if-write.true c.in_ok-anchors_read-3.ensures

pub returns-else-write : goal.returns-else-write
returns-else-write c =
    let a = c.args in
    checked_run a.write a.out.now a.begin.walk.buffers.used _ _ _ c.in_ok-anchors_read-2.ensures c.if-write.false
