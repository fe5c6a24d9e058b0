-- Room behind: one copy. No room: the bytes go down, then the copy stands behind them.
use borrow.Author.Tests.{leb-true}
use Rattle.rows.specs.Rows.{part, appended}
use Rattle.rows.proofs.Laws.{append_refused, append_asks, append_done, written_in, part_moved}
use Prim.Native.Nat.{◌+◌, ◌≤◌}
use lib.ListN.{length}
use lib.Seq.{length-sets}
use mathlib.Core.Bool.{true, false}
use mathlib.Core.Path.{◌≡◌, sym, ◌∙◌}
use native.Mathlib.Omega.{arith}
use Rattle.rows.proofs.append.Goals as goal

pub returns-then-not-has_room : goal.returns-then-not-has_room
returns-then-not-has_room c =
    let a = c.args in
    let room = c.has_room in
    append_refused a.start a.from a.n a.cap a.new.now a.s.now room.result room.ensures.value c.if-not-has_room.true-raw

pub returns-then-sum_within : goal.returns-then-sum_within
unfolding appended
returns-then-sum_within c =
    let a = c.args in
    let room = c.has_room in
    let w = c.sum_within in
    let f = append_asks a.start a.from a.n a.cap a.new.now a.s.now room.result room.ensures.value c.if-not-has_room.false-raw in
    let t = sym w.ensures ∙ c.if-sum_within.true in
    let p : a.from + a.n + length a.new.now ≤ a.cap = leb-true _ _ t in
    append_done a.start a.from a.n a.cap a.new.now a.s.now room.result room.ensures.value c.if-not-has_room.false-raw w.result true _ c.if-sum_within.true w.ensures
    (c.copy_in.ensures ∙ rw t (written_in (a.start + a.from + a.n) a.new.now a.s.now (omega arith)))

pub returns : goal.returns
unfolding appended
returns c =
    let a = c.args in
    let room = c.has_room in
    let w = c.sum_within in
    let f = append_asks a.start a.from a.n a.cap a.new.now a.s.now room.result room.ensures.value c.if-not-has_room.false-raw in
    let t = sym w.ensures ∙ c.if-sum_within.false in
    let down = part_moved c.move_down_in.new.s a.s.now a.start a.n _ (a.start + a.from) c.move_down_in.ensures (omega arith) in
    let m : length c.move_down_in.new.s ≡ length a.s.now = rw down (length-sets a.s.now a.start (part (a.start + a.from) a.n a.s.now)) in
    append_done a.start a.from a.n a.cap a.new.now a.s.now room.result room.ensures.value c.if-not-has_room.false-raw w.result false _ c.if-sum_within.false w.ensures
    (c.copy_in-2.ensures ∙ rw t (written_in (a.start + a.n) a.new.now c.move_down_in.new.s (omega arith) ∙ rw down))
