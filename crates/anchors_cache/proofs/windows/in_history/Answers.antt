use Rattle.rows.specs.declared.Appended.{Appended}
use Rattle.anchors_cache.specs.Windows.{in_history}
use Rattle.rows.specs.Rows.{placed_at}
use Rattle.anchors_cache.proofs.Laws.{placed_fits, append_fits}
use Prim.Native.Nat.{◌*◌}
use mathlib.Core.Path.{◌≡◌, refl, ap, ◌∙◌}
use native.Mathlib.Omega.{arith}
use lib.ListN.{length}
use Rattle.anchors_cache.specs.Tables.{history_bytes}
use Rattle.anchors_cache.proofs.windows.in_history.Goals as goal

pub returns : goal.returns
unfolding in_history
returns c =
    let c-append = c.append-at in
    let a = c.args in
    let w : length a.row.now ≡ 52 = c.requires.1 in
    let lies = c.requires.0 in
    let hf = a.c.history_first in
    let hl = a.c.history_len in
    let p = placed_fits 0 (52 * hf) (52 * hl) 52 history_bytes (length a.tables.now) (omega arith) (omega arith) (omega arith) hf in
    let q = append_fits 0 (52 * hf) (52 * hl) 52 history_bytes (length a.tables.now) (omega arith) (omega arith) (omega arith) a.row.now a.tables.now w refl in
    (rw (c.placed.ensures ∙ (ap (λ (x : Appended). placed_at x hf) (rw w at c-append.ensures.0) ∙ p)), c-append.ensures.1 ∙ q)
