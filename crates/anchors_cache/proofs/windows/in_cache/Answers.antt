use Rattle.rows.specs.declared.Appended.{Appended}
use Rattle.anchors_cache.specs.Windows.{in_cache}
use Rattle.rows.specs.Rows.{placed_at}
use Rattle.anchors_cache.proofs.Laws.{placed_fits, append_fits}
use Prim.Native.Nat.{◌*◌}
use mathlib.Core.Path.{◌≡◌, refl, ap, ◌∙◌}
use native.Mathlib.Omega.{arith}
use lib.ListN.{length}
use Rattle.anchors_cache.specs.Tables.{history_bytes, anchor_bytes}
use Rattle.anchors_cache.proofs.windows.in_cache.Goals as goal

pub returns : goal.returns
unfolding in_cache
returns c =
    let c-append = c.append-at in
    let c-append2 = c.append-from in
    let a = c.args in
    let first = a.c.first in
    let len = a.c.len in
    let base = a.c.base in
    let n = length a.area.now in
    let k = length a.messages.now in
    let w : length a.row.now ≡ 50 = c.requires.2 in
    let lies = c.requires.0 in
    let p = placed_fits history_bytes (50 * first) (50 * len) 50 anchor_bytes (length a.tables.now) (omega arith) (omega arith) (omega arith) first in
    let q = append_fits history_bytes (50 * first) (50 * len) 50 anchor_bytes (length a.tables.now) (omega arith) (omega arith) (omega arith) a.row.now a.tables.now w refl in
    let u = placed_fits 0 (33 * base) (33 * a.used) k n n (omega arith) (omega arith) (omega arith) base in
    let v = append_fits 0 (33 * base) (33 * a.used) k n n (omega arith) (omega arith) (omega arith) a.messages.now a.area.now refl refl in (
      rw (
        c.placed.ensures ∙ (ap (λ (x : Appended). placed_at x first) (rw w at c-append.ensures.0) ∙ p),
        c.placed-2.ensures ∙ (ap (λ (x : Appended). placed_at x base) c-append2.ensures.0 ∙ u),
      ),
      c-append.ensures.1 ∙ q,
      c-append2.ensures.1 ∙ v,
    )
