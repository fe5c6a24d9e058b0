use Rattle.anchors_cache.specs.Calls.{row_for}
use Rattle.anchors_cache.proofs.Adding.{half_asks, add_none, add_some}
use mathlib.Core.Path.{◌≡◌}
use native.Mathlib.Omega.{arith}
use lib.ListN.{length}
use borrow.Author.Rules.{rules}
use Rattle.anchors_cache.proofs.windows.added_cache.Goals as goal

pub returns-then-ours-eq0 : goal.returns-then-ours-eq0
returns-then-ours-eq0 c =
    let c-args = c.args in
    let c-in-history = c.in_history-d in
    add_none c-args.tables.now c-args.area.now c-args.c (row_for c-args.anchor c-args.ours (length c-args.messages.now)) c-args.messages.now _ _ _ c-in-history.ensures.0 c-in-history.ensures.1 (rw c.from_anchor-e.ensures at c.info_row-info.ensures) (omega arith)

pub in_cache-requires : goal.in_cache-requires
in_cache-requires c =
    let c-info-row = c.info_row-info in
    let c-anchor-row = c.anchor_row-row in
    let c-args = c.args in
    let c-pre = c.requires in
    let c-in-history = c.in_history-d in
    let w : length c-info-row.result ≡ 52 = search rules in
    let v : length c-anchor-row.result ≡ 50 = search rules in
    half_asks c-args.tables.now c-args.area.now c-args.c (row_for c-args.anchor c-args.ours (length c-args.messages.now)) c-args.messages.now c-pre.0 c-pre.1 (omega arith) _ _ _ c-info-row.result c-anchor-row.result c-in-history.ensures.0 (rw (c.of.ensures.0, c.of.ensures.1, c.of.ensures.2) at c.count-used.ensures.0) w c-in-history.ensures.1 v

pub returns : goal.returns
returns c =
    let c-args = c.args in
    let c-in-history = c.in_history-d in
    let c-in-cache = c.in_cache in
    add_some c-args.tables.now c-args.area.now c-args.c (row_for c-args.anchor c-args.ours (length c-args.messages.now)) c-args.messages.now _ _ _ _ _ _ _ _ c-in-history.ensures.0 (rw (c.of.ensures.0, c.of.ensures.1, c.of.ensures.2) at c.count-used.ensures.0) (rw c.from_anchor-e.ensures at c.info_row-info.ensures) c-in-history.ensures.1 c.anchor_row-row.ensures (omega arith) c-in-cache.ensures.0 c-in-cache.ensures.1 c-in-cache.ensures.2
