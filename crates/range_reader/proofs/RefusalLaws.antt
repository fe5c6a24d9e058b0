-- The loops that decide `cannot_refuse`, and that the read ends with number 0 where it holds.
use Prim.Native.Nat.{ℕ, ◌+◌, ◌-◌, ◌*◌, ◌≤◌, ◌<◌}
use mathlib.Core.Path.{◌≡◌, sym, ap, ◌∙◌}
use mathlib.Core.Bool.{Bool, true, false, not, ◌&&◌}
use mathlib.Core.List.{List}
use native.Mathlib.Omega.{arith}
use lib.Dec.{leb}
use lib.ListN.{length}
use borrow.Author.Tests.{le-leb, lt-ltb}
use Rattle.std.specs.List.{list_all}
use Rattle.messages_buffer.proofs.Laws.{all_is_every}
use Rattle.rows.proofs.Laws.{told_yes, told_no, no_here}
use Rattle.ext_types.specs.declared.ExternalKey.{ExternalKey}
use Rattle.router.specs.Router.{route_rows}
use Rattle.messages_buffer.specs.declared.ExternalsPartitionRangeReaderState.{ExternalsPartitionRangeReaderState}
use Rattle.messages_buffer.specs.Fullness.{every}
use Rattle.cache_rules.specs.Rules.{Row, total, max_anchors}
use Rattle.anchors_cache.specs.declared.CachedAnchor.{CachedAnchor}
use Rattle.anchors_cache.specs.Tables.{anchors, anchor_at, with_messages, tables_bytes}
use Rattle.anchors_cache.specs.Calls.{cached_anchor, row_at}
use Rattle.range_rules.proofs.Refusals.{no_refusal}
use Rattle.anchors_cache.proofs.Laws.{rows_of_messages, anchors_cons, anchors_none, total_more, total_none}
use Rattle.range_rules.specs.declared.Context.{Context}
use Rattle.range_rules.specs.Walks.{RangeRead}
use Rattle.range_rules.specs.declared.ProcessedTo.{ProcessedTo}
use Rattle.range_rules.specs.Rules.{silent, offset_in, anchors_read, entry_len}
use Rattle.range_rules.specs.Refusals.{is_open, route_open, all_open, starts_within, all_fit, cannot_refuse}

-- ---- on the window
module _ (x : Context) (routes bytes : List ℕ) (l : List Row) (r : RangeRead) where
  pub no_refusal_on_the_window : r.walk.number ≡ 0 → r.walk.buffers.used ≡ 0 → cannot_refuse x r.walk.buffers.by_partitions routes l ≡ true → (anchors_read x routes (with_messages bytes l) (silent r)).value.walk.number ≡ 0
  no_refusal_on_the_window n u e = no_refusal x routes (with_messages bytes l) r n u (rw (rows_of_messages bytes l) e)

-- ---- the routes
pub open_of_all : (processed : List ProcessedTo) (partitions : List ExternalsPartitionRangeReaderState) (routes : List ℕ)
    → (is_open processed partitions 0 && list_all (route_open processed partitions) (route_rows routes)) ≡ all_open processed partitions routes
unfolding all_open
open_of_all processed partitions routes = ap (λ (b : Bool). is_open processed partitions 0 && b) (all_is_every (route_open processed partitions) (route_rows routes))

-- ---- the loop over the anchors
-- `left` anchors from `at` on are left, and decide; those before have `sum` messages
pub record FitTurn (position : ExternalKey) (tables : List ℕ) (all : List Row) (at left sum : ℕ) : Type 0 where
  pub window : at + left ≤ max_anchors
  pub counted : sum + total (anchors at left tables) ≡ total all
  pub decided : every (starts_within position) (anchors at left tables) ≡ every (starts_within position) all

module _ (position : ExternalKey) (room : ℕ) (tables : List ℕ) (all : List Row) (at left sum : ℕ) (h : FitTurn position tables all at left sum) where
  pub fit_end : left ≤ 0 → leb (entry_len * sum) room ≡ all_fit position room all
  unfolding all_fit every
  fit_end z =
      let n : sum ≡ total all = omega (arith, h.counted, total_none at left tables z) in
      let e : every (starts_within position) all ≡ true = sym h.decided ∙ rw (anchors_none at left tables z) in
      rw (e, n)

  module _ (a : CachedAnchor) (tall : tables_bytes ≤ length tables) (some : 0 < left) (ae : a ≡ row_at at 0 tables) where
    row_here : a ≡ cached_anchor 0 (anchor_at at tables)
    unfolding row_at
    row_here = ae ∙ rw (lt-ltb at max_anchors (omega (arith, h.window)), le-leb tables_bytes (length tables) tall)

    fit_step : every (starts_within position) all ≡ (leb (offset_in position a.id) a.count && every (starts_within position) (anchors (at + 1) (left - 1) tables))
    unfolding every
    fit_step = sym h.decided ∙ rw (anchors_cons at left tables some, row_here)

    fit_count : sum + a.count + total (anchors (at + 1) (left - 1) tables) ≡ total all
    fit_count = omega (arith, h.counted, total_more at left tables some, ap (λ (b : CachedAnchor). b.count) row_here)

    pub fit_sum : sum + a.count ≤ total all
    fit_sum = omega (arith, fit_count)

    module _ (t : Bool) (te : t ≡ leb (offset_in position a.id) a.count) where
      pub fit_stop : not t ≡ true → false ≡ all_fit position room all
      unfolding all_fit
      fit_stop e = no_here (every (starts_within position) all) (leb (entry_len * total all) room) (fit_step ∙ sym (no_here (leb (offset_in position a.id) a.count) (every (starts_within position) (anchors (at + 1) (left - 1) tables)) (told_no t te e)))

      pub fit_next : not t ≡ false → FitTurn position tables all (at + 1) (left - 1) (sum + a.count)
      fit_next e = record {
        window = omega (arith, h.window);
        counted = fit_count;
        decided = sym (fit_step ∙ ap (λ (b : Bool). b && every (starts_within position) (anchors (at + 1) (left - 1) tables)) (told_yes t te e));
      }
