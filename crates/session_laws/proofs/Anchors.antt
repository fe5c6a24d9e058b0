-- A record 0004 that is taken adds its anchor to the cache that the window stands for.
use mathlib.Core.Path.{◌≡◌, refl}
use mathlib.Core.List.{List}
use Prim.Native.Nat.{ℕ}
use lib.ListN.{length}
use Rattle.rows.specs.Rows.{rows}
use Rattle.cache_rules.specs.Rules.{add_anchor, with_row}
use Rattle.anchors_cache.specs.declared.AnchorsCacheTransaction.{AnchorsCacheTransaction}
use Rattle.anchors_cache.specs.Tables.{view}
use Rattle.anchors_cache.specs.Calls.{answer, add_call}
use Rattle.anchors_cache.proofs.Asked.{add_asks}
use Rattle.cache_laws.proofs.Views.{view_added}
use Rattle.cache_laws.proofs.Kept.{Wide}
use Rattle.records.specs.Records.{anchor_in}
use Rattle.session_rules.specs.Said.{messages_of, ours_of, route_row_in, anchor_number, anchor_taken, tables_after, area_after}

pub an_anchor's_record_adds_it_to_the_cache : (tables area : List ℕ) (t : AnchorsCacheTransaction) (p : List ℕ) → Wide (anchor_in p) (ours_of p) → anchor_number (length area) tables t p ≡ 0
    → view (tables_after (length area) tables t p) (area_after area tables t p) (anchor_taken (length area) tables t p).state.cache
    ≡ add_anchor (with_row (route_row_in p) (rows 33 (route_row_in p).count (messages_of p))) (view tables area t.cache)
unfolding tables_after area_after anchor_taken add_call answer anchor_number
an_anchor's_record_adds_it_to_the_cache tables area t p w e =
    let q = add_asks area tables t (anchor_in p).id (ours_of p) (messages_of p) e in
    rw e (view_added tables area t.cache q.0 (route_row_in p) (messages_of p) w.author refl q.1 w.id w.time w.ours_fit)
