-- The two halves of an add, and its two ends.
use Prim.Native.Nat.{ℕ, ◌+◌, ◌*◌, ◌≤◌, ◌<◌}
use mathlib.Core.Path.{◌≡◌, refl, ap, ◌∙◌}
use mathlib.Core.Bool.{Bool, true, false}
use mathlib.Core.List.{List}
use native.Mathlib.Omega.{arith}
use lib.ListN.{length}
use borrow.Author.Tests.{lt-ltb, le-ltb, leb-true}
use Rattle.rows.specs.Rows.{pick, stays}
use Rattle.rows.proofs.Laws.{appended_length}
use Rattle.anchors_cache.specs.declared.AnchorsCache.{AnchorsCache}
use Rattle.cache_rules.specs.Rules.{Row, max_anchors, max_history, area_bytes}
use Rattle.anchors_cache.specs.Tables.{anchor_row, info_row, history_bytes}
use Rattle.anchors_cache.specs.Windows.{info_for, used_by, in_history, history_added, in_cache, anchor_added, messages_added, added_cache, added_tables, added_area, Inside, Sound, Room}

-- a history with an entry more, which begins at 0 where no room was behind it
pub grown_within : (first len : ℕ) → first + len ≤ max_history → len < max_history → pick (stays (52 * first) (52 * len) 52 history_bytes) first 0 + (len + 1) ≤ max_history
grown_within first len lies room = go (stays (52 * first) (52 * len) 52 history_bytes) refl
  where
    go : (b : Bool) → stays (52 * first) (52 * len) 52 history_bytes ≡ b → pick b first 0 + (len + 1) ≤ max_history
    go true e = omega (arith, leb-true _ _ e)
    go false e = omega arith

-- what the second half asks of the first
pub half_asks : (tables area : List ℕ) (c : AnchorsCache) (a : Row) (messages : List ℕ) → Sound tables area c → Room tables c a.ours messages → 0 < a.ours
    → (d : AnchorsCache) (used : ℕ) (t irow row : List ℕ) → d ≡ in_history c → used ≡ used_by tables c → length irow ≡ 52 → t ≡ history_added irow c tables → length row ≡ 50
    → Inside t d × (area_bytes ≤ length area) × (length row ≡ 50) × (d.len < max_anchors) × (33 * (d.base + used) ≤ length area) × (33 * used + length messages ≤ area_bytes)
unfolding in_history
half_asks tables area c a messages s r o d used t irow row de ue w te v =
    let tall = s.tall in
    let h = s.history_within in
    let f = r.entries in
    let l = appended_length tables 0 (52 * c.history_first) (52 * c.history_len) history_bytes irow (omega arith) (omega arith) (omega arith) in
    let n : length t ≡ length tables = ap length te ∙ l in
    let b = r.bytes o in
    let g = s.in_area in
    let df = ap (λ (x : AnchorsCache). x.first) de in
    let dl = ap (λ (x : AnchorsCache). x.len) de in
    let db = ap (λ (x : AnchorsCache). x.base) de in
    let i = s.anchors_within in
    let q = r.anchors o in
    let grown : d.history_first + d.history_len ≤ max_history = rw de (grown_within c.history_first c.history_len h f) in
    ((omega arith, omega arith, grown), s.broad, v, omega arith, omega arith, omega arith)

module _ (tables area : List ℕ) (c : AnchorsCache) (a : Row) (messages : List ℕ) where
  abbrev Whole : AnchorsCache → List ℕ → List ℕ → Type 0
  Whole d t m = (d ≡ added_cache a (length area) (length messages) tables c) × (t ≡ added_tables a c tables) × (m ≡ added_area a messages tables c area)

  -- an anchor with no message of ours ends in the history
  pub add_none : (d : AnchorsCache) (t irow : List ℕ) → d ≡ in_history c → t ≡ history_added irow c tables → irow ≡ info_row (info_for a) → a.ours ≤ 0 → Whole d t area
  unfolding added_cache added_tables added_area
  add_none d t irow de te ie o =
      let h = le-ltb 0 a.ours o in
      (rw h de, rw h (te ∙ rw ie), rw h)

  pub add_some : (d e : AnchorsCache) (used : ℕ) (t irow row t2 area2 : List ℕ)
      → d ≡ in_history c → used ≡ used_by tables c → irow ≡ info_row (info_for a) → t ≡ history_added irow c tables → row ≡ anchor_row a → 0 < a.ours
      → e ≡ in_cache (length area) (length messages) used d → t2 ≡ anchor_added row d t → area2 ≡ messages_added messages used d area → Whole e t2 area2
  unfolding added_cache added_tables added_area in_history
  add_some d e used t irow row t2 area2 de ue ie te re o ee t2e ae =
      let h = lt-ltb 0 a.ours o in
      (rw h (ee ∙ rw (de, ue)), rw h (t2e ∙ rw (te, de, ie, re)), rw h (ae ∙ rw (de, ue)))
