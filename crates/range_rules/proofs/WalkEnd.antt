-- Document 02, ticket 4: the walk that knows its end ends where the 64-bit rule stops it.
use Prim.Native.Nat.{ℕ, ◌≤◌, ◌<◌}
use mathlib.Core.Path.{◌≡◌, refl, sym, ◌∙◌}
use mathlib.Core.Bool.{Bool, true, false, ◌&&◌, ◌||◌}
use mathlib.Core.List.{List}
use native.Mathlib.Omega.{arith}
use lib.Dec.{eqb, ltb, leb}
use lib.ListN.{length, drop, drop_of_length-le}
use borrow.Author.Tests.{eq-eqb, ne_eqb, leb-true, leb-false}
use Rattle.rows.specs.Rows.{pick}
use Rattle.ext_types.specs.declared.ChainTime.{ChainTime}
use Rattle.ext_types.specs.declared.ExternalKey.{ExternalKey}
use Rattle.ext_types.specs.Keys.{key_equal}
use Rattle.range_rules.specs.declared.Context.{Context}
use Rattle.range_rules.specs.declared.ReadNextExternalsMode.{ReadNextExternalsMode}
use Rattle.range_rules.specs.declared.ReadNextExternalsMode.TheVariants.{ToTheEnd, ToPreviuosReadTo}
use Rattle.range_rules.specs.Walks.{Walk}
use Rattle.range_rules.specs.Rules.{silent, end_reached, key_at, ends, messages_read}
use Rattle.range_rules.specs.WalkEnd.{walk_end}

-- for every saved end, in both modes: up to its end, the walk is at its end exactly where the saved end is reached
pub the_narrow_end_is_the_64_bit_end : (mode : ReadNextExternalsMode) (end : ExternalKey) (id first last offset : ℕ) → first ≤ offset → offset < last → offset ≤ walk_end mode end (key_at id first) last → eqb offset (walk_end mode end (key_at id first) last) ≡ ends mode (end_reached (key_at id offset) end)
unfolding key_equal
the_narrow_end_is_the_64_bit_end ToTheEnd end id first last offset f l h = ne_eqb offset last (λ (q : offset ≡ last). omega arith)
the_narrow_end_is_the_64_bit_end ToPreviuosReadTo end id first last offset f l h =
    go (ltb end.anchor_id id) (eqb id end.anchor_id) (leb first end.msgs_offset) (leb end.msgs_offset last) refl refl h
  where
    before : eqb offset last ≡ false
    before = ne_eqb offset last (λ (q : offset ≡ last). omega arith)

    go : (above same from to : Bool) → leb first end.msgs_offset ≡ from → leb end.msgs_offset last ≡ to
        → offset ≤ pick above first (pick (same && (from && to)) end.msgs_offset last)
        → eqb offset (pick above first (pick (same && (from && to)) end.msgs_offset last)) ≡ (above || (same && eqb offset end.msgs_offset))
    go true same from to a b e = eq-eqb offset first (omega arith)
    go false false from to a b e = before
    go false true true true a b e = refl
    go false true true false a b e = before ∙ sym (ne_eqb offset end.msgs_offset (λ (q : offset ≡ end.msgs_offset). let g = leb-false end.msgs_offset last b in omega arith))
    go false true false to a b e = before ∙ sym (ne_eqb offset end.msgs_offset (λ (q : offset ≡ end.msgs_offset). let g = leb-false first end.msgs_offset a in omega arith))

pub the_walk_ends_within_its_messages : (mode : ReadNextExternalsMode) (end key : ExternalKey) (last : ℕ) → key.msgs_offset ≤ last → (key.msgs_offset ≤ walk_end mode end key last) × (walk_end mode end key last ≤ last)
the_walk_ends_within_its_messages ToTheEnd end key last h = (h, omega arith)
the_walk_ends_within_its_messages ToPreviuosReadTo end key last h = go (ltb end.anchor_id key.anchor_id) (eqb key.anchor_id end.anchor_id) (leb key.msgs_offset end.msgs_offset) (leb end.msgs_offset last) refl refl
  where
    at : Bool → Bool → Bool → Bool → ℕ
    at above same from to = pick above key.msgs_offset (pick (same && (from && to)) end.msgs_offset last)

    go : (above same from to : Bool) → leb key.msgs_offset end.msgs_offset ≡ from → leb end.msgs_offset last ≡ to → (key.msgs_offset ≤ at above same from to) × (at above same from to ≤ last)
    go true same from to a b = (omega arith, h)
    go false false from to a b = (h, omega arith)
    go false true true true a b = (leb-true key.msgs_offset end.msgs_offset a, leb-true end.msgs_offset last b)
    go false true true false a b = (h, omega arith)
    go false true false to a b = (h, omega arith)

-- at the count too
pub past_the_count_no_message_is_walked : (x : Context) (routes : List ℕ) (time : ChainTime) (l : List (List ℕ)) (offset : ℕ) (w : Walk) → length l ≤ offset → messages_read x routes time (drop offset l) (silent w) ≡ silent w
unfolding messages_read
past_the_count_no_message_is_walked x routes time l offset w h = rw (drop_of_length-le l h)
