-- Document 02, ticket 4: where the walk over one anchor ends at the latest. It is worked out before the walk, whose
-- offset then fits 16 bits.
use Rattle.std.specs.Prelude.{ℕ, ◌&&◌, ltb, leb, eqb}
use Rattle.rows.specs.Rows.{pick}
use Rattle.ext_types.specs.declared.ExternalKey.{ExternalKey}
use Rattle.range_rules.specs.declared.ReadNextExternalsMode.{ReadNextExternalsMode}
use Rattle.range_rules.specs.declared.ReadNextExternalsMode.TheVariants.{ToTheEnd, ToPreviuosReadTo}

-- from a key on: the offset at which the saved end is reached, but `last` where that is not before it
abbrev pub saved_end_before : ExternalKey → ExternalKey → ℕ → ℕ
saved_end_before end key last =
    pick (ltb end.anchor_id key.anchor_id) key.msgs_offset
    (pick (eqb key.anchor_id end.anchor_id && (leb key.msgs_offset end.msgs_offset && leb end.msgs_offset last)) end.msgs_offset last)

abbrev pub walk_end : ReadNextExternalsMode → ExternalKey → ExternalKey → ℕ → ℕ
walk_end ToTheEnd end key last = last
walk_end ToPreviuosReadTo end key last = saved_end_before end key last
