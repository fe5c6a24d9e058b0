-- The order of keys.
use Rattle.std.specs.Prelude.{Bool, ◌||◌, ◌&&◌, ltb, eqb}
use Rattle.ext_types.specs.declared.ExternalKey.{ExternalKey}

-- Document 01: a key is "ordered by id, then offset"; a > b.
unfoldable pub key_above : ExternalKey → ExternalKey → Bool
key_above a b = ltb b.anchor_id a.anchor_id || (eqb a.anchor_id b.anchor_id && ltb b.msgs_offset a.msgs_offset)

unfoldable pub key_equal : ExternalKey → ExternalKey → Bool
key_equal a b = eqb a.anchor_id b.anchor_id && eqb a.msgs_offset b.msgs_offset
