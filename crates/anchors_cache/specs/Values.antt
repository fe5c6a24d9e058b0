-- What the calls answer where there is a value, in document 01's terms: the value that the paper names, or none.
use Rattle.std.specs.Prelude.{ℕ, ◌*◌, List, drop}
use Rattle.std.specs.Prelude.{Option, Some, None}
use Rattle.std.proofs.Math.Option.{Option as Maybe, none, some}
use Rattle.rows.specs.Rows.{rows}
use Rattle.ext_types.specs.declared.ChainTime.{ChainTime}
use Rattle.anchors_cache.specs.declared.CachedAnchor.{CachedAnchor}
use Rattle.anchors_cache.specs.declared.AnchorInfo.{AnchorInfo}
use Rattle.cache_rules.specs.Rules.{Info, Anchor}
use Rattle.anchors_cache.specs.Calls.{info_with}

-- an anchor with its messages, which stand in the area from its place on
abbrev pub anchor_value : List ℕ → Option CachedAnchor → List ℕ → Maybe Anchor
anchor_value area None author = none
anchor_value area (Some a) author =
    some (record { id = a.id; time = a.chain_time.0; author = author; ours = a.ours; messages = rows 33 a.count (drop (33 * a.place) area) })

abbrev pub info_value : Option AnchorInfo → List ℕ → Maybe Info
info_value None author = none
info_value (Some e) author = some (info_with e author)

pub record IdAndTime : Type 0 where
  pub id : ℕ
  pub time : ℕ

abbrev pub id_value : Option (ℕ × ChainTime) → Maybe IdAndTime
id_value None = none
id_value (Some (k, time)) = some (record { id = k; time = time.0 })

-- "its id and chain time"
abbrev pub id_and_time : Maybe Info → Maybe IdAndTime
id_and_time none = none
id_and_time (some i) = some (record { id = i.id; time = i.time })
