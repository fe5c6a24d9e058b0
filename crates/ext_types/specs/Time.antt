-- Seconds and chain time.
use Rattle.std.specs.Prelude.{◌*◌, ◌-◌, Bool, ltb}
use Rattle.ext_types.specs.declared.Seconds.{Seconds}
use Rattle.ext_types.specs.declared.ChainTime.{ChainTime}

-- Document 01: "seconds meet chain time only after times 1000".
abbrev pub millis_of : Seconds → ChainTime
millis_of timeout = record { 0 = timeout.0 * 1000 }

-- Document 01: expired, "range chain time minus anchor's (0 if negative) above the limit".
abbrev pub expired_at : ChainTime → ChainTime → ChainTime → Bool
expired_at range anchor limit = ltb limit.0 (range.0 - anchor.0)
