-- A message's workchain, "signed 8 bits": the bytes at each end.
use mathlib.Core.Path.{◌≡◌, refl}
use lib.IntN.{pos, negsuc}
use Rattle.shard_ident.specs.Shard.{signed_byte}

-- `negsuc 127` is -128, `negsuc 0` is -1
pub a_workchain's_byte_is_signed : (signed_byte 0 ≡ pos 0) × (signed_byte 127 ≡ pos 127) × (signed_byte 128 ≡ negsuc 127) × (signed_byte 255 ≡ negsuc 0)
a_workchain's_byte_is_signed = (refl, refl, refl, refl)
