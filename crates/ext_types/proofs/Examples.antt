-- Document 01's timeout and ages, in its own numbers.
use mathlib.Core.Path.{◌≡◌, refl}
use mathlib.Core.Bool.{true, false}
use Rattle.ext_types.specs.Time.{millis_of, expired_at}

pub sixty_seconds_are_60000_milliseconds : millis_of (record { 0 = 60 }) ≡ record { 0 = 60000 }
sixty_seconds_are_60000_milliseconds = refl

-- range chain time 61,000, so ages 60,000 and 60,001
pub an_age_equal_to_the_limit_is_kept_and_one_above_it_is_expired : (expired_at (record { 0 = 61000 }) (record { 0 = 1000 }) (millis_of (record { 0 = 60 })) ≡ false) × (expired_at (record { 0 = 61000 }) (record { 0 = 999 }) (millis_of (record { 0 = 60 })) ≡ true)
an_age_equal_to_the_limit_is_kept_and_one_above_it_is_expired = (refl, refl)

pub a_negative_age_is_0 : expired_at (record { 0 = 1000 }) (record { 0 = 61000 }) (record { 0 = 0 }) ≡ false
a_negative_age_is_0 = refl
