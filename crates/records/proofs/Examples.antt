-- Document 01's records, byte by byte: framing, question 17 at each bound, and the fields of each kind.
use Prim.Native.Nat.{ℕ}
use mathlib.Core.Path.{◌≡◌, refl}
use mathlib.Core.Bool.{true, false}
use mathlib.Core.List.{List, [], ◌∷◌, ◌++◌}
use lib.IntN.{pos, negsuc}
use lib.ListN.{replicate}
use Rattle.rows.specs.Rows.{word, num_at}
use Rattle.records.specs.declared.Next.TheVariants.{Whole, Long, Part}
use Rattle.records.specs.Records.{longest_record, next_record, in_place, byte_within, as_stated, record_number, shard_of, limits_of, limits_in, params_of, author_of, anchor_in}

-- ---- framing
-- a record "do 1" behind one byte of another: its payload and kind are 3 bytes
abbrev behind_one : List ℕ
behind_one = 9 ∷ 3 ∷ 0 ∷ 0 ∷ 0 ∷ 5 ∷ 0 ∷ 1 ∷ []

pub a_record_is_whole_with_its_last_byte : (next_record behind_one 1 8 ≡ Whole 5 3) × (next_record behind_one 1 7 ≡ Part) × (next_record behind_one 1 4 ≡ Part)
unfolding next_record num_at word
a_record_is_whole_with_its_last_byte = (refl, refl, refl)

pub four_bytes_are_a_length : next_record (0 ∷ 0 ∷ 0 ∷ 0 ∷ []) 0 4 ≡ Whole 4 0
unfolding next_record num_at word
four_bytes_are_a_length = refl

-- an anchor with 512 messages; one byte more is judged by its first 52, behind the length
pub the_longest_record_has_16948_bytes : (longest_record ≡ 16948) × (next_record (52 ∷ 66 ∷ 0 ∷ 0 ∷ []) 0 16952 ≡ Whole 4 16948)
unfolding next_record num_at word
the_longest_record_has_16948_bytes = (refl, refl)

pub a_longer_one_is_judged_by_its_first_52_bytes : (next_record (53 ∷ 66 ∷ 0 ∷ 0 ∷ []) 0 56 ≡ Long 16949) × (next_record (53 ∷ 66 ∷ 0 ∷ 0 ∷ []) 0 55 ≡ Part)
unfolding next_record num_at word
a_longer_one_is_judged_by_its_first_52_bytes = (refl, refl)

-- ---- question 17: place
pub the_first_record_is_0001 : (in_place 1 1 ≡ true) × (in_place 1 0 ≡ false) × (in_place 1 2 ≡ false) × (in_place 1 3 ≡ false)
unfolding in_place
the_first_record_is_0001 = (refl, refl, refl, refl)

pub the_second_record_is_0003 : (in_place 2 3 ≡ true) × (in_place 2 1 ≡ false) × (in_place 2 2 ≡ false) × (in_place 2 4 ≡ false)
unfolding in_place
the_second_record_is_0003 = (refl, refl, refl, refl)

pub then_neither_comes_again : (in_place 3 1 ≡ false) × (in_place 3 3 ≡ false) × (in_place 3 2 ≡ true) × (in_place 3 4 ≡ true) × (in_place 3 5 ≡ true)
unfolding in_place
then_neither_comes_again = (refl, refl, refl, refl, refl)

-- ---- question 17: kind, length, flag and do byte
pub a_shard_has_12_bytes : (record_number 1 1 (replicate 12 0) ≡ 0) × (record_number 1 1 (replicate 11 0) ≡ 17) × (record_number 1 1 (replicate 13 0) ≡ 17)
unfolding record_number in_place as_stated
a_shard_has_12_bytes = (refl, refl, refl)

pub a_route_has_34_bytes : (record_number 3 2 (replicate 34 9) ≡ 0) × (record_number 3 2 (replicate 33 9) ≡ 17) × (record_number 3 2 (replicate 35 9) ≡ 17)
unfolding record_number in_place as_stated
a_route_has_34_bytes = (refl, refl, refl)

-- settings with this flag
abbrev flagged : ℕ → List ℕ
flagged flag = replicate 17 9 ++ (flag ∷ replicate 16 9)

pub settings_have_34_bytes_and_a_flag_of_0_or_1 : (record_number 2 3 (flagged 0) ≡ 0) × (record_number 2 3 (flagged 1) ≡ 0) × (record_number 2 3 (flagged 2) ≡ 17) × (record_number 2 3 (replicate 33 0) ≡ 17) × (record_number 2 3 (replicate 35 0) ≡ 17)
unfolding record_number in_place as_stated byte_within
settings_have_34_bytes_and_a_flag_of_0_or_1 = (refl, refl, refl, refl, refl)

-- an anchor that says it has one message, with n bytes of it
abbrev with_message : ℕ → List ℕ
with_message n = replicate 48 9 ++ (1 ∷ 0 ∷ replicate n 9)

pub an_anchor_has_50_bytes_and_33_a_message : (record_number 3 4 (with_message 33) ≡ 0) × (record_number 3 4 (with_message 32) ≡ 17) × (record_number 3 4 (with_message 34) ≡ 17)
unfolding record_number in_place as_stated num_at word
an_anchor_has_50_bytes_and_33_a_message = (refl, refl, refl)

pub a_do_byte_is_1_to_7_and_alone : (record_number 3 5 (1 ∷ []) ≡ 0) × (record_number 3 5 (7 ∷ []) ≡ 0) × (record_number 3 5 (0 ∷ []) ≡ 17) × (record_number 3 5 (8 ∷ []) ≡ 17) × (record_number 3 5 (1 ∷ 1 ∷ []) ≡ 17)
unfolding record_number in_place as_stated byte_within
a_do_byte_is_1_to_7_and_alone = (refl, refl, refl, refl, refl)

-- whatever its length
pub no_other_kind_is_taken : (record_number 3 0 (replicate 12 0) ≡ 17) × (record_number 3 0 (replicate 34 0) ≡ 17) × (record_number 3 0 (replicate 50 0) ≡ 17) × (record_number 3 0 (1 ∷ []) ≡ 17) × (record_number 3 6 (1 ∷ []) ≡ 17)
unfolding record_number in_place as_stated byte_within num_at word
no_other_kind_is_taken = (refl, refl, refl, refl, refl)

pub past_the_end_a_byte_is_0 : (byte_within 1 0 0 (9 ∷ []) ≡ true) × (byte_within 1 1 9 (9 ∷ []) ≡ false)
unfolding byte_within
past_the_end_a_byte_is_0 = (refl, refl)

-- ---- fields
pub a_shard_is_workchain_4_and_prefix_8 :
    (shard_of (1 ∷ 2 ∷ 3 ∷ 4 ∷ 5 ∷ 6 ∷ 7 ∷ 8 ∷ 9 ∷ 10 ∷ 11 ∷ 12 ∷ []) ≡ record { workchain = pos 67305985; prefix = 867798387104613893 }) × (shard_of (255 ∷ 255 ∷ 255 ∷ 255 ∷ 0 ∷ 0 ∷ 0 ∷ 0 ∷ 0 ∷ 0 ∷ 0 ∷ 128 ∷ []) ≡ record { workchain = negsuc 0; prefix = 9223372036854775808 })
unfolding shard_of num_at word
a_shard_is_workchain_4_and_prefix_8 = (refl, refl)

-- next chain time 61000, timeout 60, seqno 5, open-ranges limit 4, a flag, limit 2 for partition 0 and seven others
abbrev settings : ℕ → List ℕ
settings flag =
    72 ∷ 238 ∷ 0 ∷ 0 ∷ 0 ∷ 0 ∷ 0 ∷ 0 ∷ 60 ∷ 0 ∷ 0 ∷ 0 ∷ 5 ∷ 0 ∷ 0 ∷ 0 ∷ 4 ∷ flag ∷ 2 ∷ 0 ∷ 255 ∷ 255 ∷ 3 ∷ 1 ∷ 4 ∷ 0 ∷ 5 ∷ 0 ∷ 6 ∷ 0 ∷ 7 ∷ 0 ∷ 8 ∷ 2 ∷ []

pub settings_are_timeout_open_ranges_limit_and_flag :
    (params_of (settings 0) ≡ record { externals_expire_timeout = record { 0 = 60 }; open_ranges_limit = 4; new_is_some = false }) × (params_of (settings 1) ≡ record { externals_expire_timeout = record { 0 = 60 }; open_ranges_limit = 4; new_is_some = true })
unfolding params_of num_at word
settings_are_timeout_open_ranges_limit_and_flag = (refl, refl)

pub past_the_end_every_setting_is_0 : params_of [] ≡ record { externals_expire_timeout = record { 0 = 0 }; open_ranges_limit = 0; new_is_some = false }
unfolding params_of num_at
past_the_end_every_setting_is_0 = refl

pub settings_end_with_eight_limits : limits_in (settings 0) ≡ 2 ∷ 65535 ∷ 259 ∷ 4 ∷ 5 ∷ 6 ∷ 7 ∷ 520 ∷ []
unfolding limits_of num_at word
settings_end_with_eight_limits = refl

-- id 7, chain time 1000, an author of nines, ours 1
pub an_anchor_is_id_4_chain_time_8_and_author_32 : anchor_in (7 ∷ 0 ∷ 0 ∷ 0 ∷ 232 ∷ 3 ∷ 0 ∷ 0 ∷ 0 ∷ 0 ∷ 0 ∷ 0 ∷ (replicate 32 9 ++ (1 ∷ 0 ∷ 0 ∷ 0 ∷ []))) ≡ record { id = 7; chain_time = record { 0 = 1000 }; author = replicate 32 9 }
unfolding anchor_in author_of num_at word
an_anchor_is_id_4_chain_time_8_and_author_32 = refl

pub an_author_cut_short_is_zeros : (author_of (replicate 44 9) ≡ replicate 32 9) × (author_of (replicate 43 9) ≡ replicate 32 0)
unfolding author_of
an_author_cut_short_is_zeros = (refl, refl)
