-- Document 01's caps and questions in its own numbers: what is just taken, and what is one too many.
use Prim.Native.Nat.{ℕ, zero, suc, ◌+◌}
use mathlib.Core.Path.{◌≡◌, refl}
use mathlib.Core.Bool.{true, false}
use mathlib.Core.List.{List, [], ◌∷◌, map}
use mathlib.Core.Option.{none, some}
use lib.ListN.{length}
use Rattle.cache_rules.specs.Rules.{Row, area_bytes, empty_cache, row_of, sound_row, sound_from, total, sound_cache, pending_up_to, right_size, above_last, room}

-- an anchor by its id, ours and message count, at chain time 9
abbrev row : ℕ → ℕ → ℕ → Row
row id ours count = record { id = id; time = 9; author = []; ours = ours; count = count }

-- n anchors of k messages with ids one apart
abbrev anchors_from : ℕ → ℕ → ℕ → List Row
anchors_from zero id k = []
anchors_from (suc n) id k = row id 1 k ∷ anchors_from n (id + 1) k

-- ---- question 1
pub the_message_area_has_33792_bytes : area_bytes ≡ 33792
the_message_area_has_33792_bytes = refl

-- ---- question 5
pub an_anchor_has_ours_from_1_to_its_message_count : (sound_row 3 (row 3 0 512) ≡ false) × (sound_row 3 (row 3 1 512) ≡ true) × (sound_row 3 (row 3 4 4) ≡ true) × (sound_row 3 (row 3 5 4) ≡ false)
unfolding sound_row
an_anchor_has_ours_from_1_to_its_message_count = (refl, refl, refl, refl)

pub an_anchor_has_at_most_512_messages : (sound_row 3 (row 3 1 512) ≡ true) × (sound_row 3 (row 3 1 513) ≡ false)
unfolding sound_row
an_anchor_has_at_most_512_messages = (refl, refl)

pub ids_rise : (sound_from 0 (row 3 1 1 ∷ row 4 1 1 ∷ []) ≡ true) × (sound_from 0 (row 3 1 1 ∷ row 3 1 1 ∷ []) ≡ false) × (sound_from 0 (row 4 1 1 ∷ row 3 1 1 ∷ []) ≡ false)
unfolding sound_from sound_row
ids_rise = (refl, refl, refl)

-- 32 anchors of 32 messages are 1,024
pub a_cache_holds_32_anchors_of_1024_messages_and_256_history_entries : sound_cache (anchors_from 32 0 32) 256 true ≡ true
unfolding sound_cache sound_from sound_row total
a_cache_holds_32_anchors_of_1024_messages_and_256_history_entries = refl

pub and_not_one_more_of_any : (sound_cache (anchors_from 33 0 31) 256 true ≡ false) × (sound_cache (row 0 1 33 ∷ anchors_from 31 1 32) 256 true ≡ false) × (sound_cache (anchors_from 32 0 32) 257 true ≡ false)
unfolding sound_cache sound_from sound_row total
and_not_one_more_of_any = (refl, refl, refl)

pub pending_is_set_exactly_if_the_cache_is_nonempty : (sound_cache (row 3 1 1 ∷ []) 1 false ≡ false) × (sound_cache [] 1 true ≡ false) × (sound_cache [] 1 false ≡ true)
unfolding sound_cache sound_from sound_row total
pending_is_set_exactly_if_the_cache_is_nonempty = (refl, refl, refl)

pub a_cleared_cache_passes_question_5 : sound_cache (map row_of empty_cache.anchors) (length empty_cache.history) empty_cache.pending ≡ true
unfolding sound_cache sound_from total
a_cleared_cache_passes_question_5 = refl

-- ---- `check_has_pending_externals_in_range`
pub an_anchor_at_the_key's_id_is_in_range_and_one_above_is_not : (pending_up_to 5 (row 5 1 2 ∷ []) ≡ true) × (pending_up_to 4 (row 5 1 2 ∷ []) ≡ false)
unfolding pending_up_to
an_anchor_at_the_key's_id_is_in_range_and_one_above_is_not = (refl, refl)

pub any_anchor_decides_and_only_by_ours : (pending_up_to 20 (row 21 1 2 ∷ row 20 1 2 ∷ []) ≡ true) × (pending_up_to 20 (row 20 0 2 ∷ []) ≡ false)
unfolding pending_up_to
any_anchor_decides_and_only_by_ours = (refl, refl)

-- ---- question 6: 512 messages are 16,896 bytes
pub five_hundred_and_twelve_messages_are_taken_and_one_more_is_not : (right_size 512 16896 ≡ true) × (right_size 512 16929 ≡ false)
unfolding right_size
five_hundred_and_twelve_messages_are_taken_and_one_more_is_not = (refl, refl)

pub a_part_of_a_message_is_not_taken : (right_size 1 65 ≡ false) × (right_size 1 66 ≡ true) × (right_size 1 67 ≡ false)
unfolding right_size
a_part_of_a_message_is_not_taken = (refl, refl, refl)

pub ours_is_at_most_the_message_count : (right_size 2 66 ≡ true) × (right_size 3 66 ≡ false)
unfolding right_size
ours_is_at_most_the_message_count = (refl, refl)

-- ---- question 7
pub any_id_is_taken_first_and_then_only_one_above_the_last : (above_last 0 none ≡ true) × (above_last 5 (some (row 5 1 2)) ≡ false) × (above_last 6 (some (row 5 1 2)) ≡ true)
any_id_is_taken_first_and_then_only_one_above_the_last = (refl, refl, refl)

-- ---- question 8: the last that fits, and one too many of each
pub the_256th_entry_the_32nd_anchor_and_the_1024th_message_are_taken : room 31 512 255 1 512 ≡ true
unfolding room
the_256th_entry_the_32nd_anchor_and_the_1024th_message_are_taken = refl

pub the_257th_entry_the_33rd_anchor_or_the_1025th_message_is_not : (room 31 512 256 1 512 ≡ false) × (room 32 512 255 1 512 ≡ false) × (room 31 513 255 1 512 ≡ false)
unfolding room
the_257th_entry_the_33rd_anchor_or_the_1025th_message_is_not = (refl, refl, refl)
