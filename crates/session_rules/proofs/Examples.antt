-- A session changed in one place, the names of its calls, and routes and records at each bound.
use Prim.Native.Nat.{ℕ}
use mathlib.Core.Path.{◌≡◌, refl, sym, ap}
use mathlib.Core.Bool.{Bool, true, false}
use mathlib.Core.List.{List, [], ◌∷◌, ◌++◌, map}
use lib.IntN.{pos}
use lib.ListN.{take, replicate}
use Rattle.rows.specs.Rows.{word, num_at, rows, find_row, same_bytes}
use Rattle.reader_rules.specs.declared.ExternalsReader.{ExternalsReader}
use Rattle.shard_ident.specs.declared.ShardIdent.{ShardIdent}
use Rattle.shard_ident.specs.Shard.{lowest_set, is_shard}
use Rattle.messages_buffer.specs.Fullness.{every, limits_number, first_no}
use Rattle.records.specs.Records.{params_of, limits_of, limits_in}
use Rattle.reader_rules.specs.Each.{each}
use Rattle.reader_rules.specs.State.{held_ranges, sound_ranges_from, state_number, settings_number, settled_number, reader_number}
use Rattle.reader_rules.specs.Rules.{with_default, partitions_entered}
use Rattle.externals_reader.specs.Answers.{ReaderDone}
use Rattle.externals_reader.specs.Calls.{is_present, handed_in, new_call}
use Rattle.session_rules.specs.declared.Session.{Session}
use Rattle.session_rules.specs.Said.{with_transaction, with_routes_len, with_record_count, with_at, stop, record_counted, new_session, route_number, messages_of, ours_of, is_read, do_name}
use Rattle.session_rules.specs.Steps.{with_shard, no_state, settings_done, no_reader, reaches_reader}

-- ---- the session
module _ (s : Session) where
  pub a_session_set_to_what_it_holds_stays : (with_transaction s s.transaction ≡ s) × (with_routes_len s s.routes_len ≡ s) × (with_record_count s s.records ≡ s) × (with_at s s.at ≡ s)
  a_session_set_to_what_it_holds_stays = (refl, refl, refl, refl)

  pub a_stopped_session_stops_as_it_is : s.stopped ≡ true → stop s ≡ s
  a_stopped_session_stops_as_it_is e = ap marked (sym e)
    where
      marked : Bool → Session
      marked b = record { records = s.records; stopped = b; at = s.at; routes_len = s.routes_len; transaction = s.transaction }

-- the count stays at the greatest number of 64 bits
pub the_greatest_count_of_records_stays : (s : Session) → (record_counted (with_record_count s 18446744073709551615)).records ≡ 18446744073709551615
unfolding record_counted
the_greatest_count_of_records_stays s = refl

pub the_first_record_is_number_1 : (record_counted new_session).records ≡ 1
unfolding record_counted new_session
the_first_record_is_number_1 = refl

pub at_first_no_lent_byte_is_text_or_a_route_and_nothing_has_stopped : (text routes : List ℕ) → (take new_session.at text ≡ []) × (take new_session.routes_len routes ≡ []) × (new_session.stopped ≡ false)
unfolding new_session
at_first_no_lent_byte_is_text_or_a_route_and_nothing_has_stopped text routes = (refl, refl, refl)

pub the_reader_begins_without_ranges_and_partitions : (held_ranges no_state ≡ []) × (map is_present no_state.by_partitions ≡ replicate 8 false)
the_reader_begins_without_ranges_and_partitions = (refl, refl)

pub a_reader_with_its_own_shard_stays : (r : ExternalsReader) → with_shard r r.for_shard_id ≡ r
a_reader_with_its_own_shard_stays r = refl

-- whatever else it holds before them
pub the_settings_take_only_the_shard_of_the_reader_before_them : (r before : ExternalsReader) (p : List ℕ) → r.for_shard_id ≡ before.for_shard_id → settings_done r p ≡ settings_done before p
unfolding settings_done
the_settings_take_only_the_shard_of_the_reader_before_them r before p e = ap (λ (shard : ShardIdent). new_call (handed_in shard (num_at 4 12 p) (record { 0 = num_at 8 0 p }) (params_of p) (limits_in p) no_state)) e

-- ---- 0003: next chain time 61000, timeout 60, seqno 5, open-ranges limit 4, none waiting, limit 2 for partition 0
abbrev settings : List ℕ
settings = 72 ∷ 238 ∷ 0 ∷ 0 ∷ 0 ∷ 0 ∷ 0 ∷ 0 ∷ 60 ∷ 0 ∷ 0 ∷ 0 ∷ 5 ∷ 0 ∷ 0 ∷ 0 ∷ 4 ∷ 0 ∷ 2 ∷ 0 ∷ replicate 14 255

abbrev at_settings : ReaderDone
at_settings = settings_done (with_shard no_reader (record { workchain = pos 0; prefix = 9223372036854775808 })) settings

pub the_settings_make_the_reader_once :
    (at_settings.number ≡ 0) × (at_settings.reader.block_seqno ≡ 5) × (at_settings.reader.next_chain_time ≡ record { 0 = 61000 }) × (map is_present at_settings.reader.reader_state.by_partitions ≡ true ∷ replicate 7 false)
unfolding settings_done no_reader new_call reader_number is_shard lowest_set settled_number settings_number limits_number first_no state_number sound_ranges_from every params_of limits_of num_at word partitions_entered with_default each
the_settings_make_the_reader_once = (refl, refl, refl, refl)

-- ---- 0002: a route by its workchain, an account of one byte repeated, and its partition
abbrev route : ℕ → ℕ → ℕ → List ℕ
route workchain account partition = workchain ∷ (replicate 32 account ++ (partition ∷ []))

pub a_route_to_partition_7_is_taken_and_to_8_is_not : (route_number [] (route 0 1 7) ≡ 0) × (route_number [] (route 0 1 8) ≡ 3)
unfolding route_number rows find_row
a_route_to_partition_7_is_taken_and_to_8_is_not = (refl, refl)

pub an_address_is_listed_once : (route_number (route 0 1 7) (route 0 1 5) ≡ 3) × (route_number (route 0 1 7) (route 1 1 7) ≡ 0) × (route_number (route 0 1 7) (route 0 2 7) ≡ 0)
unfolding route_number rows find_row same_bytes
an_address_is_listed_once = (refl, refl, refl)

pub a_route_is_34_bytes : route_number [] (replicate 33 0) ≡ 3
unfolding route_number rows find_row
a_route_is_34_bytes = refl

-- ---- 0004: ours stands at byte 44, the messages behind byte 50
abbrev anchor : List ℕ
anchor = replicate 44 9 ++ (1 ∷ 2 ∷ 3 ∷ 4 ∷ 5 ∷ 6 ∷ 7 ∷ 8 ∷ [])

pub ours_is_4_bytes_behind_the_author : (ours_of anchor ≡ 67305985) × (messages_of anchor ≡ 7 ∷ 8 ∷ [])
unfolding num_at word
ours_is_4_bytes_behind_the_author = (refl, refl)

-- ---- 0005: open, pop, read, read, commit, rollback, close
pub each_do_byte_has_its_call's_name :
    (do_name 1 ≡ 111 ∷ 112 ∷ 101 ∷ 110 ∷ []) × (do_name 2 ≡ 112 ∷ 111 ∷ 112 ∷ []) × (do_name 3 ≡ 114 ∷ 101 ∷ 97 ∷ 100 ∷ []) × (do_name 4 ≡ do_name 3)
    × (do_name 5 ≡ 99 ∷ 111 ∷ 109 ∷ 109 ∷ 105 ∷ 116 ∷ []) × (do_name 6 ≡ 114 ∷ 111 ∷ 108 ∷ 108 ∷ 98 ∷ 97 ∷ 99 ∷ 107 ∷ []) × (do_name 7 ≡ 99 ∷ 108 ∷ 111 ∷ 115 ∷ 101 ∷ [])
unfolding do_name is_read
each_do_byte_has_its_call's_name = (refl, refl, refl, refl, refl, refl, refl)

pub the_shard_the_settings_and_the_reads_reach_the_reader :
    (reaches_reader 1 0 ≡ true) × (reaches_reader 3 0 ≡ true) × (reaches_reader 5 3 ≡ true) × (reaches_reader 5 4 ≡ true) × (reaches_reader 5 2 ≡ false) × (reaches_reader 5 5 ≡ false) × (reaches_reader 2 3 ≡ false) × (reaches_reader 4 3 ≡ false)
unfolding reaches_reader is_read
the_shard_the_settings_and_the_reads_reach_the_reader = (refl, refl, refl, refl, refl, refl, refl, refl)
