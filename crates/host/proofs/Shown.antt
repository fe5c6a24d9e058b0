-- The host's shapes say what the core's say: a flag its mode, a reader there and back, and what is found or not.
use Rattle.std.specs.Prelude.{Option, None, Some}
use Prim.Native.Nat.{ℕ}
use mathlib.Core.Path.{◌≡◌, refl, ap}
use mathlib.Core.Bool.{true, false}
use mathlib.Core.List.{List}
use Rattle.ext_types.specs.declared.ChainTime.{ChainTime}
use Rattle.shard_ident.specs.Shard as shard
use Rattle.router.specs.Router as router
use Rattle.anchors_cache.specs.declared.AnchorInfo.{AnchorInfo}
use Rattle.anchors_cache.specs.declared.CachedAnchor.{CachedAnchor}
use Rattle.range_rules.specs.declared.ReadNextExternalsMode.TheVariants.{ToTheEnd, ToPreviuosReadTo}
use Rattle.reader_rules.specs.declared.GetNextMessageGroupMode.TheVariants.{Continue, Refill}
use Rattle.reader_rules.specs.declared.ExternalsReader.{ExternalsReader}
use Rattle.externals_reader.specs.Calls.{read_all_call}
use Rattle.externals_reader.specs.Answers.{ReadAllAnswer}
use Rattle.range_reader.specs.Calls.{ReadAnswer}
use Rattle.host.specs.declared.Externals.{Externals}
use Rattle.host.specs.declared.Reader.{Reader}
use Rattle.host.specs.Shapes.{range_mode, last_time, saved_time, free_of, reader_of, held_reader, anchor_shown, info_shown}
use Rattle.host.specs.Calls.{ours_shown, partition_shown, read_all_shown, read_all, read_range_shown}

-- ---- modes
pub the_flag_of_a_read_of_all_says_Refill_or_Continue : (out tables area routes : List ℕ) (e : Externals)
    → (read_all out tables area routes true e ≡ read_all_call tables area e.transaction routes (reader_of e.reader) Refill out) × (read_all out tables area routes false e ≡ read_all_call tables area e.transaction routes (reader_of e.reader) Continue out)
unfolding read_all
the_flag_of_a_read_of_all_says_Refill_or_Continue out tables area routes e = (refl, refl)

pub the_flag_of_a_range's_read_says_where_it_ends : (range_mode true ≡ ToPreviuosReadTo) × (range_mode false ≡ ToTheEnd)
the_flag_of_a_range's_read_says_where_it_ends = (refl, refl)

-- ---- the reader
time_back : (unset : ChainTime) (t : Option ChainTime) → last_time (saved_time unset t).present (saved_time unset t).time ≡ t
time_back unset None = refl
time_back unset (Some ct) = refl

pub what_the_host_holds_of_the_core's_reader_is_that_reader : (unset : ChainTime) (r : ExternalsReader) → reader_of (held_reader unset r) ≡ r
unfolding reader_of held_reader
what_the_host_holds_of_the_core's_reader_is_that_reader unset r = rw (time_back unset r.reader_state.last_read_to_anchor_chain_time)

-- ---- what is found
module _ (number : ℕ) (author : List ℕ) where
  pub what_is_found_is_shown_with_its_mark : (a : CachedAnchor) (i : AnchorInfo)
      → (anchor_shown number (Some a) author ≡ record { number = number; found = true; anchor = a; author = author }) × (info_shown number (Some i) author ≡ record { number = number; found = true; info = i; author = author })
  what_is_found_is_shown_with_its_mark a i = (refl, refl)

  pub nothing_found_is_zeros_without_a_mark :
      (anchor_shown number None author ≡ record { number = number; found = false; anchor = record { id = 0; chain_time = record { 0 = 0 }; ours = 0; count = 0; place = 0 }; author = author })
      × (info_shown number None author ≡ record { number = number; found = false; info = record { id = 0; ct = record { 0 = 0 }; all_exts_count = 0; our_exts_count = 0 }; author = author })
  nothing_found_is_zeros_without_a_mark = (refl, refl)

-- ---- whose a message is, and its partition
pub the_host_is_told_what_the_shard_and_the_router_answer : (a : shard.Answer) (b : router.Answer)
    → ((ours_shown a).number ≡ a.number) × ((ours_shown a).flag ≡ a.ours) × ((partition_shown b).number ≡ b.number) × ((partition_shown b).partition ≡ b.value)
the_host_is_told_what_the_shard_and_the_router_answer a b = (refl, refl, refl, refl)

-- ---- what a read answers
pub the_host_is_told_the_number_bytes_and_counts_of_a_read_of_all : (was : Reader) (a : ReadAllAnswer)
    → ((read_all_shown was a).answer.number ≡ a.number) × ((read_all_shown was a).answer.used ≡ a.used) × ((read_all_shown was a).answer.counts ≡ a.counts)
the_host_is_told_the_number_bytes_and_counts_of_a_read_of_all was a = (refl, refl, refl)

pub and_of_a_range's_read_also_its_pops_and_free_places : (a : ReadAnswer)
    → ((read_range_shown a).answer.number ≡ a.number) × ((read_range_shown a).answer.used ≡ a.used) × ((read_range_shown a).answer.counts ≡ a.counts) × ((read_range_shown a).answer.pops ≡ a.pops) × ((read_range_shown a).answer.free ≡ a.free)
and_of_a_range's_read_also_its_pops_and_free_places a = (refl, refl, refl, refl, refl)

pub the_host_is_told_the_free_places_of_the_last_range_read : (was : Reader) (a : ReadAllAnswer)
    → let free = (read_all_shown was a).answer.free in
    (free ≡ free_of a.free)
    × (a.free ≡ None → free ≡ record { present = false; places = 0 })
    × ((n : ℕ) → a.free ≡ Some n → free ≡ record { present = true; places = n })
the_host_is_told_the_free_places_of_the_last_range_read was a = (refl, λ e. ap free_of e, λ n e. ap free_of e)
