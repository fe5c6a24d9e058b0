-- Which lent bytes a record may change, and what a record leaves of the reader.
use Prim.Native.Nat.{ℕ, ◌<◌}
use mathlib.Core.Path.{◌≡◌, refl}
use mathlib.Core.Bool.{true}
use mathlib.Core.List.{List}
use lib.ListN.{length}
use borrow.Author.Tests.{lt-leb}
use Rattle.reader_rules.specs.declared.ExternalsReader.{ExternalsReader}
use Rattle.session_rules.specs.declared.Session.{Session}
use Rattle.session_rules.specs.Said.{bad_said, routes_after, tables_after, area_after, plain_tables, plain_area, plain_routes}
use Rattle.session_rules.specs.Steps.{Lent, session_read, has_routes, reader_said, reader_reader, reader_entries, reader_outcome, plain_outcome}

module _ (l : Lent) (s : Session) (r : ExternalsReader) (p : List ℕ) where
  -- ---- 0001, 0003 and the reads
  pub a_record_that_reaches_the_reader_leaves_tables_area_and_routes : (kind : ℕ)
      → ((reader_outcome l s r kind p).lent.tables ≡ l.tables) × ((reader_outcome l s r kind p).lent.area ≡ l.area) × ((reader_outcome l s r kind p).lent.routes ≡ l.routes)
  unfolding reader_outcome
  a_record_that_reaches_the_reader_leaves_tables_area_and_routes kind = (refl, refl, refl)

  pub the_shard_and_the_settings_leave_the_output : (reader_entries l s r 1 p ≡ l.entries) × (reader_entries l s r 3 p ≡ l.entries)
  unfolding reader_entries
  the_shard_and_the_settings_leave_the_output = (refl, refl)

  pub a_read_writes_the_output_that_it_is_lent : has_routes l s ≡ true → (reader_entries l s r 5 p ≡ (session_read l s r p).out) × (reader_reader l s r 5 p ≡ (session_read l s r p).answer.reader)
  unfolding reader_entries reader_reader
  a_read_writes_the_output_that_it_is_lent e = rw e (refl, refl)

  pub a_read_lent_fewer_routes_than_are_listed_is_refused_by_3 : length l.routes < s.routes_len → (reader_said l s r 5 p ≡ bad_said s 3) × (reader_reader l s r 5 p ≡ r) × (reader_entries l s r 5 p ≡ l.entries)
  unfolding reader_said reader_reader reader_entries
  a_read_lent_fewer_routes_than_are_listed_is_refused_by_3 h = rw (lt-leb s.routes_len (length l.routes) h) (refl, refl, refl)

  -- ---- 0002, 0004 and the cache's calls
  pub a_record_that_does_not_reach_the_reader_leaves_it_and_the_output : (kind : ℕ) → ((plain_outcome l s r kind p).reader ≡ r) × ((plain_outcome l s r kind p).lent.entries ≡ l.entries)
  unfolding plain_outcome
  a_record_that_does_not_reach_the_reader_leaves_it_and_the_output kind = (refl, refl)

  pub a_route_changes_the_routes_alone : (plain_outcome l s r 2 p).lent ≡ record { tables = l.tables; area = l.area; routes = routes_after s l.routes p; entries = l.entries }
  unfolding plain_outcome plain_tables plain_area plain_routes
  a_route_changes_the_routes_alone = refl

  pub an_anchor_changes_the_tables_and_the_area_alone :
      (plain_outcome l s r 4 p).lent
      ≡ record { tables = tables_after (length l.area) l.tables s.transaction p; area = area_after l.area l.tables s.transaction p; routes = l.routes; entries = l.entries }
  unfolding plain_outcome plain_tables plain_area plain_routes
  an_anchor_changes_the_tables_and_the_area_alone = refl

  pub a_call_of_the_cache_changes_no_lent_byte : (plain_outcome l s r 5 p).lent ≡ l
  unfolding plain_outcome plain_tables plain_area plain_routes
  a_call_of_the_cache_changes_no_lent_byte = refl
