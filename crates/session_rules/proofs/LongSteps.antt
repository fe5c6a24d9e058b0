-- A record that is too long to be taken: what a step of the whole record would say is what its first 52 bytes say.
use Prim.Native.Nat.{ℕ, ◌<◌}
use mathlib.Core.Path.{◌≡◌, refl, ap, ◌∙◌}
use mathlib.Core.Bool.{Bool, true, false}
use mathlib.Core.List.{List}
use lib.ListN.{length, take, drop}
use Rattle.rows.specs.Rows.{pick, num_at}
use Rattle.reader_rules.specs.declared.ExternalsReader.{ExternalsReader}
use Rattle.session_rules.specs.declared.Session.{Session}
use Rattle.session_rules.specs.Said.{Said, record_counted, malformed_said, is_taken, long_said}
use Rattle.session_rules.proofs.LongRecords.{a_long_record_that_is_taken_is_an_anchor, a_long_record_that_is_not_taken_says_the_same_whole, a_long_record_that_is_taken_says_the_same_whole, a_long_record_leaves_the_tables, a_long_record_leaves_the_area, a_long_record_leaves_the_routes}
use Rattle.session_rules.specs.Steps.{Lent, StepOutcome, reaches_reader, plain_outcome, taken_outcome, step_of}
use Rattle.records.specs.Records.{longest_record}

module _ (l : Lent) (s : Session) (r : ExternalsReader) (rec : List ℕ) (long : longest_record < length rec) where
  -- refused by the number of the first 52 bytes; the reader and every lent byte are as they were
  abbrev pub as_long : StepOutcome
  as_long = record { said = long_said (length l.area) l.tables s (take 52 rec) (length rec); reader = r; lent = l }

  no_reader_lem : num_at 2 0 rec ≡ 4 → taken_outcome l (record_counted s) r (num_at 2 0 rec) (drop 2 rec) ≡ plain_outcome l (record_counted s) r (num_at 2 0 rec) (drop 2 rec)
  unfolding taken_outcome reaches_reader
  no_reader_lem e = rw e

  as_plain : is_taken s rec ≡ true → plain_outcome l (record_counted s) r (num_at 2 0 rec) (drop 2 rec) ≡ as_long
  unfolding plain_outcome
  as_plain e =
      rw (
        a_long_record_that_is_taken_says_the_same_whole s rec long l.tables l.area l.routes e,
        a_long_record_leaves_the_tables s rec long l.tables l.area l.routes e,
        a_long_record_leaves_the_area s rec long l.tables l.area l.routes e,
        a_long_record_leaves_the_routes s rec long l.tables l.area l.routes e,
      )

  pub a_long_record's_step_is_what_its_first_52_bytes_say : step_of l s r rec ≡ as_long
  unfolding step_of
  a_long_record's_step_is_what_its_first_52_bytes_say = go (is_taken s rec) refl
    where
      go : (b : Bool) → is_taken s rec ≡ b → pick b (taken_outcome l (record_counted s) r (num_at 2 0 rec) (drop 2 rec)) (record { said = malformed_said s; reader = r; lent = l }) ≡ as_long
      go true e = no_reader_lem (a_long_record_that_is_taken_is_an_anchor s rec long e) ∙ as_plain e
      go false e = ap (λ (a : Said). record { said = a; reader = r; lent = l }) (a_long_record_that_is_not_taken_says_the_same_whole s rec long (length l.area) l.tables e)
