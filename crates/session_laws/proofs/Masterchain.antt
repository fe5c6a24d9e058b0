-- Document 02, ticket 2, as a session shows it: a first record that names a part of the masterchain is refused by 2,
-- and nothing follows.
use Prim.Native.Nat.{ℕ, ◌^◌}
use mathlib.Core.Path.{◌≡◌, refl, ap}
use mathlib.Core.List.{List, [], ◌∷◌, ◌++◌}
use native.Mathlib.Omega.{arith}
use lib.IntN.{negsuc}
use lib.ListN.{length, drop}
use Rattle.shard_ident.specs.Shard.{lowest_set, is_shard, shard_number}
use Rattle.shard_ident.proofs.Masterchain.{a_part_of_the_masterchain_is_refused_by_2}
use Rattle.rows.specs.Rows.{num_at, word}
use Rattle.text.specs.Shown.{decimal, line, places, marked}
use Rattle.lines.specs.Lines.{bad_line}
use Rattle.records.specs.Records.{as_stated, in_place, record_number, shard_of}
use Rattle.session_rules.specs.Said.{is_taken, after_or_bad, bad_said, malformed_said, end_said, new_session, record_counted}
use Rattle.session_rules.specs.Steps.{Lent, no_reader, reaches_reader, reader_entries, reader_outcome, reader_reader, reader_said, shard_done, step_of, taken_outcome}
use Rattle.session_rules.proofs.Texts.{session_text, nothing_follows_bad}

-- bad 1 2
abbrev bad_1_2 : List ℕ
bad_1_2 = 98 ∷ 97 ∷ 100 ∷ 32 ∷ 49 ∷ 32 ∷ 50 ∷ 10 ∷ []

pub a_part_of_the_masterchain_is_bad : (l : Lent) (p : List ℕ) (rest : List (List ℕ)) → length p ≡ 12 → (shard_of p).workchain ≡ negsuc 0 → ((shard_of p).prefix ≡ 2 ^ 63 → ⊥)
    → session_text l new_session no_reader ((1 ∷ 0 ∷ p) ∷ rest) ≡ bad_1_2
unfolding session_text step_of is_taken record_number in_place as_stated num_at word record_counted new_session taken_outcome reaches_reader reader_outcome reader_said shard_done after_or_bad bad_said bad_line line marked decimal places
a_part_of_the_masterchain_is_bad l p rest long masterchain part =
    let two : shard_number (shard_of p) ≡ 2 = (a_part_of_the_masterchain_is_refused_by_2 (shard_of p) masterchain part).0 in
    rw (long, two) (ap (λ (after : List ℕ). bad_1_2 ++ after) (nothing_follows_bad _ _ _ rest refl))

-- a record 0001 of this workchain, with the prefix 4000000000000000 (hexadecimal)
abbrev half_of : ℕ → ℕ → ℕ → ℕ → List ℕ
half_of a b c d = 1 ∷ 0 ∷ a ∷ b ∷ c ∷ d ∷ 0 ∷ 0 ∷ 0 ∷ 0 ∷ 0 ∷ 0 ∷ 0 ∷ 64 ∷ []

pub a_half_of_the_masterchain_is_bad : (l : Lent) (rest : List (List ℕ)) → session_text l new_session no_reader (half_of 255 255 255 255 ∷ rest) ≡ bad_1_2
unfolding shard_of num_at word
a_half_of_the_masterchain_is_bad l rest =
    a_part_of_the_masterchain_is_bad l (drop 2 (half_of 255 255 255 255)) rest refl refl (λ e. let f : 4611686018427387904 ≡ 9223372036854775808 = e in omega (arith, f))

-- bad 2 17: the first record is taken, and the input ends where the settings must come
pub a_half_of_workchain_255_is_taken : (l : Lent) → session_text l new_session no_reader (half_of 255 0 0 0 ∷ []) ≡ 98 ∷ 97 ∷ 100 ∷ 32 ∷ 50 ∷ 32 ∷ 49 ∷ 55 ∷ 10 ∷ []
unfolding session_text step_of is_taken record_number in_place as_stated num_at word record_counted new_session taken_outcome reaches_reader reader_outcome reader_said reader_reader reader_entries shard_done after_or_bad bad_said malformed_said end_said bad_line line marked decimal places shard_of is_shard lowest_set
a_half_of_workchain_255_is_taken l = refl
