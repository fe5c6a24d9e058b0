-- Document 02, ticket 2, as those who call the reader see it: for a part of the masterchain no reader is made and
-- nothing is read. Question 1 alone comes before.
use Prim.Native.Nat.{ℕ, ◌^◌}
use mathlib.Core.Path.{◌≡◌, refl, ap, ◌∙◌}
use mathlib.Core.Bool.{Bool, true, false}
use mathlib.Core.List.{List, [], ◌∷◌}
use lib.Dec.{leb}
use lib.IntN.{negsuc}
use lib.ListN.{length}
use native.Mathlib.Omega.{arith}
use borrow.Author.Tests.{ne_eqb}
use Rattle.rows.specs.Rows.{pick}
use Rattle.rows.proofs.Laws.{pick_no}
use Rattle.ext_types.specs.declared.Seconds.{Seconds}
use Rattle.shard_ident.specs.declared.ShardIdent.{ShardIdent}
use Rattle.shard_ident.specs.Shard.{shard_number}
use Rattle.shard_ident.proofs.Masterchain.{a_part_of_the_masterchain_is_refused_by_2}
use Rattle.cache_rules.specs.Rules.{ask}
use Rattle.messages_buffer.specs.Fullness.{first_no}
use Rattle.messages_buffer.proofs.Laws.{first_no_lem}
use Rattle.anchors_cache.specs.declared.AnchorsCacheTransaction.{AnchorsCacheTransaction}
use Rattle.range_rules.specs.declared.ExternalsRangeReaderState.{ExternalsRangeReaderState}
use Rattle.range_rules.specs.declared.ReadNextExternalsMode.{ReadNextExternalsMode}
use Rattle.range_rules.specs.declared.ProcessedTo.{ProcessedTo}
use Rattle.range_reader.specs.Calls.{asked_number, refused_answer, range_read, read_call}
use Rattle.reader_rules.specs.declared.ExternalsReader.{ExternalsReader}
use Rattle.reader_rules.specs.declared.GetNextMessageGroupMode.{GetNextMessageGroupMode}
use Rattle.reader_rules.specs.State.{reader_number}
use Rattle.externals_reader.specs.Calls.{asked_of_read, new_call, unchanged, read_all_call}

-- 1 for a short message area, else 2
abbrev one_or_two : List ℕ → ℕ
one_or_two area = pick (leb 33792 (length area)) 2 1

one_or_two_lem : (b : Bool) (l : List ℕ) → first_no (ask 1 b 0 ∷ 2 ∷ l) ≡ pick b 2 1
unfolding first_no
one_or_two_lem true l = refl
one_or_two_lem false l = refl

not_0 : (b : Bool) (n : ℕ) → n ≡ pick b 2 1 → n ≡ 0 → ⊥
not_0 true n e z = omega (arith, e, z)
not_0 false n e z = omega (arith, e, z)

module _ (s : ShardIdent) (masterchain : s.workchain ≡ negsuc 0) (part : s.prefix ≡ 2 ^ 63 → ⊥) where
  two : shard_number s ≡ 2
  two = (a_part_of_the_masterchain_is_refused_by_2 s masterchain part).0

  module _ (r : ExternalsReader) (for : r.for_shard_id ≡ s) where
    pub no_reader_is_made_for_a_part_of_the_masterchain : new_call r ≡ record { number = 2; reader = r }
    unfolding new_call reader_number first_no
    no_reader_is_made_for_a_part_of_the_masterchain = rw (for, two)

    pub no_read_of_all_is_made_for_a_part_of_the_masterchain : (tables area : List ℕ) (t : AnchorsCacheTransaction) (routes : List ℕ) (mode : GetNextMessageGroupMode) (out : List ℕ)
        → read_all_call tables area t routes r mode out ≡ unchanged (one_or_two area) r t out
    unfolding read_all_call asked_of_read
    no_read_of_all_is_made_for_a_part_of_the_masterchain tables area t routes mode out =
        let asked : asked_of_read tables area t routes r ≡ one_or_two area = rw (for, two) (one_or_two_lem (leb 33792 (length area)) _) in
        pick_no _ _ _ (ne_eqb _ 0 (not_0 (leb 33792 (length area)) _ asked)) ∙ ap (λ (n : ℕ). unchanged n r t out) asked

  pub no_range_is_read_for_a_part_of_the_masterchain : (tables area : List ℕ) (t : AnchorsCacheTransaction) (routes limits : List ℕ) (processed : List ProcessedTo) (timeout : Seconds) (mode : ReadNextExternalsMode) (range : ExternalsRangeReaderState) (out : List ℕ)
      → read_call tables area t s routes limits processed timeout mode range out ≡ record { answer = refused_answer (one_or_two area) range t; out = out }
  unfolding read_call asked_number
  no_range_is_read_for_a_part_of_the_masterchain tables area t routes limits processed timeout mode range out =
      let asked : asked_number tables area t s routes limits range ≡ one_or_two area = rw two (one_or_two_lem (leb 33792 (length area)) _) in
      let walked = (range_read tables area t s routes limits processed timeout mode range (length out)).value.walk.number in
      let number = first_no_lem _ (walked ∷ []) (not_0 (leb 33792 (length area)) _ asked) ∙ asked in
      pick_no _ _ _ (ne_eqb _ 0 (not_0 (leb 33792 (length area)) _ number)) ∙ ap (λ (n : ℕ). record { answer = refused_answer n range t; out = out }) number
