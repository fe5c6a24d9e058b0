-- Question 5 of a range is kept by its read.
use Prim.Native.Nat.{ℕ}
use mathlib.Core.Path.{◌≡◌, ap, ◌∙◌}
use mathlib.Core.List.{List}
use lib.ListN.{length}
use Rattle.ext_types.specs.declared.Seconds.{Seconds}
use Rattle.shard_ident.specs.declared.ShardIdent.{ShardIdent}
use Rattle.messages_buffer.specs.Fullness.{partitions_number, fill_number}
use Rattle.messages_buffer.proofs.Laws.{Passed, all_passed, first_zero, first_yes}
use Rattle.anchors_cache.specs.declared.AnchorsCacheTransaction.{AnchorsCacheTransaction}
use Rattle.anchors_cache.specs.Tables.{view}
use Rattle.range_rules.specs.declared.ExternalsRangeReaderState.{ExternalsRangeReaderState}
use Rattle.range_rules.specs.declared.ProcessedTo.{ProcessedTo}
use Rattle.range_rules.specs.declared.ReadNextExternalsMode.{ReadNextExternalsMode}
use Rattle.range_rules.specs.Rules.{context_of}
use Rattle.range_rules.proofs.Kept.{the_six_steps_keep_every_count_within_the_cap}
use Rattle.range_reader.specs.Calls.{ReadResult, asked_number, range_read, read_call}
use Rattle.range_reader.proofs.Bounds.{a_read_with_number_0_does_the_six_steps}

-- eight limits and eight records, as the types say
module _ (tables area : List ℕ) (t : AnchorsCacheTransaction) (shard : ShardIdent) (routes limits : List ℕ) (processed : List ProcessedTo) (timeout : Seconds) (mode : ReadNextExternalsMode) (range : ExternalsRangeReaderState)
    (eight : length limits ≡ 8) (records : length range.by_partitions ≡ 8) where
  -- questions 4, 5 and 10
  asked : asked_number tables area t shard routes limits range ≡ 0 → Passed limits range.by_partitions
  unfolding asked_number fill_number
  asked z =
      let p4 = first_zero _ _ (first_zero _ _ (first_zero _ _ (first_zero _ _ z).1).1).1 in
      let p6 = first_zero _ _ (first_zero _ _ p4.1).1 in
      all_passed limits range.by_partitions (first_yes _ _ p4.0 ∙ (first_yes _ _ p6.0 ∙ (first_zero _ _ p6.1).1))

  pub the_steps_of_a_read_keep_the_counts : asked_number tables area t shard routes limits range ≡ 0 → (room : ℕ)
      → (partitions_number (range_read tables area t shard routes limits processed timeout mode range room).value.walk.buffers.by_partitions ≡ 0)
      × (length (range_read tables area t shard routes limits processed timeout mode range room).value.walk.buffers.by_partitions ≡ 8)
  unfolding range_read
  the_steps_of_a_read_keep_the_counts z room =
      let p = asked z in
      the_six_steps_keep_every_count_within_the_cap (context_of shard limits processed timeout mode range room) eight p.limits_fit routes range (view tables area t.cache).anchors records p.counts_fit p.limited

  pub a_range_left_by_a_read_answering_0_passes_question_5 : (out : List ℕ) → (read_call tables area t shard routes limits processed timeout mode range out).answer.number ≡ 0
      → partitions_number (read_call tables area t shard routes limits processed timeout mode range out).answer.range.by_partitions ≡ 0
  a_range_left_by_a_read_answering_0_passes_question_5 out z =
      let s = a_read_with_number_0_does_the_six_steps tables area t shard routes limits processed timeout mode range out z in
      ap (λ (d : ReadResult). partitions_number d.answer.range.by_partitions) s.done ∙ (the_steps_of_a_read_keep_the_counts s.asked (length out)).0
