-- What one range's read does and does not do, each law named as a sentence.
use Rattle.std.specs.Prelude.{None}
use Prim.Native.Nat.{ℕ}
use mathlib.Core.Path.{◌≡◌, refl, sym, ap, ◌∙◌}
use mathlib.Core.Bool.{Bool, true, false}
use mathlib.Core.List.{List, [], ◌∷◌}
use lib.Dec.{eqb}
use lib.ListN.{length}
use lib.Seq.{sets}
use Rattle.rows.specs.Rows.{pick}
use Rattle.ext_types.specs.declared.Seconds.{Seconds}
use Rattle.shard_ident.specs.declared.ShardIdent.{ShardIdent}
use Rattle.messages_buffer.specs.Fullness.{range_free, first_no}
use Rattle.anchors_cache.specs.declared.AnchorsCacheTransaction.{AnchorsCacheTransaction}
use Rattle.anchors_cache.specs.declared.AnchorsCache.{AnchorsCache}
use Rattle.cache_rules.specs.Rules.{Cache}
use Rattle.anchors_cache.specs.Windows.{popped_times}
use Rattle.anchors_cache.specs.Calls.{with_cache}
use Rattle.range_rules.specs.Walks.{RangeRead}
use Rattle.range_rules.specs.declared.ExternalsRangeReaderState.{ExternalsRangeReaderState}
use Rattle.range_rules.specs.declared.ProcessedTo.{ProcessedTo}
use Rattle.range_rules.specs.declared.ReadNextExternalsMode.{ReadNextExternalsMode}
use Rattle.range_rules.specs.Rules.{Outcome, silent, anchors_read, context_of, entry_of}
use Rattle.range_reader.specs.Calls.{ReadResult, asked_number, refused_answer, done_answer, done_result, range_read, read_call}
use Rattle.range_reader.proofs.Bounds.{a_read_with_number_0_does_the_six_steps, a_refused_read_gives_only_its_number}
use Rattle.range_reader.proofs.Kept.{steps_kept}
use Rattle.cache_laws.proofs.Free.{Agree, free_bytes, times_same}

-- ---- the cache
module _ (tables area : List ℕ) (t : AnchorsCacheTransaction) (shard : ShardIdent) (routes limits : List ℕ) (processed : List ProcessedTo) (timeout : Seconds) (mode : ReadNextExternalsMode) (range : ExternalsRangeReaderState) (out : List ℕ) where
  pub the_read_changes_the_cache_only_by_pops : (n : ℕ) × ((read_call tables area t shard routes limits processed timeout mode range out).answer.state ≡ with_cache t (popped_times n tables t.cache))
  unfolding read_call popped_times
  the_read_changes_the_cache_only_by_pops = go (eqb number 0)
    where
      s : Outcome RangeRead
      s = range_read tables area t shard routes limits processed timeout mode range (length out)

      number : ℕ
      number = first_no (asked_number tables area t shard routes limits range ∷ s.value.walk.number ∷ [])

      go : (b : Bool) → (n : ℕ) × ((pick b (done_result tables t range s out) (record { answer = refused_answer number range t; out = out })).answer.state ≡ with_cache t (popped_times n tables t.cache))
      go true = (s.value.pops, refl)
      go false = (0, refl)

  -- Document 02, ticket 7: also where a message came last, or none was read, or the Rust looked at no buffer
  pub a_read_reports_the_free_places_as_they_stand_at_its_end : (read_call tables area t shard routes limits processed timeout mode range out).answer.number ≡ 0
      → (read_call tables area t shard routes limits processed timeout mode range out).answer.free ≡ range_free limits (read_call tables area t shard routes limits processed timeout mode range out).answer.range.by_partitions
  a_read_reports_the_free_places_as_they_stand_at_its_end e =
      let h = a_read_with_number_0_does_the_six_steps tables area t shard routes limits processed timeout mode range out e in
      let k = (steps_kept tables area t shard routes limits processed timeout mode range (length out) h.asked).within.free in
      ap (λ (q : ReadResult). q.answer.free) h.done ∙ (k ∙ sym (ap (λ (q : ReadResult). range_free limits q.answer.range.by_partitions) h.done))

  pub a_refused_read_tells_no_time_no_free_places_no_pops_and_no_bytes : ((read_call tables area t shard routes limits processed timeout mode range out).answer.number ≡ 0 → ⊥)
      → let a = (read_call tables area t shard routes limits processed timeout mode range out).answer in (a.last_chain_time ≡ None) × (a.free ≡ 0) × (a.pops ≡ 0) × (a.used ≡ 0)
  a_refused_read_tells_no_time_no_free_places_no_pops_and_no_bytes p =
      let e = a_refused_read_gives_only_its_number tables area t shard routes limits processed timeout mode range out p in
      (ap (λ (q : ReadResult). q.answer.last_chain_time) e, ap (λ (q : ReadResult). q.answer.free) e, ap (λ (q : ReadResult). q.answer.pops) e, ap (λ (q : ReadResult). q.answer.used) e)

-- ---- free bytes
module _ (tables area tables' area' : List ℕ) (t : AnchorsCacheTransaction) (g : Agree tables area tables' area' t)
    (shard : ShardIdent) (routes limits : List ℕ) (processed : List ProcessedTo) (timeout : Seconds) (mode : ReadNextExternalsMode) (range : ExternalsRangeReaderState) where
  pub asked_same : asked_number tables area t shard routes limits range ≡ asked_number tables' area' t shard routes limits range
  unfolding asked_number
  asked_same = rw (g.broad, (free_bytes tables area tables' area' t g (length area')).check)

  pub steps_same : (room : ℕ) → range_read tables area t shard routes limits processed timeout mode range room ≡ range_read tables' area' t shard routes limits processed timeout mode range room
  unfolding range_read
  steps_same room =
      ap (λ (v : Cache). anchors_read (context_of shard limits processed timeout mode range room) routes v.anchors (silent (entry_of range (range_free limits range.by_partitions)))) g.now

  -- two tables and two areas that agree on what is cached or restorable by a rollback give the same number, answer,
  -- range, transaction and output bytes
  pub no_read_depends_on_free_bytes : (out : List ℕ) → read_call tables area t shard routes limits processed timeout mode range out ≡ read_call tables' area' t shard routes limits processed timeout mode range out
  unfolding read_call
  no_read_depends_on_free_bytes out =
      let s = range_read tables' area' t shard routes limits processed timeout mode range (length out) in
      let n = first_no (asked_number tables' area' t shard routes limits range ∷ s.value.walk.number ∷ []) in
      rw (asked_same, steps_same (length out)) (both s n (eqb n 0))
    where
      both : (s : Outcome RangeRead) (n : ℕ) (b : Bool)
          → pick b (done_result tables t range s out) (record { answer = refused_answer n range t; out = out }) ≡ pick b (done_result tables' t range s out) (record { answer = refused_answer n range t; out = out })
      both s n true =
          ap (λ (c : AnchorsCache). record { answer = done_answer range s.value (with_cache t c); out = sets out 0 s.entries }) (times_same tables area tables' area' g.tall s.value.pops t.cache g.now)
      both s n false = refl
