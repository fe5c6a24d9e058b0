-- The counts of a call: every message of ours that it passed is counted once, as read or as expired, in its own
-- partition.
use Prim.Native.Nat.{ℕ, ◌+◌}
use mathlib.Core.Path.{◌≡◌, ap, ◌∙◌}
use mathlib.Core.List.{List}
use lib.ListN.{length, get_or, take, drop, replicate}
use Rattle.ext_types.specs.declared.Seconds.{Seconds}
use Rattle.shard_ident.specs.declared.ShardIdent.{ShardIdent}
use Rattle.anchors_cache.specs.declared.AnchorsCacheTransaction.{AnchorsCacheTransaction}
use Rattle.anchors_cache.specs.Tables.{view}
use Rattle.anchors_cache.specs.Windows.{popped_times}
use Rattle.anchors_cache.specs.Calls.{with_cache}
use Rattle.range_rules.specs.Walks.{RangeRead}
use Rattle.range_rules.specs.declared.ProcessedTo.{ProcessedTo}
use Rattle.range_rules.specs.declared.ExternalsRangeReaderState.{ExternalsRangeReaderState}
use Rattle.range_rules.specs.declared.ReadNextExternalsMode.{ReadNextExternalsMode}
use Rattle.range_rules.specs.Rules.{Outcome, context_of}
use Rattle.range_reader.specs.Calls.{range_read, ReadResult, read_call}
use Rattle.range_reader.proofs.Numbers.{passed}
use Rattle.range_reader.proofs.Bounds.{a_read_with_number_0_does_the_six_steps}
use Rattle.range_rules.proofs.Conservation.{ours_in, passed_in, unread_all, front_unread, all_buffered, front_buffered, expired_ours, all_position, front_position, all_to, front_to, a_read_passes_the_messages_in_order_and_counts_each}

module _ (tables area : List ℕ) (t : AnchorsCacheTransaction) (shard : ShardIdent) (routes limits : List ℕ) (processed : List ProcessedTo) (timeout : Seconds) (mode : ReadNextExternalsMode) (range : ExternalsRangeReaderState) (out : List ℕ) where
  -- n anchors were popped, and k messages of the next one were passed
  pub record CallConserved : Type 0 where
    pub n : ℕ
    pub k : ℕ
    pub state : (read_call tables area t shard routes limits processed timeout mode range out).answer.state ≡ with_cache t (popped_times n tables t.cache)
    pub position : (read_call tables area t shard routes limits processed timeout mode range out).answer.range.current_position
        ≡ front_position (context_of shard limits processed timeout mode range (length out)) k (drop n (view tables area t.cache).anchors)
        (all_position (context_of shard limits processed timeout mode range (length out)) (take n (view tables area t.cache).anchors) range.current_position)
    pub to : (read_call tables area t shard routes limits processed timeout mode range out).answer.range.to
        ≡ front_to (context_of shard limits processed timeout mode range (length out)) k (drop n (view tables area t.cache).anchors)
        (all_to (context_of shard limits processed timeout mode range (length out)) (take n (view tables area t.cache).anchors) range.to)
    pub expired : (p : ℕ) → get_or (read_call tables area t shard routes limits processed timeout mode range out).answer.counts.expired p 0
        ≡ expired_ours (context_of shard limits processed timeout mode range (length out)) routes p (take n (view tables area t.cache).anchors)
    pub buffered : (read_call tables area t shard routes limits processed timeout mode range out).answer.counts.buffered
        ≡ front_buffered (context_of shard limits processed timeout mode range (length out)) routes k (drop n (view tables area t.cache).anchors)
        (all_buffered (context_of shard limits processed timeout mode range (length out)) routes (take n (view tables area t.cache).anchors) (replicate 8 0))
    pub counts : (p : ℕ) → passed_in (read_call tables area t shard routes limits processed timeout mode range out).answer.counts p
        ≡ ours_in shard routes p (unread_all (context_of shard limits processed timeout mode range (length out)) (take n (view tables area t.cache).anchors))
        + ours_in shard routes p (take k (front_unread (context_of shard limits processed timeout mode range (length out)) (drop n (view tables area t.cache).anchors)))

  abbrev six_steps_lem : Outcome RangeRead
  six_steps_lem = range_read tables area t shard routes limits processed timeout mode range (length out)

  pub ours_passed_by_a_call_is_read_or_expired : (read_call tables area t shard routes limits processed timeout mode range out).answer.number ≡ 0 → CallConserved
  unfolding range_read
  ours_passed_by_a_call_is_read_or_expired e =
      let x = context_of shard limits processed timeout mode range (length out) in
      let c = a_read_with_number_0_does_the_six_steps tables area t shard routes limits processed timeout mode range out e in
      let d = c.done in
      let h = a_read_passes_the_messages_in_order_and_counts_each x routes (passed tables area t shard routes limits range c.asked).routes_sound range (view tables area t.cache).anchors c.walked in
      record {
        n = h.n;
        k = h.k;
        state = ap (λ (q : ReadResult). q.answer.state) d ∙ ap (λ (i : ℕ). with_cache t (popped_times i tables t.cache)) h.pops;
        position = ap (λ (q : ReadResult). q.answer.range.current_position) d ∙ h.position;
        to = ap (λ (q : ReadResult). q.answer.range.to) d ∙ h.to;
        expired = λ p. ap (λ (q : ReadResult). get_or q.answer.counts.expired p 0) d ∙ h.expired p;
        buffered = ap (λ (q : ReadResult). q.answer.counts.buffered) d ∙ h.buffered;
        counts = λ p. ap (λ (q : ReadResult). passed_in q.answer.counts p) d ∙ h.passed p;
      }
