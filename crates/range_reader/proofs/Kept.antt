-- What is true of a read after any number of anchors: its counts, its pops, its entries.
use Prim.Native.Nat.{ℕ, suc, ◌+◌, ◌*◌}
use mathlib.Core.Path.{◌≡◌, refl, ◌∙◌}
use mathlib.Core.Bool.{Bool, true, false}
use mathlib.Core.List.{List, [], ◌∷◌}
use native.Mathlib.Omega.{arith}
use lib.Dec.{eqb}
use lib.ListN.{length, drop, length-append}
use borrow.Author.Tests.{eqb-true}
use Rattle.rows.specs.Rows.{pick}
use Rattle.rows.proofs.Laws.{rows_length, pick_both}
use Rattle.ext_types.specs.declared.Seconds.{Seconds}
use Rattle.shard_ident.specs.declared.ShardIdent.{ShardIdent}
use Rattle.messages_buffer.specs.Fullness.{range_free, first_no}
use Rattle.anchors_cache.specs.declared.AnchorsCacheTransaction.{AnchorsCacheTransaction}
use Rattle.cache_rules.specs.Rules.{Anchor, Row, total, max_anchors, max_messages}
use Rattle.anchors_cache.specs.Tables.{view, with_messages, anchors_of}
use Rattle.anchors_cache.proofs.Asked.{refusal_parts}
use Rattle.anchors_cache.proofs.Laws.{anchors_length, length_messages}
use Rattle.range_rules.specs.declared.Context.{Context}
use Rattle.range_rules.specs.Walks.{RangeRead}
use Rattle.range_rules.specs.declared.ExternalsRangeReaderState.{ExternalsRangeReaderState}
use Rattle.range_rules.specs.declared.ProcessedTo.{ProcessedTo}
use Rattle.range_rules.specs.declared.ReadNextExternalsMode.{ReadNextExternalsMode}
use Rattle.range_rules.specs.Rules.{Outcome, silent, next_read, anchors_read, context_of, entry_of}
use Rattle.range_rules.specs.Bounds.{AtMost}
use Rattle.range_reader.specs.Calls.{asked_number, refused_answer, done_result, range_read, read_call}
use Rattle.range_rules.proofs.Counts.{within_up, zeros}
use Rattle.range_reader.proofs.AnchorLaws.{RangeKept, anchor_kept}
use Rattle.messages_buffer.proofs.Laws.{first_zero}
use Rattle.range_reader.proofs.Numbers.{passed}

-- how many messages some anchors have
unfoldable pub messages_in : List Anchor → ℕ
messages_in [] = 0
messages_in (a ∷ l) = length a.messages + messages_in l

pub anchors_kept : (x : Context) (routes : List ℕ) (l : List Anchor) (k used pops : ℕ) (s : Outcome RangeRead) → RangeKept x k used pops s → RangeKept x (k + messages_in l) used (pops + length l) (anchors_read x routes l s)
unfolding anchors_read messages_in
anchors_kept x routes [] k used pops s h = record { within = within_up x k s.value.walk h.within (k + 0) (omega arith); used_part = h.used_part; few_pops = omega (arith, h.few_pops) }
anchors_kept x routes (a ∷ l) k used pops s h =
    let t = next_read x routes a s in
    let P = RangeKept x (k + (length a.messages + messages_in l)) used (pops + suc (length l)) in
    let g = anchor_kept x routes a.id (record { 0 = a.time }) a.messages k s.value h.within in
    let n : RangeKept x (k + length a.messages) used (pops + 1) t = record { within = g.within; used_part = g.used_part ∙ simp length-append (omega (arith, h.used_part)); few_pops = omega (arith, g.few_pops, h.few_pops) } in
    let e : k + length a.messages + messages_in l ≡ k + (length a.messages + messages_in l) = omega arith in
    let f : pops + 1 + length l ≡ pops + suc (length l) = omega arith in
    pick_both P t.value.ended t (anchors_read x routes l t)
    (record { within = within_up x (k + length a.messages) t.value.walk g.within (k + (length a.messages + messages_in l)) (omega arith); used_part = n.used_part; few_pops = omega (arith, n.few_pops) })
    (rw (e, f) at (anchors_kept x routes l (k + length a.messages) used (pops + 1) t n))

total_messages : (bytes : List ℕ) (l : List Row) → messages_in (with_messages bytes l) ≡ total l
unfolding with_messages total messages_in
total_messages bytes [] = refl
total_messages bytes (a ∷ l) = rw (rows_length 33 a.count bytes, total_messages (drop (33 * a.count) bytes) l)

module _ (tables area : List ℕ) (t : AnchorsCacheTransaction) (shard : ShardIdent) (routes limits : List ℕ) (processed : List ProcessedTo) (timeout : Seconds) (mode : ReadNextExternalsMode) (range : ExternalsRangeReaderState) where
  -- at most 1,024 in each count, at most 32 pops, and the used bytes are those of the entries
  pub steps_kept : (room : ℕ) → asked_number tables area t shard routes limits range ≡ 0
      → RangeKept (context_of shard limits processed timeout mode range room) max_messages 0 max_anchors (range_read tables area t shard routes limits processed timeout mode range room)
  unfolding range_read view
  steps_kept room z =
      let x = context_of shard limits processed timeout mode range room in
      let c = refusal_parts (length area) tables t (passed tables area t shard routes limits range z).cache_sound in
      let rows = anchors_of tables t.cache in
      let bytes = drop (33 * t.cache.base) area in
      let l = with_messages bytes rows in
      let r = entry_of range (range_free limits range.by_partitions) in
      let n : messages_in l ≡ total rows = total_messages bytes rows in
      let m : length l ≡ t.cache.len = length_messages bytes rows ∙ anchors_length t.cache.first t.cache.len tables in
      let f = c.few in
      let i = c.anchors_within in
      let g = anchors_kept x routes l 0 0 0 (silent r) (record { within = record { read = λ i. zeros 8 i 0; expired = λ i. zeros 8 i 0; buffered = λ i. zeros 8 i 0; free = refl }; used_part = refl; few_pops = omega arith }) in
      record {
        within = within_up x (0 + messages_in l) (anchors_read x routes l (silent r)).value.walk g.within max_messages (omega arith);
        used_part = g.used_part;
        few_pops = omega (arith, g.few_pops);
      }

  pub every_count_is_at_most_the_cached_messages : (out : List ℕ) → AtMost max_messages (read_call tables area t shard routes limits processed timeout mode range out).answer.counts
  unfolding read_call
  every_count_is_at_most_the_cached_messages out = go (eqb number 0) refl
    where
      s : Outcome RangeRead
      s = range_read tables area t shard routes limits processed timeout mode range (length out)

      number : ℕ
      number = first_no (asked_number tables area t shard routes limits range ∷ s.value.walk.number ∷ [])

      go : (b : Bool) → eqb number 0 ≡ b → AtMost max_messages (pick b (done_result tables t range s out) (record { answer = refused_answer number range t; out = out })).answer.counts
      go true e = let g = (steps_kept (length out) (first_zero _ _ (eqb-true number 0 e)).0).within in record { read = g.read; expired = g.expired; buffered = g.buffered }
      go false e = record { read = λ i. zeros 8 i max_messages; expired = λ i. zeros 8 i max_messages; buffered = λ i. zeros 8 i max_messages }
