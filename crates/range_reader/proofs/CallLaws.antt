-- The public call, put together from what its parts ensure.
use Prim.Native.Nat.{ℕ, ◌-◌, ◌*◌}
use mathlib.Core.Path.{◌≡◌, refl, sym, ap, subst, ◌∙◌}
use mathlib.Core.Bool.{Bool, true, false}
use mathlib.Core.List.{List, [], ◌∷◌}
use native.Mathlib.Omega.{arith}
use native.Mathlib.Nat.{mul-div-le}
use lib.Dec.{eqb}
use lib.ListN.{length, drop}
use lib.Seq.{sets}
use borrow.Author.Tests.{eq-eqb, ne_eqb}
use Rattle.rows.specs.Rows.{pick}
use Rattle.rows.proofs.Laws.{pick_yes, pick_no, pick_same}
use Rattle.ext_types.specs.declared.Seconds.{Seconds}
use Rattle.shard_ident.specs.declared.ShardIdent.{ShardIdent}
use Rattle.std.specs.Prelude.{Result, Ok, Err}
use Rattle.refusals.specs.declared.Refusal.{Refusal}
use Rattle.refusals.specs.Refusals.{number_of}
use Rattle.refusals.proofs.Laws.{refused_is_not_done}
use Rattle.messages_buffer.specs.Fullness.{FillState, range_free, first_no}
use Rattle.anchors_cache.specs.declared.AnchorsCacheTransaction.{AnchorsCacheTransaction}
use Rattle.anchors_cache.specs.Answers.{Done}
use Rattle.cache_rules.specs.Rules.{total, max_messages}
use Rattle.anchors_cache.specs.Tables.{view, with_messages, anchors_of}
use Rattle.anchors_cache.specs.Windows.{popped_times}
use Rattle.anchors_cache.specs.Calls.{answer, pops_call, refusal, with_cache}
use Rattle.anchors_cache.proofs.Asked.{refusal_parts}
use Rattle.range_rules.specs.declared.Context.{Context}
use Rattle.range_rules.specs.Walks.{RangeRead}
use Rattle.range_rules.specs.declared.ExternalsRangeReaderState.{ExternalsRangeReaderState}
use Rattle.range_rules.specs.declared.ProcessedTo.{ProcessedTo}
use Rattle.range_rules.specs.declared.ReadNextExternalsMode.{ReadNextExternalsMode}
use Rattle.range_rules.specs.Rules.{Outcome, silent, anchors_read, context_of, entry_of}
use Rattle.range_reader.specs.declared.RangeRead.{RangeRead as CodeRead}
use Rattle.range_rules.specs.Bounds.{Few}
use Rattle.range_reader.specs.Ready.{Eight, RangeReady, walk_told, range_told, range_tells, whole_window_read, read_or_refused}
use Rattle.range_rules.proofs.Counts.{zeros}
use Rattle.range_reader.specs.Calls.{ReadAnswer, asked_number, asked_state, refused_answer, done_answer, range_read, ReadResult, read_call, check_call}
use Rattle.messages_buffer.proofs.Laws.{first_no_lem, first_yes, first_alone}
use Rattle.range_reader.proofs.Numbers.{passed}

-- a result that is written where `write` is set, and else only told
told : (write : Bool) (d : ReadResult) (out : List ℕ) (q : ReadAnswer) (w o : List ℕ) → record { answer = q; out = w } ≡ d → o ≡ pick write w out → record { answer = q; out = o } ≡ pick write d (record { answer = d.answer; out = out })
told true d out q w o e g = rw g e
told false d out q w o e g = rw (g, sym e)

module _ (tables area : List ℕ) (t : AnchorsCacheTransaction) (p : Done) (pops : ℕ) (z : refusal (length area) tables t ≡ 0) (e : p ≡ pops_call (length area) pops tables t) where
  pops_done : p.state ≡ with_cache t (popped_times pops tables t.cache)
  unfolding pops_call answer
  pops_done = ap (λ (d : Done). d.state) e ∙ rw z

  pops_not_refused : p.number ≡ 0
  unfolding pops_call answer
  pops_not_refused = ap (λ (d : Done). d.number) e ∙ z

module _ (tables area : List ℕ) (t : AnchorsCacheTransaction) (shard : ShardIdent) (routes limits : List ℕ) (range : ExternalsRangeReaderState) (a : FillState) (ae : a ≡ asked_state tables area t shard routes limits range) where
  asked_number_lem : a.number ≡ asked_number tables area t shard routes limits range
  unfolding asked_state
  asked_number_lem = ap (λ (s : FillState). s.number) ae

  asked_free : a.number ≡ 0 → a.free ≡ range_free limits range.by_partitions
  unfolding asked_state
  asked_free z =
      ap (λ (s : FillState). s.free) ae
      ∙ pick_yes _ _ _ (eq-eqb (asked_number tables area t shard routes limits range) 0 (sym asked_number_lem ∙ z))

  module _ (processed : List ProcessedTo) (timeout : Seconds) (mode : ReadNextExternalsMode) (write : Bool) (out : List ℕ) where
    abbrev read : ReadResult
    read = read_call tables area t shard routes limits processed timeout mode range out

    -- the answer that is written, or only told
    abbrev Answers : ReadAnswer → List ℕ → Type 0
    Answers q o = record { answer = q; out = o } ≡ pick write read (check_call tables area t shard routes limits processed timeout mode range out)

    pub call_asked : (e : Refusal) → a.number ≡ number_of e → Answers (refused_answer (number_of e) range t) out
    unfolding read_call
    call_asked e n =
        let f : number_of e ≡ asked_number tables area t shard routes limits range = sym n ∙ asked_number_lem in
        let h = refused_is_not_done e in
        told write read out (refused_answer (number_of e) range t) out out (rw (sym f, first_no_lem (number_of e) _ h, ne_eqb (number_of e) 0 h)) (sym (pick_same write out))

    module _ (z : a.number ≡ 0) (x : Context) (begin : CodeRead) (xe : x ≡ context_of shard limits processed timeout mode range (length out)) (be : range_told begin ≡ entry_of range a.free) where
      at_entry : range_told begin ≡ entry_of range (range_free limits range.by_partitions)
      at_entry = be ∙ ap (entry_of range) (asked_free z)

      pub call_ready : Eight (walk_told begin.walk) → RangeReady tables area t.cache routes x begin out
      call_ready long =
          let p = passed tables area t shard routes limits range (sym asked_number_lem ∙ z) in
          let c = refusal_parts (length area) tables t p.cache_sound in
          let k = max_messages - total (anchors_of tables t.cache) in
          let w : walk_told begin.walk ≡ (entry_of range (range_free limits range.by_partitions)).walk = ap (λ (r : RangeRead). r.walk) at_entry in
          rw xe
          (record {
            fixed = record { shard_sound = p.shard_sound; routes_sound = p.routes_sound; room = refl };
            tall = c.tall;
            window = c.anchors_within;
            placed = omega (arith, c.in_area, mul-div-le (length area) 33);
            few = subst (Few (context_of shard limits processed timeout mode range (length out)) (total (anchors_of tables t.cache))) (sym w) (record { few = c.few; within = record { read = λ i. zeros 8 i k; expired = λ i. zeros 8 i k; buffered = λ i. zeros 8 i k; free = refl } });
            eight = long;
            pops = ap (λ (r : RangeRead). r.pops) at_entry;
            used = ap (λ (r : RangeRead). r.walk.buffers.used) at_entry;
          })

      whole : Outcome RangeRead
      whole = range_read tables area t shard routes limits processed timeout mode range (length out)

      module _ (q : Result CodeRead Refusal) (o : List ℕ) (h : range_tells q (read_or_refused write out begin.walk.buffers.used (whole_window_read x routes tables area t.cache begin)).value)
          (g : o ≡ (read_or_refused write out begin.walk.buffers.used (whole_window_read x routes tables area t.cache begin)).entries) where
        same : read_or_refused write out begin.walk.buffers.used (whole_window_read x routes tables area t.cache begin) ≡ read_or_refused write out 0 whole
        unfolding whole range_read view
        same =
            ap (λ (r : RangeRead). read_or_refused write out r.walk.buffers.used (anchors_read x routes (with_messages (drop (33 * t.cache.base) area) (anchors_of tables t.cache)) (silent r))) at_entry
            ∙ rw xe

        says : range_tells q whole.value
        unfolding read_or_refused
        says = subst (λ (s : Outcome RangeRead). range_tells q s.value) same h

        bytes : o ≡ pick (eqb whole.value.walk.number 0) (pick write (sets out 0 whole.entries) out) out
        unfolding read_or_refused
        bytes = g ∙ ap (λ (s : Outcome RangeRead). s.entries) same

        last : (n : ℕ) → n ≡ whole.value.walk.number → first_no (asked_number tables area t shard routes limits range ∷ whole.value.walk.number ∷ []) ≡ n
        last n e = first_yes _ _ (sym asked_number_lem ∙ z) ∙ (first_alone whole.value.walk.number ∙ sym e)

      pub call_refused : (o : List ℕ) (e : Refusal) → number_of e ≡ (read_or_refused write out begin.walk.buffers.used (whole_window_read x routes tables area t.cache begin)).value.walk.number
          → o ≡ (read_or_refused write out begin.walk.buffers.used (whole_window_read x routes tables area t.cache begin)).entries → Answers (refused_answer (number_of e) range t) o
      unfolding read_call whole
      call_refused o e h g =
          let n = says (Err e) o h g in
          let d = refused_is_not_done e in
          let w : (whole.value.walk.number ≡ 0 → ⊥) = λ y. d (n ∙ y) in
          told write read out (refused_answer (number_of e) range t) out o (rw (last (Err e) o h g (number_of e) n, ne_eqb (number_of e) 0 d)) (bytes (Err e) o h g ∙ (pick_no _ _ _ (ne_eqb whole.value.walk.number 0 w) ∙ sym (pick_same write out)))

      pub call_done : (o : List ℕ) (r : CodeRead) (p : Done) (q : ReadAnswer)
          → range_told r ≡ (read_or_refused write out begin.walk.buffers.used (whole_window_read x routes tables area t.cache begin)).value
          → o ≡ (read_or_refused write out begin.walk.buffers.used (whole_window_read x routes tables area t.cache begin)).entries
          → p ≡ pops_call (length area) r.pops tables t → q ≡ done_answer range (range_told r) p.state → Answers q o
      unfolding read_call whole
      call_done o r p q h g pe e =
          let v = says (Ok r) o h g in
          let n : whole.value.walk.number ≡ 0 = ap (λ (s : RangeRead). s.walk.number) (sym v) in
          let c = (passed tables area t shard routes limits range (sym asked_number_lem ∙ z)).cache_sound in
          let d : q ≡ done_answer range whole.value p.state = e ∙ ap (λ (s : RangeRead). done_answer range s p.state) v in
          let k : r.pops ≡ whole.value.pops = ap (λ (s : RangeRead). s.pops) v in
          told write read out q (sets out 0 whole.entries) o (rw (last (Ok r) o h g 0 (sym n), d, pops_done tables area t p r.pops c pe, k)) (bytes (Ok r) o h g ∙ pick_yes _ _ _ (eq-eqb whole.value.walk.number 0 n))

      -- the pops are not refused where the read is not
      pub pops_pass : (p : Done) (pops : ℕ) → p ≡ pops_call (length area) pops tables t → p.number ≡ 0
      pops_pass p pops = pops_not_refused tables area t p pops (passed tables area t shard routes limits range (sym asked_number_lem ∙ z)).cache_sound
