-- What a caller may count on after a read: its bounds, its bytes, and that of the output only the length decides the
-- answer.
use Prim.Native.Nat.{ℕ, ◌≤◌}
use mathlib.Core.Path.{◌≡◌, refl, sym, ap, ◌∙◌}
use mathlib.Core.Bool.{Bool, true, false}
use mathlib.Core.List.{List, [], ◌∷◌}
use native.Mathlib.Omega.{arith}
use lib.Dec.{eqb}
use lib.ListN.{length}
use lib.Seq.{sets}
use borrow.Author.Tests.{eq-eqb, ne_eqb, eqb-true}
use Rattle.rows.specs.Rows.{pick}
use Rattle.rows.proofs.Laws.{pick_yes, pick_no}
use Rattle.ext_types.specs.declared.Seconds.{Seconds}
use Rattle.shard_ident.specs.declared.ShardIdent.{ShardIdent}
use Rattle.messages_buffer.specs.Fullness.{first_no}
use Rattle.anchors_cache.specs.declared.AnchorsCacheTransaction.{AnchorsCacheTransaction}
use Rattle.range_rules.specs.Walks.{RangeRead}
use Rattle.range_rules.specs.declared.ExternalsRangeReaderState.{ExternalsRangeReaderState}
use Rattle.range_rules.specs.declared.ProcessedTo.{ProcessedTo}
use Rattle.range_rules.specs.declared.ReadNextExternalsMode.{ReadNextExternalsMode}
use Rattle.range_rules.specs.Rules.{Outcome}
use Rattle.range_reader.specs.Calls.{ReadAnswer, asked_number, refused_answer, done_result, range_read, ReadResult, read_call}
use Rattle.messages_buffer.proofs.Laws.{first_zero, first_alone}
use Rattle.range_reader.proofs.Numbers.{passed}
use Rattle.range_rules.specs.Bounds.{AtMost}
use Rattle.range_reader.proofs.Kept.{steps_kept, every_count_is_at_most_the_cached_messages}
use Rattle.range_reader.proofs.Entries.{steps_fit}
use Rattle.cache_rules.specs.Rules.{max_anchors, max_messages}

pub record Bounded (room : ℕ) (q : ReadAnswer) : Type 0 where
  pub counts : AtMost max_messages q.counts
  pub pops : q.pops ≤ max_anchors
  pub used : q.used ≤ room

module _ (tables area : List ℕ) (t : AnchorsCacheTransaction) (shard : ShardIdent) (routes limits : List ℕ) (processed : List ProcessedTo) (timeout : Seconds) (mode : ReadNextExternalsMode) (range : ExternalsRangeReaderState) where
  abbrev read : List ℕ → ReadResult
  read out = read_call tables area t shard routes limits processed timeout mode range out

  abbrev six_steps_lem : List ℕ → Outcome RangeRead
  six_steps_lem out = range_read tables area t shard routes limits processed timeout mode range (length out)

  abbrev number : List ℕ → ℕ
  number out = first_no (asked_number tables area t shard routes limits range ∷ (six_steps_lem out).value.walk.number ∷ [])

  pub record SixSteps (out : List ℕ) : Type 0 where
    pub asked : asked_number tables area t shard routes limits range ≡ 0
    pub walked : (range_read tables area t shard routes limits processed timeout mode range (length out)).value.walk.number ≡ 0
    pub done : read_call tables area t shard routes limits processed timeout mode range out ≡ done_result tables t range (range_read tables area t shard routes limits processed timeout mode range (length out)) out

  numbered : (out : List ℕ) → (read out).answer.number ≡ number out
  unfolding read_call
  numbered out = go (number out) (eqb (number out) 0) refl
    where
      go : (n : ℕ) (b : Bool) → eqb n 0 ≡ b → (pick b (done_result tables t range (six_steps_lem out) out) (record { answer = refused_answer n range t; out = out })).answer.number ≡ n
      go n true e = sym (eqb-true n 0 e)
      go n false e = refl

  pub a_read_with_number_0_does_the_six_steps : (out : List ℕ) → (read_call tables area t shard routes limits processed timeout mode range out).answer.number ≡ 0 → SixSteps out
  unfolding read_call
  a_read_with_number_0_does_the_six_steps out e =
      let z : number out ≡ 0 = sym (numbered out) ∙ e in
      let f = first_zero _ _ z in
      record { asked = f.0; walked = sym (first_alone (six_steps_lem out).value.walk.number) ∙ f.1; done = pick_yes _ _ _ (eq-eqb (number out) 0 z) }

  pub a_refused_read_gives_only_its_number : (out : List ℕ) → ((read_call tables area t shard routes limits processed timeout mode range out).answer.number ≡ 0 → ⊥)
      → read_call tables area t shard routes limits processed timeout mode range out ≡ record { answer = refused_answer (read_call tables area t shard routes limits processed timeout mode range out).answer.number range t; out = out }
  unfolding read_call
  a_refused_read_gives_only_its_number out p =
      let e : read out ≡ record { answer = refused_answer (number out) range t; out = out } = pick_no _ _ _ (ne_eqb (number out) 0 (λ z. p (numbered out ∙ z))) in
      e ∙ ap (λ (n : ℕ). record { answer = refused_answer n range t; out = out }) (sym (numbered out))

  pub the_answer_depends_on_the_output_only_by_its_length : (out out' : List ℕ) → length out ≡ length out'
      → (read_call tables area t shard routes limits processed timeout mode range out).answer ≡ (read_call tables area t shard routes limits processed timeout mode range out').answer
  unfolding read_call
  the_answer_depends_on_the_output_only_by_its_length out out' e = rw e (same (number out') (six_steps_lem out') (eqb (number out') 0))
    where
      same : (n : ℕ) (s : Outcome RangeRead) (b : Bool) → (pick b (done_result tables t range s out) (record { answer = refused_answer n range t; out = out })).answer ≡ (pick b (done_result tables t range s out') (record { answer = refused_answer n range t; out = out' })).answer
      same n s true = refl
      same n s false = refl

  -- ---- bounds, whether the read is refused or not
  pub every_answer_is_bounded : (out : List ℕ) (q : ReadAnswer) → q ≡ (read_call tables area t shard routes limits processed timeout mode range out).answer → Bounded (length out) q
  unfolding read_call
  every_answer_is_bounded out q e =
      rw e (record { counts = every_count_is_at_most_the_cached_messages tables area t shard routes limits processed timeout mode range out; pops = few (eqb (number out) 0) refl; used = fits (eqb (number out) 0) refl })
    where
      asked : eqb (number out) 0 ≡ true → asked_number tables area t shard routes limits range ≡ 0
      asked e = (first_zero _ _ (eqb-true (number out) 0 e)).0

      few : (b : Bool) → eqb (number out) 0 ≡ b → (pick b (done_result tables t range (six_steps_lem out) out) (record { answer = refused_answer (number out) range t; out = out })).answer.pops ≤ max_anchors
      few true e = (steps_kept tables area t shard routes limits processed timeout mode range (length out) (asked e)).few_pops
      few false e = omega arith

      fits : (b : Bool) → eqb (number out) 0 ≡ b → (pick b (done_result tables t range (six_steps_lem out) out) (record { answer = refused_answer (number out) range t; out = out })).answer.used ≤ length out
      fits true e = steps_fit tables area t shard routes limits processed timeout mode range out (passed tables area t shard routes limits range (asked e)).routes_sound
      fits false e = omega arith

  -- ---- the entries
  pub a_read_with_number_0_stores_its_entries : (out : List ℕ) (q : ReadAnswer) (o : List ℕ) → record { answer = q; out = o } ≡ read_call tables area t shard routes limits processed timeout mode range out → q.number ≡ 0
      → (q.used ≡ length (range_read tables area t shard routes limits processed timeout mode range (length out)).entries) × (o ≡ sets out 0 (range_read tables area t shard routes limits processed timeout mode range (length out)).entries)
  a_read_with_number_0_stores_its_entries out q o e z =
      let h = a_read_with_number_0_does_the_six_steps out (sym (ap (λ (d : ReadResult). d.answer.number) e) ∙ z) in
      let d = e ∙ h.done in
      let k = (steps_kept tables area t shard routes limits processed timeout mode range (length out) h.asked).used_part in
      (ap (λ (r : ReadResult). r.answer.used) d ∙ (k ∙ (omega arith)), ap (λ (r : ReadResult). r.out) d)
