-- The read of all ranges, put together from what its parts ensure.
use Prim.Native.Nat.{ℕ, ◌+◌, ◌<◌, ◌≤◌, ◌^◌}
use mathlib.Core.Path.{◌≡◌, refl, sym, ap, ◌∙◌}
use mathlib.Core.Bool.{Bool, true, false}
use mathlib.Core.List.{List, []}
use native.Mathlib.Omega.{arith}
use lib.Dec.{eqb, leb, ltb}
use lib.ListN.{length}
use lib.Seq.{sets}
use borrow.Author.Tests.{eq-eqb, ne_eqb, leb-true}
use Rattle.rows.specs.Rows.{pick}
use Rattle.rows.proofs.Laws.{pick_yes, pick_no}
use Rattle.anchors_cache.specs.declared.AnchorsCacheTransaction.{AnchorsCacheTransaction}
use Rattle.anchors_cache.proofs.Asked.{refusal_parts}
use Rattle.range_rules.specs.Rules.{Outcome}
use Rattle.range_reader.specs.Ready.{Tells}
use Rattle.std.specs.Prelude.{Result, Ok, Err}
use Rattle.refusals.specs.declared.Refusal.{Refusal}
use Rattle.refusals.specs.Refusals.{number_of}
use Rattle.refusals.proofs.Laws.{refused_is_not_done}
use Rattle.messages_buffer.proofs.Laws.{first_zero, number_zero}
use Rattle.range_rules.proofs.Counts.{zeros}
use Rattle.reader_rules.specs.declared.ExternalsReader.{ExternalsReader}
use Rattle.reader_rules.specs.declared.GetNextMessageGroupMode.{GetNextMessageGroupMode}
use Rattle.externals_reader.specs.declared.ReadIntoBuffers.{ReadIntoBuffers}
use Rattle.externals_reader.specs.declared.RangesRead.{RangesRead as CodeRanges}
use Rattle.externals_reader.specs.Answers.{read_all_answer_of}
use Rattle.reader_rules.specs.declared.Fixed.{Fixed}
use Rattle.reader_rules.specs.Turns.{RangesRead}
use Rattle.reader_rules.specs.State.{settings_number, max_ranges, max_open_ranges, settled_number}
use Rattle.reader_rules.specs.Rules.{ranges_read, fixed_of, at_entry}
use Rattle.externals_reader.specs.Calls.{asked_of_read, window_read, imported_in, all_ranges_read, unchanged, all_result, ReadAllResult, read_all_call}
use Rattle.externals_reader.specs.Locals.{read_answered}
use Rattle.externals_reader.specs.Ready.{Start, ranges_told, ranges_tell}
use Rattle.externals_reader.proofs.Sound.{sound_parts}
use Rattle.externals_reader.proofs.TurnLaws.{window_fits, all_told, nothing_used, ranges_wrote, wrote_told}
use Rattle.cache_rules.specs.Rules.{max_history}
use Rattle.anchors_cache.specs.Tables.{tables_bytes}

-- question 4 answered "yes" leaves the effective limit within 16
effective_limit : (limits : List ℕ) (most : ℕ) → settings_number limits most ≡ 0 → pick (ltb most 2) 2 most ≤ max_ranges
unfolding settings_number
effective_limit limits most z = go (ltb most 2)
  where
    small : most ≤ max_ranges
    small = leb-true most max_open_ranges (number_zero (leb most max_open_ranges) 4 (omega arith) (first_zero _ _ (first_zero _ _ z).1).0)

    go : (b : Bool) → pick b 2 most ≤ max_ranges
    go true = omega arith
    go false = small

module _ (tables area : List ℕ) (t : AnchorsCacheTransaction) (routes : List ℕ) (reader : ExternalsReader) (mode : GetNextMessageGroupMode) (out : List ℕ) where
  abbrev answer_of : Result ReadIntoBuffers Refusal → List ℕ → ReadAllResult
  answer_of q o = record { answer = read_all_answer_of reader t q; out = o }

  pub call_refused : (e : Refusal) → number_of e ≡ asked_of_read tables area t routes reader → (q : Result ReadIntoBuffers Refusal) → q ≡ Err e → answer_of q out ≡ read_all_call tables area t routes reader mode out
  unfolding read_all_call
  call_refused e ne q qe = rw (qe, ← ne, ne_eqb (number_of e) 0 (refused_is_not_done e))

  module _ (asked : asked_of_read tables area t routes reader ≡ 0) where
    -- question 5 answered "yes": the history stands in its table
    pub call_history : (t.cache.history_first + t.cache.history_len ≤ max_history) × (tables_bytes ≤ length tables)
    unfolding asked_of_read
    call_history =
        let p = refusal_parts (length area) tables t (first_zero _ _ (first_zero _ _ (first_zero _ _ (first_zero _ _ (first_zero _ _ asked).1).1).1).1).0 in
        (p.history_within, p.tall)

    pub call_idle : reader.all_ranges_fully_read ≡ true → (q : ReadIntoBuffers) → read_all_answer_of reader t (Ok q) ≡ (unchanged 0 reader t []).answer → answer_of (Ok q) out ≡ read_all_call tables area t routes reader mode out
    unfolding read_all_call
    call_idle m q e = rw (asked, e) (sym (pick_yes reader.all_ranges_fully_read _ _ m))

    module _ (m : reader.all_ranges_fully_read ≡ false) (x : Fixed) (xe : x ≡ fixed_of reader mode (imported_in tables t.cache) (length out)) where
      pub call_start : length out < 2 ^ 64 → Start x (at_entry reader.reader_state) out
      unfolding asked_of_read settled_number
      call_start small =
          let s = (first_zero _ _ (first_zero _ _ (first_zero _ _ (first_zero _ _ asked).1).1).1).0 in
          let f = first_zero _ _ s in
          rw xe
          (record {
            after = record { few = record { read = λ i. zeros 8 i _; expired = λ i. zeros 8 i _; buffered = λ i. zeros 8 i _ }; pops = omega arith; used = omega arith };
            unused = refl;
            slots = (sound_parts reader.reader_state (first_zero _ _ f.1).0).0;
            limit = effective_limit _ _ f.0;
            room = refl;
            small = small;
          })

      whole : Outcome RangesRead
      whole = all_ranges_read tables area t routes reader mode (length out)

      same : ranges_read (window_read tables area t routes x) x (at_entry reader.reader_state) ≡ whole
      unfolding whole all_ranges_read
      same = rw xe

      answered : read_all_call tables area t routes reader mode out ≡ all_result tables area t reader whole out
      unfolding read_all_call whole
      answered = rw asked (pick_no reader.all_ranges_fully_read _ _ m)

      abbrev run : Outcome RangesRead
      run = ranges_read (window_read tables area t routes x) x (at_entry reader.reader_state)

      abbrev taken : RangesRead → ReadAllResult
      taken v = pick (eqb v.so_far.number 0) (record { answer = read_answered tables area t reader v; out = sets out 0 whole.entries }) (unchanged v.so_far.number reader t out)

      taken_refused : (v : RangesRead) (n : ℕ) → n ≡ v.so_far.number → (n ≡ 0 → ⊥) → unchanged n reader t out ≡ taken v
      taken_refused v n e h = sym (rw (← e, ne_eqb n 0 h))

      taken_done : (v : RangesRead) → v.so_far.number ≡ 0 → record { answer = read_answered tables area t reader v; out = sets out 0 whole.entries } ≡ taken v
      taken_done v z = sym (pick_yes (eqb v.so_far.number 0) _ _ (eq-eqb v.so_far.number 0 z))

      number_now : run.value.so_far.number ≡ whole.value.so_far.number
      number_now = ap (λ (s : Outcome RangesRead). s.value.so_far.number) same

      pub call_stopped : (o : List ℕ) (e : Refusal) → Tells false 0 out o (ranges_tell (Err e)) run → (q : Result ReadIntoBuffers Refusal) → q ≡ Err e → answer_of q o ≡ read_all_call tables area t routes reader mode out
      call_stopped o e w q qe = rw (qe, w.out) (taken_refused whole.value (number_of e) (w.value ∙ number_now) (refused_is_not_done e) ∙ sym answered)

      module _ (d : CodeRanges) (o : List ℕ) (w : Tells false 0 out o (ranges_tell (Ok d)) run) where
        first : ranges_told d ≡ whole.value
        first = w.value ∙ ap (λ (s : Outcome RangesRead). s.value) same

        pub call_done : (r : CodeRanges) (o' : List ℕ) → Tells true 0 o o' (ranges_tell (Ok r)) run → (q : ReadIntoBuffers) → read_all_answer_of reader t (Ok q) ≡ read_answered tables area t reader (ranges_told r)
            → answer_of (Ok q) o' ≡ read_all_call tables area t routes reader mode out
        call_done r o' v q e =
            let f : ranges_told r ≡ whole.value = v.value ∙ ap (λ (s : Outcome RangesRead). s.value) same in
            let b : o' ≡ sets out 0 whole.entries = v.out ∙ rw w.out (ap (λ (s : Outcome RangesRead). sets out 0 s.entries) same) in
            rw (e, b) (taken_done (ranges_told r) refl ∙ (ap taken f ∙ sym answered))

        -- a second run is refused only where the first one is
        pub call_unrefused : (r : Refusal) (o' : List ℕ) → Tells true 0 o o' (ranges_tell (Err r)) run → ⊥
        call_unrefused r o' v = refused_is_not_done r (v.value ∙ sym (ap (λ (s : RangesRead). s.so_far.number) w.value))

        -- where the first run used no byte, it is the whole read
        pub call_silent : length out < 2 ^ 64 → d.so_far.used ≡ 0 → (q : ReadIntoBuffers) → read_all_answer_of reader t (Ok q) ≡ read_answered tables area t reader (ranges_told d) → answer_of (Ok q) o ≡ read_all_call tables area t routes reader mode out
        call_silent small u q e = call_done d o (wrote_told true o o d run (nothing_used out o (ranges_told d) run (ranges_wrote false out o d run w) (all_told (window_read tables area t routes x) (window_fits tables area t routes x) x false (at_entry reader.reader_state) out (call_start small)) u)) q e

        -- the first run wrote nothing, so the second starts as the first did
        pub call_again : length out < 2 ^ 64 → Start x (at_entry reader.reader_state) o
        call_again small = rw w.out (call_start small)
