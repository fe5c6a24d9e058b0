-- What the claim says of an abandoned attempt, of a committed one and of the undo log, and of a book that question 5
-- refuses.
use Prim.Native.Nat.{ℕ, zero, suc, ◌≤◌}
use mathlib.Core.Path.{◌≡◌, refl, sym, ap, ◌∙◌}
use mathlib.Core.Bool.{Bool, true, false, ◌||◌}
use mathlib.Core.List.{List, [], ◌∷◌, ◌++◌, map}
use lib.ListN.{length}
use Rattle.std.proofs.Math.Bool.{or_assoc, or-false, or-true}
use Rattle.rows.specs.Rows.{pick}
use Rattle.anchors_cache.specs.declared.AnchorsCacheTransaction.{AnchorsCacheTransaction}
use Rattle.rows.proofs.Laws.{no_here, no_later}
use Rattle.cache_rules.specs.Rules.{Cache, area_bytes}
use Rattle.anchors_cache.specs.Tables.{view}
use Rattle.anchors_cache.specs.Calls.{on_zero, open_call, close_call}
use Rattle.cache_laws.specs.Book.{Book, begin, holds, asked_of_caches, Change, apply, applied, Effect, changes, commits, rolls_back, nothing, on_book, Call, enter, entered, performed, is_commit, committed_in, kept_by, since_rollback}
use Rattle.cache_laws.proofs.Claim.{Follows, list_follows, opened_stands, the_book}

-- ---- question 5 of what the book holds
pub a_book_whose_present_or_opening_cache_question_5_refuses_gives_5 : (present opening : Cache) (rest : ℕ)
    → (holds present ≡ false → asked_of_caches present opening rest ≡ 5) × (holds opening ≡ false → asked_of_caches present opening rest ≡ 5)
a_book_whose_present_or_opening_cache_question_5_refuses_gives_5 present opening rest =
    (λ e. ap (λ (b : Bool). pick b rest 5) (sym (no_here (holds present) (holds opening) e)), λ e. ap (λ (b : Bool). pick b rest 5) (sym (no_later (holds present) (holds opening) e)))

-- ---- the opening cache stays
opening_now : (n : ℕ) (e : Effect) (b : Book) → (on_zero n (on_book e b) b).opening ≡ b.opening
opening_now (suc n) e b = refl
opening_now zero (changes c) b = refl
opening_now zero commits b = refl
opening_now zero rolls_back b = refl
opening_now zero nothing b = refl

opening_kept : (area : List ℕ) (ks : List Call) (b : Book) → (entered area ks b).opening ≡ b.opening
unfolding entered enter
opening_kept area [] b = refl
opening_kept area (k ∷ ks) b = opening_kept area ks (enter area k b) ∙ opening_now (k.number area b) (k.effect area b.present) b

-- ---- the mark is set by a commit that answers 0, and by nothing else
mark_now : (n : ℕ) (e : Effect) (b : Book) → (on_zero n (on_book e b) b).mark ≡ (b.mark || on_zero n (is_commit e) false)
mark_now (suc n) e b = sym (or-false b.mark)
mark_now zero (changes c) b = sym (or-false b.mark)
mark_now zero commits b = sym (or-true b.mark)
mark_now zero rolls_back b = sym (or-false b.mark)
mark_now zero nothing b = sym (or-false b.mark)

mark_after : (area : List ℕ) (ks : List Call) (b : Book) → (entered area ks b).mark ≡ (b.mark || committed_in area ks b)
unfolding entered enter committed_in
mark_after area [] b = sym (or-false b.mark)
mark_after area (k ∷ ks) b =
    let n = k.number area b in
    let e = k.effect area b.present in
    mark_after area ks (enter area k b)
    ∙ (ap (λ (x : Bool). x || committed_in area ks (enter area k b)) (mark_now n e b) ∙ or_assoc b.mark (on_zero n (is_commit e) false) (committed_in area ks (enter area k b)))

-- ---- the present cache is the changes since the last rollback on the opening one
applied_snoc : (l : List Change) (c : Change) (v : Cache) → applied (l ++ (c ∷ [])) v ≡ apply c (applied l v)
unfolding applied
applied_snoc [] c v = refl
applied_snoc (x ∷ l) c v = applied_snoc l c (apply x v)

present_now : (n : ℕ) (e : Effect) (b : Book) (done : List Change) → b.present ≡ applied done b.opening → (on_zero n (on_book e b) b).present ≡ applied (on_zero n (kept_by e done) done) b.opening
unfolding applied
present_now (suc n) e b done h = h
present_now zero (changes c) b done h = ap (apply c) h ∙ sym (applied_snoc done c b.opening)
present_now zero commits b done h = h
present_now zero rolls_back b done h = refl
present_now zero nothing b done h = h

present_after : (area : List ℕ) (ks : List Call) (b : Book) (done : List Change) → b.present ≡ applied done b.opening → (entered area ks b).present ≡ applied (since_rollback area ks b done) b.opening
unfolding entered enter since_rollback
present_after area [] b done h = h
present_after area (k ∷ ks) b done h =
    let n = k.number area b in
    let e = k.effect area b.present in
    let o = opening_now n e b in
    let c = on_zero n (on_book e b) b in
    let l = on_zero n (kept_by e done) done in
    present_after area ks c l (present_now n e b done h ∙ ap (applied l) (sym o)) ∙ ap (applied (since_rollback area ks c l)) o

module _ {K : Type 0} (call : K → Call) (tables area : List ℕ) (each : area_bytes ≤ length area → (k : K) → Follows tables area (call k))
    (t : AnchorsCacheTransaction) (ks : List K) (zero-open : (open_call (length area) tables t).number ≡ 0) where
  abbrev calls : List Call
  calls = map call ks

  abbrev final : Cache
  final = view tables area (close_call (length area) tables (performed tables area calls (open_call (length area) tables t).state)).state.cache

  abbrev start : Book
  start = begin (view tables area t.cache)

  -- with no commit answering 0 the cache is as at opening
  pub an_abandoned_attempt_leaves_the_cache : committed_in area (map call ks) (begin (view tables area t.cache)) ≡ false
      → view tables area (close_call (length area) tables (performed tables area (map call ks) (open_call (length area) tables t).state)).state.cache ≡ view tables area t.cache
  an_abandoned_attempt_leaves_the_cache e =
      (the_book call tables area each t ks zero-open).2
      ∙ (ap (λ (m : Bool). pick m (entered area calls start).present (entered area calls start).opening) (mark_after area calls start ∙ e) ∙ opening_kept area calls start)

  -- with one, anywhere, it is what the pops and trims after the last rollback answering 0 give on the opening cache
  pub a_committed_attempt_keeps_the_changes_since_the_last_rollback : committed_in area (map call ks) (begin (view tables area t.cache)) ≡ true
      → view tables area (close_call (length area) tables (performed tables area (map call ks) (open_call (length area) tables t).state)).state.cache ≡ applied (since_rollback area (map call ks) (begin (view tables area t.cache)) []) (view tables area t.cache)
  unfolding applied
  a_committed_attempt_keeps_the_changes_since_the_last_rollback e =
      (the_book call tables area each t ks zero-open).2
      ∙ (ap (λ (m : Bool). pick m (entered area calls start).present (entered area calls start).opening) (mark_after area calls start ∙ e) ∙ present_after area calls start [] refl)

  -- whatever went from the cache, what a rollback restores still stands for all of the opened one
  pub the_log_stands_for_the_opened_cache : view tables area (performed tables area (map call ks) (open_call (length area) tables t).state).undo ≡ view tables area t.cache
  the_log_stands_for_the_opened_cache =
      let o = opened_stands tables area t zero-open in
      (list_follows tables area o.0 call (each o.0) ks (open_call (length area) tables t).state start o.1).1.opening ∙ opening_kept area calls start
