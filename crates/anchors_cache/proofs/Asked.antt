-- Laws of the questions: what the code's tests say of the definitions, and what a number 0 says of a window.
use Rattle.std.proofs.lemmas.Bool.{and_parts}
use Prim.Native.Nat.{ℕ, zero, suc, ◌+◌, ◌-◌, ◌*◌, ◌/◌, ◌≤◌, ◌<◌}
use mathlib.Core.Path.{◌≡◌, refl, sym, ap, ◌∙◌}
use mathlib.Core.Bool.{Bool, true, false, not, beq, ◌&&◌, ◌||◌}
use mathlib.Core.List.{List, [], ◌∷◌}
use native.Mathlib.Nat.{mul-div-le}
use native.Mathlib.Omega.{arith}
use lib.Dec.{ltb, leb, eqb}
use lib.ListN.{length}
use borrow.Author.Tests.{lt-ltb, lt-leb, leb-true, leb-false, ltb-true, eqb-true}
use Rattle.rows.specs.Rows.{pick}
use Rattle.anchors_cache.specs.declared.AnchorsCache.{AnchorsCache}
use Rattle.anchors_cache.specs.declared.CachedAnchor.{CachedAnchor}
use Rattle.anchors_cache.specs.declared.AnchorsCacheTransaction.{AnchorsCacheTransaction}
use Rattle.std.specs.Prelude.{Some, None}
use Rattle.cache_rules.specs.Rules.{Row, sound_row, sound_from, total, last_of, above_last, same_bool, right_size, room, pending_up_to, ask, max_anchors, max_anchor_messages, max_messages, max_history, area_bytes}
use Rattle.anchors_cache.specs.Tables.{tables_bytes, anchors, anchor_at, anchors_of}
use Rattle.anchors_cache.specs.Windows.{used_by, Inside, Sound, Room, any_places}
use Rattle.anchors_cache.specs.contracts.AnchorsCachePartialEq.TheImpl as derived-eq
use Rattle.anchors_cache.specs.Calls.{same_window, sound_total, sound_anchor, cached_anchor, valid_cache, valid, refusal, refusal_at, refusal_seen, add_number, add_info_number, on_zero, places_in}
use Rattle.anchors_cache.proofs.Laws.{anchors_cons, anchors_none}

-- ---- question 5 of the anchors, in one pass
row_count : (low : ℕ) (a : Row) → sound_row low a ≡ true → a.count ≤ max_anchor_messages
unfolding sound_row
row_count low a e =
    let p1 = and_parts (leb low a.id) (ltb 0 a.ours && (leb a.ours a.count && leb a.count max_anchor_messages)) e in
    let p2 = and_parts (ltb 0 a.ours) (leb a.ours a.count && leb a.count max_anchor_messages) p1.1 in
    leb-true _ _ (and_parts (leb a.ours a.count) (leb a.count max_anchor_messages) p2.1).1

row_sound : (low place : ℕ) (a : Row) → sound_anchor low (cached_anchor place a) ≡ sound_row low a
unfolding sound_row
row_sound low place a = refl

-- a turn of the loop over the anchors, of which the code holds the next one as a struct, and the loop's end
module _ (first k low sum : ℕ) (l : List ℕ) where
  sound_step : 0 < k → sound_total low sum (anchors first k l)
      ≡ pick (sound_row low (anchor_at first l)) (sound_total ((anchor_at first l).id + 1) (sum + (anchor_at first l).count) (anchors (first + 1) (k - 1) l)) None
  unfolding sound_total
  sound_step p = rw (anchors_cons first k l p)

  module _ (a : CachedAnchor) (is : a ≡ cached_anchor 0 (anchor_at first l)) (some : 0 < k) where
    same_row : sound_row low (anchor_at first l) ≡ sound_anchor low a
    same_row = sym (ap (sound_anchor low) is ∙ row_sound low 0 (anchor_at first l))

    pub sound_next : sound_anchor low a ≡ true → (sound_total low sum (anchors first k l) ≡ sound_total (a.id + 1) (sum + a.count) (anchors (first + 1) (k - 1) l)) × (a.count ≤ max_anchor_messages)
    sound_next e = rw is (sound_step some ∙ rw (same_row ∙ e), row_count low (anchor_at first l) (same_row ∙ e))

    pub sound_stop : sound_anchor low a ≡ false → sound_total low sum (anchors first k l) ≡ None
    sound_stop e = sound_step some ∙ rw (same_row ∙ e)

  pub sound_end : k ≤ 0 → sound_total low sum (anchors first k l) ≡ Some sum
  unfolding sound_total
  sound_end p = rw (anchors_none first k l p)

-- the pass answers the rule's test and sum
pub sound_total_lem : (low sum : ℕ) (l : List Row) → sound_total low sum l ≡ pick (sound_from low l) (Some (sum + total l)) None
unfolding sound_total sound_from total
sound_total_lem low sum [] = let e : sum + 0 ≡ sum = omega arith in rw e
sound_total_lem low sum (a ∷ l) =
    let e : sum + a.count + total l ≡ sum + (a.count + total l) = omega arith in
    go (sound_row low a) (sound_total_lem (a.id + 1) (sum + a.count) l ∙ rw e)
  where
    go : (b : Bool) → sound_total (a.id + 1) (sum + a.count) l ≡ pick (sound_from (a.id + 1) l) (Some (sum + (a.count + total l))) None
        → pick b (sound_total (a.id + 1) (sum + a.count) l) None ≡ pick (b && sound_from (a.id + 1) l) (Some (sum + (a.count + total l))) None
    go true q = q
    go false q = refl

pub all_sound : (l : List Row) (s : ℕ) → sound_total 0 0 l ≡ Some s → (sound_from 0 l ≡ true) × (total l ≡ s)
all_sound l s e = go (sound_from 0 l) refl (sym (sound_total_lem 0 0 l) ∙ e)
  where
    go : (b : Bool) → sound_from 0 l ≡ b → pick b (Some (0 + total l)) None ≡ Some s → (sound_from 0 l ≡ true) × (total l ≡ s)
    go true h q = let z : 0 + total l ≡ s = cc in (h, omega arith)
    go false h q = absurd (let z : ◌≡◌ {A = ℕ} 0 1 = cc in omega arith)

pub not_sound : (l : List Row) → sound_total 0 0 l ≡ None → sound_from 0 l ≡ false
not_sound l e = go (sound_from 0 l) refl (sym (sound_total_lem 0 0 l) ∙ e)
  where
    go : (b : Bool) → sound_from 0 l ≡ b → pick b (Some (0 + total l)) None ≡ None → sound_from 0 l ≡ false
    go true h q = absurd (let z : ◌≡◌ {A = ℕ} 0 1 = cc in omega arith)
    go false h q = h

-- ---- what a window that question 5 lets pass has
pub record Parts (places : ℕ) (tables : List ℕ) (c : AnchorsCache) : Type 0 where
  pub tall : tables_bytes ≤ length tables
  pub anchors_within : c.first + c.len ≤ max_anchors
  pub history_within : c.history_first + c.history_len ≤ max_history
  pub sound : sound_from 0 (anchors_of tables c) ≡ true
  pub few : total (anchors_of tables c) ≤ max_messages
  pub in_area : c.base + total (anchors_of tables c) ≤ places
  pub pend : same_bool c.pending (ltb 0 c.len) ≡ true

pub parts : (places : ℕ) (tables : List ℕ) (c : AnchorsCache) → valid_cache places tables c ≡ true → Parts places tables c
unfolding valid_cache
parts places tables c e =
    let p1 = and_parts _ _ e in
    let p2 = and_parts _ _ p1.1 in
    let p3 = and_parts _ _ p2.1 in
    let p4 = and_parts _ _ p3.1 in
    let p5 = and_parts _ _ p4.1 in
    let p6 = and_parts _ _ p5.1 in
    record {
      tall = leb-true _ _ p1.0;
      anchors_within = leb-true _ _ p2.0;
      history_within = leb-true _ _ p3.0;
      sound = p4.0;
      few = leb-true _ _ p5.0;
      in_area = leb-true _ _ p6.0;
      pend = p6.1;
    }

pub inside : (places : ℕ) (tables : List ℕ) (c : AnchorsCache) → Parts places tables c → Inside tables c
inside places tables c p = (p.tall, p.anchors_within, p.history_within)

-- the tests of two marks
pub same_beq : (a b : Bool) → same_bool a b ≡ beq a b
same_beq true true = refl
same_beq true false = refl
same_beq false true = refl
same_beq false false = refl

-- ---- the transaction's window, and what its rollback restores
pub same_pending : (a b : Bool) → same_bool a b ≡ true → a ≡ b
same_pending true b e = sym e
same_pending false true e = e
same_pending false false e = refl

pub same_window_lem : (a b : AnchorsCache) → same_window a b ≡ true → a ≡ b
unfolding same_window
same_window_lem a b e =
    let f = and_parts (eqb a.first b.first) _ e in
    let l = and_parts (eqb a.len b.len) _ f.1 in
    let hf = and_parts (eqb a.history_first b.history_first) _ l.1 in
    let hl = and_parts (eqb a.history_len b.history_len) _ hf.1 in
    let n = and_parts (eqb a.base b.base) _ hl.1 in
    same_parts (eqb-true _ _ f.0) (eqb-true _ _ l.0) (eqb-true _ _ hf.0) (eqb-true _ _ hl.0) (eqb-true _ _ n.0) (same_pending a.pending b.pending n.1)
  where
    window : ℕ → ℕ → ℕ → ℕ → ℕ → Bool → AnchorsCache
    window first len history-first history-len base pending = record { first = first; len = len; history_first = history-first; history_len = history-len; base = base; pending = pending }

    same_parts : a.first ≡ b.first → a.len ≡ b.len → a.history_first ≡ b.history_first → a.history_len ≡ b.history_len → a.base ≡ b.base → a.pending ≡ b.pending → a ≡ b
    same_parts f l hf hl n p =
        ap (λ (v : ℕ). window v a.len a.history_first a.history_len a.base a.pending) f
        ∙ (ap (λ (v : ℕ). window b.first v a.history_first a.history_len a.base a.pending) l
        ∙ (ap (λ (v : ℕ). window b.first b.len v a.history_len a.base a.pending) hf
        ∙ (ap (λ (v : ℕ). window b.first b.len b.history_first v a.base a.pending) hl
        ∙ (ap (λ (v : ℕ). window b.first b.len b.history_first b.history_len v a.pending) n
        ∙ ap (window b.first b.len b.history_first b.history_len b.base) p))))

-- The derived `==` of two windows is the rule's test of them, for whoever compares windows by it.
pub same_is_window : (a b : AnchorsCache) → derived-eq.eq-value.it a b ≡ same_window a b
unfolding same_window
same_is_window a b = rw (same_beq a.pending b.pending) refl

-- windows that it finds equal are one
pub equal_window : (a b : AnchorsCache)
    → (eqb a.first b.first && (eqb a.len b.len && (eqb a.history_first b.history_first && (eqb a.history_len b.history_len && (eqb a.base b.base && beq a.pending b.pending))))) ≡ true
    → a ≡ b
unfolding same_window
equal_window a b e = same_window_lem a b (rw (same_beq a.pending b.pending) e)

module _ (places : ℕ) (tables : List ℕ) (t : AnchorsCacheTransaction) where
  pub valid_open : valid_cache places tables t.cache ≡ true → t.active ≡ true → valid places tables t ≡ valid_cache places tables t.undo
  unfolding valid
  valid_open e f = rw e (ap (λ (b : Bool). pick b (valid_cache places tables t.undo) true) f)

  pub valid_same : valid_cache places tables t.cache ≡ true → t.active ≡ true → t.cache ≡ t.undo → valid places tables t ≡ true
  valid_same e f g = valid_open e f ∙ (ap (valid_cache places tables) (sym g) ∙ e)

  pub valid_shut : valid_cache places tables t.cache ≡ true → t.active ≡ false → valid places tables t ≡ true
  unfolding valid
  valid_shut e f = rw e (ap (λ (b : Bool). pick b (valid_cache places tables t.undo) true) f)

  pub valid_parts : valid places tables t ≡ true → Parts places tables t.cache
  unfolding valid
  valid_parts e = parts places tables t.cache (and_parts _ _ e).0

-- ---- the first "no" of questions 1 and 5
two_yes : (a b : Bool) → ask 1 a (ask 5 b 0) ≡ 0 → (a ≡ true) × (b ≡ true)
two_yes true true e = (refl, refl)
two_yes true false e = absurd (omega arith)
two_yes false b e = absurd (omega arith)

two_asked : (a b : Bool) (rest : ℕ) → ask 1 a (ask 5 b 0) ≡ 0 → ask 1 a (ask 5 b rest) ≡ rest
two_asked true true rest e = refl
two_asked true false rest e = absurd (omega arith)
two_asked false b rest e = absurd (omega arith)

two_refused : (a b : Bool) (rest : ℕ) → (ask 1 a (ask 5 b 0) ≡ 0 → ⊥) → ask 1 a (ask 5 b rest) ≡ ask 1 a (ask 5 b 0)
two_refused true true rest p = absurd (p refl)
two_refused true false rest p = refl
two_refused false b rest p = refl

module _ (n : ℕ) (tables : List ℕ) (t : AnchorsCacheTransaction) where
  pub refusal_zero : refusal n tables t ≡ 0 → (area_bytes ≤ n) × (valid (places_in n) tables t ≡ true)
  unfolding refusal
  refusal_zero e =
      let p = two_yes (leb area_bytes n) (valid (places_in n) tables t) e in
      (leb-true _ _ p.0, p.1)

  pub refusal_parts : refusal n tables t ≡ 0 → Parts (places_in n) tables t.cache
  refusal_parts e = valid_parts (places_in n) tables t (refusal_zero e).1

  pub asked_inside : refusal n tables t ≡ 0 → Inside tables t.cache
  asked_inside e = inside (places_in n) tables t.cache (refusal_parts e)

  pub at_refused : (must : Bool) → (refusal n tables t ≡ 0 → ⊥) → refusal_at must n tables t ≡ refusal n tables t
  unfolding refusal refusal_at
  at_refused must p = two_refused (leb area_bytes n) (valid (places_in n) tables t) _ p

  pub at_asked : (must : Bool) → refusal n tables t ≡ 0 → refusal_at must n tables t ≡ ask 9 (same_bool must t.active) 0
  unfolding refusal refusal_at
  at_asked must e = two_asked (leb area_bytes n) (valid (places_in n) tables t) _ e

  module _ (id ours k : ℕ) where
    pub add_refused : (refusal n tables t ≡ 0 → ⊥) → add_number n tables t id ours k ≡ refusal n tables t
    unfolding refusal add_number
    add_refused p = two_refused (leb area_bytes n) (valid (places_in n) tables t) _ p

    module _ (asked : refusal n tables t ≡ 0) where
      pub add_asked : add_number n tables t id ours k
          ≡ ask 6 (right_size ours k)
          (ask 7 (above_last id (last_of (anchors_of tables t.cache)))
          (ask 8 (room t.cache.len (used_by tables t.cache) t.cache.history_len ours (k / 33)) (ask 9 (not t.active) 0)))
      unfolding refusal add_number
      add_asked = two_asked (leb area_bytes n) (valid (places_in n) tables t) _ asked

    -- by the code's own tests: of the size, then of the id against a window's last, then of the room
    module _ (asked : 0 ≡ refusal n tables t) (right : Bool) (size_tested : right ≡ right_size ours k) where
      pub add_six : right ≡ false → 6 ≡ add_number n tables t id ours k
      add_six e = sym (add_asked (sym asked) ∙ rw (sym size_tested ∙ e))

      module _ (sized : right ≡ true) (bytes : List ℕ) (first len : ℕ) (window : (bytes ≡ tables) × (first ≡ t.cache.first) × (len ≡ t.cache.len)) (below : Bool) (id_tested : below ≡ above_last id (last_of (anchors first len bytes))) where
        is_above : below ≡ above_last id (last_of (anchors_of tables t.cache))
        is_above = id_tested ∙ rw (window.0, window.1, window.2)

        pub add_seven : below ≡ false → 7 ≡ add_number n tables t id ours k
        add_seven e = sym (add_asked (sym asked) ∙ rw (sym size_tested ∙ sized, sym is_above ∙ e))

        module _ (above : below ≡ true) (m : ℕ) (counted : m ≡ total (anchors first len bytes)) (fits : Bool) (room_tested : fits ≡ room t.cache.len m t.cache.history_len ours (k / 33)) where
          has_room : fits ≡ room t.cache.len (used_by tables t.cache) t.cache.history_len ours (k / 33)
          has_room = room_tested ∙ ap (λ (j : ℕ). room t.cache.len j t.cache.history_len ours (k / 33)) (counted ∙ rw (window.0, window.1, window.2))

          at_last : fits ≡ true → add_number n tables t id ours k ≡ ask 9 (not t.active) 0
          at_last e = add_asked (sym asked) ∙ rw (sym size_tested ∙ sized, sym is_above ∙ above, sym has_room ∙ e)

          pub add_eight : fits ≡ false → 8 ≡ add_number n tables t id ours k
          add_eight e = sym (add_asked (sym asked) ∙ rw (sym size_tested ∙ sized, sym is_above ∙ above, sym has_room ∙ e))

          pub add_nine : fits ≡ true → t.active ≡ true → 9 ≡ add_number n tables t id ours k
          add_nine e f = sym (at_last e ∙ ap (λ (b : Bool). ask 9 (not b) 0) f)

          pub add_zero : fits ≡ true → t.active ≡ false → 0 ≡ add_number n tables t id ours k
          add_zero e f = sym (at_last e ∙ ap (λ (b : Bool). ask 9 (not b) 0) f)

  -- of an entry to the history alone
  abbrev grows : Bool
  grows = ltb t.cache.history_len max_history

  pub info_refused : (refusal n tables t ≡ 0 → ⊥) → add_info_number n tables t ≡ refusal n tables t
  unfolding refusal add_info_number
  info_refused p = two_refused (leb area_bytes n) (valid (places_in n) tables t) _ p

  pub info_asked : refusal n tables t ≡ 0 → add_info_number n tables t ≡ ask 8 grows (ask 9 (not t.active) 0)
  unfolding refusal add_info_number
  info_asked e = two_asked (leb area_bytes n) (valid (places_in n) tables t) _ e

-- where no area is lent
pub seen_parts : (tables : List ℕ) (t : AnchorsCacheTransaction) → refusal_seen tables t ≡ 0 → Parts any_places tables t.cache
unfolding refusal_seen
seen_parts tables t e = valid_parts any_places tables t (go (valid any_places tables t) e)
  where
    go : (b : Bool) → ask 5 b 0 ≡ 0 → b ≡ true
    go true f = refl
    go false f = absurd (omega arith)

pub seen_inside : (tables : List ℕ) (t : AnchorsCacheTransaction) → refusal_seen tables t ≡ 0 → Inside tables t.cache
seen_inside tables t e = inside any_places tables t.cache (seen_parts tables t e)

-- ---- what a number 0 says of an add
six_yes : (a b c d : Bool) → ask 6 a (ask 7 b (ask 8 c (ask 9 (not d) 0))) ≡ 0 → (a ≡ true) × (b ≡ true) × (c ≡ true) × (d ≡ false)
six_yes false b c d e = absurd (omega arith)
six_yes true false c d e = absurd (omega arith)
six_yes true true false d e = absurd (omega arith)
six_yes true true true true e = absurd (omega arith)
six_yes true true true false e = (refl, refl, refl, refl)

pub size_of : (ours k : ℕ) → right_size ours k ≡ true → (k ≤ (33 * max_anchor_messages)) × (33 * (k / 33) ≡ k) × (ours ≤ k / 33)
unfolding right_size
size_of ours k e =
    let p1 = and_parts (leb k (33 * max_anchor_messages)) (leb k (33 * (k / 33)) && leb ours (k / 33)) e in
    let p2 = and_parts (leb k (33 * (k / 33))) (leb ours (k / 33)) p1.1 in
    let a : k ≤ (33 * max_anchor_messages) = leb-true _ _ p1.0 in
    let d : k ≤ 33 * (k / 33) = leb-true _ _ p2.0 in
    (a, omega (arith, mul-div-le k 33), leb-true _ _ p2.1)

pick_some : (b x : Bool) → pick b x true ≡ true → b ≡ true → x ≡ true
pick_some true x e h = e
pick_some false x e h = absurd (let z : ◌≡◌ {A = ℕ} 0 1 = cc in omega arith)

pub room_of : (anchors messages history ours count : ℕ) → room anchors messages history ours count ≡ true
    → (history < max_history) × (0 < ours → (anchors < max_anchors) × (messages + count ≤ max_messages))
unfolding room
room_of anchors messages history ours count e =
    let x = and_parts (ltb history max_history) (pick (ltb 0 ours) (ltb anchors max_anchors && leb (messages + count) max_messages) true) e in (
      ltb-true _ _ x.0,
      λ (o : 0 < ours).
          let v = and_parts _ _ (pick_some (ltb 0 ours) (ltb anchors max_anchors && leb (messages + count) max_messages) x.1 (lt-ltb 0 ours o)) in
          (ltb-true _ _ v.0, leb-true _ _ v.1),
    )

-- where a refusal by the first questions is the number, a number 0 says that these were answered yes
pub first_asked : (r number : ℕ) → ((r ≡ 0 → ⊥) → number ≡ r) → number ≡ 0 → r ≡ 0
first_asked zero number refused e = refl
first_asked (suc r) number refused e = sym (refused (λ (f : suc r ≡ 0). omega arith)) ∙ e

-- all questions of an add answered yes
module _ (n : ℕ) (tables : List ℕ) (t : AnchorsCacheTransaction) (id ours k : ℕ) (zeroed : add_number n tables t id ours k ≡ 0) where
  pub add_refusal : refusal n tables t ≡ 0
  add_refusal = first_asked _ _ (add_refused n tables t id ours k) zeroed

  pub add_yes : (right_size ours k ≡ true) × (above_last id (last_of (anchors_of tables t.cache)) ≡ true)
      × (room t.cache.len (used_by tables t.cache) t.cache.history_len ours (k / 33) ≡ true) × (t.active ≡ false)
  add_yes = six_yes _ _ _ t.active (sym (add_asked n tables t id ours k add_refusal) ∙ zeroed)

-- so an add finds room
pub add_asks : (area tables : List ℕ) (t : AnchorsCacheTransaction) (id ours : ℕ) (messages : List ℕ) → add_number (length area) tables t id ours (length messages) ≡ 0
    → (Sound tables area t.cache) × (Room tables t.cache ours messages)
add_asks area tables t id ours messages e =
    let n = length area in
    let k = length messages in
    let z = add_refusal n tables t id ours k e in
    let y = add_yes n tables t id ours k e in
    let b = (refusal_zero n tables t z).0 in
    let p = refusal_parts n tables t z in
    let s = size_of ours k y.0 in
    let r = room_of _ _ _ ours (k / 33) y.2 in
    let i = p.in_area in
    let w = s.1 in (
      record { tall = p.tall; broad = b; anchors_within = p.anchors_within; history_within = p.history_within; in_area = omega (arith, mul-div-le n 33) },
      record { whole = s.1; few = s.0; entries = r.0; anchors = λ (o : 0 < ours). (r.1 o).0; bytes = λ (o : 0 < ours). let f = (r.1 o).1 in omega arith },
    )

-- ---- and of an entry to the history alone
two_more : (a b : Bool) → ask 8 a (ask 9 (not b) 0) ≡ 0 → (a ≡ true) × (b ≡ false)
two_more false b e = absurd (omega arith)
two_more true true e = absurd (omega arith)
two_more true false e = (refl, refl)

module _ (n : ℕ) (tables : List ℕ) (t : AnchorsCacheTransaction) (zeroed : add_info_number n tables t ≡ 0) where
  pub info_refusal : refusal n tables t ≡ 0
  info_refusal = first_asked _ _ (info_refused n tables t) zeroed

  pub info_yes : (t.cache.history_len < max_history) × (t.active ≡ false)
  info_yes =
      let p = two_more _ t.active (sym (info_asked n tables t info_refusal) ∙ zeroed) in
      (ltb-true _ _ p.0, p.1)

-- ---- answers
pub on_not : {A : Type 0} (k : ℕ) (a b : A) → (k ≡ 0 → ⊥) → on_zero k a b ≡ b
on_not zero a b p = absurd (p refl)
on_not (suc k) a b p = refl

-- ids rise and each cached anchor has messages of ours, so the front decides what is pending up to an id
none_above : (id low : ℕ) (l : List Row) → id < low → sound_from low l ≡ true → pending_up_to id l ≡ false
unfolding sound_from pending_up_to sound_row
none_above id low [] p e = refl
none_above id low (a ∷ l) p e =
    let q = and_parts (sound_row low a) (sound_from (a.id + 1) l) e in
    let r = leb-true low a.id (and_parts (leb low a.id) _ q.0).0 in
    rw (lt-leb a.id id (omega arith)) (none_above id (a.id + 1) l (omega arith) q.1)

pub front_decides : (id : ℕ) (a : Row) (l : List Row) → sound_from 0 (a ∷ l) ≡ true → pending_up_to id (a ∷ l) ≡ leb a.id id
unfolding sound_from pending_up_to sound_row
front_decides id a l e =
    let q = and_parts (sound_row 0 a) (sound_from (a.id + 1) l) e in
    let o : ltb 0 a.ours ≡ true = (and_parts (ltb 0 a.ours) _ (and_parts (leb 0 a.id) _ q.0).1).0 in
    go o q.1 (leb a.id id) refl
  where
    go : ltb 0 a.ours ≡ true → sound_from (a.id + 1) l ≡ true → (b : Bool) → leb a.id id ≡ b → ((leb a.id id && ltb 0 a.ours) || pending_up_to id l) ≡ leb a.id id
    go o f true h = rw (h, o)
    go o f false h =
        let r = leb-false a.id id h in
        rw h (none_above id (a.id + 1) l (omega arith) f)
