-- Where the position stands after a look at an anchor.
use Prim.Native.Nat.{ℕ, ◌<◌}
use mathlib.Core.Path.{◌≡◌, refl, ap, ◌∙◌}
use mathlib.Core.Bool.{false, not}
use mathlib.Core.List.{List, [], ◌∷◌}
use mathlib.Core.Logic.{◌⊎◌, inl, inr}
use native.Mathlib.Omega.{arith}
use lib.Dec.{eqb, ltb}
use lib.ListN.{length}
use Rattle.rows.proofs.Laws.{pick_both}
use Rattle.ext_types.specs.declared.ChainTime.{ChainTime}
use Rattle.ext_types.specs.declared.ExternalKey.{ExternalKey}
use Rattle.ext_types.specs.Time.{expired_at}
use Rattle.range_rules.specs.declared.Context.{Context}
use Rattle.range_rules.specs.declared.Place.{Place}
use Rattle.range_rules.specs.Walks.{Walk, RangeRead}
use Rattle.range_rules.specs.Rules.{Outcome, silent, followed, advanced, full, stopped, refused_with, message_read, messages_read, popped, look_key, looked, is_whole, ends, finished, unread, walked, anchor_read}
use Rattle.range_rules.proofs.Walks.{message_place}

-- no message was read and the place is as it was, or the position is that of the last message read
unfoldable pub Moved : Place → Place → Type 0
Moved p q = (q ≡ p) ⊎ ((q.position ≡ q.key) × (p.key.msgs_offset < q.key.msgs_offset))

moved_on : (x : Context) (w : Walk) (p : Place) → Moved p w.place → Moved p (advanced x w).place
unfolding advanced Moved
moved_on x w p (inl e) = inr (refl, omega (arith, ap (λ (q : Place). q.key.msgs_offset) e))
moved_on x w p (inr h) = inr (refl, omega (arith, h.1))

walk_moved : (x : Context) (routes : List ℕ) (time : ChainTime) (l : List (List ℕ)) (p : Place) (s : Outcome Walk) → Moved p s.value.place → Moved p (messages_read x routes time l s).value.place
unfolding messages_read
walk_moved x routes time [] p s h = h
walk_moved x routes time (m ∷ l) p s h =
    let t = message_read x routes time m s.value in
    let P : Outcome Walk → Type 0 = λ q. Moved p q.value.place in
    let g : Moved p t.value.place = rw (message_place x routes time m s.value) (moved_on x s.value p h) in
    pick_both P (stopped x s.value) s (messages_read x routes time l (followed s t)) h (walk_moved x routes time l p (followed s t) g)

refused_place : (n : ℕ) (w : Walk) → (refused_with n w).place ≡ w.place
unfolding refused_with
refused_place n w = refl

pub finished_place : (x : Context) (time : ChainTime) (count : ℕ) (w : Walk) (r : RangeRead) → (finished x time count w r).walk.place ≡ w.place
unfolding finished
finished_place x time count w r =
    let P : RangeRead → Type 0 = λ q. q.walk.place ≡ w.place in
    pick_both P (not (eqb w.number 0)) _ _ refl
    (pick_both P (ends x.mode w.place.reached) _ _ refl (pick_both P (full w.buffers) _ _ refl (pick_both P (is_whole w count) _ _ refl (refused_place 11 w))))

looked_position : (x : Context) (id : ℕ) (w : Walk) → (looked x id w).place.position ≡ w.place.position
unfolding looked
looked_position x id w = refl

pub looked_key : (x : Context) (id : ℕ) (w : Walk) → (looked x id w).place.key ≡ look_key x id
unfolding looked
looked_key x id w = refl

module _ (x : Context) (routes : List ℕ) (id : ℕ) (time : ChainTime) (l : List (List ℕ)) (r : RangeRead) where
  -- a pop of step 2 leaves the whole place; else an anchor that is not expired moves the position only with a message
  -- read
  pub outside_step_4_the_position_moves_only_with_a_message_read : expired_at x.chain_time time x.limit ≡ false
      → ((anchor_read x routes id time l r).value.walk.place.position ≡ r.walk.place.position)
      ⊎ (((anchor_read x routes id time l r).value.walk.place.position ≡ (anchor_read x routes id time l r).value.walk.place.key) × ((look_key x id).msgs_offset < (anchor_read x routes id time l r).value.walk.place.key.msgs_offset))
  unfolding anchor_read Moved
  outside_step_4_the_position_moves_only_with_a_message_read e =
      let w = looked x id r.walk in
      let s = messages_read x routes time (unread w l) (silent w) in
      let P : Outcome RangeRead → Type 0 = λ q. (q.value.walk.place.position ≡ r.walk.place.position) ⊎ ((q.value.walk.place.position ≡ q.value.walk.place.key) × ((look_key x id).msgs_offset < q.value.walk.place.key.msgs_offset)) in
      rw e (pick_both P (ltb id x.position.anchor_id) (silent (popped r)) (walked x time (length l) s r) (inl refl) (seen (finished x time (length l) s.value r).walk.place (finished_place x time (length l) s.value r) (walk_moved x routes time (unread w l) w.place (silent w) (inl refl))))
    where
      at_place : (p : Place) → Moved (looked x id r.walk).place p → (p.position ≡ r.walk.place.position) ⊎ ((p.position ≡ p.key) × ((look_key x id).msgs_offset < p.key.msgs_offset))
      at_place p (inl e) = inl (ap (λ (q : Place). q.position) e ∙ looked_position x id r.walk)
      at_place p (inr h) = inr (h.0, omega (arith, h.1, ap (λ (k : ExternalKey). k.msgs_offset) (looked_key x id r.walk)))

      seen : (p : Place) → p ≡ (messages_read x routes time (unread (looked x id r.walk) l) (silent (looked x id r.walk))).value.place → Moved (looked x id r.walk).place (messages_read x routes time (unread (looked x id r.walk) l) (silent (looked x id r.walk))).value.place
          → (p.position ≡ r.walk.place.position) ⊎ ((p.position ≡ p.key) × ((look_key x id).msgs_offset < p.key.msgs_offset))
      seen p f h = at_place p (rw f h)
