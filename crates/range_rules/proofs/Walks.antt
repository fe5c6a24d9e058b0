-- A walk that is not stopped at its end read everything.
use Prim.Native.Nat.{ℕ, suc, ◌+◌}
use mathlib.Core.Path.{◌≡◌, refl, sym, ap, ◌∙◌}
use mathlib.Core.Bool.{Bool, true, false}
use mathlib.Core.List.{List, [], ◌∷◌}
use native.Mathlib.Omega.{arith}
use lib.ListN.{length}
use Rattle.rows.specs.Rows.{pick}
use Rattle.rows.proofs.Laws.{pick_both, never}
use Rattle.ext_types.specs.declared.ChainTime.{ChainTime}
use Rattle.shard_ident.specs.Shard.{is_ours}
use Rattle.router.specs.Router.{partition_of}
use Rattle.range_rules.specs.declared.Context.{Context}
use Rattle.range_rules.specs.declared.Place.{Place}
use Rattle.range_rules.specs.Walks.{Walk}
use Rattle.range_rules.specs.Rules.{Outcome, silent, followed, advanced, stopped, verdict_on, our_read, message_read, messages_read}
use Rattle.range_rules.proofs.Counts.{after_place}

pub message_place : (x : Context) (routes : List ℕ) (time : ChainTime) (m : List ℕ) (w : Walk) → (message_read x routes time m w).value.place ≡ (advanced x w).place
unfolding message_read our_read
message_place x routes time m w =
    let P : Outcome Walk → Type 0 = λ s. s.value.place ≡ (advanced x w).place in
    let p = partition_of routes m in
    pick_both P (is_ours x.shard m) (our_read x time p (advanced x w)) (silent (advanced x w)) (after_place (verdict_on x p (advanced x w)) x time p (advanced x w)) refl

module _ (x : Context) (routes : List ℕ) (time : ChainTime) where
  pub message_offset : (m : List ℕ) (w : Walk) → (message_read x routes time m w).value.place.key.msgs_offset ≡ w.place.key.msgs_offset + 1
  unfolding advanced
  message_offset m w = ap (λ (p : Place). p.key.msgs_offset) (message_place x routes time m w)

  pub walk_all : (l : List (List ℕ)) (s : Outcome Walk) → stopped x (messages_read x routes time l s).value ≡ false → (messages_read x routes time l s).value.place.key.msgs_offset ≡ s.value.place.key.msgs_offset + length l
  unfolding messages_read
  walk_all [] s = λ e. omega arith
  walk_all (m ∷ l) s = go (λ e. walk_all l (followed s (message_read x routes time m s.value)) e) (stopped x s.value) refl
    where
      t : Outcome Walk
      t = followed s (message_read x routes time m s.value)

      go : (stopped x (messages_read x routes time l t).value ≡ false → (messages_read x routes time l t).value.place.key.msgs_offset ≡ t.value.place.key.msgs_offset + length l)
          → (b : Bool) → stopped x s.value ≡ b → stopped x (pick b s (messages_read x routes time l t)).value ≡ false
          → (pick b s (messages_read x routes time l t)).value.place.key.msgs_offset ≡ s.value.place.key.msgs_offset + suc (length l)
      go i true h e = never (sym h ∙ e)
      go i false h e = i e ∙ omega (arith, message_offset m s.value)
