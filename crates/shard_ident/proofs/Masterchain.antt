-- Document 02, ticket 2: the masterchain, workchain -1 (`negsuc 0`), is one shard. What each call answers of it, and
-- that question 2 asks of every other workchain what document 01 asks.
use Prim.Native.Nat.{ℕ, ◌^◌, ◌≤◌, ◌<◌}
use mathlib.Core.Path.{◌≡◌, refl, sym, ap, ◌∙◌}
use mathlib.Core.Bool.{Bool, true, false, not, ◌&&◌}
use mathlib.Core.List.{List}
use native.Mathlib.Omega.{arith}
use lib.Dec.{eqb, leb}
use Rattle.std.specs.Prelude.{Err}
use lib.IntN.{negsuc}
use lib.ListN.{length, get_or}
use borrow.Author.Tests.{ne_eqb, eqb-true, eqb-false}
use Rattle.rows.specs.Rows.{part}
use Rattle.rows.proofs.Laws.{pick_no, no_here, yes_here, yes_later}
use Rattle.shard_ident.specs.declared.ShardIdent.{ShardIdent}
use Rattle.refusals.specs.declared.Refusal.TheVariants.{NotAShard}
use Rattle.shard_ident.specs.Shard.{lowest_set, tag, equalℤ, splits_masterchain, is_shard, shard_number, same_workchain, big_endian, answer_of, contains_address, contains_message}
use Rattle.shard_ident.proofs.Signed.{equal_differ, same_signed}
use Rattle.shard_ident.proofs.Laws.{split_masterchain, refused, accepted, message_ours, prefix_8000000000000000_takes_the_whole_workchain}

-- question 2 of every other workchain, as document 01 has it
pub other_workchains_are_asked_as_before : (s : ShardIdent) → (s.workchain ≡ negsuc 0 → ⊥) → is_shard s ≡ (not (eqb s.prefix 0) && leb 3 (tag s.prefix))
unfolding is_shard
other_workchains_are_asked_as_before s h =
    let not-split = ap not (sym (no_here (equalℤ (negsuc 0) s.workchain) _ (equal_differ (negsuc 0) s.workchain (λ e. h (sym e))))) in
    ap (λ (b : Bool). not (eqb s.prefix 0) && b) (sym (yes_later (leb 3 (tag s.prefix)) (not (splits_masterchain s)) not-split))

module _ (s : ShardIdent) (masterchain : s.workchain ≡ negsuc 0) where
  splits : (s.prefix ≡ 2 ^ 63 → ⊥) → is_shard s ≡ false
  splits h =
      let by-prefix : splits_masterchain s ≡ not (eqb s.prefix (2 ^ 63)) = sym (yes_here _ _ _ (ap (equalℤ (negsuc 0)) masterchain) refl) in
      split_masterchain s (by-prefix ∙ ap not (ne_eqb s.prefix (2 ^ 63) h))

  pub the_masterchain_is_one_shard : is_shard s ≡ eqb s.prefix (2 ^ 63)
  unfolding is_shard lowest_set
  the_masterchain_is_one_shard = go (eqb s.prefix (2 ^ 63)) refl
    where
      go : (b : Bool) → eqb s.prefix (2 ^ 63) ≡ b → is_shard s ≡ b
      go true e = rw (masterchain, eqb-true s.prefix (2 ^ 63) e)
      go false e = splits (eqb-false s.prefix (2 ^ 63) e)

  pub a_part_of_the_masterchain_is_refused_by_2 : (s.prefix ≡ 2 ^ 63 → ⊥)
      → (shard_number s ≡ 2) × ((workchain account : ℕ) → contains_address s workchain account ≡ answer_of (Err NotAShard)) × ((m : List ℕ) → contains_message s m ≡ answer_of (Err NotAShard))
  a_part_of_the_masterchain_is_refused_by_2 h =
      let no = splits h in
      (pick_no _ _ _ no, λ workchain account. sym (refused s _ no), λ m. sym (refused s _ no))

  -- the byte of workchain -1 is 255
  of_it : (byte : ℕ) → byte < 256 → same_workchain s.workchain byte ≡ eqb byte 255
  unfolding same_workchain
  of_it byte h = rw masterchain (sym (same_signed byte 255 h (omega arith)))

  module _ (shard : is_shard s ≡ true) where
    whole : s.prefix ≡ 2 ^ 63
    whole = eqb-true s.prefix (2 ^ 63) (sym the_masterchain_is_one_shard ∙ shard)

    pub a_shard_of_the_masterchain_takes_every_account_of_it : (byte account : ℕ) → byte < 256 → contains_address s byte account ≡ record { number = 0; ours = eqb byte 255 }
    a_shard_of_the_masterchain_takes_every_account_of_it byte account h =
        accepted s _ shard ∙ rw (prefix_8000000000000000_takes_the_whole_workchain s byte account whole ∙ of_it byte h)

    pub a_shard_of_the_masterchain_takes_every_message_of_it : (m : List ℕ) → 33 ≤ length m → get_or m 0 0 < 256 → contains_message s m ≡ record { number = 0; ours = eqb (get_or m 0 0) 255 }
    a_shard_of_the_masterchain_takes_every_message_of_it m long h =
        let account = big_endian (part 1 8 m) in
        let e = prefix_8000000000000000_takes_the_whole_workchain s (get_or m 0 0) account whole ∙ of_it (get_or m 0 0) h in
        accepted s _ shard ∙ rw (message_ours s m account (eqb (get_or m 0 0) 255) long refl (sym e))
