-- `finalize` lowers no offset and clears no mark.
use Rattle.std.proofs.lemmas.Bool.{and_parts, or_right}
use Prim.Native.Nat.{ℕ, suc, zero, ◌+◌, ◌-◌, ◌≤◌, ◌<◌}
use mathlib.Core.Path.{◌≡◌, refl, sym, ap, ◌∙◌, subst}
use mathlib.Core.Bool.{Bool, true, false, ◌&&◌, ◌||◌}
use mathlib.Core.List.{List, [], ◌∷◌, map}
use native.Mathlib.Omega.{arith}
use lib.Dec.{leb, ltb, eqb}
use lib.ListN.{length, set, length-set}
use lib.Seq.{get_or-set_same, get_or-set_other}
use borrow.Author.Tests.{leb-true, leb-false, ltb-true, eqb-true, eqb-false}
use Rattle.rows.specs.Rows.{pick}
use Rattle.rows.proofs.Laws.{pick_yes}
use Rattle.ext_types.specs.Keys.{key_equal}
use Rattle.messages_buffer.specs.declared.ExternalsPartitionRangeReaderState.{ExternalsPartitionRangeReaderState}
use Rattle.messages_buffer.specs.Fullness.{no_partition}
use Rattle.range_rules.specs.declared.ExternalsRangeReaderState.{ExternalsRangeReaderState}
use Rattle.reader_rules.specs.declared.ExternalsPartitionReaderState.{ExternalsPartitionReaderState}
use Rattle.reader_rules.specs.State.{no_range}
use Rattle.reader_rules.specs.declared.Tally.{Tally}
use Rattle.reader_rules.specs.Offsets.{reader_partition, record_of, range_at, last_range, on_last, larger, tallied, tally_from, tally_of, no_tally, with_offsets, offset_raised, raised_range, marked, finalized}
use Rattle.reader_rules.proofs.Each.{each_at}

-- ---- the greatest processed offset
larger_left : (a b : ℕ) → a ≤ larger a b
larger_left a b = go (leb b a) refl
  where
    go : (c : Bool) → leb b a ≡ c → a ≤ pick c a b
    go true q = omega arith
    go false q = let h = leb-false b a q in omega arith

larger_right : (a b : ℕ) → b ≤ larger a b
larger_right a b = go (leb b a) refl
  where
    go : (c : Bool) → leb b a ≡ c → b ≤ pick c a b
    go true q = leb-true b a q
    go false q = omega arith

tallied_rises : (t : Tally) (x : ExternalsPartitionRangeReaderState) → t.processed ≤ (tallied t x).processed
tallied_rises t x = go x.present
  where
    go : (b : Bool) → t.processed ≤ (pick b (record { present = true; count = t.count + x.count; processed = larger t.processed x.processed_offset }) t).processed
    go true = larger_left t.processed x.processed_offset
    go false = omega arith

tally_rises : (i : ℕ) (t : Tally) (l : List ExternalsRangeReaderState) → t.processed ≤ (tally_from i t l).processed
unfolding tally_from
tally_rises i t [] = omega arith
tally_rises i t (r ∷ l) =
    let a = tallied_rises t (record_of i r) in
    let b = tally_rises i (tallied t (record_of i r)) l in
    omega (arith, a, b)

tallied_holds : (t : Tally) (x : ExternalsPartitionRangeReaderState) → x.present ≡ true → x.processed_offset ≤ (tallied t x).processed
tallied_holds t x e =
    let q = ap (λ (z : Tally). z.processed) (pick_yes x.present (record { present = true; count = t.count + x.count; processed = larger t.processed x.processed_offset }) t e) in
    let h = larger_right t.processed x.processed_offset in
    omega (arith, q, h)

-- no range has a processed offset above it
pub tally_is_greatest : (i : ℕ) (t : Tally) (l : List ExternalsRangeReaderState) (j : ℕ) → j < length l → (record_of i (range_at j l)).present ≡ true → (record_of i (range_at j l)).processed_offset ≤ (tally_from i t l).processed
unfolding tally_from
tally_is_greatest i t [] j h e = absurd (omega arith)
tally_is_greatest i t (r ∷ l) zero h e =
    let a = tallied_holds t (record_of i r) e in
    let b = tally_rises i (tallied t (record_of i r)) l in
    omega (arith, a, b)
tally_is_greatest i t (r ∷ l) (suc j) h e = tally_is_greatest i (tallied t (record_of i r)) l j (omega arith) e

-- ---- finalize
raised_not_lower : (p : ExternalsPartitionReaderState) (greatest : ℕ) (x : ExternalsPartitionRangeReaderState) → x.processed_offset ≤ greatest → x.processed_offset ≤ (offset_raised p greatest x).processed_offset
raised_not_lower p greatest x h = go (p.present && ltb greatest p.curr_processed_offset) refl
  where
    go : (b : Bool) → (p.present && ltb greatest p.curr_processed_offset) ≡ b → x.processed_offset ≤ (pick b (with_offsets x.skip_offset p.curr_processed_offset x) x).processed_offset
    go true e = let g = ltb-true greatest p.curr_processed_offset (and_parts p.present _ e).1 in omega arith
    go false e = omega arith

map_at : (f : ExternalsRangeReaderState → ExternalsRangeReaderState) (l : List ExternalsRangeReaderState) (j : ℕ) → j < length l → range_at j (map f l) ≡ f (range_at j l)
map_at f [] j h = absurd (omega arith)
map_at f (r ∷ l) zero h = refl
map_at f (r ∷ l) (suc j) h = map_at f l j (omega arith)

module _ (ps : List ExternalsPartitionReaderState) (l : List ExternalsRangeReaderState) (j : ℕ) (h : j < length l) where
  abbrev change : ExternalsRangeReaderState → ExternalsRangeReaderState
  change = raised_range ps l

  finalized_at : range_at j (finalized ps l) ≡ marked (range_at j (on_last change l))
  finalized_at = map_at marked (on_last change l) j (rw (length-set l (length l - 1) (change (last_range l))) h)

  last_or_same : (P : ExternalsRangeReaderState → Type 0) → (j ≡ length l - 1 → P (change (range_at j l))) → P (range_at j l) → P (range_at j (on_last change l))
  last_or_same P a b = go (eqb j (length l - 1)) refl
    where
      go : (c : Bool) → eqb j (length l - 1) ≡ c → P (range_at j (on_last change l))
      go true q =
          let e = eqb-true j (length l - 1) q in
          subst P (sym (ap (λ (k : ℕ). range_at j (set l k (change (range_at k l)))) (sym e) ∙ get_or-set_same l j (change (range_at j l)) no_range h)) (a e)
      go false q = subst P (sym (get_or-set_other l (length l - 1) j (change (last_range l)) no_range (eqb-false j (length l - 1) q))) b

  -- in a range that has the partition, as every range has where the call is not refused
  pub finalize_lowers_no_offset : (i : ℕ) → i < 8 → (record_of i (range_at j l)).present ≡ true → (record_of i (range_at j l)).processed_offset ≤ (record_of i (range_at j (finalized ps l))).processed_offset
  finalize_lowers_no_offset i g e =
      rw finalized_at
      (last_or_same
      (λ r. (record_of i (range_at j l)).processed_offset ≤ (record_of i r).processed_offset)
      (λ q. rw (each_at 8 (λ k. offset_raised (reader_partition k ps) (tally_of k l).processed (record_of k (range_at j l))) i no_partition g) (raised_not_lower (reader_partition i ps) (tally_of i l).processed (record_of i (range_at j l)) (tally_is_greatest i no_tally l j h e)))
      (omega arith))

  pub finalize_clears_no_mark : (range_at j l).fully_read ≡ true → (range_at j (finalized ps l)).fully_read ≡ true
  finalize_clears_no_mark e =
      ap (λ (r : ExternalsRangeReaderState). r.fully_read) finalized_at
      ∙ (ap (λ (b : Bool). key_equal (range_at j (on_last change l)).current_position (range_at j (on_last change l)).to || b) (last_or_same (λ r. r.fully_read ≡ true) (λ q. e) e)
      ∙ or_right (key_equal (range_at j (on_last change l)).current_position (range_at j (on_last change l)).to) true refl)
