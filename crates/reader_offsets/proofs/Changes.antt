-- Each call's change of the reader is the rule's: what the steps of the code give, put together.
use Prim.Native.Nat.{ℕ, suc, ◌+◌, ◌-◌, ◌*◌, ◌≤◌, ◌<◌}
use mathlib.Core.Path.{◌≡◌, refl, sym, ap, ◌∙◌}
use mathlib.Core.Bool.{Bool, true, false, ◌&&◌}
use mathlib.Core.List.{List, [], ◌∷◌, ◌++◌, map}
use native.Mathlib.Omega.{arith}
use lib.Dec.{leb, ltb}
use lib.ListN.{length, length-map, get_or, take, drop, set, length-set, length-drop, drop_of_length-le, get_or-eq_default}
use lib.Seq.{take-set-lt, drop-set-lt, drop-cons, get_or-drop}
use borrow.Author.Tests.{ltb-true, ltb-false, leb-true, leb-false, le-leb, lt-leb}
use Rattle.rows.specs.Rows.{pick}
use Rattle.rows.proofs.Laws.{pick_yes, pick_no, yes_later, no_later}
use Rattle.messages_buffer.specs.declared.ExternalsPartitionRangeReaderState.{ExternalsPartitionRangeReaderState}
use Rattle.messages_buffer.specs.Fullness.{no_partition, partitions_number, buffer_cap}
use Rattle.messages_buffer.proofs.Laws.{count_within}
use Rattle.range_rules.specs.declared.ExternalsRangeReaderState.{ExternalsRangeReaderState}
use Rattle.reader_rules.specs.declared.ExternalsPartitionReaderState.{ExternalsPartitionReaderState}
use Rattle.reader_rules.specs.declared.ExternalsReader.{ExternalsReader}
use Rattle.reader_rules.specs.State.{with_mark, no_range, held_ranges, state_number, max_ranges}
use Rattle.reader_rules.specs.declared.PartitionTest.TheVariants.{Reached}
use Rattle.reader_rules.specs.declared.Tally.{Tally}
use Rattle.reader_rules.specs.Offsets.{record_at, record_of, range_at, last_range, last_only, on_place, on_last, place_of, with_count, meets, larger, no_tally, tallied, tally_from, tally_of, with_record, on_record, marked, raised_range, finalized, with_ranges, with_held}
use Rattle.externals_reader.proofs.Sound.{sound_parts, sound_counts}
use Rattle.reader_offsets.proofs.Numbers.{slots}
use Rattle.reader_offsets.proofs.Held.{held_length, holds}

-- ---- the last range
module _ (xs : List ExternalsRangeReaderState) (len : ℕ) (fits : len ≤ length xs) where
  pub last_place : (at : ℕ) → at ≡ len - 1 → at ≡ length (take len xs) - 1
  last_place at e = rw (held_length xs len fits) e

  pub last_cons : 0 < len → last_only (take len xs) ≡ last_range (take len xs) ∷ []
  last_cons h =
      let n = held_length xs len fits in
      drop-cons (take len xs) (length (take len xs) - 1) no_range (omega (arith, n))
      ∙ ap (λ (m : List ExternalsRangeReaderState). last_range (take len xs) ∷ m) (drop_of_length-le (take len xs) {i = suc (length (take len xs) - 1)} (omega (arith, n)))

-- where a partition is missing in a range, its offset counts as reached
pub reached_absent : (p : ExternalsPartitionReaderState) (x : ExternalsPartitionRangeReaderState) → x.present ≡ false → meets Reached p x ≡ true
unfolding meets
reached_absent p x e = rw e

-- ---- what a partition's counts add up to
record_small : (t : Tally) (ps : List ExternalsPartitionRangeReaderState) (i : ℕ) → partitions_number ps ≡ 0 → (tallied t (record_at i ps)).count ≤ t.count + buffer_cap
record_small t ps i e = go (record_at i ps).present refl
  where
    inside : (record_at i ps).present ≡ true → i < length ps
    inside p = at (leb (length ps) i) refl
      where
        at : (b : Bool) → leb (length ps) i ≡ b → i < length ps
        at true q =
            absurd
            (let z = sym p ∙ ap (λ (x : ExternalsPartitionRangeReaderState). x.present) (get_or-eq_default ps no_partition (leb-true (length ps) i q)) in
            (let w : ◌≡◌ {A = ℕ} 0 1 = ap (λ (b : Bool). pick b 0 1) z in omega arith))
        at false q = leb-false (length ps) i q

    go : (b : Bool) → (record_at i ps).present ≡ b → (tallied t (record_at i ps)).count ≤ t.count + buffer_cap
    go true p =
        let q = ap (λ (z : Tally). z.count) (pick_yes (record_at i ps).present (record { present = true; count = t.count + (record_at i ps).count; processed = larger t.processed (record_at i ps).processed_offset }) t p) in
        let w = count_within ps e i (inside p) p in
        omega (arith, q, w)
    go false p =
        let q = ap (λ (z : Tally). z.count) (pick_no (record_at i ps).present (record { present = true; count = t.count + (record_at i ps).count; processed = larger t.processed (record_at i ps).processed_offset }) t p) in
        omega (arith, q)

tally_small : (i : ℕ) (t : Tally) (l : List ExternalsRangeReaderState) → ((j : ℕ) → j < length l → partitions_number (get_or l j no_range).by_partitions ≡ 0) → (tally_from i t l).count ≤ t.count + buffer_cap * length l
unfolding tally_from
tally_small i t [] h = omega arith
tally_small i t (r ∷ l) h =
    let a = tally_small i (tallied t (record_of i r)) l (λ j g. h (suc j) (omega arith)) in
    let b = record_small t r.by_partitions i (h 0 (omega arith)) in
    omega (arith, a, b)

module _ (s : ExternalsReader) (sound : 0 ≡ state_number s.reader_state) (whole : length s.reader_state.ranges ≡ max_ranges) where
  few : s.reader_state.len ≤ max_ranges
  few = slots s.reader_state sound

  pub fits : s.reader_state.len ≤ length s.reader_state.ranges
  fits = omega (arith, few, whole)

  counts : (j : ℕ) → j < length (held_ranges s.reader_state) → partitions_number (get_or (held_ranges s.reader_state) j no_range).by_partitions ≡ 0
  counts = sound_counts 0 (held_ranges s.reader_state) (sound_parts s.reader_state (sym sound)).1

  pub sum_fits : (i : ℕ) → (tally_of i (held_ranges s.reader_state)).count < 4294967296
  sum_fits i =
      let q = tally_small i no_tally (held_ranges s.reader_state) counts in
      omega (arith, q, few, held_length s.reader_state.ranges s.reader_state.len fits)

  pub last_fits : (i : ℕ) → (tally_of i (last_only (held_ranges s.reader_state))).count < 4294967296
  last_fits i =
      let l = held_ranges s.reader_state in
      let k = length-drop (length l - 1) l in
      let q = tally_small i no_tally (last_only l) (λ j g. rw (get_or-drop (length l - 1) l j no_range) (counts (length l - 1 + j) (omega (arith, k, g)))) in
      omega (arith, q, k, few, held_length s.reader_state.ranges s.reader_state.len fits)

  -- ---- changes of the last range
  pub last_changed : (at i : ℕ) (f : ExternalsPartitionRangeReaderState → ExternalsPartitionRangeReaderState) (y : ExternalsPartitionRangeReaderState) → at ≡ s.reader_state.len - 1
      → y ≡ f (record_of i (last_range (held_ranges s.reader_state)))
      → with_held (on_place at (with_record i y) (held_ranges s.reader_state)) s ≡ with_held (on_last (on_record i f) (held_ranges s.reader_state)) s
  last_changed at i f y e q = rw q (ap (λ (k : ℕ). with_held (on_place k (with_record i (f (record_of i (last_range (held_ranges s.reader_state))))) (held_ranges s.reader_state)) s) (last_place s.reader_state.ranges s.reader_state.len fits at e))

  pub last_set : (f : ExternalsRangeReaderState → ExternalsRangeReaderState) (at : ℕ) (r : ExternalsRangeReaderState) → at ≡ s.reader_state.len - 1 → r ≡ last_range (held_ranges s.reader_state)
      → with_held (set (held_ranges s.reader_state) at (f r)) s ≡ with_held (on_last f (held_ranges s.reader_state)) s
  last_set f at r e q = rw q (ap (λ (k : ℕ). with_held (set (held_ranges s.reader_state) k (f (last_range (held_ranges s.reader_state)))) s) (last_place s.reader_state.ranges s.reader_state.len fits at e))

  -- ---- what the host has taken
  pub taken_there : (seqno i at taken : ℕ) (x : ExternalsPartitionRangeReaderState) → at ≡ place_of seqno (held_ranges s.reader_state) → x ≡ record_of i (range_at at (held_ranges s.reader_state))
      → with_held (on_place at (with_record i (with_count (x.count - taken) x)) (held_ranges s.reader_state)) s
      ≡ with_held (on_place (place_of seqno (held_ranges s.reader_state)) (on_record i (with_count ((record_of i (range_at (place_of seqno (held_ranges s.reader_state)) (held_ranges s.reader_state))).count - taken))) (held_ranges s.reader_state)) s
  taken_there seqno i at taken x e q =
      ap (λ (z : ExternalsPartitionRangeReaderState). with_held (on_place at (with_record i (with_count (z.count - taken) z)) (held_ranges s.reader_state)) s) q
      ∙ ap (λ (k : ℕ). with_held (on_place k (on_record i (with_count ((record_of i (range_at k (held_ranges s.reader_state))).count - taken))) (held_ranges s.reader_state)) s) e

  -- ---- whether there is a last range
  pub last_held : {x : ExternalsRangeReaderState} → (ltb 0 (length (held_ranges s.reader_state)) ≡ true) × (x ≡ last_range (held_ranges s.reader_state)) → (0 < s.reader_state.len) × (x ≡ last_range (held_ranges s.reader_state))
  last_held h = (rw (held_length s.reader_state.ranges s.reader_state.len fits) at (ltb-true _ _ h.0), h.1)

  pub none_held : ltb 0 (length (held_ranges s.reader_state)) ≡ false → s.reader_state.len ≡ 0
  none_held h = let n = held_length s.reader_state.ranges s.reader_state.len fits in let z = ltb-false _ _ h in omega (arith, n, z)

  -- ---- the last range alone
  module _ (some-range : 0 < s.reader_state.len) (r : ExternalsRangeReaderState) (q : r ≡ last_range (held_ranges s.reader_state)) where
    pub last_retained : with_ranges (set s.reader_state.ranges 0 r) 1 s ≡ with_held (last_only (held_ranges s.reader_state)) s
    last_retained =
        holds s (r ∷ []) _ _ refl (front s.reader_state.ranges (omega (arith, fits)))
        ∙ ap (λ (l : List ExternalsRangeReaderState). with_held l s) (ap (λ (x : ExternalsRangeReaderState). x ∷ []) q ∙ sym (last_cons s.reader_state.ranges s.reader_state.len fits some-range))
      where
        front : (xs : List ExternalsRangeReaderState) → 0 < length xs → set xs 0 r ≡ (r ∷ []) ++ drop 1 xs
        front [] h = absurd (omega arith)
        front (x ∷ xs) h = refl

    module _ (n : ExternalsReader) (e : n ≡ with_ranges (set s.reader_state.ranges 0 r) 1 s) where
      retained_as : (b : Bool) → with_mark (with_held (last_only (held_ranges s.reader_state)) s) b ≡ with_mark n b
      retained_as b = ap (λ (z : ExternalsReader). with_mark z b) (sym (e ∙ last_retained))

      -- the block has a range: the mark stays
      pub mark_stays : s.block_seqno ≤ r.seqno → n ≡ with_mark (with_held (last_only (held_ranges s.reader_state)) s) (s.all_ranges_fully_read && leb s.block_seqno (last_range (held_ranges s.reader_state)).seqno)
      mark_stays h =
          (e ∙ last_retained)
          ∙ ap
          (λ (b : Bool). with_mark (with_held (last_only (held_ranges s.reader_state)) s) b)
          (sym (ap (λ (b : Bool). s.all_ranges_fully_read && b) (ap (λ (z : ExternalsRangeReaderState). leb s.block_seqno z.seqno) (sym q) ∙ le-leb _ _ h) ∙ sym (yes_later s.all_ranges_fully_read true refl)))

      pub mark_goes : r.seqno < s.block_seqno → with_mark n false ≡ with_mark (with_held (last_only (held_ranges s.reader_state)) s) (s.all_ranges_fully_read && leb s.block_seqno (last_range (held_ranges s.reader_state)).seqno)
      mark_goes h =
          sym (retained_as false)
          ∙ ap
          (λ (b : Bool). with_mark (with_held (last_only (held_ranges s.reader_state)) s) b)
          (sym (ap (λ (b : Bool). s.all_ranges_fully_read && b) (ap (λ (z : ExternalsRangeReaderState). leb s.block_seqno z.seqno) (sym q) ∙ lt-leb _ _ h) ∙ sym (no_later s.all_ranges_fully_read false refl)))

  -- ---- finalize
  module _ (ps : List ExternalsPartitionReaderState) where
    pub nothing_to_finalize : s.reader_state.len ≡ 0 → s ≡ with_held (finalized ps (held_ranges s.reader_state)) s
    nothing_to_finalize e =
        sym
        (ap (λ (k : ℕ). with_held (finalized ps (take k s.reader_state.ranges)) s) e
        ∙ ap (λ (k : ℕ). with_ranges s.reader_state.ranges k s) (sym e))

    pub finalize_done : 0 < s.reader_state.len → (last r : ExternalsRangeReaderState) (m : List ExternalsRangeReaderState) → last ≡ last_range (held_ranges s.reader_state)
        → r ≡ raised_range ps (held_ranges s.reader_state) last
        → m ≡ map marked (take s.reader_state.len (set s.reader_state.ranges (s.reader_state.len - 1) r)) ++ drop s.reader_state.len (set s.reader_state.ranges (s.reader_state.len - 1) r)
        → with_ranges m s.reader_state.len s ≡ with_held (finalized ps (held_ranges s.reader_state)) s
    finalize_done h last r m q e g =
        let xs = s.reader_state.ranges in
        let len = s.reader_state.len in
        let size : length (finalized ps (take len xs)) ≡ len = length-map (on_last (raised_range ps (take len xs)) (take len xs)) marked ∙ (length-set (take len xs) (length (take len xs) - 1) _ ∙ held_length xs len fits) in
        holds s (finalized ps (take len xs)) m len (sym size) (g ∙ rw (take-set-lt len xs (len - 1) r (omega arith), drop-set-lt len xs (len - 1) r (omega arith), size, e, q, held_length xs len fits))
