-- Question 5 of the reader is kept: by every change of its ranges, by the next range and by a read of all.
use Rattle.std.proofs.lemmas.Bool.{and_parts}
use Rattle.std.specs.Prelude.{Option, None, Some}
use Prim.Native.Nat.{ℕ, zero, suc, ◌+◌, ◌-◌, ◌≤◌, ◌<◌}
use mathlib.Core.Path.{◌≡◌, refl, sym, ap, subst, ◌∙◌}
use mathlib.Core.Bool.{Bool, true, false, not, ◌&&◌, ◌||◌}
use mathlib.Core.List.{List, [], ◌∷◌, ◌++◌, map}
use native.Mathlib.Omega.{arith}
use native.Mathlib.Numerals.{add-one}
use lib.Dec.{eqb, leb, ltb}
use lib.ListN.{length, set, take, drop, length-take, length-map, length-set}
use lib.Seq.{sets-eq, set_out, take_all, take-length, take-append_seam}
use borrow.Author.Tests.{eqb-true, eq-eqb, leb-true, leb-false, le-leb, ltb-true, ltb-false, not-true}
use Rattle.rows.specs.Rows.{pick}
use Rattle.rows.proofs.Laws.{pick_both, pick_yes}
use Rattle.ext_types.specs.declared.ExternalKey.{ExternalKey}
use Rattle.messages_buffer.specs.declared.ExternalsPartitionRangeReaderState.{ExternalsPartitionRangeReaderState}
use Rattle.messages_buffer.specs.Fullness.{buffer_cap, count_fits, every, partitions_number}
use Rattle.messages_buffer.proofs.Laws.{number_zero}
use Rattle.range_rules.specs.declared.ExternalsRangeReaderState.{ExternalsRangeReaderState}
use Rattle.range_rules.specs.declared.ReadNextExternalsMode.{ReadNextExternalsMode}
use Rattle.reader_rules.specs.declared.ExternalsPartitionReaderState.{ExternalsPartitionReaderState}
use Rattle.reader_rules.specs.declared.ExternalsReaderState.{ExternalsReaderState}
use Rattle.reader_rules.specs.declared.ExternalsReader.{ExternalsReader}
use Rattle.reader_rules.specs.declared.Fixed.{Fixed}
use Rattle.reader_rules.specs.Turns.{RangesRead}
use Rattle.reader_rules.specs.Each.{each}
use Rattle.reader_rules.specs.State.{held_ranges, max_ranges, open_ranges_limit_of, range_sound, sound_ranges_from, with_to_and_position}
use Rattle.reader_rules.specs.Rules.{range_entered, state_entered, last_or, next_partition, next_range, continues, wants_next, is_own, moved_to_end, settled, Told, numbered, added, read_of, after_turn, OneRange, with_next_range, ranges_read}
use Rattle.reader_rules.specs.Offsets.{reader_partition, record_at, record_of, range_at, last_only, on_place, tally_of, with_count, dropped, skip_raised, offset_raised, on_record, from_position, marked, raised_range, finalized, with_held}
use Rattle.reader_rules.proofs.Turns.{the_read_of_all_keeps_what_each_range's_read_keeps}

-- ---- counts
abbrev Fits : ExternalsRangeReaderState → Type 0
Fits r = partitions_number r.by_partitions ≡ 0

counts_of : (ps : List ExternalsPartitionRangeReaderState) → partitions_number ps ≡ 0 → every count_fits ps ≡ true
unfolding partitions_number
counts_of ps e = number_zero (every count_fits ps) 5 (omega arith) e

counts_in : (ps : List ExternalsPartitionRangeReaderState) → every count_fits ps ≡ true → partitions_number ps ≡ 0
unfolding partitions_number
counts_in ps e = pick_yes _ _ _ e

-- a partition past the end has no count
count_at : (ps : List ExternalsPartitionRangeReaderState) (i : ℕ) → every count_fits ps ≡ true → count_fits (record_at i ps) ≡ true
unfolding every
count_at [] i e = refl
count_at (p ∷ ps) zero e = (and_parts (count_fits p) (every count_fits ps) e).0
count_at (p ∷ ps) (suc i) e = count_at ps i (and_parts (count_fits p) (every count_fits ps) e).1

count_put : (ps : List ExternalsPartitionRangeReaderState) (i : ℕ) (y : ExternalsPartitionRangeReaderState) → count_fits y ≡ true → every count_fits ps ≡ true → every count_fits (set ps i y) ≡ true
unfolding every
count_put [] i y h e = refl
count_put (p ∷ ps) zero y h e = rw h (and_parts (count_fits p) (every count_fits ps) e).1
count_put (p ∷ ps) (suc i) y h e = let q = and_parts (count_fits p) (every count_fits ps) e in rw q.0 (count_put ps i y h q.1)

count_each : (n : ℕ) (f : ℕ → ExternalsPartitionRangeReaderState) → ((i : ℕ) → count_fits (f i) ≡ true) → every count_fits (each n f) ≡ true
unfolding every each
count_each zero f h = refl
count_each (suc n) f h = rw (h 0) (count_each n (λ i. f (suc i)) (λ i. h (suc i)))

-- a record gives place to one that fits
record_fits : (i : ℕ) (f : ExternalsPartitionRangeReaderState → ExternalsPartitionRangeReaderState) (r : ExternalsRangeReaderState) → (count_fits (record_of i r) ≡ true → count_fits (f (record_of i r)) ≡ true) → Fits r → Fits (on_record i f r)
record_fits i f r h e =
    let c = counts_of r.by_partitions e in
    counts_in (set r.by_partitions i (f (record_of i r))) (count_put r.by_partitions i (f (record_of i r)) (h (count_at r.by_partitions i c)) c)

raised_fits : (ps : List ExternalsPartitionReaderState) (l : List ExternalsRangeReaderState) (r : ExternalsRangeReaderState) → Fits r → Fits (raised_range ps l r)
raised_fits ps l r e =
    let f : ℕ → ExternalsPartitionRangeReaderState = λ i. offset_raised (reader_partition i ps) (tally_of i l).processed (record_of i r) in
    let P : ExternalsPartitionRangeReaderState → Type 0 = λ x. count_fits x ≡ true in
    counts_in (each 8 f) (count_each 8 f (λ i. let c = count_at r.by_partitions i (counts_of r.by_partitions e) in pick_both P ((reader_partition i ps).present && ltb (tally_of i l).processed (reader_partition i ps).curr_processed_offset) _ _ c c))

-- the next range's buffers are empty
pub next_fits : (l : List ExternalsPartitionReaderState) → every count_fits (map next_partition l) ≡ true
unfolding every
next_fits [] = refl
next_fits (p ∷ l) = go p.present (every count_fits (map next_partition l)) (next_fits l)
  where
    go : (b c : Bool) → c ≡ true → ((not b || true) && c) ≡ true
    go true c e = e
    go false c e = e

-- ---- ranges by rising seqno
-- q may stand where r stood
pub record InPlaceOf (r q : ExternalsRangeReaderState) : Type 0 where
  pub seqno : q.seqno ≡ r.seqno
  pub counts : partitions_number q.by_partitions ≡ 0

sound_first : (low : ℕ) (r : ExternalsRangeReaderState) (l : List ExternalsRangeReaderState) → sound_ranges_from low (r ∷ l) ≡ true → (low ≤ r.seqno) × (Fits r) × (sound_ranges_from (suc r.seqno) l ≡ true)
unfolding sound_ranges_from
sound_first low r l e =
    let a = and_parts (range_sound low r) (sound_ranges_from (suc r.seqno) l) e in
    let b = and_parts (leb low r.seqno) (eqb (partitions_number r.by_partitions) 0) a.0 in
    (leb-true low r.seqno b.0, eqb-true (partitions_number r.by_partitions) 0 b.1, a.1)

sound_cons : (low : ℕ) (r : ExternalsRangeReaderState) (l : List ExternalsRangeReaderState) → low ≤ r.seqno → Fits r → sound_ranges_from (suc r.seqno) l ≡ true → sound_ranges_from low (r ∷ l) ≡ true
unfolding sound_ranges_from
sound_cons low r l h e s = rw (le-leb low r.seqno h, eq-eqb (partitions_number r.by_partitions) 0 e) s

sound_lower : (low high : ℕ) (l : List ExternalsRangeReaderState) → low ≤ high → sound_ranges_from high l ≡ true → sound_ranges_from low l ≡ true
unfolding sound_ranges_from
sound_lower low high [] h e = refl
sound_lower low high (r ∷ l) h e = let p = sound_first high r l e in sound_cons low r l (omega (arith, h, p.0)) p.1 p.2

sound_drop : (k low : ℕ) (l : List ExternalsRangeReaderState) → sound_ranges_from low l ≡ true → sound_ranges_from 0 (drop k l) ≡ true
sound_drop zero low l e = sound_lower 0 low l (omega arith) e
sound_drop (suc k) low [] e = sound_lower 0 low [] (omega arith) e
sound_drop (suc k) low (r ∷ l) e = sound_drop k (suc r.seqno) l (sound_first low r l e).2

sound_map : (f : ExternalsRangeReaderState → ExternalsRangeReaderState) → ((r : ExternalsRangeReaderState) → Fits r → InPlaceOf r (f r)) → (low : ℕ) (l : List ExternalsRangeReaderState) → sound_ranges_from low l ≡ true → sound_ranges_from low (map f l) ≡ true
unfolding sound_ranges_from
sound_map f h low [] e = refl
sound_map f h low (r ∷ l) e =
    let p = sound_first low r l e in
    let s = h r p.1 in
    sound_cons low (f r) (map f l) (omega (arith, p.0, s.seqno)) s.counts (subst (λ (n : ℕ). sound_ranges_from (suc n) (map f l) ≡ true) (sym s.seqno) (sound_map f h (suc r.seqno) l p.2))

-- of the first n, where one gives place to another
sound_set : (n i low : ℕ) (l : List ExternalsRangeReaderState) (q : ExternalsRangeReaderState) → (i < length l → Fits (range_at i l) → InPlaceOf (range_at i l) q) → sound_ranges_from low (take n l) ≡ true → sound_ranges_from low (take n (set l i q)) ≡ true
sound_set zero i low l q h e = e
sound_set (suc n) i low [] q h e = e
sound_set (suc n) zero low (r ∷ l) q h e =
    let p = sound_first low r (take n l) e in
    let s = h (omega arith) p.1 in
    sound_cons low q (take n l) (omega (arith, p.0, s.seqno)) s.counts (subst (λ (m : ℕ). sound_ranges_from (suc m) (take n l) ≡ true) (sym s.seqno) p.2)
sound_set (suc n) (suc i) low (r ∷ l) q h e =
    let p = sound_first low r (take n l) e in
    sound_cons low r (take n (set l i q)) p.0 p.1 (sound_set n i (suc r.seqno) l q (λ a. h (omega (arith, a))) p.2)

-- ---- the changes of ranges
module _ (l : List ExternalsRangeReaderState) (sound : sound_ranges_from 0 l ≡ true) where
  place_sound : (i : ℕ) (f : ExternalsRangeReaderState → ExternalsRangeReaderState) → (Fits (range_at i l) → InPlaceOf (range_at i l) (f (range_at i l))) → sound_ranges_from 0 (on_place i f l) ≡ true
  place_sound i f h =
      let q = f (range_at i l) in
      rw (take_all (length l) (set l i q) (omega (arith, length-set l i q))) at (sound_set (length l) i 0 l q (λ a. h) (rw (take-length l) sound))

  pub new_keeps_question_5 : sound_ranges_from 0 (map range_entered l) ≡ true
  new_keeps_question_5 = sound_map range_entered (λ r e. record { seqno = refl; counts = e }) 0 l sound

  pub the_last_range_alone_answers_question_5 : sound_ranges_from 0 (last_only l) ≡ true
  the_last_range_alone_answers_question_5 = sound_drop (length l - 1) 0 l sound

  pub a_range_from_its_position_keeps_question_5 : (i : ℕ) → sound_ranges_from 0 (on_place i from_position l) ≡ true
  a_range_from_its_position_keeps_question_5 i = place_sound i from_position (λ e. record { seqno = refl; counts = e })

  pub a_dropped_offset_keeps_question_5 : (i p : ℕ) (skip : Bool) → sound_ranges_from 0 (on_place i (on_record p (dropped skip)) l) ≡ true
  a_dropped_offset_keeps_question_5 i p skip = place_sound i (on_record p (dropped skip)) (λ e. record { seqno = refl; counts = record_fits p (dropped skip) (range_at i l) (λ c. c) e })

  pub a_raised_skip_offset_keeps_question_5 : (i p offset : ℕ) → sound_ranges_from 0 (on_place i (on_record p (skip_raised offset)) l) ≡ true
  a_raised_skip_offset_keeps_question_5 i p offset =
      let P : ExternalsPartitionRangeReaderState → Type 0 = λ x. count_fits x ≡ true in
      let y = record_of p (range_at i l) in
      place_sound i (on_record p (skip_raised offset)) (λ e. record { seqno = refl; counts = record_fits p (skip_raised offset) (range_at i l) (λ c. pick_both P (leb offset y.processed_offset) _ _ c c) e })

  pub messages_taken_keep_question_5 : (i p taken : ℕ) → sound_ranges_from 0 (on_place i (on_record p (with_count ((record_of p (range_at i l)).count - taken))) l) ≡ true
  messages_taken_keep_question_5 i p taken =
      let y = record_of p (range_at i l) in
      place_sound i (on_record p (with_count (y.count - taken))) (λ e. record { seqno = refl; counts = record_fits p (with_count (y.count - taken)) (range_at i l) (fewer y.present y.count) e })
    where
      fewer : (b : Bool) (k : ℕ) → (not b || leb k buffer_cap) ≡ true → (not b || leb (k - taken) buffer_cap) ≡ true
      fewer true k e = let h = leb-true k buffer_cap e in le-leb (k - taken) buffer_cap (omega arith)
      fewer false k e = refl

  pub finalize_keeps_question_5 : (ps : List ExternalsPartitionReaderState) → sound_ranges_from 0 (finalized ps l) ≡ true
  finalize_keeps_question_5 ps =
      let last = length l - 1 in
      sound_map marked (λ r e. record { seqno = refl; counts = e }) 0 (on_place last (raised_range ps l) l) (place_sound last (raised_range ps l) (λ e. record { seqno = refl; counts = raised_fits ps l (range_at last l) e }))

-- ---- the ranges that a state holds
pub held_behind : (l : List ExternalsRangeReaderState) (s : ExternalsReader) → held_ranges (with_held l s).reader_state ≡ l
held_behind l s = take-append_seam l (drop (length l) s.reader_state.ranges)

pub held_entered : (limits : List ℕ) (s : ExternalsReaderState) → held_ranges (state_entered limits s) ≡ map range_entered (held_ranges s)
held_entered limits s =
    let vs = map range_entered (take s.len s.ranges) in
    let n : 0 + length vs ≤ length s.ranges = omega (arith, length-map (take s.len s.ranges) range_entered, length-take s.len s.ranges) in
    let z : 0 + length vs ≡ length vs = omega arith in
    ap (take s.len) (sets-eq vs s.ranges 0 n ∙ ap (λ (k : ℕ). vs ++ drop k s.ranges) z) ∙ go s.len s.ranges
  where
    go : (n : ℕ) (l : List ExternalsRangeReaderState) → take n (map range_entered (take n l) ++ drop (length (map range_entered (take n l))) l) ≡ map range_entered (take n l)
    go zero l = refl
    go (suc n) [] = refl
    go (suc n) (r ∷ l) = ap (λ (m : List ExternalsRangeReaderState). range_entered r ∷ m) (go n l)

-- ---- the next range
abbrev pub last_seqno : ℕ → List ExternalsRangeReaderState → ℕ
last_seqno n l = last_or 0 (λ r. r.seqno) n l

rising : (n low : ℕ) (l : List ExternalsRangeReaderState) → n < length l → sound_ranges_from low (take (suc n) l) ≡ true → low ≤ (range_at n l).seqno
rising n low [] h e = absurd (omega arith)
rising zero low (r ∷ l) h e = (sound_first low r [] e).0
rising (suc n) low (r ∷ l) h e =
    let p = sound_first low r (take (suc n) l) e in
    let k = rising n (suc r.seqno) l (omega arith) p.2 in
    omega (arith, p.0, k)

above_last_lem : (n low : ℕ) (l : List ExternalsRangeReaderState) (q : ExternalsRangeReaderState) → n < length l → low ≤ q.seqno → sound_ranges_from low (take n l) ≡ true → last_seqno n l < q.seqno → Fits q
    → sound_ranges_from low (take (suc n) (set l n q)) ≡ true
unfolding sound_ranges_from
above_last_lem n low [] q h a e b f = absurd (omega arith)
above_last_lem zero low (r ∷ l) q h a e b f = sound_cons low q [] a f refl
above_last_lem (suc zero) low (r ∷ l) q h a e b f =
    let p = sound_first low r [] e in
    sound_cons low r (take 1 (set l 0 q)) p.0 p.1 (above_last_lem 0 (suc r.seqno) l q (omega arith) (omega (arith, b)) refl (omega (arith, b)) f)
above_last_lem (suc (suc n)) low (r ∷ l) q h a e b f =
    let p = sound_first low r (take (suc n) l) e in
    let g = rising n (suc r.seqno) l (omega arith) p.2 in
    sound_cons low r (take (suc (suc n)) (set l (suc n) q)) p.0 p.1 (above_last_lem (suc n) (suc r.seqno) l q (omega arith) (omega (arith, b, g)) p.2 b f)

-- where there is no slot for it, the ranges stay
pub a_range_above_the_last_keeps_question_5 : (n : ℕ) (l : List ExternalsRangeReaderState) (q : ExternalsRangeReaderState) → sound_ranges_from 0 (take n l) ≡ true → last_seqno n l < q.seqno → partitions_number q.by_partitions ≡ 0
    → sound_ranges_from 0 (take (n + 1) (set l n q)) ≡ true
a_range_above_the_last_keeps_question_5 n l q e b f = rw (add-one n) (go (ltb n (length l)) refl)
  where
    go : (c : Bool) → ltb n (length l) ≡ c → sound_ranges_from 0 (take (suc n) (set l n q)) ≡ true
    go true h = above_last_lem n 0 l q (ltb-true n (length l) h) (omega arith) e b f
    go false h =
        let k = ltb-false n (length l) h in
        rw (set_out l n q k, take_all (suc n) l (omega arith)) (rw (take_all n l k) at e)

module _ (x : Fixed) (r : RangesRead) (w : wants_next x r ≡ true) where
  -- the last two of its tests
  pub wanted : (r.len < open_ranges_limit_of x.params) × (last_seqno r.len r.ranges < x.block_seqno)
  unfolding wants_next
  wanted =
      let a = (and_parts (eqb r.so_far.number 0) _ w).1 in
      let b = (and_parts r.so_far.all_read _ a).1 in
      let c = (and_parts (continues x.mode) _ b).1 in
      let d = (and_parts (not x.params.new_is_some) _ c).1 in
      let e = and_parts (not (leb (open_ranges_limit_of x.params) r.len)) _ d in
      (leb-false _ _ (not-true _ e.0), ltb-true _ _ e.1)

  pub the_next_range_keeps_question_5 : sound_ranges_from 0 (take r.len r.ranges) ≡ true → sound_ranges_from 0 (take (with_next_range x r).len (with_next_range x r).ranges) ≡ true
  unfolding with_next_range next_range
  the_next_range_keeps_question_5 e =
      a_range_above_the_last_keeps_question_5 r.len r.ranges (next_range x.block_seqno x.next_chain_time x.by_partitions r.ranges r.len) e wanted.1 (counts_in _ (next_fits x.by_partitions))

-- ---- a read of all
-- every slot has eight records, as its type says
abbrev pub Eight : List ExternalsRangeReaderState → Type 0
Eight l = (i : ℕ) → i < length l → length (range_at i l).by_partitions ≡ 8

eight_set : (l : List ExternalsRangeReaderState) (i : ℕ) (q : ExternalsRangeReaderState) → Eight l → (i < length l → length q.by_partitions ≡ 8) → Eight (set l i q)
eight_set [] i q h f j a = absurd (omega arith)
eight_set (r ∷ l) zero q h f zero a = f (omega arith)
eight_set (r ∷ l) zero q h f (suc j) a = h (suc j) a
eight_set (r ∷ l) (suc i) q h f zero a = h 0 (omega arith)
eight_set (r ∷ l) (suc i) q h f (suc j) a = eight_set l i q (λ k b. h (suc k) (omega arith)) (λ b. f (omega arith)) j (omega arith)

-- a range that was read stays as it is, or is moved to the last imported entry
pub settled_either : (P : ExternalsRangeReaderState → Type 0) (x : Fixed) (r : ExternalsRangeReaderState) → P r → ((key : ExternalKey) → P (with_to_and_position r key key)) → P (settled x r)
unfolding settled
settled_either P x r same moved = pick_both P (r.fully_read && is_own x r.seqno) _ _ (go x.imported) same
  where
    go : (i : Option ExternalKey) → P (moved_to_end i r)
    go None = same
    go (Some key) = moved key

-- the range that a read left, moved to the last imported entry or not
pub record LeftOf (range after : ExternalsRangeReaderState) : Type 0 where
  pub in_place : InPlaceOf range after
  pub eight : length after.by_partitions ≡ 8

settled_left : (x : Fixed) (range r : ExternalsRangeReaderState) → LeftOf range r → LeftOf range (settled x r)
settled_left x range r h = settled_either (LeftOf range) x r h (λ key. record { in_place = record { seqno = h.in_place.seqno; counts = h.in_place.counts }; eight = h.eight })

-- question 5 of what the turns came to
pub record Sound (r : RangesRead) : Type 0 where
  pub few : r.len ≤ max_ranges
  pub sound : sound_ranges_from 0 (take r.len r.ranges) ≡ true
  pub eight : Eight r.ranges

turn_sound : (x : Fixed) (i : ℕ) (r : RangesRead) (a : Told) → (i < length r.ranges → a.number ≡ 0 → LeftOf (range_at i r.ranges) a.range) → Sound r → Sound (after_turn x i r a)
unfolding after_turn
turn_sound x i r a h s = go (eqb a.number 0) refl
  where
    go : (b : Bool) → eqb a.number 0 ≡ b → Sound (pick b (read_of (added r.so_far a) (set r.ranges i (settled x a.range)) r.len) (read_of (numbered a.number r.so_far) r.ranges r.len))
    go true e =
        let g : i < length r.ranges → LeftOf (range_at i r.ranges) (settled x a.range) = λ j. settled_left x (range_at i r.ranges) a.range (h j (eqb-true a.number 0 e)) in
        record {
          few = s.few;
          sound = sound_set r.len i 0 r.ranges (settled x a.range) (λ j f. (g j).in_place) s.sound;
          eight = eight_set r.ranges i (settled x a.range) s.eight (λ j. (g j).eight);
        }
    go false e = record { few = s.few; sound = s.sound; eight = s.eight }

-- whose ranges' reads keep it
pub a_read_of_all_keeps_question_5 : (one : OneRange) (x : Fixed) → open_ranges_limit_of x.params ≤ max_ranges → length x.by_partitions ≡ 8
    → ((pops : ℕ) (mode : ReadNextExternalsMode) (range : ExternalsRangeReaderState) (room : ℕ) → length range.by_partitions ≡ 8 → (one pops mode range room).value.number ≡ 0 → LeftOf range (one pops mode range room).value.range)
    → (r : RangesRead) → Sound r → Sound (ranges_read one x r).value
unfolding with_next_range next_range
a_read_of_all_keeps_question_5 one x limit parts reads =
    the_read_of_all_keeps_what_each_range's_read_keeps one x (λ k. Sound) (λ k r h. h) (λ k r h. record { few = h.few; sound = h.sound; eight = h.eight }) (λ k i r h. turn_sound x i r _ (λ j. reads _ _ _ _ (h.eight i j)) h) next
  where
    next : (r : RangesRead) → wants_next x r ≡ true → Sound r → Sound (with_next_range x r)
    next r w h =
        record {
          few = omega (arith, limit, (wanted x r w).0);
          sound = the_next_range_keeps_question_5 x r w h.sound;
          eight = eight_set r.ranges r.len (next_range x.block_seqno x.next_chain_time x.by_partitions r.ranges r.len) h.eight (λ j. length-map x.by_partitions next_partition ∙ parts);
        }
