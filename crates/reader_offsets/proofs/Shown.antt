-- What is answered of the partitions: a number where a range has the partition, and the rule's 0 where none has it.
use Prim.Native.Nat.{ℕ, zero, suc}
use mathlib.Core.Path.{◌≡◌, refl, ap}
use mathlib.Core.Bool.{Bool, true, false}
use mathlib.Core.List.{List, [], ◌∷◌, map}
use native.Mathlib.Omega.{arith}
use Rattle.std.specs.Prelude.{Ok}
use Rattle.rows.specs.Rows.{pick}
use Rattle.messages_buffer.specs.declared.ExternalsPartitionRangeReaderState.{ExternalsPartitionRangeReaderState}
use Rattle.range_rules.specs.declared.ExternalsRangeReaderState.{ExternalsRangeReaderState}
use Rattle.reader_rules.specs.declared.Tally.{Tally}
use Rattle.reader_rules.specs.Each.{each}
use Rattle.reader_rules.specs.Offsets.{tally_from, tally_of, tallied, no_tally, shown, shown_by, record_of}
use Rattle.reader_offsets.specs.Answers.{value_of, is_there, shown_if_present, by_partitions_of}

-- of a partition that no range has nothing is counted
abbrev Nothing : Tally → Type 0
Nothing t = t.present ≡ false → (t.count ≡ 0) × (t.processed ≡ 0)

tallied_nothing : (t : Tally) (x : ExternalsPartitionRangeReaderState) → Nothing t → Nothing (tallied t x)
tallied_nothing t x h = go x.present refl
  where
    go : (b : Bool) → x.present ≡ b → Nothing (tallied t x)
    go true e p = absurd (let q : true ≡ false = rw e at p in let z : ◌≡◌ {A = ℕ} 0 1 = ap (λ (b : Bool). pick b 0 1) q in omega arith)
    go false e p = rw e (h (rw e at p))

all_nothing : (i : ℕ) (t : Tally) (l : List ExternalsRangeReaderState) → Nothing t → Nothing (tally_from i t l)
unfolding tally_from
all_nothing i t [] h = h
all_nothing i t (r ∷ l) h = all_nothing i (tallied t (record_of i r)) l (tallied_nothing t (record_of i r) h)

value_shown : (offsets : Bool) (i : ℕ) (l : List ExternalsRangeReaderState) → value_of (shown_if_present offsets (tally_of i l)) ≡ shown offsets (tally_of i l)
value_shown offsets i l = go (tally_of i l) offsets (all_nothing i no_tally l (λ e. (refl, refl)))
  where
    both : (t : Tally) (b o : Bool) → t.present ≡ b → Nothing t → value_of (shown_if_present o t) ≡ shown o t
    both t true o e h = rw e
    both t false true e h = rw (e, (h e).1)
    both t false false e h = rw (e, (h e).0)

    go : (t : Tally) (o : Bool) → Nothing t → value_of (shown_if_present o t) ≡ shown o t
    go t o h = both t t.present o refl h

there_shown : (offsets : Bool) (t : Tally) → is_there (shown_if_present offsets t) ≡ t.present
there_shown offsets t = go t.present refl
  where
    go : (b : Bool) → t.present ≡ b → is_there (shown_if_present offsets t) ≡ b
    go true e = rw e
    go false e = rw e

map_each : {A B : Type 0} (f : A → B) (n : ℕ) (g : ℕ → A) (h : ℕ → B) → ((i : ℕ) → f (g i) ≡ h i) → map f (each n g) ≡ each n h
unfolding each
map_each f zero g h e = refl
map_each {B = B} f (suc n) g h e = rw (e 0) (ap (λ (l : List B). h 0 ∷ l) (map_each f n (λ i. g (suc i)) (λ i. h (suc i)) (λ i. e (suc i))))

pub shown_all : (offsets : Bool) (l : List ExternalsRangeReaderState) → by_partitions_of (Ok (each 8 (λ i. shown_if_present offsets (tally_of i l)))) ≡ shown_by offsets l
shown_all offsets l =
    rw (
      map_each value_of 8 (λ i. shown_if_present offsets (tally_of i l)) (λ i. shown offsets (tally_of i l)) (λ i. value_shown offsets i l),
      map_each is_there 8 (λ i. shown_if_present offsets (tally_of i l)) (λ i. (tally_of i l).present) (λ i. there_shown offsets (tally_of i l)),
    )
