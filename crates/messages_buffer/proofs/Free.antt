-- Laws of free places: the smallest over a range's partitions, full buffers, and one message more in a buffer.
use Rattle.messages_buffer.proofs.Laws.{buffers_length}
use Prim.Native.Nat.{ℕ, min, suc, zero, ◌+◌, ◌-◌, ◌≤◌, ◌<◌}
use mathlib.Core.Path.{◌≡◌, refl, sym, ap, ◌∙◌}
use mathlib.Core.Bool.{Bool, true, false, not, ◌&&◌, ◌||◌}
use mathlib.Core.List.{List, [], ◌∷◌}
use mathlib.Core.Logic.{◌⊎◌, inl, inr}
use native.Mathlib.Omega.{arith}
use lib.Dec.{eqb, leb, ltb}
use lib.ListN.{length, get_or, set, drop, drop_of_length-le}
use Rattle.std.specs.List.{fold, zip}
use borrow.Author.Tests.{ne_eqb, eq-eqb, eqb-true, eqb-false, leb-true, leb-false, ltb-true, ltb-false}
use Rattle.rows.specs.Rows.{pick}
use Rattle.rows.proofs.Laws.{pick_yes, pick_no}
use Rattle.messages_buffer.specs.declared.ExternalsPartitionRangeReaderState.{ExternalsPartitionRangeReaderState}
use Rattle.messages_buffer.specs.Fullness.{buffer_cap, no_partition, one_more, every, Buffer, buffers, has_room, free_in, is_full, least, with_free, smallest, range_free}

-- ---- the smaller of two
-- as `min` answers
pub min_is_least : (a b : ℕ) → min a b ≡ least a b
min_is_least a b = go (ltb b a) refl
  where
    go : (t : Bool) → ltb b a ≡ t → min a b ≡ pick t b a
    go true h = let g = ltb-true b a h in omega arith
    go false h = let g = ltb-false b a h in omega arith

least_left : (a b : ℕ) → least a b ≤ a
least_left a b = go (ltb b a) refl
  where
    go : (t : Bool) → ltb b a ≡ t → pick t b a ≤ a
    go true h = let g = ltb-true b a h in omega arith
    go false h = omega arith

least_right : (a b : ℕ) → least a b ≤ b
least_right a b = go (ltb b a) refl
  where
    go : (t : Bool) → ltb b a ≡ t → pick t b a ≤ b
    go true h = omega arith
    go false h = ltb-false b a h

least_either : (a b : ℕ) → (least a b ≡ a) ⊎ (least a b ≡ b)
least_either a b = go (ltb b a)
  where
    go : (t : Bool) → (pick t b a ≡ a) ⊎ (pick t b a ≡ b)
    go true = inr refl
    go false = inl refl

at_most_least : (n a b : ℕ) → n ≤ a → n ≤ b → n ≤ least a b
at_most_least n a b h g = go (ltb b a)
  where
    go : (t : Bool) → n ≤ pick t b a
    go true = g
    go false = h

least_of_more : (a b : ℕ) → b ≤ a → least a b ≡ b
least_of_more a b h =
    let r = least_right a b in
    let g = at_most_least b a b h (omega arith) in
    omega arith

least_turn : (a b : ℕ) → least a b ≡ least b a
least_turn a b =
    let f = at_most_least (least a b) b a (least_right a b) (least_left a b) in
    let g = at_most_least (least b a) a b (least_right b a) (least_left b a) in
    omega arith

least_join : (a b c : ℕ) → least a (least b c) ≡ least (least a b) c
least_join a b c =
    let x = least a (least b c) in
    let y = least (least a b) c in
    let p = least_left a (least b c) in
    let q = least_right a (least b c) in
    let r = least_left b c in
    let s = least_right b c in
    let t = least_left (least a b) c in
    let u = least_right (least a b) c in
    let v = least_left a b in
    let w = least_right a b in
    let f : x ≤ y = at_most_least x (least a b) c (at_most_least x a b p (omega arith)) (omega arith) in
    let g : y ≤ x = at_most_least y a (least b c) (omega arith) (at_most_least y b c (omega arith) u) in
    omega arith

-- the order in which buffers are looked at does not matter
least_swap : (a b c : ℕ) → least (least a b) c ≡ least (least a c) b
least_swap a b c = sym (least_join a b c) ∙ (ap (least a) (least_turn b c) ∙ least_join a c b)

-- ---- one partition more
pub with_free_within : (limit : ℕ) (p : ExternalsPartitionRangeReaderState) (n : ℕ) → with_free limit p n ≤ n
with_free_within limit p n = go p.present
  where
    go : (t : Bool) → pick t (least n (free_in p.count limit)) n ≤ n
    go true = least_left n (free_in p.count limit)
    go false = omega arith

with_fewer : (limit : ℕ) (p : ExternalsPartitionRangeReaderState) (n m : ℕ) → with_free limit p (least n m) ≡ least (with_free limit p n) m
with_fewer limit p n m = go p.present
  where
    go : (t : Bool) → pick t (least (least n m) (free_in p.count limit)) (least n m) ≡ least (pick t (least n (free_in p.count limit)) n) m
    go true = least_swap n m (free_in p.count limit)
    go false = refl

-- ---- the smallest over the two tables, by index
smallest_within : (l : List Buffer) → smallest l ≤ buffer_cap
unfolding smallest
smallest_within [] = omega arith
smallest_within (b ∷ l) =
    let h = smallest_within l in
    let g = with_free_within b.limit b.partition (smallest l) in
    omega arith

-- the fold over the two tables zipped
folded : (ls : List ℕ) (ps : List ExternalsPartitionRangeReaderState) (n : ℕ) → n ≤ buffer_cap → fold (λ m q. with_free q.0 q.1 m) n (zip ls ps) ≡ least n (smallest (buffers ls ps))
unfolding buffers smallest
folded [] ps n h = sym (least_turn n buffer_cap ∙ least_of_more buffer_cap n h)
folded (l ∷ ls) [] n h = sym (least_turn n buffer_cap ∙ least_of_more buffer_cap n h)
folded (l ∷ ls) (p ∷ ps) n h =
    let rest = smallest (buffers ls ps) in
    let w = with_free_within l p n in
    folded ls ps (with_free l p n) (omega arith)
    ∙ (sym (with_fewer l p n rest) ∙ (ap (with_free l p) (least_turn n rest) ∙ (with_fewer l p rest n ∙ least_turn (with_free l p rest) n)))

pub free_of_all : (ls : List ℕ) (ps : List ExternalsPartitionRangeReaderState) → fold (λ m q. with_free q.0 q.1 m) buffer_cap (zip ls ps) ≡ range_free ls ps
unfolding range_free
free_of_all ls ps = folded ls ps buffer_cap (omega arith) ∙ least_of_more buffer_cap (smallest (buffers ls ps)) (smallest_within (buffers ls ps))

-- behind the last buffer no place is lost
pub free_end : (ls : List ℕ) (ps : List ExternalsPartitionRangeReaderState) → length ls ≡ length ps → (i n : ℕ) → length ls ≤ i → n ≤ buffer_cap → least n (smallest (drop i (buffers ls ps))) ≡ n
unfolding smallest
free_end ls ps same i n h g =
    let k : length (buffers ls ps) ≤ i = rw (buffers_length ls ps same) h in
    rw (drop_of_length-le (buffers ls ps) k) (least_turn n buffer_cap ∙ least_of_more buffer_cap n g)

-- ---- document 01: "A buffer is full at count at least its limit. Any full buffer of a range stops that range."
pub full_at_count_at_least_its_limit : (count limit : ℕ) → is_full count limit ≡ leb limit count
unfolding is_full free_in
full_at_count_at_least_its_limit count limit = go (leb limit count) refl
  where
    go : (b : Bool) → leb limit count ≡ b → eqb (limit - count) 0 ≡ b
    go true h = eq-eqb (limit - count) 0 (let g = leb-true limit count h in omega arith)
    go false h = ne_eqb (limit - count) 0 (λ (e : limit - count ≡ 0). let g = leb-false limit count h in omega arith)

least_zero : (a b : ℕ) → eqb (least a b) 0 ≡ (eqb a 0 || eqb b 0)
least_zero a b = go (ltb b a) refl (eqb a 0) (eqb b 0) refl refl
  where
    go : (t : Bool) → ltb b a ≡ t → (e f : Bool) → eqb a 0 ≡ e → eqb b 0 ≡ f → eqb (pick t b a) 0 ≡ (e || f)
    go true h true f ea eb = let g = ltb-true b a h in let z = eqb-true a 0 ea in absurd (omega arith)
    go true h false f ea eb = eb
    go false h true f ea eb = ea
    go false h false true ea eb = let g = ltb-false b a h in let z = eqb-true b 0 eb in absurd (eqb-false a 0 ea (omega arith))
    go false h false false ea eb = ea

-- of one partition more and the rest
full_or_rest : (present : Bool) (free rest : ℕ) (room : Bool) → eqb rest 0 ≡ not room → eqb (pick present (least rest free) rest) 0 ≡ not (not (present && eqb free 0) && room)
full_or_rest true free rest room h = least_zero rest free ∙ (ap (λ (d : Bool). d || eqb free 0) h ∙ either (eqb free 0) room)
  where
    either : (a c : Bool) → (not c || a) ≡ not (not a && c)
    either true true = refl
    either true false = refl
    either false true = refl
    either false false = refl
full_or_rest false free rest room h = h

all_but_full : (l : List Buffer) → eqb (smallest l) 0 ≡ not (every has_room l)
unfolding smallest every is_full
all_but_full [] = refl
all_but_full (b ∷ l) = full_or_rest b.partition.present (free_in b.partition.count b.limit) (smallest l) (every has_room l) (all_but_full l)

pub full_at_0_free : (ls : List ℕ) (ps : List ExternalsPartitionRangeReaderState) → eqb (range_free ls ps) 0 ≡ not (every has_room (buffers ls ps))
unfolding range_free
full_at_0_free ls ps = all_but_full (buffers ls ps)

-- ---- one message more in a buffer: the smallest falls with it, or stays
one_fewer : (count limit : ℕ) → free_in (count + 1) limit ≤ free_in count limit
unfolding free_in
one_fewer count limit = omega arith

pub one_more_free : (ls : List ℕ) (ps : List ExternalsPartitionRangeReaderState) (i : ℕ) → i < length ls → i < length ps → (get_or ps i no_partition).present ≡ true
    → range_free ls (set ps i (one_more (get_or ps i no_partition))) ≡ least (range_free ls ps) (free_in ((get_or ps i no_partition).count + 1) (get_or ls i 0))
unfolding range_free smallest buffers
one_more_free [] ps i h g e = absurd (omega arith)
one_more_free (l ∷ ls) [] i h g e = absurd (omega arith)
one_more_free (l ∷ ls) (p ∷ ps) zero h g e =
    let n = smallest (buffers ls ps) in
    pick_yes p.present _ _ e
    ∙ (sym (ap (least n) (least_of_more (free_in p.count l) (free_in (p.count + 1) l) (one_fewer p.count l)))
    ∙ (least_join n (free_in p.count l) (free_in (p.count + 1) l)
    ∙ ap (λ (k : ℕ). least k (free_in (p.count + 1) l)) (sym (pick_yes p.present (least n (free_in p.count l)) n e))))
one_more_free (l ∷ ls) (p ∷ ps) (suc i) h g e =
    ap (with_free l p) (one_more_free ls ps i (omega arith) (omega arith) e)
    ∙ with_fewer l p (smallest (buffers ls ps)) (free_in ((get_or ps i no_partition).count + 1) (get_or ls i 0))

-- ---- document 02, ticket 7: "the smallest over its partitions, or 1,024 if the range has none"
pub no_partition_has_fewer : (ls : List ℕ) (ps : List ExternalsPartitionRangeReaderState) (i : ℕ) → i < length ls → i < length ps → (get_or ps i no_partition).present ≡ true → range_free ls ps ≤ free_in (get_or ps i no_partition).count (get_or ls i 0)
unfolding range_free smallest buffers
no_partition_has_fewer [] ps i h g e = absurd (omega arith)
no_partition_has_fewer (l ∷ ls) [] i h g e = absurd (omega arith)
no_partition_has_fewer (l ∷ ls) (p ∷ ps) zero h g e =
    let a = least_right (smallest (buffers ls ps)) (free_in p.count l) in
    let b = pick_yes p.present (least (smallest (buffers ls ps)) (free_in p.count l)) (smallest (buffers ls ps)) e in
    omega arith
no_partition_has_fewer (l ∷ ls) (p ∷ ps) (suc i) h g e =
    let a = with_free_within l p (smallest (buffers ls ps)) in
    let b = no_partition_has_fewer ls ps i (omega arith) (omega arith) e in
    omega arith

-- where no buffer is full, each takes one message more within its limit
pub room_left : (ls : List ℕ) (ps : List ExternalsPartitionRangeReaderState) → eqb (range_free ls ps) 0 ≡ false → (i : ℕ) → i < length ls → i < length ps → (get_or ps i no_partition).present ≡ true → (get_or ps i no_partition).count + 1 ≤ get_or ls i 0
unfolding free_in
room_left ls ps e i h g p =
    let f = no_partition_has_fewer ls ps i h g p in
    pos (range_free ls ps) (eqb-false (range_free ls ps) 0 e) f
  where
    pos : (n : ℕ) → (n ≡ 0 → ⊥) → n ≤ get_or ls i 0 - (get_or ps i no_partition).count → (get_or ps i no_partition).count + 1 ≤ get_or ls i 0
    pos zero z f = absurd (z refl)
    pos (suc n) z f = omega arith

-- a partition that has as many as the range answers
pub record HasSoMany (ls : List ℕ) (ps : List ExternalsPartitionRangeReaderState) : Type 0 where
  pub i : ℕ
  pub in_limits : i < length ls
  pub in_records : i < length ps
  pub there : (get_or ps i no_partition).present ≡ true
  pub smallest_here : range_free ls ps ≡ free_in (get_or ps i no_partition).count (get_or ls i 0)

pub a_partition_has_so_many_or_1024 : (ls : List ℕ) (ps : List ExternalsPartitionRangeReaderState) → HasSoMany ls ps ⊎ (range_free ls ps ≡ 1024)
unfolding range_free smallest buffers
a_partition_has_so_many_or_1024 [] ps = inr refl
a_partition_has_so_many_or_1024 (l ∷ ls) [] = inr refl
a_partition_has_so_many_or_1024 (l ∷ ls) (p ∷ ps) = go p.present refl (a_partition_has_so_many_or_1024 ls ps)
  where
    rest : with_free l p (smallest (buffers ls ps)) ≡ smallest (buffers ls ps) → HasSoMany ls ps ⊎ (smallest (buffers ls ps) ≡ 1024) → HasSoMany (l ∷ ls) (p ∷ ps) ⊎ (with_free l p (smallest (buffers ls ps)) ≡ 1024)
    rest w (inl h) = inl (record { i = suc h.i; in_limits = omega (arith, h.in_limits); in_records = omega (arith, h.in_records); there = h.there; smallest_here = w ∙ h.smallest_here })
    rest w (inr h) = inr (w ∙ h)

    go : (t : Bool) → p.present ≡ t → HasSoMany ls ps ⊎ (smallest (buffers ls ps) ≡ 1024) → HasSoMany (l ∷ ls) (p ∷ ps) ⊎ (with_free l p (smallest (buffers ls ps)) ≡ 1024)
    go false e h = rest (pick_no p.present _ _ e) h
    go true e h = by (least_either (smallest (buffers ls ps)) (free_in p.count l))
      where
        by : (least (smallest (buffers ls ps)) (free_in p.count l) ≡ smallest (buffers ls ps)) ⊎ (least (smallest (buffers ls ps)) (free_in p.count l) ≡ free_in p.count l) → HasSoMany (l ∷ ls) (p ∷ ps) ⊎ (with_free l p (smallest (buffers ls ps)) ≡ 1024)
        by (inl g) = rest (pick_yes p.present _ _ e ∙ g) h
        by (inr g) = inl (record { i = 0; in_limits = omega arith; in_records = omega arith; there = e; smallest_here = pick_yes p.present _ _ e ∙ g })

pub without_partitions_1024_are_free : (ls : List ℕ) (ps : List ExternalsPartitionRangeReaderState) → ((i : ℕ) → i < length ps → (get_or ps i no_partition).present ≡ false) → range_free ls ps ≡ 1024
without_partitions_1024_are_free ls ps absent = go (a_partition_has_so_many_or_1024 ls ps)
  where
    go : HasSoMany ls ps ⊎ (range_free ls ps ≡ 1024) → range_free ls ps ≡ 1024
    go (inl h) = absurd (let z : ◌≡◌ {A = Bool} true false = sym h.there ∙ absent h.i h.in_records in let y : ◌≡◌ {A = ℕ} 0 1 = cc in omega arith)
    go (inr e) = e
