-- Laws of parts, of numbers in bytes and of rows.
use Rattle.std.proofs.lemmas.Bool.{and_parts}
use Rattle.std.proofs.lemmas.List.{drop-take}
use Prim.Native.Nat.{ℕ, zero, suc, ◌+◌, ◌-◌, ◌*◌, ◌/◌, ◌%◌, ◌^◌, ◌≤◌, ◌<◌}
use mathlib.Core.Path.{◌≡◌, refl, sym, ap, ◌∙◌}
use mathlib.Core.List.Memᴰ
use mathlib.Core.List.{List, [], ◌∷◌, ◌++◌, append_assoc, append-nil, Memᴰ}
use mathlib.Core.Logic.{⊎_elim}
use mathlib.Core.Bool.{Bool, true, false, cond, not, ◌&&◌}
use lib.Dec.{leb, ltb, eqb}
use borrow.Author.Tests.{not-true, not-false, leb-true, leb-false, le-leb, lt-leb, eqb-true, eq-eqb}
use native.Mathlib.Omega.{arith}
use native.Mathlib.Nat.{pow-zero, pow-suc, pow-succ', div-lt_iff_lt-mul, mod-add-div, mul_assoc, mul_comm, mul-suc, mul-zero, mul-le-mul_left, mul-div-le, one-le-pow, add-div_left, div-eq_of_lt, div-one, div-div-eq-div-mul}
use native.Mathlib.Numerals.{add-one}
use lib.ListN.{length, length-append, take, drop, get_or, set, length-take, length-drop, get_or-eq_default}
use lib.Seq.{sets, sets-eq, length-sets, drop-cons, take-suc, get_or-drop, get_or-take, drop-drop, take-nil, take-take, take-add, take_all, take_at, drop_at, take-append-le, drop-append-le, length-take-le, take-set-le, drop-set-lt, drop-length}
use borrow.Rule.Slice.PartMut.{put_mid}
use denote.Ref.{Bor}
use Rattle.std.specs.Array.{IsFirstChunk}
use Rattle.std.specs.Slice.{IsGetRangeResult}
use Rattle.std.specs.List.{list_all, zip, position_or_len, position_from}
use Rattle.std.proofs.lemmas.Iterator.Adapters.{position_from-zero}
use Rattle.std.specs.Int.{sum_through, byte_worth, byte_at, bytes_low_first}
use Rattle.rows.specs.Rows.{pick, part, le, word, rows, stays, appended, num_at, written, moved_down, fits, append_answer, appended_if_fits, same_bytes, starts_with, whole_rows, later, find_row}
use Rattle.rows.specs.declared.Appended.TheVariants.{Behind, Moved, NoRoom}
use Rattle.std.specs.Prelude.{Option, Some, None, MatchOption, unwrap_or, option_copied}

-- ---- parts
pub part_length : {A : Type 0} (l : List A) (at n : ℕ) → at + n ≤ length l → length (part at n l) ≡ n
part_length l at n h = simp (length-take, length-drop) (omega arith)

pub part_add : {A : Type 0} (l : List A) (at m n : ℕ) → part at (m + n) l ≡ part at m l ++ part (at + m) n l
part_add l at m n = take-add m n (drop at l) ∙ rw (drop-drop m at l)

pub part_cons : {A : Type 0} (d : A) (l : List A) (at n : ℕ) → 0 < n → at + n ≤ length l → part at n l ≡ get_or l at d ∷ part (at + 1) (n - 1) l
part_cons d l at zero p h = absurd (omega arith)
part_cons d l at (suc k) p h =
    let e : suc k - 1 ≡ k = omega arith in
    let q : at < length l = omega arith in
    rw (e, add-one at, drop-cons l at d q)

-- ---- stores
-- stores one after the other
pub sets_append : {A : Type 0} (l : List A) (i : ℕ) (vs ws : List A) → sets l i (vs ++ ws) ≡ sets (sets l i vs) (i + length vs) ws
sets_append l i [] ws = let e : i + 0 ≡ i = omega arith in rw e
sets_append l i (v ∷ vs) ws =
    let e : i + suc (length vs) ≡ suc i + length vs = omega arith in
    rw e (sets_append (set l i v) (suc i) vs ws)

take_sets : {A : Type 0} (n : ℕ) (l : List A) (i : ℕ) (vs : List A) → n ≤ i → take n (sets l i vs) ≡ take n l
take_sets n l i [] p = refl
take_sets n l i (v ∷ vs) p = take_sets n (set l i v) (suc i) vs (omega arith) ∙ take-set-le n l i v p

drop_sets : {A : Type 0} (n : ℕ) (l : List A) (i : ℕ) (vs : List A) → i + length vs ≤ n → drop n (sets l i vs) ≡ drop n l
drop_sets n l i [] p = refl
drop_sets n l i (v ∷ vs) p = drop_sets n (set l i v) (suc i) vs (omega arith) ∙ drop-set-lt n l i v (omega arith)

pub drop_take : {A : Type 0} (m n : ℕ) (l : List A) → drop m (take n l) ≡ take (n - m) (drop m l)
drop_take zero n l = let e : n - 0 ≡ n = omega arith in rw e
drop_take (suc m) zero l = let e : 0 - suc m ≡ 0 = omega arith in rw e
drop_take (suc m) (suc n) [] = sym (take-nil (suc n - suc m))
drop_take (suc m) (suc n) (x ∷ l) = let e : suc n - suc m ≡ n - m = omega arith in rw e (drop_take m n l)

-- a part before or after a store is as it was, and the store's own part is what was stored
pub part_before : {A : Type 0} (l : List A) (at n i : ℕ) (vs : List A) → at + n ≤ i → part at n (sets l i vs) ≡ part at n l
part_before l at n i vs p = sym (drop-take at n (sets l i vs)) ∙ (ap (drop at) (take_sets (at + n) l i vs p) ∙ drop-take at n l)

pub part_after : {A : Type 0} (l : List A) (at n i : ℕ) (vs : List A) → i + length vs ≤ at → part at n (sets l i vs) ≡ part at n l
part_after l at n i vs p = ap (take n) (drop_sets at l i vs p)

pub part_same : {A : Type 0} (l : List A) (i : ℕ) (vs : List A) → i + length vs ≤ length l → part i (length vs) (sets l i vs) ≡ vs
part_same l i vs p =
    rw (sets-eq vs l i p, append_assoc, drop_at (take i l) (vs ++ drop (i + length vs) l) i (length-take-le i l (omega arith)), take_at vs (drop (i + length vs) l) (length vs) refl)

-- what a slice holds after a store in a part of it
pub part_stored : {A : Type 0} (l : List A) (at k : ℕ) (vs : List A) → at + length vs ≤ length l → k ≡ length vs → put_mid at k l vs ≡ sets l at vs
part_stored l at k vs h e = rw (e, drop-drop (length vs) at l, sets-eq vs l at h, append_assoc)

-- a store, and one element more
pub sets_snoc : {A : Type 0} (l : List A) (i : ℕ) (vs : List A) (v : A) → sets l i (vs ++ (v ∷ [])) ≡ set (sets l i vs) (i + length vs) v
sets_snoc l i vs v = sets_append l i vs (v ∷ [])

-- what a move stored, by another writing of the place that it came from
pub part_moved : {A : Type 0} (new l : List A) (to n x y : ℕ) → new ≡ sets l to (part x n l) → x ≡ y → new ≡ sets l to (part y n l)
part_moved new l to n x y e z = e ∙ ap (λ (k : ℕ). sets l to (part k n l)) z

-- a turn of a copy
pub copy_more : {A : Type 0} (d : A) (l : List A) (at : ℕ) (src : List A) (i : ℕ) → i < length src → set (sets l at (take i src)) (at + i) (get_or src i d) ≡ sets l at (take (i + 1) src)
copy_more d l at src i p =
    let e : length (take i src) ≡ i = length-take-le i src (omega arith) in
    rw (add-one i, take-suc src i d p, sets_snoc l at (take i src) (get_or src i d), e)

-- ---- numbers
-- a turn of a number's bytes, put one after the other, and what is left after the last
pub le_more : (l : List ℕ) (i k v : ℕ) → 0 < k → sets l i (le k v) ≡ sets (set l i (v % 256)) (i + 1) (le (k - 1) (v / 256))
unfolding le
le_more l i zero v p = absurd (omega arith)
le_more l i (suc k) v p =
    let e : suc k - 1 ≡ k = omega arith in
    rw (e, add-one i)

pub le_none : (l : List ℕ) (i k v : ℕ) → k ≤ 0 → sets l i (le k v) ≡ l
unfolding le
le_none l i zero v p = refl
le_none l i (suc k) v p = absurd (omega arith)

pub length_le : (k v : ℕ) → length (le k v) ≡ k
unfolding le
length_le zero v = refl
length_le (suc k) v = ap suc (length_le k (v / 256))

-- what was written is read
pub word_le : (k v : ℕ) → v < 256 ^ k → word (le k v) ≡ v
unfolding le word
word_le zero v p = let e : 256 ^ 0 ≡ 1 = pow-zero 256 in omega arith
word_le (suc k) v p =
    let e : v < 256 ^ k * 256 = rw (pow-suc 256 k) at p in
    let q : v / 256 < 256 ^ k = (div-lt_iff_lt-mul {k = 256} (omega arith)).1 e in
    let d = mod-add-div v 256 in
    rw (word_le k (v / 256) q) d

pub word_append : (a b : List ℕ) → word (a ++ b) ≡ word a + 256 ^ length a * word b
unfolding word
word_append [] b = omega arith
word_append (x ∷ a) b =
    let h = word_append a b in
    let e : 256 ^ suc (length a) * word b ≡ 256 * (256 ^ length a * word b) = rw pow-succ' (mul_assoc 256 (256 ^ length a) (word b)) in
    omega (arith, ap (λ (n : ℕ). 256 * n) h)

-- std's bytes of a number, the lowest first
byte_of : (i v : ℕ) → byte_at i v ≡ v / 256 ^ i % 256
byte_of zero v = rw (pow-zero 256, div-one v)
byte_of (suc i) v = refl

low_first : (i k v : ℕ) → bytes_low_first i k v ≡ le k (v / 256 ^ i)
unfolding le
low_first i zero v = refl
low_first i (suc k) v = rw (byte_of i v, div-div-eq-div-mul v (256 ^ i) 256, sym (pow-suc 256 i), low_first (suc i) k v)

pub le_of_bytes : (k v : ℕ) → bytes_low_first 0 k v ≡ le k v
le_of_bytes k v = low_first 0 k v ∙ rw (pow-zero 256, div-one v)

-- where they are put
pub bytes_put : (k v at : ℕ) (bytes l new : List ℕ) → bytes ≡ bytes_low_first 0 k v → new ≡ written at bytes l → new ≡ written at (le k v) l
bytes_put k v at bytes l new b e = e ∙ ap (λ (x : List ℕ). written at x l) (b ∙ le_of_bytes k v)

-- ---- rows
mul_more : (w n : ℕ) → w * suc n ≡ w + w * n
mul_more w n = mul-suc w n ∙ omega arith

pub rows_cons : (w n at : ℕ) (l : List ℕ) → 0 < n → rows w n (drop at l) ≡ part at w l ∷ rows w (n - 1) (drop (at + w) l)
unfolding rows
rows_cons w zero at l p = absurd (omega arith)
rows_cons w (suc n) at l p = let e : suc n - 1 ≡ n = omega arith in rw (e, drop-drop w at l)

pub rows_length : (w n : ℕ) (l : List ℕ) → length (rows w n l) ≡ n
unfolding rows
rows_length w zero l = refl
rows_length w (suc n) l = ap suc (rows_length w n (drop w l))

pub rows_drop : (w k n : ℕ) (l : List ℕ) → drop k (rows w n l) ≡ rows w (n - k) (drop (w * k) l)
unfolding rows
rows_drop w zero n l = let a : n - 0 ≡ n = omega arith in let b : w * 0 ≡ 0 = omega arith in rw (a, b)
rows_drop w (suc k) zero l = let a : 0 - suc k ≡ 0 = omega arith in rw a
rows_drop w (suc k) (suc n) l =
    let a : suc n - suc k ≡ n - k = omega arith in
    rw (a, mul_more w k, sym (drop-drop (w * k) w l)) (rows_drop w k n (drop w l))

pub rows_take : (w k n : ℕ) (l : List ℕ) → k ≤ n → take k (rows w n l) ≡ rows w k l
unfolding rows
rows_take w zero n l p = refl
rows_take w (suc k) zero l p = absurd (omega arith)
rows_take w (suc k) (suc n) l p = ap (λ (m : List (List ℕ)). take w l ∷ m) (rows_take w k n (drop w l) (omega arith))

-- a row by its place
pub rows_at : (w n i : ℕ) (l : List ℕ) → i < n → get_or (rows w n l) i [] ≡ part (w * i) w l
unfolding rows
rows_at w zero i l p = absurd (omega arith)
rows_at w (suc n) zero l p = rw (mul-zero w)
rows_at w (suc n) (suc i) l p = rw (mul_more w i, sym (drop-drop (w * i) w l)) (rows_at w n i (drop w l) (omega arith))

-- rows look at no more than their bytes
pub rows_within : (w n m : ℕ) (l : List ℕ) → w * n ≤ m → rows w n (take m l) ≡ rows w n l
unfolding rows
rows_within w zero m l p = refl
rows_within w (suc n) m l p =
    let e = mul_more w n in
    let q : w ≤ m = omega arith in
    rw (take-take w m l q, drop_take w m l) (ap (λ (k : List (List ℕ)). take w l ∷ k) (rows_within w n (m - w) (drop w l) (omega arith)))

pub rows_append : (w n m : ℕ) (a b : List ℕ) → length a ≡ w * n → rows w (n + m) (a ++ b) ≡ rows w n a ++ rows w m b
unfolding rows
rows_append w zero m [] b p = let e : 0 + m ≡ m = omega arith in rw e
rows_append w zero m (x ∷ a) b p = absurd (omega (arith, mul-zero w))
rows_append w (suc n) m a b p =
    let e : suc n + m ≡ suc (n + m) = omega arith in
    let f = mul_more w n in
    let q : w ≤ length a = omega arith in
    let l : length (drop w a) ≡ w * n = simp length-drop (omega arith) in
    rw (e, take-append-le w a b q, drop-append-le w a b q) (ap (λ (k : List (List ℕ)). take w a ∷ k) (rows_append w n m (drop w a) b l))

-- one row more
pub rows_snoc : (w n : ℕ) (a b : List ℕ) → length a ≡ w * n → length b ≡ w → rows w (n + 1) (a ++ b) ≡ rows w n a ++ (b ∷ [])
unfolding rows
rows_snoc w n a b p q = rows_append w n 1 a b p ∙ rw (take_all w b (omega arith))

-- rows at a place are those of its part
pub rows_part : (w n at : ℕ) (l : List ℕ) → rows w n (drop at l) ≡ rows w n (part at (w * n) l)
rows_part w n at l = sym (rows_within w n (w * n) (drop at l) (omega arith))

-- ---- numbers read
pub word_halves : (l : List ℕ) (at k m : ℕ) → at + k ≤ length l → word (part at (k + m) l) ≡ word (part at k l) + 256 ^ k * word (part (at + k) m l)
word_halves l at k m h =
    let e : length (part at k l) ≡ k = part_length l at k h in
    rw (part_add l at k m, word_append (part at k l) (part (at + k) m l), e)

pub part_part : {A : Type 0} (l : List A) (at m a n : ℕ) → a + n ≤ m → part a n (part at m l) ≡ part (at + a) n l
part_part l at m a n p =
    let q : n ≤ m - a = omega arith in
    rw (drop_take a m (drop at l), drop-drop a at l, take-take n (m - a) (drop (at + a) l) q)

-- ---- a table with bytes appended
module _ (l : List ℕ) (start from n cap : ℕ) (new : List ℕ) (fits : start + cap ≤ length l) (held : from + n ≤ cap) (room : n + length new ≤ cap) where
  abbrev placed : Bool → ℕ
  placed b = pick b from 0

  abbrev result : Bool → List ℕ
  result b = pick b (sets l (start + from + n) new) (sets (sets l start (part (start + from) n l)) (start + n) new)

  part_of : (b : Bool) → stays from n (length new) cap ≡ b → part (start + placed b) (n + length new) (result b) ≡ part (start + from) n l ++ new
  part_of true e =
      let h : from + n + length new ≤ cap = leb-true _ _ e in
      rw (
        part_add (result true) (start + from) n (length new),
        part_before l (start + from) n (start + from + n) new (omega arith),
        part_same l (start + from + n) new (omega arith),
      )
  part_of false e =
      let z : start + 0 ≡ start = omega arith in
      let m = sets l start (part (start + from) n l) in
      let k : length (part (start + from) n l) ≡ n = part_length l (start + from) n (omega arith) in
      let j : length m ≡ length l = length-sets l start (part (start + from) n l) in
      let s : part start n m ≡ part (start + from) n l = (rw k at (part_same l start (part (start + from) n l) (omega arith))) in
      rw (
        z,
        part_add (result false) start n (length new),
        part_before m start n (start + n) new (omega arith),
        s,
        part_same m (start + n) new (omega arith),
      )

  pub appended_part : part (start + pick (stays from n (length new) cap) from 0) (n + length new) (appended start from n cap new l) ≡ part (start + from) n l ++ new
  unfolding appended
  appended_part = part_of (stays from n (length new) cap) refl

  before_of : (b : Bool) (at k : ℕ) → at + k ≤ start → part at k (result b) ≡ part at k l
  before_of true at k p = part_before l at k (start + from + n) new (omega arith)
  before_of false at k p = part_before (sets l start (part (start + from) n l)) at k (start + n) new (omega arith) ∙ part_before l at k start (part (start + from) n l) p

  pub appended_before : (at k : ℕ) → at + k ≤ start → part at k (appended start from n cap new l) ≡ part at k l
  unfolding appended
  appended_before = before_of (stays from n (length new) cap)

  after_of : (b : Bool) → stays from n (length new) cap ≡ b → (at k : ℕ) → start + cap ≤ at → part at k (result b) ≡ part at k l
  after_of true e at k p =
      let h : from + n + length new ≤ cap = leb-true _ _ e in
      part_after l at k (start + from + n) new (omega arith)
  after_of false e at k p =
      let j : length (part (start + from) n l) ≡ n = part_length l (start + from) n (omega arith) in
      part_after (sets l start (part (start + from) n l)) at k (start + n) new (omega arith) ∙ part_after l at k start (part (start + from) n l) (omega arith)

  pub appended_after : (at k : ℕ) → start + cap ≤ at → part at k (appended start from n cap new l) ≡ part at k l
  unfolding appended
  appended_after = after_of (stays from n (length new) cap) refl

  length_of : (b : Bool) → length (result b) ≡ length l
  length_of true = length-sets l (start + from + n) new
  length_of false = length-sets _ (start + n) new ∙ length-sets l start (part (start + from) n l)

  pub appended_length : length (appended start from n cap new l) ≡ length l
  unfolding appended
  appended_length = length_of (stays from n (length new) cap)

pick_mul : (w : ℕ) (b : Bool) (f : ℕ) → w * pick b f 0 ≡ pick b (w * f) 0
pick_mul w true f = refl
pick_mul w false f = mul-zero w

-- a table of rows with one row appended
module _ (w start first n cap : ℕ) (l row : List ℕ) (wide : length row ≡ w) (fits : start + cap ≤ length l) (held : w * first + w * n ≤ cap) (room : w * n + w ≤ cap) where
  pub rows_appended : rows w (n + 1) (drop (start + w * pick (stays (w * first) (w * n) w cap) first 0) (appended start (w * first) (w * n) cap row l)) ≡ rows w n (drop (start + w * first) l) ++ (row ∷ [])
  rows_appended =
      let e : w * (n + 1) ≡ w * n + w = rw (add-one n) (mul_more w n ∙ omega arith) in
      let a = appended_part l start (w * first) (w * n) cap row fits held (omega arith) in
      let b : part (start + pick (stays (w * first) (w * n) w cap) (w * first) 0) (w * n + w) (appended start (w * first) (w * n) cap row l) ≡ part (start + w * first) (w * n) l ++ row = rw wide at a in
      let q : part (start + w * pick (stays (w * first) (w * n) w cap) first 0) (w * (n + 1)) (appended start (w * first) (w * n) cap row l) ≡ part (start + w * first) (w * n) l ++ row =
      rw (e, pick_mul w (stays (w * first) (w * n) w cap) first) b in
      let k : length (part (start + w * first) (w * n) l) ≡ w * n = part_length l (start + w * first) (w * n) (omega arith) in
      rows_part w (n + 1) (start + w * pick (stays (w * first) (w * n) w cap) first 0) _
      ∙ (ap (rows w (n + 1)) q
      ∙ (rows_snoc w n (part (start + w * first) (w * n) l) row k wide
      ∙ ap (λ (x : List (List ℕ)). x ++ (row ∷ [])) (sym (rows_part w n (start + w * first) l))))

pub sets_all : {A : Type 0} (l vs : List A) → length vs ≡ length l → sets l 0 vs ≡ vs
sets_all l vs e =
    let f : 0 + length vs ≡ length l = omega arith in
    sets-eq vs l 0 (omega arith) ∙ rw (f, drop-length l, append-nil vs)

-- the last row
pub rows_back : (w n : ℕ) (l : List ℕ) → 0 < n → rows w n l ≡ rows w (n - 1) l ++ (part (w * (n - 1)) w l ∷ [])
unfolding rows
rows_back w zero l p = absurd (omega arith)
rows_back w (suc zero) l p = let e : 1 - 1 ≡ 0 = omega arith in rw (e, mul-zero w)
rows_back w (suc (suc m)) l p =
    let e : suc (suc m) - 1 ≡ suc m = omega arith in
    let f : suc m - 1 ≡ m = omega arith in
    let h : rows w (suc m) (drop w l) ≡ rows w m (drop w l) ++ (part (w + w * m) w l ∷ []) = rw f at (rows_back w (suc m) (drop w l) (omega arith)) ∙ rw (drop-drop (w * m) w l) in
    rw (e, mul_more w m) (ap (λ (k : List (List ℕ)). take w l ∷ k) h)

-- ---- tests
pub no_here : (a b : Bool) → a ≡ false → false ≡ (a && b)
no_here a b h = rw h

pub no_later : (a b : Bool) → b ≡ false → false ≡ (a && b)
no_later true b h = sym h
no_later false b h = refl

pub yes_here : (a b x : Bool) → a ≡ true → x ≡ b → x ≡ (a && b)
yes_here a b x h e = e ∙ rw h

pub yes_later : (a b : Bool) → b ≡ true → a ≡ (a && b)
yes_later true b h = sym h
yes_later false b h = refl

pub pick_yes : {A : Type 0} (b : Bool) (x y : A) → b ≡ true → pick b x y ≡ x
pick_yes true x y e = refl
pick_yes false x y e = absurd (let z : ◌≡◌ {A = ℕ} 0 1 = cc in omega arith)

pub pick_no : {A : Type 0} (b : Bool) (x y : A) → b ≡ false → pick b x y ≡ y
pick_no true x y e = absurd (let z : ◌≡◌ {A = ℕ} 0 1 = cc in omega arith)
pick_no false x y e = refl

pub and_picked : (a b : Bool) → (a && b) ≡ pick a b false
and_picked true b = refl
and_picked false b = refl

pub pick_same : {A : Type 0} (b : Bool) (x : A) → pick b x x ≡ x
pick_same true x = refl
pick_same false x = refl

pub pick_both : {A : Type 0} (P : A → Type 0) (b : Bool) (x y : A) → P x → P y → P (pick b x y)
pick_both P true x y p q = p
pick_both P false x y p q = q

pub never : {A : Type 0} → true ≡ false → A
never e = absurd (let z : ◌≡◌ {A = ℕ} 0 1 = cc in omega arith)

-- what a call told of a test b, where its answer r was tested by `if !r`
pub told_yes : {b : Bool} (r : Bool) → r ≡ b → not r ≡ false → b ≡ true
told_yes r e f = sym e ∙ not-false r f

pub told_no : {b : Bool} (r : Bool) → r ≡ b → not r ≡ true → b ≡ false
told_no r e f = sym e ∙ not-true r f

-- two tests that say the same
pub leb_same : (a b c d : ℕ) → (a ≤ b → c ≤ d) → (c ≤ d → a ≤ b) → leb a b ≡ leb c d
leb_same a b c d f g = go (leb a b) refl
  where
    go : (t : Bool) → leb a b ≡ t → leb a b ≡ leb c d
    go true e = e ∙ sym (le-leb c d (f (leb-true a b e)))
    go false e =
        let p : b < a = leb-false a b e in
        let q : (c ≤ d → ⊥) = λ h. let k : a ≤ b = g h in omega arith in
        e ∙ sym (lt-leb c d (omega arith))

-- ---- the total forms
pub num_in : (k at : ℕ) (l : List ℕ) → at + k ≤ length l → num_at k at l ≡ word (part at k l)
unfolding num_at
num_in k at l h = rw (le-leb _ _ h)

pub num_past : (k at : ℕ) (l : List ℕ) → length l < at + k → num_at k at l ≡ 0
unfolding num_at
num_past k at l h = rw (lt-leb _ _ h)

-- a number of k + m bytes from its two halves
pub num_halves : (k m at : ℕ) (l : List ℕ) → at + (k + m) ≤ length l → num_at (k + m) at l ≡ num_at k at l + 256 ^ k * num_at m (at + k) l
num_halves k m at l h =
    rw (num_in (k + m) at l h, num_in k at l (omega arith), num_in m (at + k) l (omega arith)) (word_halves l at k m (omega arith))

-- std's number of the lowest byte first is the word
le_sum : (l : List ℕ) (k : ℕ) → k < length l → sum_through (λ (i : ℕ). byte_worth i (get_or l i 0)) k ≡ word (take (suc k) l)
unfolding word
le_sum [] k p = absurd (omega arith)
le_sum (x ∷ l) zero p = omega arith
le_sum (x ∷ l) (suc k) p =
    let h = le_sum (x ∷ l) k (omega arith) in
    let q : k < length l = omega arith in
    let n : length (take k l) ≡ k = length-take-le k l (omega arith) in
    let y = get_or l k 0 in
    let e : y * 256 ^ suc k ≡ 256 * (256 ^ k * y) = mul_comm y (256 ^ suc k) ∙ rw pow-succ' (mul_assoc 256 (256 ^ k) y) in
    rw (h, take-suc l k 0 q, word_append (take k l) (y ∷ []), n) (omega (arith, e))

-- The number at the front, from the array that the library finds there; where the bytes are too few for one, what the
-- code gives in its place is 0, a premise of its own, so that the value counts and not how it is written. It stands in
-- three answers: by `using` on the functions the check doesn't find it (tried, also with the width as a literal).
pub num_front : (k : ℕ) (l : List ℕ) (o : Option (Bor (List ℕ))) (p : Option (List ℕ)) (d n : ℕ) → MatchOption o (length l < suc k) (λ y. IsFirstChunk l y.now (suc k)) → p ≡ option_copied o
    → MatchOption p (n ≡ d) (λ y. n ≡ sum_through (λ (i : ℕ). byte_worth i (get_or y i 0)) k) → (length l < suc k → d ≡ 0) → n ≡ num_at (suc k) 0 l
num_front k l None None d n h f e z = e ∙ (z h ∙ sym (num_past (suc k) 0 l (omega arith)))
num_front k l None (Some y) d n h f e z = absurd (cc)
num_front k l (Some y) None d n h f e z = absurd (cc)
num_front k l (Some y) (Some x) d n h f e z =
    let m : length y.now ≡ suc k = rw h.same (length-take-le (suc k) l h.enough) in
    let q : take (suc k) y.now ≡ take (suc k) l = take_all (suc k) y.now (omega arith) ∙ h.same in
    let j : x ≡ y.now = cc in
    rw j at e ∙ (le_sum y.now k (omega arith) ∙ (ap word q ∙ sym (num_in (suc k) 0 l (omega (arith, h.enough)))))

-- the number at a place is the one at the front of what stands from there on
num_none : (k at : ℕ) (l : List ℕ) → length l < at → num_at k 0 [] ≡ num_at k at l
unfolding num_at word
num_none zero at l p = sym (num_past 0 at l (omega arith))
num_none (suc k) at l p = num_past (suc k) 0 [] (omega arith) ∙ sym (num_past (suc k) at l (omega arith))

num_rest : (k at : ℕ) (l : List ℕ) → at ≤ length l → num_at k 0 (drop at l) ≡ num_at k at l
unfolding num_at
num_rest k at l p =
    let e : length (drop at l) ≡ length l - at = length-drop at l in
    rw (leb_same (0 + k) (length (drop at l)) (at + k) (length l) (λ h. omega arith) (λ h. omega arith))

pub num_behind : (k at : ℕ) (l : List ℕ) (o : Option (Bor (List ℕ))) (d : Bor (List ℕ)) → d.now ≡ [] → IsGetRangeResult l at (length l) o → num_at k 0 (unwrap_or o d).now ≡ num_at k at l
num_behind k at l None d e h = rw e (num_none k at l (⊎_elim (λ (p : length l < at). p) (λ (p : length l < length l). absurd (omega arith)) h.0))
num_behind k at l (Some y) d e h =
    let f : y.now ≡ drop at l = h.0.2 ∙ take_all (length l - at) (drop at l) (omega (arith, length-drop at l)) in
    rw f (num_rest k at l h.0.0)

pub written_in : (at : ℕ) (vs l : List ℕ) → at + length vs ≤ length l → written at vs l ≡ sets l at vs
unfolding written
written_in at vs l h = rw (le-leb _ _ h)

pub written_past : (at : ℕ) (vs l : List ℕ) → length l < at + length vs → written at vs l ≡ l
unfolding written
written_past at vs l h = rw (lt-leb _ _ h)

pub written_length : (at : ℕ) (vs l : List ℕ) → length (written at vs l) ≡ length l
unfolding written
written_length at vs l = go (leb (at + length vs) (length l))
  where
    go : (b : Bool) → length (pick b (sets l at vs) l) ≡ length l
    go true = length-sets l at vs
    go false = refl

-- what was written is read, and a number elsewhere is as it was
pub num_le : (k v at : ℕ) (l : List ℕ) → v < 256 ^ k → at + k ≤ length l → num_at k at (written at (le k v) l) ≡ v
num_le k v at l p h =
    let e = length_le k v in
    let f : part at k (sets l at (le k v)) ≡ le k v = rw e at (part_same l at (le k v) (omega arith)) in
    rw (written_in at (le k v) l (omega arith), num_in k at (sets l at (le k v)) (rw (length-sets l at (le k v)) h), f) (word_le k v p)

pub num_before : (k at i : ℕ) (vs l : List ℕ) → at + k ≤ i → num_at k at (sets l i vs) ≡ num_at k at l
unfolding num_at
num_before k at i vs l p = rw (length-sets l i vs, part_before l at k i vs p)

pub num_after : (k at i : ℕ) (vs l : List ℕ) → i + length vs ≤ at → num_at k at (sets l i vs) ≡ num_at k at l
unfolding num_at
num_after k at i vs l p = rw (length-sets l i vs, part_after l at k i vs p)

pub moved_in : (from to n : ℕ) (l : List ℕ) → to ≤ from → from + n ≤ length l → moved_down from to n l ≡ sets l to (part from n l)
unfolding moved_down
moved_in from to n l p q = rw (le-leb _ _ p, le-leb _ _ q)

pub moved_up : (from to n : ℕ) (l : List ℕ) → from < to → moved_down from to n l ≡ l
unfolding moved_down
moved_up from to n l p = rw (lt-leb _ _ p)

pub moved_past : (from to n : ℕ) (l : List ℕ) → length l < from + n → moved_down from to n l ≡ l
unfolding moved_down
moved_past from to n l q = go (leb to from)
  where
    go : (b : Bool) → pick (b && leb (from + n) (length l)) (sets l to (part from n l)) l ≡ l
    go true = rw (lt-leb _ _ q)
    go false = refl

-- ---- append
pub fits_yes : (start from n k cap len : ℕ) → start + cap ≤ len → from + n ≤ cap → n + k ≤ cap → fits start from n k cap len ≡ true
unfolding fits
fits_yes start from n k cap len p q r = rw (le-leb _ _ p, le-leb _ _ q, le-leb _ _ r)

pub fits_parts : (start from n k cap len : ℕ) → fits start from n k cap len ≡ true → (start + cap ≤ len) × (from + n ≤ cap) × (n + k ≤ cap)
unfolding fits
fits_parts start from n k cap len e =
    let a = and_parts (leb (start + cap) len) (leb (from + n) cap && leb (n + k) cap) e in
    let b = and_parts (leb (from + n) cap) (leb (n + k) cap) a.1 in
    (leb-true _ _ a.0, leb-true _ _ b.0, leb-true _ _ b.1)

pub append_none : (start from n k cap len : ℕ) → fits start from n k cap len ≡ false → append_answer start from n k cap len ≡ NoRoom
unfolding append_answer
append_none start from n k cap len e = rw e

pub append_some : (start from n k cap len : ℕ) → fits start from n k cap len ≡ true → append_answer start from n k cap len ≡ pick (stays from n k cap) Behind Moved
unfolding append_answer
append_some start from n k cap len e = rw e

module _ (start from n cap : ℕ) (new l : List ℕ) where
  pub appended_none : fits start from n (length new) cap (length l) ≡ false → appended_if_fits start from n cap new l ≡ l
  unfolding appended_if_fits
  appended_none e = rw e

  pub appended_some : fits start from n (length new) cap (length l) ≡ true → appended_if_fits start from n cap new l ≡ appended start from n cap new l
  unfolding appended_if_fits
  appended_some e = rw e

  -- the call's two promises, from what `has_room` told (r) and what the inner call told (b) and left (m)
  module _ (r : Bool) (told : r ≡ fits start from n (length new) cap (length l)) where
    pub append_refused : not r ≡ true → (NoRoom ≡ append_answer start from n (length new) cap (length l)) × (l ≡ appended_if_fits start from n cap new l)
    append_refused t = (sym (append_none start from n (length new) cap (length l) (told_no r told t)), sym (appended_none (told_no r told t)))

    pub append_asks : not r ≡ false → (start + cap ≤ length l) × (from + n ≤ cap) × (n + length new ≤ cap)
    append_asks t = fits_parts start from n (length new) cap (length l) (told_yes r told t)

    pub append_done : not r ≡ false → (b c : Bool) (m : List ℕ) → b ≡ c → b ≡ stays from n (length new) cap → m ≡ appended start from n cap new l
        → (pick c Behind Moved ≡ append_answer start from n (length new) cap (length l)) × (m ≡ appended_if_fits start from n cap new l)
    append_done t b c m p q e = (rw (sym p, q) (sym (append_some start from n (length new) cap (length l) (told_yes r told t))), e ∙ sym (appended_some (told_yes r told t)))

  pub appended_keeps_length : length (appended_if_fits start from n cap new l) ≡ length l
  appended_keeps_length = go (fits start from n (length new) cap (length l)) refl
    where
      go : (b : Bool) → fits start from n (length new) cap (length l) ≡ b → length (appended_if_fits start from n cap new l) ≡ length l
      go true e =
          let p = fits_parts start from n (length new) cap (length l) e in
          rw (appended_some e) (appended_length l start from n cap new p.0 p.1 p.2)
      go false e = rw (appended_none e)

-- ---- bytes that are the same
pub same_refl : (a : List ℕ) → same_bytes a a ≡ true
unfolding same_bytes
same_refl [] = refl
same_refl (x ∷ a) = rw (eq-eqb x x refl) (same_refl a)

pub same_true : (a b : List ℕ) → same_bytes a b ≡ true → a ≡ b
unfolding same_bytes
same_true [] [] e = refl
same_true [] (y ∷ b) e = absurd (let z : ◌≡◌ {A = ℕ} 0 1 = cc in omega arith)
same_true (x ∷ a) [] e = absurd (let z : ◌≡◌ {A = ℕ} 0 1 = cc in omega arith)
same_true (x ∷ a) (y ∷ b) e = go (eqb x y) refl e (same_true a b)
  where
    go : (t : Bool) → eqb x y ≡ t → pick t (same_bytes a b) false ≡ true → (same_bytes a b ≡ true → a ≡ b) → x ∷ a ≡ y ∷ b
    go true f g h =
        let p = eqb-true x y f in
        let q = h g in
        cc
    go false f g h = absurd (let z : ◌≡◌ {A = ℕ} 0 1 = cc in omega arith)

-- bytes of another length are not the same
pub same_length : (a b : List ℕ) → (length a ≡ length b → ⊥) → same_bytes a b ≡ false
same_length a b p = go (same_bytes a b) refl
  where
    go : (t : Bool) → same_bytes a b ≡ t → same_bytes a b ≡ false
    go true e = absurd (p (ap length (same_true a b e)))
    go false e = e

-- the test of each pair, where there are enough bytes
pub same_zipped : (l key : List ℕ) → length key ≤ length l → list_all (λ q. eqb q.0 q.1) (zip l key) ≡ starts_with key l
unfolding same_bytes
same_zipped [] [] p = refl
same_zipped (x ∷ l) [] p = refl
same_zipped [] (y ∷ key) p = absurd (omega arith)
same_zipped (x ∷ l) (y ∷ key) p = ap (λ (b : Bool). eqb x y && b) (same_zipped l key (omega arith)) ∙ and_picked (eqb x y) (starts_with key l)

-- too few bytes don't begin with the key
pub same_short : (l key : List ℕ) → length l < length key → starts_with key l ≡ false
unfolding same_bytes
same_short l [] p = absurd (omega arith)
same_short [] (y ∷ key) p = refl
same_short (x ∷ l) (y ∷ key) p = rw (same_short l key (omega arith)) (pick_same (eqb x y) false)

-- ---- the first row that begins with a key
pub later_later : (m n : ℕ) (f : Option ℕ) → later m (later n f) ≡ later (m + n) f
later_later m n (Some i) = let e : m + (n + i) ≡ m + n + i = omega arith in rw e
later_later m n None = refl

pub later_none : (f : Option ℕ) → later 0 f ≡ f
later_none (Some i) = let e : 0 + i ≡ i = omega arith in rw e
later_none None = refl

-- the whole rows behind a first one; of fewer bytes than a row there are none
pub whole_cons : (w : ℕ) (row l : List ℕ) → 0 < w → length row ≡ w → whole_rows w (row ++ l) ≡ row ∷ whole_rows w l
unfolding rows
whole_cons w row l p e =
    let d : length (row ++ l) / w ≡ suc (length l / w) = rw (length-append row l, e) (add-div_left (length l) p ∙ omega arith) in
    rw (d, take_at row l w (omega arith), drop_at row l w (omega arith))

pub whole_none : (w : ℕ) (l : List ℕ) → length l < w → whole_rows w l ≡ []
unfolding rows
whole_none w l p = rw (div-eq_of_lt p)

-- the library's first place
found_from : (key : List ℕ) (l : List (List ℕ)) (i : ℕ) → position_from (starts_with key) i l ≡ later i (find_row key l)
unfolding find_row
found_from key [] i = refl
found_from key (r ∷ l) i = rw (found_from key l (i + 1)) (go (starts_with key r))
  where
    go : (b : Bool) → cond b (Some i) (later (i + 1) (find_row key l)) ≡ later i (pick b (Some 0) (later 1 (find_row key l)))
    go true = let z : i + 0 ≡ i = omega arith in rw z
    go false = sym (later_later i 1 (find_row key l))

pub found_first : (key : List ℕ) (l : List (List ℕ)) → cond (ltb (position_or_len (starts_with key) l) (length l)) (Some (position_or_len (starts_with key) l)) None ≡ find_row key l
found_first key l = position_from-zero (starts_with key) l ∙ (found_from key l 0 ∙ later_none (find_row key l))

-- whole rows are w bytes wide
pub rows_wide : (w n : ℕ) (l r : List ℕ) → w * n ≤ length l → Memᴰ r (rows w n l) → length r ≡ w
unfolding rows
rows_wide w zero l r p m = absurd (Memᴰ.not-nil m)
rows_wide w (suc n) l r p m =
    let e = mul_more w n in
    let q : w * n ≤ length (drop w l) = simp length-drop (omega arith) in
    ⊎_elim (λ (h : r ≡ take w l). rw h (length-take-le w l (omega arith))) (rows_wide w n (drop w l) r q) (Memᴰ.cases_cons m)

-- what a found row is, and that no row is one where none was found
pub found_at : (key : List ℕ) (l : List (List ℕ)) (i : ℕ) → find_row key l ≡ Some i → (i < length l) × (starts_with key (get_or l i []) ≡ true)
unfolding find_row
found_at key [] i e = absurd (let z : ◌≡◌ {A = ℕ} 0 1 = cc in omega arith)
found_at key (r ∷ l) i e = go (starts_with key r) refl (find_row key l) refl e (found_at key l)
  where
    go : (b : Bool) → starts_with key r ≡ b → (f : Option ℕ) → find_row key l ≡ f → pick b (Some 0) (later 1 f) ≡ Some i
        → ((j : ℕ) → find_row key l ≡ Some j → (j < length l) × (starts_with key (get_or l j []) ≡ true))
        → (i < length (r ∷ l)) × (starts_with key (get_or (r ∷ l) i []) ≡ true)
    go true s f q e h = let z : 0 ≡ i = cc in (omega arith, rw (sym z) s)
    go false s (Some j) q e h =
        let z : 1 + j ≡ i = cc in
        let y : i ≡ suc j = omega arith in
        let k = h j q in
        rw y (omega arith, k.1)
    go false s None q e h = absurd (let z : ◌≡◌ {A = ℕ} 0 1 = cc in omega arith)

pub found_none : (key : List ℕ) (l : List (List ℕ)) (r : List ℕ) → find_row key l ≡ None → Memᴰ r l → starts_with key r ≡ false
unfolding find_row
found_none key [] r e m = absurd (Memᴰ.not-nil m)
found_none key (x ∷ l) r e m = go (starts_with key x) refl (find_row key l) refl e (found_none key l r)
  where
    go : (b : Bool) → starts_with key x ≡ b → (f : Option ℕ) → find_row key l ≡ f → pick b (Some 0) (later 1 f) ≡ None
        → (find_row key l ≡ None → Memᴰ r l → starts_with key r ≡ false) → starts_with key r ≡ false
    go true s f q e h = absurd (let z : ◌≡◌ {A = ℕ} 0 1 = cc in omega arith)
    go false s (Some j) q e h = absurd (let z : ◌≡◌ {A = ℕ} 0 1 = cc in omega arith)
    go false s None q e h = ⊎_elim (λ (k : r ≡ x). rw k s) (h q) (Memᴰ.cases_cons m)

-- a found row lies in the bytes
pub found_within : (key : List ℕ) (w : ℕ) (l : List ℕ) (i : ℕ) → find_row key (whole_rows w l) ≡ Some i → w * i + w ≤ length l
found_within key w l i e =
    let n = length l / w in
    let p = (found_at key (whole_rows w l) i e).0 in
    let k = rows_length w n l in
    let q : suc i ≤ n = omega arith in
    omega (arith, mul_more w i, mul-le-mul_left w q, mul-div-le (length l) w)

-- bytes below 256 make a number below 256 ^ k
pub word_bound : (l : List ℕ) → ((i : ℕ) → get_or l i 0 < 256) → word l < 256 ^ length l
unfolding word
word_bound [] p = omega (arith, pow-zero 256)
word_bound (b ∷ l) p =
    let h = word_bound l (λ i. p (suc i)) in
    let b-small : b < 256 = p 0 in
    rw (pow-suc 256 (length l)) (omega arith)

pub part_bytes : (l : List ℕ) (at n : ℕ) → ((i : ℕ) → get_or l i 0 < 256) → (i : ℕ) → get_or (part at n l) i 0 < 256
part_bytes l at n p i = go (leb n i) refl
  where
    go : (b : Bool) → leb n i ≡ b → get_or (part at n l) i 0 < 256
    go true e =
        let h = leb-true n i e in
        let k : length (part at n l) ≤ i = simp length-take (omega arith) in
        rw (get_or-eq_default (part at n l) 0 k) (omega arith)
    go false e = rw (get_or-take n (drop at l) i 0 (leb-false n i e), get_or-drop at l i 0) (p (at + i))

pub num_bound : (k at : ℕ) (l : List ℕ) → ((i : ℕ) → get_or l i 0 < 256) → num_at k at l < 256 ^ k
num_bound k at l p = go (leb (at + k) (length l)) refl
  where
    go : (b : Bool) → leb (at + k) (length l) ≡ b → num_at k at l < 256 ^ k
    go true e =
        let h = leb-true (at + k) (length l) e in
        rw (num_in k at l h) (rw (part_length l at k h) at (word_bound (part at k l) (part_bytes l at k p)))
    go false e = rw (num_past k at l (leb-false (at + k) (length l) e)) (one-le-pow k 256 (omega arith))
