-- Laws of bits, of the tag and of the shard rule.
use Rattle.std.proofs.lemmas.Bool.{and_parts}
use Prim.Native.Nat.{ℕ, suc, zero, ◌+◌, ◌-◌, ◌*◌, ◌/◌, ◌%◌, ◌^◌, ◌≤◌, ◌<◌}
use mathlib.Core.Path.{◌≡◌, refl, sym, ap, ◌∙◌}
use mathlib.Core.Bool.{Bool, true, false, not, ◌&&◌}
use mathlib.Core.List.{List}
use mathlib.Core.Logic.{⊎_elim}
use native.Mathlib.Omega.{arith}
use native.Mathlib.Nat.{pow-zero, pow-suc, eq-or-lt_of_le}
use native.Mathlib.Numerals.{add-one}
use lib.Dec.{eqb, leb}
use Rattle.std.specs.Prelude.{Ok, Err}
use lib.ListN.{length, get_or}
use lib.Pow.{shr-shr, shr_lt}
use lib.Count.{count_trailing_zeros, under}
use borrow.Author.Tests.{eq-eqb, ne_eqb, eqb-true, eqb-false, le-leb, lt-leb, not-true}
use Rattle.rows.specs.Rows.{pick, part}
use Rattle.rows.proofs.Laws.{part_cons, yes_later, no_later}
use Rattle.shard_ident.specs.declared.ShardIdent.{ShardIdent}
use Rattle.refusals.specs.declared.Refusal.TheVariants.{NotAShard}
use Rattle.shard_ident.specs.Shard.{bit, lowest_set, tag, splits_masterchain, is_shard, shard_number, same_bits, same_above_tag, same_workchain, in_shard, big_endian, is_ours, answer_of, after_question}

-- ---- bits
-- one shift more
pub half : (n i : ℕ) → n / 2 ^ i / 2 ≡ n / 2 ^ suc i
half n i = shr-shr n i 1 ∙ ap (λ (j : ℕ). n / 2 ^ j) (add-one i)

whole : (n : ℕ) → n / 2 ^ 0 ≡ n
whole n = rw (pow-zero 2) (omega arith)

bit_pick : (r k i t : ℕ) → r < 2 → i + under r t ≡ pick (eqb r 1) i (suc i + t)
bit_pick zero k i t h = omega arith
bit_pick (suc zero) k i t h = omega arith
bit_pick (suc (suc r)) k i t h = absurd (omega arith)

-- the machine's count of trailing zeros, from bit i on, is the place of the lowest set bit
lowest_from : (k i n : ℕ) → i + count_trailing_zeros k (n / 2 ^ i) ≡ lowest_set k i n
unfolding count_trailing_zeros lowest_set
lowest_from zero i n = omega arith
lowest_from (suc k) i n =
    rw (half n i) (bit_pick (n / 2 ^ i % 2) k i (count_trailing_zeros k (n / 2 ^ suc i)) (omega arith) ∙ ap (pick (eqb (bit i n) 1) i) (lowest_from k (suc i) n))

pub tag_trailing : (n : ℕ) → count_trailing_zeros 64 n ≡ tag n
tag_trailing n = omega (arith, rw (whole n) at (lowest_from 64 0 n))

under_below : (r k t : ℕ) → (r ≡ 0 → t < k) → under r t < suc k
under_below zero k t h = let q = h refl in omega arith
under_below (suc r) k t h = omega arith

trailing_below : (k n : ℕ) → 0 < n → n < 2 ^ k → count_trailing_zeros k n < k
unfolding count_trailing_zeros
trailing_below zero n p h = absurd (omega arith)
trailing_below (suc k) n p h =
    let g : n < 2 ^ k * 2 = rw (pow-suc 2 k) at h in
    under_below (n % 2) k (count_trailing_zeros k (n / 2)) (λ (e : n % 2 ≡ 0). trailing_below k (n / 2) (omega arith) (omega arith))

pub tag_in_word : (p : ℕ) → 0 < p → p < 2 ^ 64 → tag p < 64
tag_in_word p h g = rw (tag_trailing p) at (trailing_below 64 p h g)

-- equal lowest bits and equal rests are equal numbers
digits : (x y : ℕ) → (eqb (x % 2) (y % 2) && eqb (x / 2) (y / 2)) ≡ eqb x y
digits x y = go (eqb x y) refl (eqb (x % 2) (y % 2)) refl
  where
    go : (b : Bool) → eqb x y ≡ b → (r : Bool) → eqb (x % 2) (y % 2) ≡ r → (r && eqb (x / 2) (y / 2)) ≡ b
    go true e true f = eq-eqb (x / 2) (y / 2) (ap (λ (n : ℕ). n / 2) (eqb-true x y e))
    go true e false f = absurd (eqb-false _ _ f (ap (λ (n : ℕ). n % 2) (eqb-true x y e)))
    go false e true f =
        let l = eqb-true (x % 2) (y % 2) f in
        ne_eqb (x / 2) (y / 2) (λ (q : x / 2 ≡ y / 2). eqb-false x y e (omega arith))
    go false e false f = refl

-- k bits from bit i on are all that is left above a shift by i
same_shift : (k i a b : ℕ) → a / 2 ^ i < 2 ^ k → b / 2 ^ i < 2 ^ k → same_bits k i a b ≡ eqb (a / 2 ^ i) (b / 2 ^ i)
unfolding same_bits
same_shift zero i a b p q = sym (eq-eqb (a / 2 ^ i) (b / 2 ^ i) (omega arith))
same_shift (suc k) i a b p q =
    let f : a / 2 ^ i < 2 ^ k * 2 = rw (pow-suc 2 k) at p in
    let g : b / 2 ^ i < 2 ^ k * 2 = rw (pow-suc 2 k) at q in
    let x = half a i in
    let y = half b i in
    rw (same_shift k (suc i) a b (omega arith) (omega arith), sym x, sym y) (digits (a / 2 ^ i) (b / 2 ^ i))

-- all bits above the tag are equal exactly if the quotients past the tag are
pub above_tag_shift : (p a : ℕ) → 0 < p → p < 2 ^ 64 → a < 2 ^ 64 → same_above_tag p a ≡ eqb (p / 2 ^ (tag p + 1)) (a / 2 ^ (tag p + 1))
unfolding same_above_tag
above_tag_shift p a h f g =
    let t = tag_in_word p h f in
    let e : 63 - tag p + (tag p + 1) ≡ 64 = omega arith in
    same_shift (63 - tag p) (tag p + 1) p a (shr_lt (63 - tag p) (tag p + 1) (rw e f)) (shr_lt (63 - tag p) (tag p + 1) (rw e g))

-- the bits from i on to i + k are the same, one by one
pub same_each : (k i a b : ℕ) → same_bits k i a b ≡ true → (j : ℕ) → i ≤ j → j < i + k → bit j a ≡ bit j b
unfolding same_bits
same_each zero i a b h j p q = absurd (omega arith)
same_each (suc k) i a b h j p q =
    let both = and_parts (eqb (bit i a) (bit i b)) (same_bits k (suc i) a b) h in
    ⊎_elim (λ (e : i ≡ j). rw (sym e) (eqb-true _ _ both.0)) (λ (l : i < j). same_each k (suc i) a b both.1 j (omega arith) (omega arith)) (eq-or-lt_of_le p)

pub each_same : (k i a b : ℕ) → ((j : ℕ) → i ≤ j → j < i + k → bit j a ≡ bit j b) → same_bits k i a b ≡ true
unfolding same_bits
each_same zero i a b h = refl
each_same (suc k) i a b h =
    rw (eq-eqb (bit i a) (bit i b) (h i (omega arith) (omega arith))) (each_same k (suc i) a b (λ j p q. h j (omega arith) (omega arith)))

-- only the bits looked at count
same_swap : (k i p a b : ℕ) → ((j : ℕ) → i ≤ j → j < i + k → bit j a ≡ bit j b) → same_bits k i p a ≡ same_bits k i p b
unfolding same_bits
same_swap zero i p a b h = refl
same_swap (suc k) i p a b h =
    rw (h i (omega arith) (omega arith), same_swap k (suc i) p a b (λ j f g. h j (omega arith) (omega arith)))

-- ---- the shard rule
pub bits_at_or_below_the_tag_do_not_count : (s : ShardIdent) (workchain a b : ℕ)
    → ((j : ℕ) → tag s.prefix < j → j < 64 → bit j a ≡ bit j b) → in_shard s workchain a ≡ in_shard s workchain b
unfolding same_above_tag
bits_at_or_below_the_tag_do_not_count s workchain a b h =
    rw (same_swap (63 - tag s.prefix) (tag s.prefix + 1) s.prefix a b (λ j p q. h j (omega arith) (omega arith)))

-- no bit is above a tag at bit 63
pub prefix_8000000000000000_takes_the_whole_workchain : (s : ShardIdent) (workchain account : ℕ)
    → s.prefix ≡ 2 ^ 63 → in_shard s workchain account ≡ same_workchain s.workchain workchain
unfolding same_above_tag lowest_set same_bits
prefix_8000000000000000_takes_the_whole_workchain s workchain account e = rw e (sym (yes_later (same_workchain s.workchain workchain) true refl))

-- ---- question 2
pub no_prefix : (s : ShardIdent) → s.prefix ≡ 0 → is_shard s ≡ false
unfolding is_shard
no_prefix s e = rw (eq-eqb s.prefix 0 e)

pub low_tag : (s : ShardIdent) → tag s.prefix < 3 → is_shard s ≡ false
unfolding is_shard
low_tag s h = rw (lt-leb 3 (tag s.prefix) h) (sym (no_later (not (eqb s.prefix 0)) false refl))

pub split_masterchain : (s : ShardIdent) → splits_masterchain s ≡ true → is_shard s ≡ false
unfolding is_shard
split_masterchain s e =
    sym (no_later (not (eqb s.prefix 0)) _ (sym (no_later (leb 3 (tag s.prefix)) (not (splits_masterchain s)) (ap not e))))

pub high_tag : (s : ShardIdent) → (s.prefix ≡ 0 → ⊥) → 3 ≤ tag s.prefix → splits_masterchain s ≡ false → is_shard s ≡ true
unfolding is_shard
high_tag s n h e = rw (ne_eqb s.prefix 0 n, le-leb 3 (tag s.prefix) h, e)

pub shard_prefix : (s : ShardIdent) → is_shard s ≡ true → 0 < s.prefix
unfolding is_shard
shard_prefix s h = let n = eqb-false s.prefix 0 (not-true _ (and_parts (not (eqb s.prefix 0)) _ h).0) in omega (arith, n)

-- the question's number tells its answer
number_tells : (b : Bool) → ((pick b 0 2 ≡ zero) → b ≡ true) × ((pick b 0 2 ≡ zero → ⊥) → b ≡ false)
number_tells true = (λ e. refl, λ f. absurd (f refl))
number_tells false = (λ e. absurd (omega arith), λ f. refl)

pub question_yes : (s : ShardIdent) (r : ℕ) → r ≡ shard_number s → r ≡ 0 → is_shard s ≡ true
question_yes s r e z = (number_tells (is_shard s)).0 (sym e ∙ z)

-- what each answer says
pub refused : (s : ShardIdent) (ours : Bool) → is_shard s ≡ false → answer_of (Err NotAShard) ≡ after_question s ours
unfolding after_question
refused s ours e = rw e

pub accepted : (s : ShardIdent) (ours : Bool) → is_shard s ≡ true → after_question s ours ≡ record { number = 0; ours = ours }
unfolding after_question
accepted s ours e = rw e

pub answered : (s : ShardIdent) (told ours : Bool) → is_shard s ≡ true → ours ≡ told → answer_of (Ok told) ≡ after_question s ours
answered s told ours e h = sym (accepted s ours e ∙ rw h)

-- a message by its parts
pub short_message : (s : ShardIdent) (m : List ℕ) → length m < 33 → is_ours s m ≡ false
unfolding is_ours
short_message s m h = rw (lt-leb 33 (length m) h)

pub message_ours : (s : ShardIdent) (m : List ℕ) (account : ℕ) (b : Bool) → 33 ≤ length m → account ≡ big_endian (part 1 8 m) → b ≡ in_shard s (get_or m 0 0) account → is_ours s m ≡ b
unfolding is_ours
message_ours s m account b h e f = rw (le-leb 33 (length m) h, sym e) (sym f)

-- ---- the first word of an account
pub be_eight : (m : List ℕ) → 33 ≤ length m → big_endian (part 1 8 m)
    ≡ get_or m 1 0 * 2 ^ 56 + get_or m 2 0 * 2 ^ 48 + get_or m 3 0 * 2 ^ 40 + get_or m 4 0 * 2 ^ 32 + get_or m 5 0 * 2 ^ 24 + get_or m 6 0 * 2 ^ 16 + get_or m 7 0 * 2 ^ 8 + get_or m 8 0
unfolding big_endian
be_eight m h =
    rw (
      part_cons 0 m 1 8 (omega arith) (omega arith),
      part_cons 0 m 2 7 (omega arith) (omega arith),
      part_cons 0 m 3 6 (omega arith) (omega arith),
      part_cons 0 m 4 5 (omega arith) (omega arith),
      part_cons 0 m 5 4 (omega arith) (omega arith),
      part_cons 0 m 6 3 (omega arith) (omega arith),
      part_cons 0 m 7 2 (omega arith) (omega arith),
      part_cons 0 m 8 1 (omega arith) (omega arith),
    ) (omega arith)
