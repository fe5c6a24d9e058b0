-- Laws of the tables' rows, and of the rules on windows of them.
use Prim.Native.Nat.{ℕ, zero, suc, ◌+◌, ◌-◌, ◌*◌, ◌≤◌, ◌<◌}
use mathlib.Core.Path.{◌≡◌, refl, sym, ap, subst, ◌∙◌}
use mathlib.Core.Bool.{Bool, true, false}
use mathlib.Core.List.{List, [], ◌∷◌, ◌++◌, map}
use mathlib.Core.Option.{some}
use mathlib.Core.Logic.{◌⊎◌, inl, inr, ⊎_elim}
use native.Mathlib.Nat.{eq-zero-or-pos}
use native.Mathlib.Omega.{arith}
use lib.Dec.{ltb, eqb}
use lib.ListN.{length, take, drop, replicate, length-map, length-append}
use lib.Seq.{drop-drop, sets, length-sets}
use borrow.Author.Tests.{lt-ltb, le-ltb, ltb-true, ltb-false, eqb-true, eqb-false}
use Rattle.std.proofs.lemmas.Bool.Decides.{nat_tests}
use Rattle.std.proofs.lemmas.List.{map-append, drop-map, take-map}
use Rattle.std.specs.Ordering.{is_le, nat_cmp}
use Rattle.rows.specs.Rows.{pick, part, le, word, rows, num_at, written, stays, appended, append_answer, appended_if_fits, placed_at}
use Rattle.rows.proofs.Laws.{rows_cons, rows_back, rows_length, rows_drop, rows_take, part_length, sets_append, length_le, sets_all, num_in, written_in, append_some, appended_some, fits_yes}
use Rattle.rows.specs.declared.Appended.{Appended}
use Rattle.rows.specs.declared.Appended.TheVariants.{Behind, Moved}
use Rattle.anchors_cache.specs.declared.AnchorsCache.{AnchorsCache}
use Rattle.cache_rules.proofs.ByCall.{trim_snoc}
use Rattle.cache_rules.proofs.Lists.{trim_prefix, stale_le, trim_le, history_snoc, history_le, history_prefix, last_snoc}
use Rattle.cache_rules.specs.Rules.{row_of, Info, Row, drop_stale, trim_back, trim_history, last_of, total, author_bytes}
use Rattle.anchors_cache.specs.Tables.{with_messages, history_bytes, anchor_row, info_row, anchor_of, info_of, anchors, infos, anchor_at, info_at}
use Rattle.anchors_cache.specs.Windows.{Inside, row_time, popped_by, popped_cache, popped_times, trimmed_cache, Lies}

-- ---- rows of a table
-- what rows of w bytes say, n of them from `start` and `first` rows on; both tables are such
module _ {A : Type 0} (f : List ℕ → A) (w start : ℕ) where
  abbrev pub says : ℕ → ℕ → List ℕ → List A
  says first n l = map f (rows w n (drop (start + w * first) l))

  module _ (next : (first : ℕ) → start + w * (first + 1) ≡ start + w * first + w) where
    pub says_cons : (first n : ℕ) (l : List ℕ) → 0 < n → says first n l ≡ f (part (start + w * first) w l) ∷ says (first + 1) (n - 1) l
    says_cons first n l p = rw (rows_cons w n (start + w * first) l p, next first)

  pub says_length : (first n : ℕ) (l : List ℕ) → length (says first n l) ≡ n
  says_length first n l = length-map (rows w n (drop (start + w * first) l)) f ∙ rows_length w n _

  module _ (more : (first k : ℕ) → start + w * first + w * k ≡ start + w * (first + k)) where
    pub says_snoc : (first n : ℕ) (l : List ℕ) → 0 < n → says first n l ≡ says first (n - 1) l ++ (f (part (start + w * (first + (n - 1))) w l) ∷ [])
    says_snoc first n l p =
        rw (rows_back w n (drop (start + w * first) l) p, drop-drop (w * (n - 1)) (start + w * first) l, more first (n - 1))
        (map-append f (rows w (n - 1) (drop (start + w * first) l)) (part (start + w * (first + (n - 1))) w l ∷ []))

    pub says_drop : (first k n : ℕ) (l : List ℕ) → drop k (says first n l) ≡ says (first + k) (n - k) l
    says_drop first k n l =
        rw (drop-map f k (rows w n (drop (start + w * first) l)), rows_drop w k n (drop (start + w * first) l), drop-drop (w * k) (start + w * first) l, more first k)

  pub says_take : (first k n : ℕ) (l : List ℕ) → k ≤ n → take k (says first n l) ≡ says first k l
  says_take first k n l p = take-map f k (rows w n (drop (start + w * first) l)) ∙ rw (rows_take w k n (drop (start + w * first) l) p)

-- ---- the window of the anchors
pub anchors_cons : (first n : ℕ) (l : List ℕ) → 0 < n → anchors first n l ≡ anchor_at first l ∷ anchors (first + 1) (n - 1) l
unfolding anchors
anchors_cons = says_cons anchor_of 50 history_bytes (λ (first : ℕ). omega arith)

pub anchors_length : (first n : ℕ) (l : List ℕ) → length (anchors first n l) ≡ n
unfolding anchors
anchors_length = says_length anchor_of 50 history_bytes

pub anchors_snoc : (first n : ℕ) (l : List ℕ) → 0 < n → anchors first n l ≡ anchors first (n - 1) l ++ (anchor_at (first + (n - 1)) l ∷ [])
unfolding anchors
anchors_snoc = says_snoc anchor_of 50 history_bytes (λ (first k : ℕ). omega arith)

pub anchors_drop : (first k n : ℕ) (l : List ℕ) → drop k (anchors first n l) ≡ anchors (first + k) (n - k) l
unfolding anchors
anchors_drop = says_drop anchor_of 50 history_bytes (λ (first k : ℕ). omega arith)

pub anchors_take : (first k n : ℕ) (l : List ℕ) → k ≤ n → take k (anchors first n l) ≡ anchors first k l
unfolding anchors
anchors_take = says_take anchor_of 50 history_bytes

pub anchors_none : (first k : ℕ) (l : List ℕ) → k ≤ 0 → anchors first k l ≡ []
unfolding anchors rows
anchors_none first zero l p = refl
anchors_none first (suc k) l p = absurd (omega arith)

-- ---- the window of the history
abbrev at_zero : (first : ℕ) → 0 + 52 * first ≡ 52 * first
at_zero first = omega arith

infos_says : (first n : ℕ) (l : List ℕ) → infos first n l ≡ says info_of 52 0 first n l
unfolding infos
infos_says first n l = rw (at_zero first)

pub infos_cons : (first n : ℕ) (l : List ℕ) → 0 < n → infos first n l ≡ info_at first l ∷ infos (first + 1) (n - 1) l
infos_cons first n l p =
    rw (infos_says first n l, infos_says (first + 1) (n - 1) l) (says_cons info_of 52 0 (λ (i : ℕ). omega arith) first n l p ∙ rw (at_zero first))

pub infos_length : (first n : ℕ) (l : List ℕ) → length (infos first n l) ≡ n
infos_length first n l = rw (infos_says first n l) (says_length info_of 52 0 first n l)

pub infos_snoc : (first n : ℕ) (l : List ℕ) → 0 < n → infos first n l ≡ infos first (n - 1) l ++ (info_at (first + (n - 1)) l ∷ [])
infos_snoc first n l p =
    rw (infos_says first n l, infos_says first (n - 1) l) (says_snoc info_of 52 0 (λ (i k : ℕ). omega arith) first n l p ∙ rw (at_zero (first + (n - 1))))

pub infos_end : (first n k : ℕ) (l : List ℕ) → k ≤ n → drop (n - k) (infos first n l) ≡ infos (first + (n - k)) k l
infos_end first n k l p =
    let e : n - (n - k) ≡ k = omega arith in
    rw (infos_says first n l, infos_says (first + (n - k)) k l) (says_drop info_of 52 0 (λ (i j : ℕ). omega arith) first (n - k) n l ∙ rw e)

pub infos_take : (first k n : ℕ) (l : List ℕ) → k ≤ n → take k (infos first n l) ≡ infos first k l
infos_take first k n l p = rw (infos_says first n l, infos_says first k l) (says_take info_of 52 0 first k n l p)

pub infos_none : (first k : ℕ) (l : List ℕ) → k ≤ 0 → infos first k l ≡ []
unfolding infos rows
infos_none first zero l p = refl
infos_none first (suc k) l p = absurd (omega arith)

-- ---- the messages of anchors
pub total_more : (first k : ℕ) (l : List ℕ) → 0 < k → total (anchors first k l) ≡ (anchor_at first l).count + total (anchors (first + 1) (k - 1) l)
unfolding total
total_more first k l p = rw (anchors_cons first k l p)

pub total_none : (first k : ℕ) (l : List ℕ) → k ≤ 0 → total (anchors first k l) ≡ 0
unfolding total
total_none first k l p = rw (anchors_none first k l p)

pub length_messages : (bytes : List ℕ) (l : List Row) → length (with_messages bytes l) ≡ length l
unfolding with_messages
length_messages bytes [] = refl
length_messages bytes (a ∷ l) = ap suc (length_messages (drop (33 * a.count) bytes) l)

-- ---- the messages of a window
pub rows_of_messages : (bytes : List ℕ) (l : List Row) → map row_of (with_messages bytes l) ≡ l
unfolding with_messages
rows_of_messages bytes [] = refl
rows_of_messages bytes (a ∷ l) = rw (rows_length 33 a.count bytes, rows_of_messages (drop (33 * a.count) bytes) l)

-- what the code's comparison of two chain times tells
pub time_tells : (a b : ℕ) → ((is_le (nat_cmp a b) ≡ true) × (a ≤ b)) ⊎ ((is_le (nat_cmp a b) ≡ false) × (b < a))
time_tells a b = go (ltb a b) refl (eqb a b) refl
  where
    go : (x : Bool) → ltb a b ≡ x → (y : Bool) → eqb a b ≡ y → ((is_le (nat_cmp a b) ≡ true) × (a ≤ b)) ⊎ ((is_le (nat_cmp a b) ≡ false) × (b < a))
    go true p y q = inl (rw p, omega (arith, ltb-true a b p))
    go false p true q = inl (rw (p, q), omega (arith, eqb-true a b q))
    go false p false q = let d = eqb-false a b q in inr (rw (p, q), omega (arith, ltb-false a b p))

-- ---- stale history: a turn of the loop, and its two ends
module _ (first k ct : ℕ) (l : List ℕ) where
  stale_step : 1 < k → drop_stale ct (infos first k l) ≡ pick (ltb (info_at first l).time ct) (drop_stale ct (infos (first + 1) (k - 1) l)) (infos first k l)
  unfolding drop_stale
  stale_step p = rw (infos_cons first k l (omega arith), infos_cons (first + 1) (k - 1) l (omega arith))

  pub stale_more : 1 < k → (info_at first l).time < ct → drop_stale ct (infos first k l) ≡ drop_stale ct (infos (first + 1) (k - 1) l)
  stale_more p q = stale_step p ∙ rw (lt-ltb _ _ q)

  pub stale_stop : 1 < k → ct ≤ (info_at first l).time → length (drop_stale ct (infos first k l)) ≡ k
  stale_stop p q = ap length (stale_step p ∙ rw (le-ltb _ _ q)) ∙ infos_length first k l

pub stale_few : (first k ct : ℕ) (l : List ℕ) → k ≤ 1 → length (drop_stale ct (infos first k l)) ≡ k
unfolding drop_stale infos rows
stale_few first zero ct l p = refl
stale_few first (suc zero) ct l p = refl
stale_few first (suc (suc k)) ct l p = absurd (omega arith)

pub ruleset stale_turns = (time_tells, stale_more, stale_stop, stale_few)

pub fresh_le : (ct first len : ℕ) (l : List ℕ) → length (drop_stale ct (infos first len l)) ≤ len
fresh_le ct first len l = omega (arith, stale_le ct (infos first len l), infos_length first len l)

-- ---- pops one after the other
pub popped_empty : (tables : List ℕ) (c : AnchorsCache) → c.len ≤ 0 → popped_cache tables c ≡ c
unfolding popped_cache
popped_empty tables c e = ap (λ (l : List Row). popped_by l tables c) (anchors_none c.first c.len tables e)

popped_lies_some : (tables : List ℕ) (c : AnchorsCache) → 0 < c.len → Lies tables c → Lies tables (popped_cache tables c)
unfolding popped_cache
popped_lies_some tables c nonempty p =
    let w = anchors_cons c.first c.len tables nonempty in
    let a = anchor_at c.first tables in
    let l = anchors (c.first + 1) (c.len - 1) tables in
    let t = total_more c.first c.len tables nonempty in
    let f = fresh_le a.time c.history_first c.history_len tables in
    rw w (record { tall = p.tall; anchors_within = omega (arith, p.anchors_within); history_within = omega (arith, p.history_within); in_memory = omega (arith, p.in_memory) })

pub popped_lies : (tables : List ℕ) (c : AnchorsCache) → Lies tables c → Lies tables (popped_cache tables c)
popped_lies tables c p =
    ⊎_elim (λ (e : c.len ≡ 0). subst (Lies tables) (sym (popped_empty tables c (omega arith))) p) (λ (q : 0 < c.len). popped_lies_some tables c q p) (eq-zero-or-pos c.len)

pub popped_len : (tables : List ℕ) (c : AnchorsCache) → 0 < c.len → (popped_cache tables c).len ≡ c.len - 1
unfolding popped_cache
popped_len tables c nonempty = rw (anchors_cons c.first c.len tables nonempty)

pub times_more : (n : ℕ) (tables : List ℕ) (c : AnchorsCache) → 0 < n → popped_times n tables c ≡ popped_times (n - 1) tables (popped_cache tables c)
unfolding popped_times
times_more zero tables c p = absurd (omega arith)
times_more (suc n) tables c p = let e : suc n - 1 ≡ n = omega arith in rw e

pub times_none : (n : ℕ) (tables : List ℕ) (c : AnchorsCache) → n ≤ 0 → popped_times n tables c ≡ c
unfolding popped_times
times_none zero tables c p = refl
times_none (suc n) tables c p = absurd (omega arith)

pub times_empty : (n : ℕ) (tables : List ℕ) (c : AnchorsCache) → c.len ≤ 0 → popped_times n tables c ≡ c
unfolding popped_times
times_empty zero tables c p = refl
times_empty (suc n) tables c p = ap (popped_times n tables) (popped_empty tables c p) ∙ times_empty n tables c p

-- a turn of the loop over the anchors
module _ (ct first k : ℕ) (l : List ℕ) where
  kept_step : 0 < k → trim_back row_time ct (anchors first k l) ≡ pick (ltb ct (anchor_at (first + (k - 1)) l).time) (trim_back row_time ct (anchors first (k - 1) l)) (anchors first k l)
  kept_step p = rw (anchors_snoc first k l p) (trim_snoc row_time ct (anchors first (k - 1) l) (anchor_at (first + (k - 1)) l))

  pub kept_more : 0 < k → ct < (anchor_at (first + (k - 1)) l).time → trim_back row_time ct (anchors first k l) ≡ trim_back row_time ct (anchors first (k - 1) l)
  kept_more p q = kept_step p ∙ rw (lt-ltb _ _ q)

  pub kept_stop : 0 < k → (anchor_at (first + (k - 1)) l).time ≤ ct → length (trim_back row_time ct (anchors first k l)) ≡ k
  kept_stop p q = ap length (kept_step p ∙ rw (le-ltb _ _ q)) ∙ anchors_length first k l

pub kept_none : (ct first k : ℕ) (l : List ℕ) → k ≤ 0 → length (trim_back row_time ct (anchors first k l)) ≡ 0
unfolding trim_back
kept_none ct first k l p = rw (anchors_none first k l p)

pub kept_le : (ct first n : ℕ) (l : List ℕ) → length (trim_back row_time ct (anchors first n l)) ≤ n
kept_le ct first n l = omega (arith, trim_le row_time ct (anchors first n l), anchors_length first n l)

pub ruleset kept_turns = (time_tells, kept_more, kept_stop, kept_none)

-- the history, whose front stays
module _ (ct : ℕ) where
  module _ (first k : ℕ) (l : List ℕ) where
    history_step : 1 < k → trim_history ct (infos first k l) ≡ pick (ltb ct (info_at (first + (k - 1)) l).time) (trim_history ct (infos first (k - 1) l)) (infos first k l)
    history_step p =
        let e = infos_length first (k - 1) l in
        rw (infos_snoc first k l (omega arith)) (history_snoc ct (infos first (k - 1) l) (info_at (first + (k - 1)) l) (omega arith))

    pub history_more : 1 < k → ct < (info_at (first + (k - 1)) l).time → trim_history ct (infos first k l) ≡ trim_history ct (infos first (k - 1) l)
    history_more p q = history_step p ∙ rw (lt-ltb _ _ q)

    pub history_stop : 1 < k → (info_at (first + (k - 1)) l).time ≤ ct → length (trim_history ct (infos first k l)) ≡ k
    history_stop p q = ap length (history_step p ∙ rw (le-ltb _ _ q)) ∙ infos_length first k l

  pub history_few : (first k : ℕ) (l : List ℕ) → k ≤ 1 → length (trim_history ct (infos first k l)) ≡ k
  unfolding trim_history trim_back infos rows
  history_few first zero l p = refl
  history_few first (suc zero) l p = refl
  history_few first (suc (suc k)) l p = absurd (omega arith)

pub ruleset history_turns = (time_tells, history_more, history_stop, history_few)

pub history_kept_le : (ct first n : ℕ) (l : List ℕ) → length (trim_history ct (infos first n l)) ≤ n
history_kept_le ct first n l = omega (arith, history_le ct (infos first n l), infos_length first n l)

-- what a trim leaves lies where the window lay
pub trimmed_inside : (ct : ℕ) (tables : List ℕ) (c : AnchorsCache) → Inside tables c → Inside tables (trimmed_cache ct tables c)
unfolding trimmed_cache
trimmed_inside ct tables c i =
    (i.0, omega (arith, i.1, kept_le ct c.first c.len tables), omega (arith, i.2, history_kept_le ct c.history_first c.history_len tables))

pub kept_window : (ct first n : ℕ) (l : List ℕ) → anchors first (length (trim_back row_time ct (anchors first n l))) l ≡ trim_back row_time ct (anchors first n l)
kept_window ct first n l = sym (anchors_take first _ n l (kept_le ct first n l)) ∙ trim_prefix row_time ct (anchors first n l)

pub kept_history : (ct first n : ℕ) (l : List ℕ) → infos first (length (trim_history ct (infos first n l))) l ≡ trim_history ct (infos first n l)
kept_history ct first n l = sym (infos_take first _ n l (history_kept_le ct first n l)) ∙ history_prefix ct (infos first n l)

pub last_info : (first n : ℕ) (l : List ℕ) → 0 < n → last_of (infos first n l) ≡ some (info_at (first + (n - 1)) l)
last_info first n l p = rw (infos_snoc first n l p) (last_snoc (infos first (n - 1) l) (info_at (first + (n - 1)) l))

pub last_anchor : (first n : ℕ) (l : List ℕ) → 0 < n → last_of (anchors first n l) ≡ some (anchor_at (first + (n - 1)) l)
last_anchor first n l p = rw (anchors_snoc first n l p) (last_snoc (anchors first (n - 1) l) (anchor_at (first + (n - 1)) l))

pub ruleset last_tests = (nat_tests, anchors_none, last_anchor)

-- ---- rows read: a number of a row that lies in the table
pub row_num : (l : List ℕ) (at w a k : ℕ) → at + w ≤ length l → a + k ≤ w → num_at k a (take (at + w - at) (drop at l)) ≡ word (part a k (part at w l))
row_num l at w a k p q =
    let e : at + w - at ≡ w = omega arith in
    let n : length (part at w l) ≡ w = part_length l at w p in
    rw e (num_in k a (part at w l) (omega arith))

-- an author, copied out of the tables
pub author_copied : (l : List ℕ) (at : ℕ) → at + author_bytes ≤ length l → written 0 (take (at + author_bytes - at) (drop at l)) (replicate author_bytes 0) ≡ part at author_bytes l
author_copied l at p =
    let e : at + author_bytes - at ≡ author_bytes = omega arith in
    let n : length (part at author_bytes l) ≡ author_bytes = part_length l at author_bytes p in
    rw e (written_in 0 (part at author_bytes l) (replicate author_bytes 0) (omega arith) ∙ sets_all (replicate author_bytes 0) (part at author_bytes l) n)

-- ---- a window of a table after an append that fits
module _ (start from n k cap len : ℕ) (lies : start + cap ≤ len) (held : from + n ≤ cap) (space : n + k ≤ cap) where
  pub placed_fits : (first : ℕ) → placed_at (append_answer start from n k cap len) first ≡ pick (stays from n k cap) first 0
  placed_fits first = ap (λ (a : Appended). placed_at a first) (append_some start from n k cap len (fits_yes start from n k cap len lies held space)) ∙ go (stays from n k cap)
    where
      go : (b : Bool) → placed_at (pick b Behind Moved) first ≡ pick b first 0
      go true = refl
      go false = refl

  pub append_fits : (new l : List ℕ) → length new ≡ k → length l ≡ len → appended_if_fits start from n cap new l ≡ appended start from n cap new l
  append_fits new l e f = appended_some start from n cap new l (rw (e, f) (fits_yes start from n k cap len lies held space))

-- ---- rows written
store : (m at : ℕ) (vs l : List ℕ) → length l ≡ m → at + length vs ≤ m → (written at vs l ≡ sets l at vs) × (length (sets l at vs) ≡ m)
store m at vs l e p = (written_in at vs l (omega arith), length-sets l at vs ∙ e)

-- five fields of a row of m bytes, each inside it
five_stores : (m : ℕ) (l : List ℕ) → length l ≡ m → (p q r s t : ℕ) (u v w x y : List ℕ)
    → p + length u ≤ m → q + length v ≤ m → r + length w ≤ m → s + length x ≤ m → t + length y ≤ m
    → written t y (written s x (written r w (written q v (written p u l)))) ≡ sets (sets (sets (sets (sets l p u) q v) r w) s x) t y
five_stores m l e p q r s t u v w x y a b c d f =
    let one = store m p u l e a in
    let two = store m q v (sets l p u) one.1 b in
    let three = store m r w (sets (sets l p u) q v) two.1 c in
    let four = store m s x (sets (sets (sets l p u) q v) r w) three.1 d in
    let five = store m t y (sets (sets (sets (sets l p u) q v) r w) s x) four.1 f in
    rw (one.0, two.0, three.0, four.0, five.0)

num_fits : (at k v m : ℕ) → at + k ≤ m → at + length (le k v) ≤ m
num_fits at k v m p = rw (length_le k v) p

module _ (i : Info) (full : length i.author ≡ author_bytes) where
  pub length_info : length (info_row i) ≡ 52
  unfolding info_row
  length_info = simp (length-append, length_le, full) refl

  info_stores : (l : List ℕ) → length l ≡ 52
      → sets (sets (sets (sets (sets l 0 (le 4 i.id)) 4 (le 8 i.time)) 12 (le 4 i.all)) 16 (le 4 i.ours)) 20 i.author ≡ info_row i
  unfolding info_row
  info_stores l e = sym (simp (sets_append, length_le) refl) ∙ sets_all l (info_row i) (length_info ∙ sym e)

  pub info_written : (l : List ℕ) → length l ≡ 52
      → written 20 i.author (written 16 (le 4 i.ours) (written 12 (le 4 i.all) (written 4 (le 8 i.time) (written 0 (le 4 i.id) l)))) ≡ info_row i
  info_written l e =
      five_stores 52 l e 0 4 12 16 20 (le 4 i.id) (le 8 i.time) (le 4 i.all) (le 4 i.ours) i.author
      (num_fits 0 4 i.id 52 (omega arith)) (num_fits 4 8 i.time 52 (omega arith)) (num_fits 12 4 i.all 52 (omega arith)) (num_fits 16 4 i.ours 52 (omega arith)) (omega arith)
      ∙ info_stores l e

module _ (a : Row) (full : length a.author ≡ author_bytes) where
  pub length_anchor : length (anchor_row a) ≡ 50
  unfolding anchor_row
  length_anchor = simp (length-append, length_le, full) refl

  anchor_stores : (l : List ℕ) → length l ≡ 50
      → sets (sets (sets (sets (sets l 0 (le 4 a.id)) 4 (le 8 a.time)) 12 a.author) 44 (le 4 a.ours)) 48 (le 2 a.count) ≡ anchor_row a
  unfolding anchor_row le
  anchor_stores l e = sym (simp (sets_append, length_le, full) refl) ∙ sets_all l (anchor_row a) (length_anchor ∙ sym e)

  pub anchor_written : (l : List ℕ) → length l ≡ 50
      → written 48 (le 2 a.count) (written 44 (le 4 a.ours) (written 12 a.author (written 4 (le 8 a.time) (written 0 (le 4 a.id) l)))) ≡ anchor_row a
  anchor_written l e =
      five_stores 50 l e 0 4 12 44 48 (le 4 a.id) (le 8 a.time) a.author (le 4 a.ours) (le 2 a.count)
      (num_fits 0 4 a.id 50 (omega arith)) (num_fits 4 8 a.time 50 (omega arith)) (omega arith) (num_fits 44 4 a.ours 50 (omega arith)) (num_fits 48 2 a.count 50 (omega arith))
      ∙ anchor_stores l e
