-- What a read of all tells: each sum is at most 1,024 for each of 16 ranges, and its number is 0 or a range's.
use Prim.Native.Nat.{ℕ, zero, suc, ◌+◌, ◌-◌, ◌*◌, ◌≤◌}
use mathlib.Core.Path.{◌≡◌}
use mathlib.Core.Bool.{true}
use mathlib.Core.List.{List}
use native.Mathlib.Omega.{arith}
use lib.Dec.{eqb}
use lib.ListN.{get_or}
use Rattle.rows.proofs.Laws.{pick_both}
use Rattle.cache_rules.specs.Rules.{max_messages}
use Rattle.range_rules.specs.declared.ExternalsRangeReaderState.{ExternalsRangeReaderState}
use Rattle.range_rules.specs.declared.ReadCounts.{ReadCounts}
use Rattle.range_rules.specs.declared.ReadNextExternalsMode.{ReadNextExternalsMode}
use Rattle.range_rules.specs.Bounds.{AtMost}
use Rattle.reader_rules.specs.declared.Fixed.{Fixed}
use Rattle.reader_rules.specs.Turns.{RangesRead}
use Rattle.reader_rules.specs.Each.{each}
use Rattle.reader_rules.specs.State.{max_ranges, open_ranges_limit_of}
use Rattle.reader_rules.specs.Rules.{sums, counts_added, Told, after_turn, OneRange, wants_next, with_next_range, ranges_read}
use Rattle.reader_rules.proofs.Kept.{wanted}
use Rattle.reader_rules.proofs.Turns.{the_read_of_all_keeps_what_each_range's_read_keeps}

-- ---- the sums
each_at_most : (n : ℕ) (f : ℕ → ℕ) (k : ℕ) → ((j : ℕ) → f j ≤ k) → (i : ℕ) → get_or (each n f) i 0 ≤ k
unfolding each
each_at_most zero f k h i = omega arith
each_at_most (suc n) f k h zero = h 0
each_at_most (suc n) f k h (suc i) = each_at_most n (λ j. f (suc j)) k (λ j. h (suc j)) i

sums_at_most : (a b : List ℕ) (k m : ℕ) → ((j : ℕ) → get_or a j 0 ≤ k) → ((j : ℕ) → get_or b j 0 ≤ m) → (i : ℕ) → get_or (sums a b) i 0 ≤ k + m
unfolding sums
sums_at_most a b k m f g = each_at_most 8 (λ j. get_or a j 0 + get_or b j 0) (k + m) (λ j. omega (arith, f j, g j))

pub added_at_most : (a b : ReadCounts) (k m : ℕ) → AtMost k a → AtMost m b → AtMost (k + m) (counts_added a b)
added_at_most a b k m f g =
    record {
      read = sums_at_most a.read b.read k m f.read g.read;
      expired = sums_at_most a.expired b.expired k m f.expired g.expired;
      buffered = sums_at_most a.buffered b.buffered k m f.buffered g.buffered;
    }

pub more_at_most : (k m : ℕ) (c : ReadCounts) → k ≤ m → AtMost k c → AtMost m c
more_at_most k m c h a = record { read = λ i. omega (arith, h, a.read i); expired = λ i. omega (arith, h, a.expired i); buffered = λ i. omega (arith, h, a.buffered i) }

-- 16 ranges of at most 1,024 cached messages
abbrev pub max_sum : ℕ
max_sum = max_messages * max_ranges

-- of all ranges but the last k
record Summed (k : ℕ) (r : RangesRead) : Type 0 where
  few : AtMost (max_messages * (r.len - k)) r.so_far.counts
  left : k ≤ r.len
  slots : r.len ≤ max_ranges

turn_summed : (x : Fixed) (k i : ℕ) (r : RangesRead) (a : Told) → AtMost max_messages a.counts → Summed (suc k) r → Summed k (after_turn x i r a)
unfolding after_turn
turn_summed x k i r a f h =
    let c = r.so_far.counts in
    let e : max_messages * (r.len - suc k) + max_messages ≤ max_messages * (r.len - k) = omega (arith, h.left) in
    let l : k ≤ r.len = omega (arith, h.left) in
    pick_both (Summed k) (eqb a.number 0) _ _
    (record { few = more_at_most _ _ (counts_added c a.counts) e (added_at_most c a.counts (max_messages * (r.len - suc k)) max_messages h.few f); left = l; slots = h.slots })
    (record { few = more_at_most _ _ c (omega (arith, e)) h.few; left = l; slots = h.slots })

-- the next range is one of the 16: it is appended below the open-ranges limit
pub each_sum_is_at_most_1024_for_each_of_16_ranges : (one : OneRange) (x : Fixed) → open_ranges_limit_of x.params ≤ max_ranges
    → ((pops : ℕ) (mode : ReadNextExternalsMode) (range : ExternalsRangeReaderState) (room : ℕ) → AtMost max_messages (one pops mode range room).value.counts)
    → (r : RangesRead) → r.len ≤ max_ranges → AtMost 0 r.so_far.counts → AtMost max_sum (ranges_read one x r).value.so_far.counts
unfolding with_next_range
each_sum_is_at_most_1024_for_each_of_16_ranges one x limit fits r slots h =
    let q = (ranges_read one x r).value in
    let s =
    the_read_of_all_keeps_what_each_range's_read_keeps one x Summed passed
    (λ k p g. record { few = g.few; left = g.left; slots = g.slots })
    (λ k i p g. turn_summed x k i p _ (fits _ _ _ _) g)
    next
    r
    (record { few = more_at_most 0 (max_messages * (r.len - r.len)) r.so_far.counts (omega arith) h; left = omega arith; slots = slots }) in
    more_at_most (max_messages * (q.len - 0)) max_sum q.so_far.counts (omega (arith, s.slots)) s.few
  where
    passed : (k : ℕ) (p : RangesRead) → Summed (suc k) p → Summed k p
    passed k p g = record { few = more_at_most (max_messages * (p.len - suc k)) (max_messages * (p.len - k)) p.so_far.counts (omega arith) g.few; left = omega (arith, g.left); slots = g.slots }

    next : (p : RangesRead) → wants_next x p ≡ true → Summed 0 p → Summed 1 (with_next_range x p)
    next p w g =
        record { few = more_at_most (max_messages * (p.len - 0)) (max_messages * (p.len + 1 - 1)) p.so_far.counts (omega arith) g.few; left = omega arith; slots = omega (arith, limit, (wanted x p w).0) }

-- ---- the number
module _ (N : ℕ → Type 0) (none : N 0) (x : Fixed) where
  turn_numbered : (i : ℕ) (r : RangesRead) (a : Told) → N a.number → N (after_turn x i r a).so_far.number
  unfolding after_turn
  turn_numbered i r a h = let P : RangesRead → Type 0 = λ q. N q.so_far.number in pick_both P (eqb a.number 0) _ _ none h

  pub the_number_of_a_read_of_all_is_0_or_a_range's : (one : OneRange) → ((pops : ℕ) (mode : ReadNextExternalsMode) (range : ExternalsRangeReaderState) (room : ℕ) → N (one pops mode range room).value.number)
      → (r : RangesRead) → N r.so_far.number → N (ranges_read one x r).value.so_far.number
  unfolding with_next_range
  the_number_of_a_read_of_all_is_0_or_a_range's one told =
      the_read_of_all_keeps_what_each_range's_read_keeps one x (λ k q. N q.so_far.number) (λ k q h. h) (λ k q h. h) (λ k i q h. turn_numbered i q _ (told _ _ _ _)) (λ q w h. h)
