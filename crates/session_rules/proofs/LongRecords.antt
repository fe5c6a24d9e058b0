-- A record of more than 16948 bytes is never taken: what it says, and that it leaves all lent bytes, is known from
-- its first 52 bytes and its length.
use Prim.Native.Nat.{ℕ, ◌+◌, ◌-◌, ◌*◌, ◌≤◌, ◌<◌}
use mathlib.Core.Path.{◌≡◌, refl, sym, ap, ◌∙◌}
use mathlib.Core.Bool.{Bool, true, false, not, ◌&&◌}
use mathlib.Core.List.{List, [], ◌∷◌}
use mathlib.Core.Logic.{⊎_elim, ◌⊎◌}
use native.Mathlib.Omega.{arith}
use lib.Dec.{ltb, eqb}
use lib.ListN.{length, take, drop, length-drop}
use lib.Seq.{drop-drop, length-take-le}
use Rattle.std.proofs.lemmas.Bool.Decides.{nat_tests}
use borrow.Author.Tests.{lt-leb, le-ltb, eqb-true, eqb-false, ne_eqb}
use Rattle.anchors_cache.proofs.Asked.{on_not}
use Rattle.rows.specs.Rows.{pick, word, num_at}
use Rattle.rows.proofs.Laws.{num_in, part_part, pick_no}
use Rattle.messages_buffer.specs.Fullness.{first_no}
use Rattle.anchors_cache.specs.declared.AnchorsCacheTransaction.{AnchorsCacheTransaction}
use Rattle.cache_rules.specs.Rules.{right_size, max_anchor_messages}
use Rattle.anchors_cache.specs.Calls.{refusal, answer, add_number, add_call}
use Rattle.records.specs.Records.{in_place, as_stated, record_number, longest_record}
use Rattle.session_rules.specs.declared.Session.{Session}
use Rattle.session_rules.specs.Said.{record_counted, nothing_said, bad_said, malformed_said, anchor_number, anchor_taken, tables_after, area_after, anchor_said, plain_said, plain_tables, plain_area, plain_routes, is_taken, long_number, long_said}
use Rattle.session_rules.proofs.Printed.{bad_where_refused}

-- ---- the first 52 bytes
module _ (rec : List ℕ) (long : longest_record < length rec) where
  head_kind : num_at 2 0 (take 52 rec) ≡ num_at 2 0 rec
  head_kind =
      let k : length (take 52 rec) ≡ 52 = length-take-le 52 rec (omega arith) in
      num_in 2 0 (take 52 rec) (omega arith) ∙ (ap word (part_part rec 0 52 0 2 (omega arith)) ∙ sym (num_in 2 0 rec (omega arith)))

  head_count : num_at 2 50 (take 52 rec) ≡ num_at 2 48 (drop 2 rec)
  head_count =
      let k : length (take 52 rec) ≡ 52 = length-take-le 52 rec (omega arith) in
      let d = length-drop 2 rec in
      num_in 2 50 (take 52 rec) (omega arith)
      ∙ (ap word (part_part rec 0 52 50 2 (omega arith))
      ∙ (ap (λ (l : List ℕ). word (take 2 l)) (sym (drop-drop 48 2 rec)) ∙ sym (num_in 2 48 (drop 2 rec) (omega arith))))

-- ---- question 17 of a long payload
-- an anchor's place is behind the settings
placed : (number : ℕ) → in_place number 4 ≡ not (ltb number 3)
unfolding in_place
placed number = grind (arith, nat_tests)

module _ (kind : ℕ) (p : List ℕ) (long : 50 + 33 * max_anchor_messages < length p) where
  -- only an anchor can be so long
  stated_long : as_stated kind p ≡ (eqb kind 4 && eqb (length p) (50 + 33 * num_at 2 48 p))
  unfolding as_stated
  stated_long =
      let a : eqb (length p) 12 ≡ false = ne_eqb (length p) 12 (λ e. omega arith) in
      let b : eqb (length p) 34 ≡ false = ne_eqb (length p) 34 (λ e. omega arith) in
      let c : eqb (length p) 1 ≡ false = ne_eqb (length p) 1 (λ e. omega arith) in
      rw (a, b, c) (grind (arith, nat_tests))

  question_17_long : (number : ℕ) → record_number number kind p ≡ pick (ltb number 3) 17 (pick (eqb kind 4) (pick (eqb (length p) (50 + 33 * num_at 2 48 p)) 0 17) 17)
  unfolding record_number
  question_17_long number = rw stated_long (grind (arith, nat_tests, placed))

-- ---- question 6 of too many messages
module _ (len : ℕ) (tables : List ℕ) (t : AnchorsCacheTransaction) (p : List ℕ) where
  too_many_number : 50 + 33 * max_anchor_messages < length p → anchor_number len tables t p ≡ first_no (refusal len tables t ∷ 6 ∷ [])
  unfolding anchor_number add_number refusal right_size first_no
  too_many_number long =
      let d = length-drop 50 p in
      rw (lt-leb (length (drop 50 p)) (33 * max_anchor_messages) (omega arith)) (grind arith)

  add_refuses_too_many : 50 + 33 * max_anchor_messages < length p → anchor_number len tables t p ≡ 0 → ⊥
  unfolding first_no
  add_refuses_too_many long e = let h = sym (too_many_number long) ∙ e in grind arith

-- ---- the record's number
two_less : (n m k : ℕ) → m ≡ n - 2 → 2 ≤ n → eqb n (52 + k) ≡ eqb m (50 + k)
two_less n m k e h = grind (arith, nat_tests)

record_0_or_17 : (number kind : ℕ) (p : List ℕ) → (record_number number kind p ≡ 0) ⊎ (record_number number kind p ≡ 17)
unfolding record_number
record_0_or_17 number kind p = grind arith

module _ (rec : List ℕ) (long : longest_record < length rec) where
  payload_long : 50 + 33 * max_anchor_messages < length (drop 2 rec)
  payload_long = let d = length-drop 2 rec in omega arith

  -- question 17 first, then those of `add`: the number of the whole record is that of its first 52 bytes
  pub a_long_record_is_judged_by_its_first_52_bytes : (len : ℕ) (tables : List ℕ) (number : ℕ) (t : AnchorsCacheTransaction)
      → first_no (record_number number (num_at 2 0 rec) (drop 2 rec) ∷ anchor_number len tables t (drop 2 rec) ∷ []) ≡ long_number len tables number t (take 52 rec) (length rec)
  unfolding long_number first_no
  a_long_record_is_judged_by_its_first_52_bytes len tables number t =
      let d = length-drop 2 rec in
      let p = drop 2 rec in
      let count = num_at 2 48 p in
      rw (head_kind rec long, head_count rec long, two_less (length rec) (length p) (33 * count) d (omega arith), question_17_long (num_at 2 0 rec) p payload_long number, too_many_number len tables t p payload_long)
      (grind (arith, nat_tests))

  -- only an anchor can be so long
  pub a_long_record_of_another_kind_is_malformed : (number : ℕ) → (num_at 2 0 rec ≡ 4 → ⊥) → record_number number (num_at 2 0 rec) (drop 2 rec) ≡ 17
  a_long_record_of_another_kind_is_malformed number h = rw (question_17_long (num_at 2 0 rec) (drop 2 rec) payload_long number, ne_eqb (num_at 2 0 rec) 4 h) (grind arith)

  module _ (len : ℕ) (tables : List ℕ) (number : ℕ) (t : AnchorsCacheTransaction) where
    pub a_long_record_as_stated_is_refused_as_add_refuses : record_number number (num_at 2 0 rec) (drop 2 rec) ≡ 0
        → long_number len tables number t (take 52 rec) (length rec) ≡ anchor_number len tables t (drop 2 rec)
    unfolding first_no
    a_long_record_as_stated_is_refused_as_add_refuses e =
        sym (a_long_record_is_judged_by_its_first_52_bytes len tables number t) ∙ rw e (grind arith)

    pub a_long_record_not_as_stated_is_refused_by_17 : record_number number (num_at 2 0 rec) (drop 2 rec) ≡ 17
        → long_number len tables number t (take 52 rec) (length rec) ≡ 17
    unfolding first_no
    a_long_record_not_as_stated_is_refused_by_17 e = sym (a_long_record_is_judged_by_its_first_52_bytes len tables number t) ∙ rw e

-- ---- what the record says and leaves
pub taken_parts : (s : Session) (r : List ℕ) → is_taken s r ≡ true → (s.stopped ≡ false) × (2 ≤ length r) × (record_number (record_counted s).records (num_at 2 0 r) (drop 2 r) ≡ 0)
unfolding is_taken
taken_parts s r e = grind (arith, nat_tests)

module _ (s : Session) (rec : List ℕ) (long : longest_record < length rec) where
  pub a_long_record_that_is_taken_is_an_anchor : is_taken s rec ≡ true → num_at 2 0 rec ≡ 4
  a_long_record_that_is_taken_is_an_anchor e = go (eqb (num_at 2 0 rec) 4) refl
    where
      go : (b : Bool) → eqb (num_at 2 0 rec) 4 ≡ b → num_at 2 0 rec ≡ 4
      go true f = eqb-true (num_at 2 0 rec) 4 f
      go false f = absurd (let g = a_long_record_of_another_kind_is_malformed rec long (record_counted s).records (eqb-false (num_at 2 0 rec) 4 f) in let h = (taken_parts s rec e).2 in omega arith)

  pub a_long_record_that_is_not_taken_says_the_same_whole : (len : ℕ) (tables : List ℕ) → is_taken s rec ≡ false → malformed_said s ≡ long_said len tables s (take 52 rec) (length rec)
  unfolding is_taken malformed_said long_said
  a_long_record_that_is_not_taken_says_the_same_whole len tables e = go s.stopped refl
    where
      asked : s.stopped ≡ false → record_number (record_counted s).records (num_at 2 0 rec) (drop 2 rec) ≡ 17
      asked f =
          ⊎_elim
          (λ (g : record_number (record_counted s).records (num_at 2 0 rec) (drop 2 rec) ≡ 0). let h : true ≡ false = rw (g, f, le-ltb (length rec) 2 (omega arith)) at e in absurd (let z : ◌≡◌ {A = ℕ} 0 1 = cc in omega arith))
          (λ (g : record_number (record_counted s).records (num_at 2 0 rec) (drop 2 rec) ≡ 17). g)
          (record_0_or_17 (record_counted s).records (num_at 2 0 rec) (drop 2 rec))

      go : (b : Bool) → s.stopped ≡ b
          → pick b (nothing_said s) (bad_said (record_counted s) 17) ≡ pick b (nothing_said s) (bad_said (record_counted s) (long_number len tables (record_counted s).records s.transaction (take 52 rec) (length rec)))
      go true f = refl
      go false f = ap (bad_said (record_counted s)) (sym (a_long_record_not_as_stated_is_refused_by_17 rec long len tables (record_counted s).records s.transaction (asked f)))

  module _ (tables area routes : List ℕ) (taken : is_taken s rec ≡ true) where
    refuses : anchor_number (length area) tables s.transaction (drop 2 rec) ≡ 0 → ⊥
    refuses = add_refuses_too_many (length area) tables s.transaction (drop 2 rec) (payload_long rec long)

    pub a_long_record_that_is_taken_says_the_same_whole : plain_said tables area routes (record_counted s) (num_at 2 0 rec) (drop 2 rec) ≡ long_said (length area) tables s (take 52 rec) (length rec)
    unfolding plain_said anchor_said anchor_taken add_call answer record_counted long_said
    a_long_record_that_is_taken_says_the_same_whole =
        let h = taken_parts s rec taken in
        rw (a_long_record_that_is_taken_is_an_anchor taken)
        (sym (bad_where_refused (record_counted s) _ (anchor_number (length area) tables s.transaction (drop 2 rec)) refuses)
        ∙ (ap (bad_said (record_counted s)) (sym (a_long_record_as_stated_is_refused_as_add_refuses rec long (length area) tables (record_counted s).records s.transaction h.2))
        ∙ sym (pick_no s.stopped (nothing_said s) _ h.0)))

    pub a_long_record_leaves_the_tables : plain_tables tables area routes (record_counted s) (num_at 2 0 rec) (drop 2 rec) ≡ tables
    unfolding plain_tables tables_after record_counted
    a_long_record_leaves_the_tables = rw (a_long_record_that_is_taken_is_an_anchor taken) (on_not _ _ _ refuses)

    pub a_long_record_leaves_the_area : plain_area tables area routes (record_counted s) (num_at 2 0 rec) (drop 2 rec) ≡ area
    unfolding plain_area area_after record_counted
    a_long_record_leaves_the_area = rw (a_long_record_that_is_taken_is_an_anchor taken) (on_not _ _ _ refuses)

    pub a_long_record_leaves_the_routes : plain_routes tables area routes (record_counted s) (num_at 2 0 rec) (drop 2 rec) ≡ routes
    unfolding plain_routes
    a_long_record_leaves_the_routes = rw (a_long_record_that_is_taken_is_an_anchor taken)
