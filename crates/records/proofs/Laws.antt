-- A number that no kind has is malformed; the fields of 32 bits with a sign; a slice from a place on; an author.
use Prim.Native.Nat.{ℕ, zero, suc, ◌+◌, ◌-◌, ◌≤◌, ◌<◌}
use mathlib.Core.Path.{◌≡◌, refl, sym, ◌∙◌}
use mathlib.Core.Bool.{false}
use mathlib.Core.List.{List, []}
use native.Mathlib.Omega.{arith}
use lib.ListN.{length, drop, replicate, length-drop, drop_of_length-le}
use lib.IntN.{pos, negsuc, ◌-ℤ◌}
use mathlib.Core.Logic.{◌≢◌, ⊎_elim}
use mir.Syntax.{w32}
use mir.Val.{SFits, of_z, to_z}
use mir.ValLaws.{to_z_pos, to_z-of_z}
use borrow.Author.Tests.{lt-ltb, lt-leb, le-leb, le-ltb, ne_eqb}
use Rattle.std.proofs.lemmas.Grind.{common_steps}
use Rattle.std.proofs.lemmas.List.{take_rest}
use denote.Ref.{Bor}
use Rattle.std.specs.Array.{IsFirstChunk}
use Rattle.std.specs.Prelude.{Option, Some, None, MatchOption, unwrap_or, option_copied}
use Rattle.std.specs.Slice.{IsGetRangeResult}
use Rattle.cache_rules.specs.Rules.{author_bytes}
use Rattle.rows.proofs.Laws.{no_later}
use Rattle.records.specs.declared.Kind.{Kind}
use Rattle.records.specs.declared.Kind.TheVariants.{Shard, Route, Settings, Anchor, Do}
use Rattle.records.specs.Records.{kind_number, in_place, as_stated, record_number, signed_of, author_of}

pub no_kind : (number n : ℕ) (p : List ℕ) → ((kind : Kind) → kind_number kind ≢ n) → record_number number n p ≡ 17
unfolding record_number as_stated
no_kind number n p h =
    rw (ne_eqb n 1 (λ e. h Shard (sym e)), ne_eqb n 2 (λ e. h Route (sym e)), ne_eqb n 3 (λ e. h Settings (sym e)), ne_eqb n 4 (λ e. h Anchor (sym e)), ne_eqb n 5 (λ e. h Do (sym e)), sym (no_later (in_place number n) false refl))

-- ---- a number of 32 bits by its two's complement
pub signed_low : (x : ℕ) → x < 2147483648 → to_z w32 x ≡ signed_of x
signed_low x h = to_z_pos w32 x h ∙ rw (lt-ltb x 2147483648 h)

minus_one : (y : ℕ) → negsuc 0 -ℤ pos y ≡ negsuc y
minus_one zero = refl
minus_one (suc k) = let e : 0 + k ≡ k = omega arith in rw e

less_one : (y : ℕ) → y < 2147483648 → negsuc 0 -ℤ to_z w32 y ≡ negsuc y
less_one y h = rw (to_z_pos w32 y h) (minus_one y)

pub signed_fits : (x : ℕ) → 2147483648 ≤ x → x < 4294967296 → SFits w32 (negsuc 0 -ℤ to_z w32 (4294967295 - x))
signed_fits x h k = rw (less_one (4294967295 - x) (omega arith)) (record { sfits = omega arith })

pub signed_high : (x : ℕ) → 2147483648 ≤ x → x < 4294967296 → to_z w32 (of_z w32 (negsuc 0 -ℤ to_z w32 (4294967295 - x))) ≡ signed_of x
signed_high x h k = to_z-of_z w32 _ (signed_fits x h k) ∙ (less_one (4294967295 - x) (omega arith) ∙ rw (le-ltb x 2147483648 h))

-- as `cast_signed` has it
pub signed_from_half : (x : ℕ) → 2147483648 ≤ x → x < 4294967296 → to_z w32 x ≡ signed_of x
signed_from_half x h k = grind (arith, common_steps)

-- ---- a slice from a place on
pub rest_got : (l : List ℕ) (at : ℕ) (o : Option (Bor (List ℕ))) (d : Bor (List ℕ)) → d.now ≡ [] → IsGetRangeResult l at (length l) o → (unwrap_or o d).now ≡ drop at l
rest_got l at None d e h = rw (e, drop_of_length-le l {i = at} (⊎_elim (λ (p : length l < at). omega arith) (λ (p : length l < length l). absurd (omega arith)) h.0))
rest_got l at (Some y) d e h = h.0.2 ∙ take_rest l at

-- ---- an author is the first bytes behind the chain time
pub author_front : (p rest : List ℕ) → rest ≡ drop 12 p → (o : Option (Bor (List ℕ))) (q : Option (List ℕ)) (author : List ℕ)
    → MatchOption o (length rest < author_bytes) (λ y. IsFirstChunk rest y.now author_bytes) → q ≡ option_copied o → author ≡ unwrap_or q (replicate author_bytes 0) → author ≡ author_of p
unfolding author_of
author_front p rest r None None a h e f =
    let k : length (drop 12 p) < author_bytes = rw r at h in
    f ∙ rw (lt-leb 44 (length p) (omega (arith, length-drop 12 p)))
author_front p rest r None (Some z) a h e f = absurd (cc)
author_front p rest r (Some y) None a h e f = absurd (cc)
author_front p rest r (Some y) (Some z) a h e f =
    let k : author_bytes ≤ length (drop 12 p) = rw r at h.enough in
    let j : z ≡ y.now = cc in
    f ∙ (j ∙ (h.same ∙ rw (r, le-leb 44 (length p) (omega (arith, length-drop 12 p)))))
