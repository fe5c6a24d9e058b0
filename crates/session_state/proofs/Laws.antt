-- The place of a listed route, a call of the cache, and what a do byte asks for.
use Prim.Native.Nat.{ℕ, ◌+◌, ◌≤◌}
use mathlib.Core.Path.{◌≡◌}
use mathlib.Core.List.{List, [], ◌∷◌}
use native.Mathlib.Omega.{arith}
use Rattle.std.specs.Prelude.{Result, Ok, Err}
use lib.ListN.{length}
use Rattle.anchors_cache.specs.declared.AnchorsCacheTransaction.{AnchorsCacheTransaction}
use Rattle.std.specs.Result.{result_unwrap_or}
use Rattle.refusals.specs.declared.Refusal.{Refusal}
use Rattle.refusals.specs.Refusals.{number_of, number}
use Rattle.anchors_cache.specs.Answers.{done_of}
use Rattle.text.specs.Shown.{show, line}
use Rattle.session_rules.specs.declared.Session.{Session}
use Rattle.session_rules.proofs.Printed.{printed_text}
use Rattle.session_rules.specs.Said.{with_transaction, with_at, printed, route_number, placed_number, is_read, do_name, called, cache_said}
use Rattle.session_state.specs.Dos.{do_byte, do_of}
use Rattle.std.proofs.lemmas.Bool.Decides.{nat_tests}

-- a route that is listed has its place
pub listed_within : (n : ℕ) (routes p : List ℕ) → placed_number n routes p ≡ 0 → n + 34 ≤ length routes
unfolding placed_number route_number
listed_within n routes p e = grind (arith, nat_tests)

-- ---- calls of the cache
pub cache_called : (s : Session) (n : ℕ) (tables : List ℕ) (d : ℕ) (x : Result AnchorsCacheTransaction Refusal) (bytes m : List ℕ) (k r : ℕ) (t : AnchorsCacheTransaction)
    → done_of s.transaction x ≡ called n tables s.transaction d → k ≡ number x → t ≡ result_unwrap_or x s.transaction
    → record { at = r; bytes = m } ≡ show (line (do_name d) (k ∷ [])) (record { at = s.at; bytes = bytes })
    → record { session = with_at (with_transaction s t) r; bytes = m } ≡ printed (cache_said s n tables d) bytes
unfolding cache_said
cache_called s n tables d (Ok a) bytes m k r t c f g e = rw (← c, g) (printed_text (with_transaction s a) (line (do_name d) (0 ∷ [])) bytes m r (rw f at e))
cache_called s n tables d (Err q) bytes m k r t c f g e = rw (← c, g) (printed_text (with_transaction s s.transaction) (line (do_name d) (number_of q ∷ [])) bytes m r (rw f at e))

-- ---- what a byte asks for
called_of : (n : ℕ) (tables : List ℕ) (t : AnchorsCacheTransaction) (d : ℕ) → called n tables t (do_byte (do_of d)) ≡ called n tables t d
unfolding called do_of
called_of n tables t d = grind (arith, nat_tests)

name_of : (d : ℕ) → do_name (do_byte (do_of d)) ≡ do_name d
unfolding do_name do_of is_read
name_of d = grind (arith, nat_tests)

pub said_of : (s : Session) (n : ℕ) (tables : List ℕ) (d : ℕ) → cache_said s n tables (do_byte (do_of d)) ≡ cache_said s n tables d
unfolding cache_said
said_of s n tables d = rw (called_of n tables s.transaction d, name_of d)
