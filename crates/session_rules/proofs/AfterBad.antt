-- A refused record says `bad`, its number, the refusal, and stops the session; nothing follows, no `end` either.
use Prim.Native.Nat.{ℕ, ◌+◌, ◌<◌}
use mathlib.Core.Path.{◌≡◌, refl, sym, ◌∙◌}
use mathlib.Core.Bool.{Bool, true, false}
use mathlib.Core.List.{List}
use native.Mathlib.Omega.{arith}
use borrow.Author.Tests.{lt-ltb}
use Rattle.rows.proofs.Laws.{pick_yes}
use Rattle.lines.specs.Lines.{bad_line}
use Rattle.session_rules.specs.declared.Session.{Session}
use Rattle.session_rules.specs.Said.{with_record_count, stop, record_counted, printed, nothing_said, bad_said, after_or_bad, malformed_said, is_taken, long_said, end_said}
use Rattle.session_rules.proofs.Printed.{printed_nothing, bad_where_refused, malformed_stopped, malformed_refused, long_stopped}

-- ---- `bad`
pub a_refused_record_says_bad_and_stops : (s : Session) (number : ℕ) → bad_said s number ≡ record { session = stop s; text = bad_line s.records number }
unfolding bad_said
a_refused_record_says_bad_and_stops s number = refl

-- a shard, the settings, a route or an anchor that is refused
pub a_refused_payload_says_bad_and_stops : (before after : Session) (number : ℕ) → (number ≡ 0 → ⊥)
    → after_or_bad before after number ≡ record { session = stop before; text = bad_line before.records number }
a_refused_payload_says_bad_and_stops before after number h = sym (bad_where_refused before after number h) ∙ a_refused_record_says_bad_and_stops before number

pub a_malformed_record_says_bad_and_stops : (s : Session) → s.stopped ≡ false
    → malformed_said s ≡ record { session = stop (record_counted s); text = bad_line (record_counted s).records 17 }
a_malformed_record_says_bad_and_stops s h = sym (malformed_refused s (record_counted s) h refl) ∙ a_refused_record_says_bad_and_stops (record_counted s) 17

-- the first record has the number 1, each other one more than the one before it
pub records_are_numbered_from_1 : (s : Session) → s.records < 18446744073709551615 → record_counted s ≡ with_record_count s (s.records + 1)
unfolding record_counted
records_are_numbered_from_1 s h = rw (lt-ltb s.records 18446744073709551615 h)

-- ---- after it
pub silence_leaves_the_session_and_the_bytes : (s : Session) (bytes : List ℕ) → printed (nothing_said s) bytes ≡ record { session = s; bytes = bytes }
silence_leaves_the_session_and_the_bytes s bytes = sym (printed_nothing s bytes)

pub record Silence (s : Session) : Type 0 where
  pub no_record_is_taken : (r : List ℕ) → is_taken s r ≡ false
  pub malformed : malformed_said s ≡ nothing_said s
  pub long : (len : ℕ) (tables head : List ℕ) (n : ℕ) → long_said len tables s head n ≡ nothing_said s
  pub end : (cut : Bool) → end_said s cut ≡ nothing_said s

end_says_nothing : (s : Session) → s.stopped ≡ true → (cut : Bool) → end_said s cut ≡ nothing_said s
unfolding end_said
end_says_nothing s h cut = let m = malformed_stopped s h in grind arith

not_taken : (s : Session) → s.stopped ≡ true → (r : List ℕ) → is_taken s r ≡ false
unfolding is_taken
not_taken s h r = pick_yes s.stopped false _ h

pub nothing_is_said_once_stopped : (s : Session) → s.stopped ≡ true → Silence s
nothing_is_said_once_stopped s h =
    record {
      no_record_is_taken = not_taken s h;
      malformed = sym (malformed_stopped s h);
      long = λ len tables head n. sym (long_stopped len tables s head n h);
      end = end_says_nothing s h;
    }

pub nothing_is_said_after_bad : (s : Session) (number : ℕ) → Silence (bad_said s number).session
unfolding bad_said
nothing_is_said_after_bad s number = nothing_is_said_once_stopped (stop s) refl

pub nothing_is_said_after_the_end : (s : Session) (cut : Bool) → Silence (end_said s cut).session
unfolding end_said malformed_said bad_said
nothing_is_said_after_the_end s cut = nothing_is_said_once_stopped (end_said s cut).session (grind arith)
